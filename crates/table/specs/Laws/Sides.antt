-- The side that a code stands for, when two sides are the same, and the codes of a rule's equations in its row.
use Rattle.std.specs.Prelude.{ℕ, zero, suc, ◌+◌, ◌*◌, ◌/◌, ◌%◌, ◌<◌, ◌≡◌, refl, Bool, true, false, List, ◌∷◌, map, get_or, eqb}
use Rattle.std.proofs.Common.{sym, ap, ap₂, ◌∙◌, arith, mod-lt, eqb-true, eq-eqb, ne_eqb}
use Rattle.std.proofs.lemmas.Bool.{eqb-false}
use Rattle.parts.specs.Sides.{Side, name, cell, ◌:=◌, code, side}
use Rattle.parts.specs.Codes.{code-side}
use Rattle.texts.specs.Books.{Agent}
use Rattle.texts.specs.TableTest.{same_side}
use Rattle.texts.specs.Coded.{unpaired}
use Rattle.table.specs.Lists.{tab}
use Rattle.table.specs.Layout.{sides_in, entry_of}
use Rattle.table.specs.Laws.Lists.{tab_cong}

-- A code is that of a name or of a cell.
pub even-side : (x : ℕ) → (x % 2 ≡ 1 → ⊥) → side x ≡ name (x / 2)
unfolding side
even-side x h = go (x % 2) (mod-lt x {m = 2} (omega arith)) h
  where
    go : (r : ℕ) → r < 2 → (r ≡ 1 → ⊥) → ◌≡◌ {A = Side} (elim r [ zero ↦ name (x / 2) | suc r ↦ cell (x / 2) ]) (name (x / 2))
    go ℕ.zero q d = refl
    go (ℕ.suc r) q d = absurd (d (omega arith))

pub odd-side : (x : ℕ) → x % 2 ≡ 1 → side x ≡ cell (x / 2)
unfolding side
odd-side x h = go (x % 2) h
  where
    go : (r : ℕ) → r ≡ 1 → ◌≡◌ {A = Side} (elim r [ zero ↦ name (x / 2) | suc r ↦ cell (x / 2) ]) (cell (x / 2))
    go ℕ.zero e = absurd (omega arith)
    go (ℕ.suc r) e = refl

-- Sides are the same if their codes are.
pub same_codes : (s u : Side) → same_side s u ≡ eqb (code s) (code u)
unfolding same_side
same_codes (name x) (name y) = go (eqb x y) refl
  where
    go : (t : Bool) → eqb x y ≡ t → eqb x y ≡ eqb (2 * x) (2 * y)
    go true e = e ∙ sym (eq-eqb (2 * x) (2 * y) (let z : x ≡ y = eqb-true x y e in omega arith))
    go false e = e ∙ sym (ne_eqb (2 * x) (2 * y) (λ z. eqb-false x y e (omega (arith, z))))
same_codes (name x) (cell d) = sym (ne_eqb (2 * x) (1 + 2 * d) (λ z. omega (arith, z)))
same_codes (cell c) (name y) = sym (ne_eqb (1 + 2 * c) (2 * y) (λ z. omega (arith, z)))
same_codes (cell c) (cell d) = go (eqb c d) refl
  where
    go : (t : Bool) → eqb c d ≡ t → eqb c d ≡ eqb (1 + 2 * c) (1 + 2 * d)
    go true e = e ∙ sym (eq-eqb (1 + 2 * c) (1 + 2 * d) (let z : c ≡ d = eqb-true c d e in omega arith))
    go false e = e ∙ sym (ne_eqb (1 + 2 * c) (1 + 2 * d) (λ z. eqb-false c d e (omega (arith, z))))

-- The sides of the equations that a row stands for are the numbers of the row.
unpaired-tab : (n : ℕ) (g : ℕ → ℕ) → map code (unpaired (tab n (λ k. side (g (2 * k)) := side (g (1 + 2 * k))))) ≡ tab (2 * n) g
unfolding tab unpaired
unpaired-tab ℕ.zero g = let z : 2 * 0 ≡ 0 = omega arith in refl
unpaired-tab (ℕ.suc n) g =
    let z : 2 * suc n ≡ suc (suc (2 * n)) = omega arith in
    rw z
    (ap₂ (λ a b. a ∷ b) (code-side (g 0))
    (ap₂ (λ a b. a ∷ b) (code-side (g 1))
    (ap (λ l. map code (unpaired l)) (tab_cong n (λ k. side (g (2 * suc k)) := side (g (1 + 2 * suc k))) (λ k. side (g (suc (suc (2 * k)))) := side (g (suc (suc (1 + 2 * k)))))
    (λ k h. let y : 2 * suc k ≡ suc (suc (2 * k)) = omega arith in
    let x : 1 + 2 * suc k ≡ suc (suc (1 + 2 * k)) = omega arith in
    ap₂ (λ a b. side (g a) := side (g b)) y x))
    ∙ unpaired-tab n (λ k. g (suc (suc k))))))

pub sides_of : (ags : List Agent) (r : List ℕ) → map code (unpaired (entry_of ags r).body) ≡ tab (2 * get_or r 2 0) (λ k. get_or r (sides_in + k) 0)
unfolding entry_of
sides_of ags r = unpaired-tab (get_or r 2 0) (λ k. get_or r (sides_in + k) 0)
