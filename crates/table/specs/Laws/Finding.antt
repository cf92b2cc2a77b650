-- Whether the look-up of a pair finds something.
use Rattle.std.specs.Prelude.{ℕ, suc, ◌≡◌, refl, Bool, true, false, ◌||◌, ◌&&◌, List, [], ◌∷◌, eqb}
use Rattle.std.proofs.Common.{arith, eq-eqb, ne_eqb}
use Rattle.std.proofs.Math.Decide.{ℕ_discrete}
use Rattle.texts.specs.Bytes.{any}
use Rattle.texts.specs.TableTest.{pair_test}
use Rattle.model.specs.Table.{Entry, Found, none, straight, turned, find}
use Rattle.model.specs.Decisions.{both}

abbrev pub is_found : Found → Bool
is_found none = false
is_found (straight i e) = true
is_found (turned i e) = true

-- The decision of two equations, and the test.
both_test : (a b c d : ℕ) (x : Dec ((a ≡ c) × (b ≡ d))) → (eqb a c && eqb b d) ≡ elim x [ yes p ↦ true | no p ↦ false ]
both_test a b c d (yes p) = rw (eq-eqb a c p.0, eq-eqb b d p.1)
both_test a b c d (no p) = go (ℕ_discrete a c) (ℕ_discrete b d)
  where
    go : Dec (a ≡ c) → Dec (b ≡ d) → (eqb a c && eqb b d) ≡ false
    go (yes q) (yes r) = absurd (p (q, r))
    go (yes q) (no r) = rw (eq-eqb a c q, ne_eqb b d r)
    go (no q) r = rw (ne_eqb a c q)

pub found-any : (rs : List Entry) (i a b : ℕ) → any (pair_test a b) rs ≡ is_found (find rs i a b)
unfolding any pair_test
found-any [] i a b = refl
found-any (e ∷ rs) i a b =
    go (both a b e.left e.right) (both a b e.right e.left) (both_test a b e.left e.right (both a b e.left e.right))
    (both_test a b e.right e.left (both a b e.right e.left)) (found-any rs (suc i) a b)
  where
    go : (d : Dec ((a ≡ e.left) × (b ≡ e.right))) (f : Dec ((a ≡ e.right) × (b ≡ e.left)))
        → (eqb a e.left && eqb b e.right) ≡ elim d [ yes p ↦ true | no p ↦ false ]
        → (eqb a e.right && eqb b e.left) ≡ elim f [ yes p ↦ true | no p ↦ false ]
        → any (pair_test a b) rs ≡ is_found (find rs (suc i) a b)
        → ((eqb a e.left && eqb b e.right || eqb a e.right && eqb b e.left) || any (pair_test a b) rs)
        ≡ is_found (elim d [ yes p ↦ straight i e | no p ↦ elim f [ yes q ↦ turned i e | no q ↦ find rs (suc i) a b ] ])
    go (yes p) f x y h = rw x
    go (no p) (yes q) x y h = rw (x, y)
    go (no p) (no q) x y h = rw (x, y) h

pub none_found : (f : Found) → is_found f ≡ false → f ≡ none
none_found none h = refl
none_found (straight i e) h = absurd (let z : ◌≡◌ {A = ℕ} 0 1 = cc in omega arith)
none_found (turned i e) h = absurd (let z : ◌≡◌ {A = ℕ} 0 1 = cc in omega arith)
