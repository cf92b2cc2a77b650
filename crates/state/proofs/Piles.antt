-- One law for each way out of the functions on the lists of a state, on cells and on free numbers.
use Prim.Native.Nat.{ℕ, suc, ◌+◌, ◌-◌, ◌*◌, ◌≤◌}
use mathlib.Core.Path.{◌≡◌, refl, ap, sym, ◌∙◌}
use mathlib.Core.Bool.{Bool, true, false, cond}
use mathlib.Core.List.{List, [], ◌∷◌}
use native.Mathlib.Omega.{arith}
use native.Mathlib.Numerals.{add-one}
use lib.Dec.{eqb, ltb}
use lib.ListN.{length, take, drop}
use Rattle.std.proofs.lemmas.List.{take_rest}
use borrow.Author.Tests.{ltb-false, ne_eqb}
use Rattle.std.specs.Prelude.{Option, Some, None}
use Rattle.std.specs.Option.{unwrap_or}
use Rattle.std.specs.List.{position, position_or_len}
use Rattle.std.proofs.lemmas.List.Recursion.{is_position_or_len}
use Rattle.parts.specs.Limits.{arity_max}
use Rattle.parts.specs.Sides.{code}
use Rattle.parts.specs.Typed.{plain, pair}
use Rattle.parts.specs.declared.Equation.{Equation}
use Rattle.model.specs.State.{St}
use Rattle.state.specs.Places.{stored, pile, part_of, counted}
use Rattle.state.specs.Moves.{put_on, freed, taken, free_from}
use Rattle.state.specs.declared.Part.{Part}
use Rattle.state.specs.declared.Part.TheVariants.{Symbols, Arguments}
use Rattle.state.specs.declared.Pile.{Pile}
use Rattle.state.specs.declared.Pile.TheVariants.{Waits, Stucks, Faces}

put_steps : (p : Pile) (s : St) (q : Equation)
    → counted p ((pile p s).used + 1)
    (stored (part_of p) (1 + 2 * (pile p s).used) (code (plain q.right)) (stored (part_of p) (2 * (pile p s).used) (code (plain q.left)) s))
    ≡ put_on p (pair q) s
unfolding counted stored put_on
put_steps Waits s q = rw add-one
put_steps Stucks s q = rw add-one
put_steps Faces s q = rw add-one

module _ (p : Pile) (part : Part) (e : part ≡ part_of p) where
  pub put_way : (s₀ s₁ s₂ s₃ : St) (n l r : ℕ) (q : Equation) → n ≡ (pile p s₀).used → l ≡ code (plain q.left) → r ≡ code (plain q.right)
      → s₁ ≡ stored part (2 * n) l s₀ → s₂ ≡ stored part (1 + 2 * n) r s₁ → s₃ ≡ counted p (n + 1) s₂ → s₃ ≡ put_on p (pair q) s₀
  put_way s₀ s₁ s₂ s₃ n l r q en el er e₁ e₂ e₃ = rw (e₃, e₂, e₁, e, el, er, en) (put_steps p s₀ q)

pub free_way : (s₀ s₁ s₂ s₃ s₄ s₅ : St) (c : ℕ) → s₁ ≡ stored Symbols c 0 s₀ → s₂ ≡ stored Arguments (arity_max * c + 0) 0 s₁ → s₃ ≡ stored Arguments (arity_max * c + 1) 0 s₂
    → s₄ ≡ stored Arguments (arity_max * c + 2) 0 s₃ → s₅ ≡ stored Arguments (arity_max * c + 3) 0 s₄ → s₅ ≡ freed c s₀
unfolding freed
free_way s₀ s₁ s₂ s₃ s₄ s₅ c p q r t u = rw (u, t, r, q, p)

-- The place of the first 0, or the length where there is none, is how many words stand before a 0.
taken-fits : (l : List ℕ) → taken l ≤ length l
unfolding taken
taken-fits [] = omega arith
taken-fits (ℕ.zero ∷ l) = omega arith
taken-fits (ℕ.suc v ∷ l) = omega (arith, taken-fits l)

taken_place : (l : List ℕ) → taken l ≡ position_or_len (λ v. eqb v 0) l
unfolding taken
taken_place l = is_position_or_len taken (λ v. eqb v 0) none step l
  where
    none : taken [] ≡ 0
    none = refl

    step : (v : ℕ) (l : List ℕ) → taken (v ∷ l) ≡ cond (eqb v 0) 0 (1 + taken l)
    step ℕ.zero l = refl
    step (ℕ.suc v) l = rw (ne_eqb (suc v) 0 (λ e. omega arith)) (omega arith)

found_or_end : (k n : ℕ) → k ≤ n → (b : Bool) → ltb k n ≡ b → unwrap_or (cond b (Some k) None) n ≡ k
found_or_end k n h true e = refl
found_or_end k n h false e = omega (arith, ltb-false)

first_free : (l : List ℕ) → unwrap_or (position (λ v. eqb v 0) l) (length l) ≡ taken l
first_free l =
    let k = position_or_len (λ v. eqb v 0) l in
    let small : k ≤ length l = omega (arith, taken-fits l, taken_place l) in
    found_or_end k (length l) small (ltb k (length l)) refl ∙ sym (taken_place l)

-- o is what was found among the words from `from` on, of which there are at most as many as the part has
pub look_is : (ws : List ℕ) (from r : ℕ) (o : Option ℕ) → o ≡ position (λ v. eqb v 0) (take (length ws - from) (drop from ws))
    → r ≡ unwrap_or o (length (take (length ws - from) (drop from ws))) → r ≡ taken (drop from ws)
look_is ws from r o f g =
    g
    ∙ ap (λ x. unwrap_or x (length (take (length ws - from) (drop from ws)))) f
    ∙ first_free (take (length ws - from) (drop from ws))
    ∙ ap taken (take_rest ws from)

pub look_way : (l ws : List ℕ) (from r : ℕ) (o : Option ℕ) → ws ≡ l → o ≡ position (λ v. eqb v 0) (take (length ws - from) (drop from ws))
    → r ≡ unwrap_or o (length (take (length ws - from) (drop from ws))) → from + r ≡ free_from from l
unfolding free_from
look_way l ws from r o e f g = ap (λ n. from + n) (look_is ws from r o f g ∙ ap (λ k. taken (drop from k)) e)
