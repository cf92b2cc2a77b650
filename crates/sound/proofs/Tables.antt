-- What a lent table says to the machine.
use Rattle.std.proofs.Common.{◌≡◌, refl, ap, List, [], ◌∷◌, map, ℕ, suc, ◌≤◌, arith, length, get_or}
use Rattle.texts.specs.Books.{Agent}
use Rattle.texts.specs.Coded.{machine, arity_at}
use Rattle.table.specs.Layout.{agents_in, view}
use Rattle.parts.specs.Limits.{arity_max}
use Rattle.model.specs.Sound.{width}
use Rattle.sound.specs.Lent.{under, Usable}

length-arities : (ags : List Agent) → length (map (λ a. a.arity) ags) ≡ length ags
length-arities [] = refl
length-arities (a ∷ ags) = ap suc (length-arities ags)

arity_at_lem : (ags : List Agent) (s : ℕ) → get_or (map (λ a. a.arity) ags) s 0 ≡ arity_at ags s
unfolding arity_at
arity_at_lem [] s = refl
arity_at_lem (a ∷ ags) ℕ.zero = refl
arity_at_lem (a ∷ ags) (ℕ.suc s) = arity_at_lem ags s

pub under-count : (w : List ℕ) → length (under w).arities ≡ length (agents_in w)
unfolding under machine view
under-count w = length-arities (agents_in w)

pub under-arity : (w : List ℕ) (s : ℕ) → get_or (under w).arities s 0 ≡ arity_at (agents_in w) s
unfolding under machine view
under-arity w s = arity_at_lem (agents_in w) s

pub width_small : (w : List ℕ) → Usable w → (word : ℕ) → width (under w).arities word ≤ arity_max
width_small w u ℕ.zero = omega arith
width_small w u (ℕ.suc s) = rw (under-arity w s) (u.narrow s)
