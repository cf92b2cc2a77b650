-- All sides that a sound state holds are in use.
use Rattle.std.specs.Prelude.{◌≡◌, refl, List, [], ◌∷◌, map, ℕ, zero, suc, ◌+◌, ◌*◌, ◌<◌, get_or, take, drop}
use Rattle.std.proofs.Common.{sym, ◌∙◌, ap, arith, get_or-drop}
use Rattle.calculus.proofs.Beneath.Ended.{All}
use Rattle.parts.specs.Limits.{arity_max}
use Rattle.parts.specs.Sides.{Side, cell, side}
use Rattle.parts.specs.Codes.{code-side}
use Rattle.model.specs.State.{St, Bond, free, bare, to, bond, bound, unpack}
use Rattle.model.specs.Table.{Table}
use Rattle.model.specs.Sound.{Sound, mem_of, width}
use Rattle.model.specs.SoundTable.{SoundTable}
use Rattle.model.specs.Ranges.{LiveSide}
use Rattle.model.proofs.Beneath.Ranges.{argument_live, bond-live}
use Rattle.answers.specs.Printer.{pair_sides, state_bonds}

-- What holds of the words that are taken holds of all their sides.
pub all_taken : (P : Side → Type 0) (n : ℕ) (l : List ℕ) → ((k : ℕ) → k < n → P (side (get_or l k 0)))
    → All P (map side (take n l))
all_taken P zero l h = tt
all_taken P (suc n) [] h = tt
all_taken P (suc n) (v ∷ l) h = (h 0 (omega arith), all_taken P n l (λ k o. h (suc k) (omega (arith, o))))

pub all_pairs : (P : Side → Type 0) (n : ℕ) (l : List ℕ)
    → ((k : ℕ) → k < n → P (side (get_or l (2 * k) 0)) × P (side (get_or l (1 + 2 * k) 0)))
    → All P (pair_sides (unpack n l))
all_pairs P zero l h = tt
all_pairs P (suc n) l h =
    let e = h n (omega arith) in (e.0, (e.1, all_pairs P n l (λ k o. h k (omega (arith, o)))))

-- The word of a bond is what the bond was read from.
abbrev word_of : Bond → ℕ
word_of free = 0
word_of bare = 1
word_of (to u) = bound u

word-bond : (v : ℕ) → word_of (bond v) ≡ v
word-bond zero = refl
word-bond (suc zero) = refl
word-bond (suc (suc v)) = ap (λ n. suc (suc n)) (code-side v)

module _ {T : Table} (t : SoundTable T) {s : St} (h : Sound T s) where
  pub args-live : (c : ℕ) → LiveSide s (cell c) → All (LiveSide s) (mem_of T s c).args
  args-live c o =
      all_taken
      (LiveSide s)
      (width T.arities (get_or s.symbols c 0))
      (drop (arity_max * c) s.arguments)
      (λ k b. rw (get_or-drop (arity_max * c) s.arguments k 0) (argument_live t s h c k o.1 b))

  pub bonds-live : (x : ℕ) (u : Side) → state_bonds s x ≡ to u → LiveSide s u
  bonds-live x u e = bond-live t s h x u (sym (word-bond (get_or s.names x 0)) ∙ ap word_of e)
