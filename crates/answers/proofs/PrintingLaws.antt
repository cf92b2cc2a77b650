-- One law for each way out of the byte printer, so that code needs no other.
use Rattle.std.specs.Prelude.{◌≡◌, get_or, length, drop}
use Rattle.std.proofs.Math.Path.{refl, ap}
use Rattle.std.proofs.Common.{◌∙◌, arith, length-drop, get_or-drop}
use mathlib.Core.List.{List, [], ◌∷◌, ◌++◌}
use Prim.Native.Nat.{ℕ, zero, suc, ◌+◌, ◌*◌, ◌≤◌, ◌<◌}
use Rattle.calculus.proofs.Beneath.Ended.{All}
use Rattle.parts.specs.Limits.{arity_max, names_max}
use Rattle.parts.specs.Sides.{Side, name, cell, Pair, ◌:=◌, side}
use Rattle.model.specs.State.{St, listed, Stack, to, bond, used}
use Rattle.model.specs.Table.{Table}
use Rattle.model.specs.Sound.{Sound, mem_of, width, sides}
use Rattle.model.specs.SoundTable.{SoundTable}
use Rattle.model.proofs.Beneath.Facts.{zeros-length}
use Rattle.model.specs.Ranges.{LiveSide}
use Rattle.model.proofs.Beneath.Ranges.{face-live, stuck-live}
use Rattle.texts.specs.Bytes.{Word}
use Rattle.texts.specs.Books.{Agent, word_face, word_eq}
use Rattle.answers.proofs.Beneath.Live.{all_taken, all_pairs, args-live, bonds-live}
use Rattle.answers.proofs.Beneath.Fitting.{side_fits, sides_fit, cell-fits}
use Rattle.answers.specs.Printing.{Fits, face_written, answer_written, first_pen, Pen, pen, written, numbered}
use Rattle.answers.specs.Printing.{numbered_both, behind, both, close, name_by, side_by, around, cell_met}
use Rattle.answers.specs.Printing.{cell_by, cell_bytes, side_bytes, sides_bytes, line_bytes, pairs_bytes}
use Rattle.answers.specs.Printer.{pair_sides}
use Rattle.answers.specs.Text.{numeral}
use Rattle.answers.proofs.Beneath.Fuel.{cell_agree, side-fewer, sides_anew}
use Rattle.answers.proofs.Beneath.Rests.{first_of, none_of}

module _ (ags : List Agent) (T : Table) (s : St) where
  -- The number that lets the definition call itself does not matter.
  pub cell-enough : (m n c : ℕ) (P : Pen) → P.left ≤ m → P.left ≤ n → cell_by ags T s m c P ≡ cell_by ags T s n c P
  cell-enough m n c P a b = (cell_agree ags T s m n c P a b).equal

  -- A cell, where none is left to be met, and where there is one more than l.
  pub cell_none : (c : ℕ) (P : Pen) → P.left ≡ 0 → cell_bytes ags T s c P ≡ written [] P
  unfolding cell_bytes
  cell_none c P e = ap (λ n. cell_by ags T s n c P) e

  pub cell_some : (c : ℕ) (P : Pen) (l : ℕ) → P.left ≡ suc l
      → cell_bytes ags T s c P
      ≡ around ags T s (mem_of T s c).symbol (mem_of T s c).args
      (sides_bytes ags T s 40 44 (mem_of T s c).args (pen P.next P.numbers l))
  unfolding cell_bytes sides_bytes
  cell_some c P l e =
      ap (λ n. cell_by ags T s n c P) e ∙ ap (cell_met ags T s (cell_by ags T s l) (mem_of T s c) P) e

  -- A side that is a cell; and a name that has a number, that is bare, that is joined, that is tied.
  pub side-cell : (c : ℕ) (P : Pen) → side_bytes ags T s (cell c) P ≡ cell_bytes ags T s c P
  unfolding cell_bytes side_bytes
  side-cell c P = refl

  pub side-known : (x k : ℕ) (P : Pen) → get_or P.numbers x 0 ≡ suc k
      → side_bytes ags T s (name x) P ≡ written (numeral k) P
  unfolding side_bytes
  side-known x k P e = ap (λ v. name_by ags T s (cell_by ags T s P.left) x P v (bond (get_or s.names x 0))) e

  pub side-bare : (x : ℕ) (P : Pen) → get_or P.numbers x 0 ≡ 0 → get_or s.names x 0 ≤ 1
      → side_bytes ags T s (name x) P ≡ written (numeral P.next) (numbered x P)
  unfolding side_bytes
  side-bare x P e b =
      ap (λ v. name_by ags T s (cell_by ags T s P.left) x P v (bond (get_or s.names x 0))) e
      ∙ go (get_or s.names x 0) b
    where
      go : (v : ℕ) → v ≤ 1
          → name_by ags T s (cell_by ags T s P.left) x P 0 (bond v) ≡ written (numeral P.next) (numbered x P)
      go zero h = refl
      go (suc zero) h = refl
      go (suc (suc v)) h = absurd (omega (arith, h))

  pub side-joined : (x y : ℕ) (P : Pen) → get_or P.numbers x 0 ≡ 0 → bond (get_or s.names x 0) ≡ to (name y)
      → side_bytes ags T s (name x) P ≡ written (numeral P.next) (numbered_both x y P)
  unfolding side_bytes
  side-joined x y P e b =
      ap (λ v. name_by ags T s (cell_by ags T s P.left) x P v (bond (get_or s.names x 0))) e
      ∙ ap (name_by ags T s (cell_by ags T s P.left) x P 0) b

  pub side_tied : (x c : ℕ) (P : Pen) → get_or P.numbers x 0 ≡ 0 → bond (get_or s.names x 0) ≡ to (cell c)
      → side_bytes ags T s (name x) P ≡ cell_bytes ags T s c P
  unfolding side_bytes cell_bytes
  side_tied x c P e b =
      ap (λ v. name_by ags T s (cell_by ags T s P.left) x P v (bond (get_or s.names x 0))) e
      ∙ ap (name_by ags T s (cell_by ags T s P.left) x P 0) b

  -- What a name is tied or joined to, by its word.
  pub bond_to : (x c : ℕ) → get_or s.names x 0 ≡ suc (suc c) → bond (get_or s.names x 0) ≡ to (side c)
  bond_to x c e = ap bond e

  -- No more cells are left after a side than before it.
  pub side-falls : (t : Side) (P : Pen) → (side_bytes ags T s t P).after.left ≤ P.left
  unfolding side_bytes
  side-falls t P = side-fewer ags T s t P

  -- Some sides: none, or one and the rest.
  pub sides_none : (f g : ℕ) (P : Pen) → sides_bytes ags T s f g [] P ≡ written [] P
  unfolding sides_bytes
  sides_none f g P = refl

  pub sides_more : (f g : ℕ) (t : Side) (ts : List Side) (P : Pen)
      → sides_bytes ags T s f g (t ∷ ts) P
      ≡ both (behind f (side_bytes ags T s t P)) (sides_bytes ags T s g g ts (side_bytes ags T s t P).after)
  unfolding sides_bytes side_bytes
  sides_more f g t ts P =
      ap
      (both (behind f (side_by ags T s (cell_by ags T s P.left) t P)))
      (sides_anew
      ags
      T
      s
      P.left
      g
      ts
      (side_by ags T s (cell_by ags T s P.left) t P).after
      (side-fewer ags T s t P))

  -- A line, and the lines of the stuck pairs from the head.
  pub line_is : (w : Word) (ts : List Side) (P : Pen)
      → line_bytes ags T s w ts P
      ≡ written (w ++ ((sides_bytes ags T s 9 9 ts P).bytes ++ (10 ∷ []))) (sides_bytes ags T s 9 9 ts P).after
  unfolding line_bytes
  line_is w ts P = refl

  pub pairs_none : (P : Pen) → pairs_bytes ags T s [] P ≡ written [] P
  unfolding pairs_bytes
  pairs_none P = refl

  pub pairs_more : (a b : Side) (l : List Pair) (P : Pen)
      → pairs_bytes ags T s ((a := b) ∷ l) P
      ≡ both (line_bytes ags T s word_eq (a ∷ b ∷ []) P)
      (pairs_bytes ags T s l (line_bytes ags T s word_eq (a ∷ b ∷ []) P).after)
  unfolding pairs_bytes
  pairs_more a b l P = refl

-- The arguments of a cell from number k on: the next one and the rest, or none. (`drop 0` leaves all.)
module _ (T : Table) (s : St) where
  pub arguments_more : (c k : ℕ) → k < width T.arities (get_or s.symbols c 0)
      → arity_max * c + k < length s.arguments
      → drop k (mem_of T s c).args
      ≡ side (get_or s.arguments (arity_max * c + k) 0) ∷ drop (suc k) (mem_of T s c).args
  arguments_more c k h b =
      first_of
      (width T.arities (get_or s.symbols c 0))
      (drop (arity_max * c) s.arguments)
      k
      h
      (omega (arith, b, length-drop (arity_max * c) s.arguments))
      ∙ ap (λ v. side v ∷ drop (suc k) (mem_of T s c).args) (get_or-drop (arity_max * c) s.arguments k 0)

  pub arguments_none : (c k : ℕ) → width T.arities (get_or s.symbols c 0) ≤ k → drop k (mem_of T s c).args ≡ []
  arguments_none c k h =
      none_of (width T.arities (get_or s.symbols c 0)) (drop (arity_max * c) s.arguments) k h

-- The same for the terms of the interface.
pub terms_more : (l : Stack) (k : ℕ) → k < l.used → k < length l.words
    → drop k (sides l) ≡ side (get_or l.words k 0) ∷ drop (suc k) (sides l)
terms_more l k h b = first_of l.used l.words k h b

pub terms_none : (l : Stack) (k : ℕ) → l.used ≤ k → drop k (sides l) ≡ []
terms_none l k h = none_of l.used l.words k h

-- What stands after the arguments.
pub close_none : (ts : List Side) → ts ≡ [] → close ts ≡ []
close_none ts e = ap close e

pub close_some : (t : Side) (ts us : List Side) → us ≡ t ∷ ts → close us ≡ 41 ∷ []
close_some t ts us e = ap close e

-- In a sound state the numbers fit: at first, and after a cell, a side and some sides that are in use. (Those that the
-- state holds are: `face-live`, `stuck-live`, `argument_live`, `bond-live` of the model.)
pub first_fits : (ags : List Agent) (T : Table) (s : St) → Fits (first_pen ags T s)
unfolding first_pen
first_fits ags T s = record { long = zeros-length names_max; few = omega arith }

pub next-below : (P : Pen) → Fits P → P.next ≤ names_max
next-below P F = omega (arith, F.long, F.few, used-few P.numbers)
  where
    used-few : (l : List ℕ) → used l ≤ length l
    used-few [] = omega arith
    used-few (v ∷ l) = omega (arith, used-few l)

module _ (ags : List Agent) {T : Table} (t : SoundTable T) {s : St} (h : Sound T s) where
  pub cell-kept : (c : ℕ) → LiveSide s (cell c) → (P : Pen) → Fits P → Fits (cell_bytes ags T s c P).after
  unfolding cell_bytes
  cell-kept c o P F = cell-fits ags T s (args-live t h) (bonds-live t h) P.left c o P F

  pub side-kept : (u : Side) → LiveSide s u → (P : Pen) → Fits P → Fits (side_bytes ags T s u P).after
  unfolding side_bytes
  side-kept u o P F =
      side_fits
      ags
      T
      s
      (args-live t h)
      (bonds-live t h)
      (cell_by ags T s P.left)
      (cell-fits ags T s (args-live t h) (bonds-live t h) P.left)
      u
      o
      P
      F

  pub sides-kept : (f g : ℕ) (us : List Side) → All (LiveSide s) us → (P : Pen) → Fits P
      → Fits (sides_bytes ags T s f g us P).after
  unfolding sides_bytes
  sides-kept f g us o P F =
      sides_fit
      ags
      T
      s
      (args-live t h)
      (bonds-live t h)
      (cell_by ags T s P.left)
      (cell-fits ags T s (args-live t h) (bonds-live t h) P.left)
      f
      g
      us
      o
      P
      F

  pub line_kept : (w : Word) (us : List Side) → All (LiveSide s) us → (P : Pen) → Fits P
      → Fits (line_bytes ags T s w us P).after
  unfolding line_bytes
  line_kept w us o P F = sides-kept 9 9 us o P F

  pub pairs-kept : (l : List Pair) → All (LiveSide s) (pair_sides l) → (P : Pen) → Fits P
      → Fits (pairs_bytes ags T s l P).after
  unfolding pairs_bytes
  pairs-kept [] o P F = F
  pairs-kept ((a := b) ∷ l) o P F = pairs-kept l o.1.1 _ (line_kept word_eq (a ∷ b ∷ []) (o.0, (o.1.0, tt)) P F)

  pub answer-kept : Fits (answer_written ags T s).after
  unfolding answer_written face_written
  answer-kept =
      pairs-kept
      (listed s.stuck)
      (all_pairs (LiveSide s) s.stuck.used s.stuck.words (stuck-live t s h))
      _
      (line_kept
      word_face
      (sides s.face)
      (all_taken (LiveSide s) s.face.used s.face.words (face-live t s h))
      (first_pen ags T s)
      (first_fits ags T s))
