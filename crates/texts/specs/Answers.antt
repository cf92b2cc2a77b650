-- Answers of a reader: a line's, and a text's.
use Rattle.std.specs.Prelude.{ℕ, suc, Bool, true, false, List, [], ◌∷◌}
use Rattle.std.proofs.Math.Option.{Option, none, some}
use Rattle.texts.specs.Bytes.{Line}

-- A line is fine and means something, or it has a fault: the number.
pub data OfLine (A : Type 0) : Type 0 where
  fine : A → OfLine A
  fault : (number : ℕ) → OfLine A

-- A text is accepted and means something, or it is refused.
pub data OfText (A : Type 0) : Type 0 where
  accepted : A → OfText A
  refused : (number line : ℕ) → OfText A

module _ {A B : Type 0} where
  -- fault n where nothing is found; else go on
  unfoldable pub need : ℕ → Option A → (A → OfLine B) → OfLine B
  need n none f = fault n
  need n (some a) f = f a

  infixr 20 ◌>>=◌
  -- nothing where nothing is found; else go on
  unfoldable pub ◌>>=◌ : Option A → (A → Option B) → Option B
  none >>= f = none
  some a >>= f = f a

module _ {A : Type 0} where
  unfoldable pub absent : Option A → Bool
  absent none = true
  absent (some a) = false

  -- a test of what is found, where something is
  unfoldable pub holds : (A → Bool) → Option A → Bool
  holds f none = false
  holds f (some a) = f a

  -- fault n where the test holds; else what follows
  unfoldable pub refuse : ℕ → Bool → OfLine A → OfLine A
  refuse n true r = fault n
  refuse n false r = r

module _ {A B : Type 0} where
  -- what follows an accepted part
  unfoldable pub after : OfText A → (A → OfText B) → OfText B
  after (accepted a) f = f a
  after (refused n k) f = refused n k

  -- what follows a line that is fine; k is its number
  unfoldable pub after_line : ℕ → OfLine A → (A → OfText B) → OfText B
  after_line k (fine a) f = f a
  after_line k (fault n) f = refused n k

-- The lines from line k on: each over what those before it mean, up to the earliest bad one.
module _ {S : Type 0} (step : S → Line → OfLine S) where
  unfoldable pub read_lines : ℕ → S → List Line → OfText S
  read_lines k s [] = accepted s
  read_lines k s (l ∷ ls) = after_line k (step s l) λ s'. read_lines (suc k) s' ls
