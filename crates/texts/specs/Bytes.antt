-- Bytes, lines, fields and numbers of a text. A byte is written as its number; Words.antt says which it is.
use Rattle.std.specs.Prelude.{ℕ, suc, ◌+◌, ◌*◌, ◌-◌, ◌/◌, ◌%◌, Bool, true, false, cond, not, ◌&&◌, ◌||◌, length, ltb, leb, eqb}
use Prim.Native.Char.{code}
use Prim.Native.String.{String, [] as []ᵀ, ◌∷◌ as ◌∷ᵀ◌}
use mathlib.Core.List.{List, [], ◌∷◌, ◌++◌, Memᴰ}
use Rattle.std.proofs.Math.Option.{Option, none, some}

abbrev pub Word : Type 0
Word = List ℕ

-- The bytes of a string.
abbrev pub bytes : String → List ℕ
bytes []ᵀ = []
bytes (c ∷ᵀ s) = code c ∷ bytes s

-- Tests of lists: of some member, of every one.
module _ {A : Type 0} where
  unfoldable pub any : (A → Bool) → List A → Bool
  any f [] = false
  any f (x ∷ xs) = f x || any f xs

  unfoldable pub all : (A → Bool) → List A → Bool
  all f [] = true
  all f (x ∷ xs) = f x && all f xs

  -- those that pass the test
  unfoldable pub keep : (A → Bool) → List A → List A
  keep f [] = []
  keep f (x ∷ xs) = cond (f x) (x ∷ keep f xs) (keep f xs)

  -- x is one of a list
  abbrev pub In : A → List A → Type 0
  In x xs = Memᴰ x xs

-- No word twice.
unfoldable pub Distinct : List Word → Type 0
Distinct [] = Unit {0}
Distinct (w ∷ ws) = (¬ In w ws) × Distinct ws

-- Byte for byte.
unfoldable pub same : Word → Word → Bool
same [] [] = true
same [] (y ∷ ys) = false
same (x ∷ xs) [] = false
same (x ∷ xs) (y ∷ ys) = eqb x y && same xs ys

unfoldable pub among : Word → List Word → Bool
among w ws = any (same w) ws

-- How often.
unfoldable pub times : Word → List Word → ℕ
times w ws = length (keep (same w) ws)

-- Each once, in the order of the first occurrences.
unfoldable pub different : List Word → List Word
different [] = []
different (w ∷ ws) = w ∷ keep (λ v. not (same w v)) (different ws)

-- Where a word first stands, from 0; the length where it does not.
unfoldable pub index_of : Word → List Word → ℕ
index_of w [] = 0
index_of w (v ∷ vs) = cond (same w v) 0 (suc (index_of w vs))

-- "Bytes allowed: letters, digits, underscore, brackets ( ), comma, tab, newline." Letters are A-Z and a-z.
unfoldable pub letter : ℕ → Bool
letter b = leb 65 b && leb b 90 || leb 97 b && leb b 122

unfoldable pub digit : ℕ → Bool
digit b = leb 48 b && leb b 57

-- Letters, digits, underscore.
unfoldable pub word_byte : ℕ → Bool
word_byte b = letter b || digit b || eqb b 95

-- What a line may hold: newline only ends lines.
unfoldable pub allowed : ℕ → Bool
allowed b = word_byte b || eqb b 40 || eqb b 41 || eqb b 44 || eqb b 9

-- "Lines end in newline, the last one too." A line without its newline, and whether it had one.
-- A text that ends in a newline has no further line.
pub record Line : Type 0 where
  pub bytes : List ℕ
  pub ended : Bool

unfoldable pub ended_line : List ℕ → Line
ended_line bs = record { bytes = bs; ended = true }

-- One byte more in front.
unfoldable pub on_line : ℕ → List Line → List Line
on_line b [] = record { bytes = b ∷ []; ended = false } ∷ []
on_line b (l ∷ ls) = record { bytes = b ∷ l.bytes; ended = l.ended } ∷ ls

unfoldable pub lines : List ℕ → List Line
lines [] = []
lines (b ∷ bs) = cond (eqb b 10) (record { bytes = []; ended = true } ∷ lines bs) (on_line b (lines bs))

-- 2: "byte not allowed, or last line unended".
unfoldable pub fault2 : Line → Bool
fault2 l = not l.ended || any (λ b. not (allowed b)) l.bytes

-- "Fields are parted by one tab": the parts between the tabs, always one at least.
unfoldable pub on_field : ℕ → List Word → List Word
on_field b [] = []
on_field b (f ∷ fs) = (b ∷ f) ∷ fs

unfoldable pub fields : List ℕ → List Word
fields [] = [] ∷ []
fields (b ∷ bs) = cond (eqb b 9) ([] ∷ fields bs) (on_field b (fields bs))

-- "Numbers are decimal, 1 to 4 digits, no leading zero except 0 itself."
unfoldable pub is_number : Word → Bool
is_number [] = false
is_number (d ∷ ds) = all digit (d ∷ ds) && leb (length (d ∷ ds)) 4 && (eqb (length (d ∷ ds)) 1 || not (eqb d 48))

unfoldable pub value : ℕ → Word → ℕ
value n [] = n
value n (d ∷ ds) = value (n * 10 + (d - 48)) ds

unfoldable pub number_of : Word → Option ℕ
number_of s = cond (is_number s) (some (value 0 s)) none

-- How a number up to 9999 is written; `number_of` gives it back, and finds no number in any other field (`number-means`,
-- Main.antt).
unfoldable pub decimal : ℕ → Word
decimal n =
    cond (ltb n 10) ((48 + n) ∷ [])
    (cond (ltb n 100) ((48 + n / 10) ∷ (48 + n % 10) ∷ [])
    (cond (ltb n 1000) ((48 + n / 10 / 10) ∷ (48 + n / 10 % 10) ∷ (48 + n % 10) ∷ [])
    ((48 + n / 10 / 10 / 10) ∷ (48 + n / 10 / 10 % 10) ∷ (48 + n / 10 % 10) ∷ (48 + n % 10) ∷ [])))

-- A text from its lines, a line from its fields.
unfoldable pub text_of : List (List ℕ) → List ℕ
text_of [] = []
text_of (l ∷ ls) = l ++ (10 ∷ text_of ls)

unfoldable pub tabbed : List Word → List ℕ
tabbed [] = []
tabbed (f ∷ fs) = 9 ∷ (f ++ tabbed fs)

-- A first field and the rest.
unfoldable pub line_of : Word → List Word → List ℕ
line_of f fs = f ++ tabbed fs
