-- Lines, fields and numbers: what is cut is what is written, both ways.
use Rattle.std.specs.Prelude.{ℕ, ◌+◌, ◌*◌, ◌-◌, ◌/◌, ◌%◌, ◌≤◌, ◌<◌, ◌≡◌, refl, Bool, true, cond, not, ◌&&◌, ◌||◌, ◌↔◌, ◌≢◌, List, [], ◌∷◌, ◌++◌, map, length, ltb, leb}
use Rattle.std.proofs.Common.{sym, ◌∙◌, append-nil}
use Rattle.std.proofs.Math.Bool.{false}
use Rattle.std.proofs.Math.Option.{none, some}
use native.Mathlib.Omega.{arith}
use Rattle.std.proofs.Math.Dec.{eqb}
use borrow.Author.Tests.{eqb-true, eqb-false, leb-true, ltb-true, ltb-false, lt-ltb, le-ltb, le-leb, lt-leb, ne_eqb, not-true}
use Rattle.texts.specs.Bytes.{Word, Line, all, digit, ended_line, on_line, lines, on_field, fields, text_of, tabbed, line_of, is_number, value, number_of, decimal}
use Rattle.texts.proofs.Beneath.Tools.{never, both, pick}
use Rattle.texts.specs.Splitting.{free}

-- Lines.
pub lines_cons : (s rest : List ℕ) → all (free 10) s ≡ true → lines (s ++ (10 ∷ rest)) ≡ ended_line s ∷ lines rest
unfolding lines all free ended_line on_line
lines_cons [] rest ok = refl
lines_cons (b ∷ s) rest ok =
    let p = both (free 10 b) (all (free 10) s) ok in
    rw (lines_cons s rest p.1, not-true (eqb b 10) p.0)

-- Bytes with no newline after them are a line of their own.
pub lines_last : (b : ℕ) (s : List ℕ) → all (free 10) (b ∷ s) ≡ true → lines (b ∷ s) ≡ record { bytes = b ∷ s; ended = false } ∷ []
unfolding lines all free on_line
lines_last b [] ok = rw (not-true (eqb b 10) (both (free 10 b) true ok).0)
lines_last b (c ∷ s) ok =
    let p = both (free 10 b) (all (free 10) (c ∷ s)) ok in
    rw (lines_last c s p.1, not-true (eqb b 10) p.0)

-- A text of ended lines is cut into them.
pub lines-text : (ls : List (List ℕ)) → all (all (free 10)) ls ≡ true → lines (text_of ls) ≡ map ended_line ls
unfolding all text_of lines
lines-text [] ok = refl
lines-text (l ∷ ls) ok =
    let p = both (all (free 10) l) (all (all (free 10)) ls) ok in
    rw (lines_cons l (text_of ls) p.0, lines-text ls p.1)

abbrev pub bytes_of : Line → List ℕ
bytes_of l = l.bytes

abbrev pub ends_of : Line → Bool
ends_of l = l.ended

on_text : (b : ℕ) (ls : List Line) → all ends_of (on_line b ls) ≡ true
    → (all ends_of ls ≡ true) × (text_of (map bytes_of (on_line b ls)) ≡ b ∷ text_of (map bytes_of ls))
unfolding on_line all text_of
on_text b [] h = never h
on_text b (l ∷ ls) h = (h, refl)

-- And a text whose lines have all ended is the text of its lines.
pub text-lines : (s : List ℕ) → all ends_of (lines s) ≡ true → text_of (map bytes_of (lines s)) ≡ s
unfolding lines all text_of
text-lines [] h = refl
text-lines (b ∷ bs) h = go (eqb b 10) refl h (text-lines bs)
  where
    go : (t : Bool) → eqb b 10 ≡ t → all ends_of (cond t (record { bytes = []; ended = true } ∷ lines bs) (on_line b (lines bs))) ≡ true
        → (all ends_of (lines bs) ≡ true → text_of (map bytes_of (lines bs)) ≡ bs)
        → text_of (map bytes_of (cond t (record { bytes = []; ended = true } ∷ lines bs) (on_line b (lines bs)))) ≡ b ∷ bs
    go true e k ih = rw (ih k, eqb-true b 10 e)
    go false e k ih = let p = on_text b (lines bs) k in rw (p.1, ih p.0)

-- Fields.
field_on : (f s g : Word) (gs : List Word) → all (free 9) f ≡ true → fields s ≡ g ∷ gs → fields (f ++ s) ≡ (f ++ g) ∷ gs
unfolding fields all free on_field
field_on [] s g gs ok h = h
field_on (b ∷ f) s g gs ok h =
    let p = both (free 9 b) (all (free 9) f) ok in
    rw (field_on f s g gs p.1 h, not-true (eqb b 9) p.0)

fields-tabbed : (fs : List Word) → all (all (free 9)) fs ≡ true → fields (tabbed fs) ≡ [] ∷ fs
unfolding all tabbed fields
fields-tabbed [] ok = refl
fields-tabbed (f ∷ fs) ok =
    let p = both (all (free 9) f) (all (all (free 9)) fs) ok in
    rw (field_on f (tabbed fs) [] fs p.0 (fields-tabbed fs p.1), append-nil)

-- The field before the first tab, and those of the rest; and the last field.
pub fields-cons : (f rest : Word) → all (free 9) f ≡ true → fields (f ++ (9 ∷ rest)) ≡ f ∷ fields rest
unfolding fields
fields-cons f rest ok = field_on f (9 ∷ rest) [] (fields rest) ok refl ∙ rw append-nil

pub fields_last : (f : Word) → all (free 9) f ≡ true → fields f ≡ f ∷ []
unfolding fields
fields_last f ok = rw append-nil at (field_on f [] [] [] ok refl)

-- A line of fields is cut into them.
pub fields-line : (f : Word) (fs : List Word) → all (all (free 9)) (f ∷ fs) ≡ true → fields (line_of f fs) ≡ f ∷ fs
unfolding line_of all
fields-line f fs ok =
    let p = both (all (free 9) f) (all (all (free 9)) fs) ok in
    rw (field_on f (tabbed fs) [] fs p.0 (fields-tabbed fs p.1), append-nil)

joined : List Word → List ℕ
joined [] = []
joined (f ∷ fs) = line_of f fs

Some : List Word → Type 0
Some [] = ⊥
Some (f ∷ fs) = Unit {0}

on_some : (b : ℕ) (fs : List Word) → Some fs → Some (on_field b fs)
unfolding on_field Some
on_some b [] h = h
on_some b (f ∷ fs) h = tt

fields_some : (s : List ℕ) → Some (fields s)
unfolding fields Some
fields_some [] = tt
fields_some (b ∷ bs) = go (eqb b 9) (fields_some bs)
  where
    go : (t : Bool) → Some (fields bs) → Some (cond t ([] ∷ fields bs) (on_field b (fields bs)))
    go true ih = tt
    go false ih = on_some b (fields bs) ih

tabbed-joined : (fs : List Word) → Some fs → tabbed fs ≡ 9 ∷ joined fs
unfolding tabbed joined line_of Some
tabbed-joined [] h = absurd h
tabbed-joined (f ∷ fs) h = refl

on_joined : (b : ℕ) (fs : List Word) → Some fs → joined (on_field b fs) ≡ b ∷ joined fs
unfolding joined line_of on_field Some
on_joined b [] h = absurd h
on_joined b (f ∷ fs) h = refl

fields-joined : (s : List ℕ) → joined (fields s) ≡ s
unfolding fields joined line_of tabbed
fields-joined [] = refl
fields-joined (b ∷ bs) = go (eqb b 9) refl (fields-joined bs)
  where
    go : (t : Bool) → eqb b 9 ≡ t → joined (fields bs) ≡ bs → joined (cond t ([] ∷ fields bs) (on_field b (fields bs))) ≡ b ∷ bs
    go true e ih = rw (tabbed-joined (fields bs) (fields_some bs), ih, eqb-true b 9 e)
    go false e ih = rw (on_joined b (fields bs) (fields_some bs), ih)

-- And every line is the line of its fields.
pub line-fields : (s f : Word) (fs : List Word) → fields s ≡ f ∷ fs → line_of f fs ≡ s
unfolding joined
line-fields s f fs h = rw h at (fields-joined s)

-- Numbers.
digit_range : (d : ℕ) → digit d ≡ true → (48 ≤ d) × (d ≤ 57)
unfolding digit
digit_range d h = let p = both (leb 48 d) (leb d 57) h in (leb-true 48 d p.0, leb-true d 57 p.1)

range_digit : (d : ℕ) → 48 ≤ d → d ≤ 57 → digit d ≡ true
unfolding digit
range_digit d h k = rw (le-leb 48 d h, le-leb d 57 k)

module _ (n : ℕ) where
  number_1 : n < 10 → number_of (decimal n) ≡ some n
  unfolding decimal number_of is_number value all
  number_1 h =
      let e : 0 * 10 + (48 + n - 48) ≡ n = omega arith in
      rw (lt-ltb n 10 h, range_digit (48 + n) (omega arith) (omega arith), e)

  number_2 : 10 ≤ n → n < 100 → number_of (decimal n) ≡ some n
  unfolding decimal number_of is_number value all
  number_2 h k =
      let e : (0 * 10 + (48 + n / 10 - 48)) * 10 + (48 + n % 10 - 48) ≡ n = omega arith in
      let z : eqb (48 + n / 10) 48 ≡ false = ne_eqb (48 + n / 10) 48 (λ q. omega arith) in
      rw (le-ltb n 10 h, lt-ltb n 100 k, range_digit (48 + n / 10) (omega arith) (omega arith), range_digit (48 + n % 10) (omega arith) (omega arith), z, e)

  number_3 : 100 ≤ n → n < 1000 → number_of (decimal n) ≡ some n
  unfolding decimal number_of is_number value all
  number_3 h k =
      let e : ((0 * 10 + (48 + n / 10 / 10 - 48)) * 10 + (48 + n / 10 % 10 - 48)) * 10 + (48 + n % 10 - 48) ≡ n = omega arith in
      let z : eqb (48 + n / 10 / 10) 48 ≡ false = ne_eqb (48 + n / 10 / 10) 48 (λ q. omega arith) in
      rw (
        le-ltb n 10 (omega arith),
        le-ltb n 100 h,
        lt-ltb n 1000 k,
        range_digit (48 + n / 10 / 10) (omega arith) (omega arith),
        range_digit (48 + n / 10 % 10) (omega arith) (omega arith),
        range_digit (48 + n % 10) (omega arith) (omega arith),
        z,
        e,
      )

  number_4 : 1000 ≤ n → n < 10000 → number_of (decimal n) ≡ some n
  unfolding decimal number_of is_number value all
  number_4 h k =
      let e : (((0 * 10 + (48 + n / 10 / 10 / 10 - 48)) * 10 + (48 + n / 10 / 10 % 10 - 48)) * 10 + (48 + n / 10 % 10 - 48)) * 10 + (48 + n % 10 - 48) ≡ n = omega arith in
      let z : eqb (48 + n / 10 / 10 / 10) 48 ≡ false = ne_eqb (48 + n / 10 / 10 / 10) 48 (λ q. omega arith) in
      rw (
        le-ltb n 10 (omega arith),
        le-ltb n 100 (omega arith),
        le-ltb n 1000 h,
        range_digit (48 + n / 10 / 10 / 10) (omega arith) (omega arith),
        range_digit (48 + n / 10 / 10 % 10) (omega arith) (omega arith),
        range_digit (48 + n / 10 % 10) (omega arith) (omega arith),
        range_digit (48 + n % 10) (omega arith) (omega arith),
        z,
        e,
      )

-- What is written is read.
pub number-decimal : (n : ℕ) → n < 10000 → number_of (decimal n) ≡ some n
number-decimal n h = go (ltb n 10) (ltb n 100) (ltb n 1000) refl refl refl
  where
    go : (a b c : Bool) → ltb n 10 ≡ a → ltb n 100 ≡ b → ltb n 1000 ≡ c → number_of (decimal n) ≡ some n
    go true b c p q r = number_1 n (ltb-true n 10 p)
    go false true c p q r = number_2 n (ltb-false n 10 p) (ltb-true n 100 q)
    go false false true p q r = number_3 n (ltb-false n 100 q) (ltb-true n 1000 r)
    go false false false p q r = number_4 n (ltb-false n 1000 r) h

-- A greater number is written with no tab either, but not as a number.
tab-free : (d : ℕ) (ds : Word) → all (free 9) ds ≡ true → all (free 9) ((48 + d) ∷ ds) ≡ true
unfolding all free
tab-free d ds h = rw (ne_eqb (48 + d) 9 (λ q. omega arith)) h

tab_last : (d : ℕ) → all (free 9) ((48 + d) ∷ []) ≡ true
unfolding all
tab_last d = tab-free d [] refl

pub decimal-tabs : (n : ℕ) → all (free 9) (decimal n) ≡ true
unfolding decimal
decimal-tabs n =
    pick tabless (ltb n 10) (λ _. tab_last n)
    λ _. pick tabless (ltb n 100) (λ _. tab-free _ _ (tab_last _))
    λ _. pick tabless (ltb n 1000) (λ _. tab-free _ _ (tab-free _ _ (tab_last _)))
    λ _. tab-free _ _ (tab-free _ _ (tab-free _ _ (tab_last _)))
  where
    tabless : Word → Type 0
    tabless w = all (free 9) w ≡ true

pub number_small : (n m : ℕ) → number_of (decimal n) ≡ some m → n < 10000
unfolding decimal number_of is_number all digit
number_small n m h = go (ltb n 10000) refl
  where
    go : (t : Bool) → ltb n 10000 ≡ t → n < 10000
    go true e = ltb-true n 10000 e
    go false e =
        let k : 10000 ≤ n = ltb-false n 10000 e in
        let p : number_of (decimal n) ≡ none = rw (
          le-ltb n 10 (omega arith),
          le-ltb n 100 (omega arith),
          le-ltb n 1000 (omega arith),
          le-leb 48 (48 + n / 10 / 10 / 10) (omega arith),
          lt-leb (48 + n / 10 / 10 / 10) 57 (omega arith),
        ) in
        absurd (let z : ◌≡◌ {A = ℕ} 0 1 = cc in omega arith)

-- And what is read is written so.
Written : Word → Type 0
Written s = (decimal (value 0 s) ≡ s) × (value 0 s < 10000)

written_1 : (a : ℕ) → 48 ≤ a → a ≤ 57 → Written (a ∷ [])
unfolding Written decimal value
written_1 a h k =
    let e : 48 + (0 * 10 + (a - 48)) ≡ a = omega arith in
    (rw (lt-ltb (0 * 10 + (a - 48)) 10 (omega arith), e), omega arith)

written_2 : (a b : ℕ) → 48 < a → a ≤ 57 → 48 ≤ b → b ≤ 57 → Written (a ∷ b ∷ [])
unfolding Written decimal value
written_2 a b h k l m =
    let v : ℕ = (0 * 10 + (a - 48)) * 10 + (b - 48) in
    let e : 48 + v / 10 ≡ a = omega arith in
    let f : 48 + v % 10 ≡ b = omega arith in
    (rw (le-ltb v 10 (omega arith), lt-ltb v 100 (omega arith), e, f), omega arith)

written_3 : (a b c : ℕ) → 48 < a → a ≤ 57 → 48 ≤ b → b ≤ 57 → 48 ≤ c → c ≤ 57 → Written (a ∷ b ∷ c ∷ [])
unfolding Written decimal value
written_3 a b c h k l m o p =
    let v : ℕ = ((0 * 10 + (a - 48)) * 10 + (b - 48)) * 10 + (c - 48) in
    let q : v / 10 ≡ (a - 48) * 10 + (b - 48) = omega arith in
    let d : 48 + v / 10 / 10 ≡ a = omega arith in
    let e : 48 + v / 10 % 10 ≡ b = omega arith in
    let f : 48 + v % 10 ≡ c = omega arith in
    (rw (le-ltb v 10 (omega arith), le-ltb v 100 (omega arith), lt-ltb v 1000 (omega arith), d, e, f), omega arith)

written_4 : (a b c d : ℕ) → 48 < a → a ≤ 57 → 48 ≤ b → b ≤ 57 → 48 ≤ c → c ≤ 57 → 48 ≤ d → d ≤ 57 → Written (a ∷ b ∷ c ∷ d ∷ [])
unfolding Written decimal value
written_4 a b c d h k l m o p q r =
    let v : ℕ = (((0 * 10 + (a - 48)) * 10 + (b - 48)) * 10 + (c - 48)) * 10 + (d - 48) in
    let s : v / 10 ≡ ((a - 48) * 10 + (b - 48)) * 10 + (c - 48) = omega arith in
    let t : v / 10 / 10 ≡ (a - 48) * 10 + (b - 48) = omega arith in
    let x : 48 + v / 10 / 10 / 10 ≡ a = omega arith in
    let y : 48 + v / 10 / 10 % 10 ≡ b = omega arith in
    let z : 48 + v / 10 % 10 ≡ c = omega arith in
    let w : 48 + v % 10 ≡ d = omega arith in
    (rw (le-ltb v 10 (omega arith), le-ltb v 100 (omega arith), le-ltb v 1000 (omega arith), x, y, z, w), omega arith)

-- The first digit of two or more is no zero.
no_zero : (a : ℕ) → 48 ≤ a → not (eqb a 48) ≡ true → 48 < a
no_zero a h z = let f : a ≢ 48 = eqb-false a 48 (not-true (eqb a 48) z) in omega arith

long : (a b c d e : ℕ) (r : Word) → (leb (length (a ∷ b ∷ c ∷ d ∷ e ∷ r)) 4) ≡ true → ⊥
long a b c d e r h = let k = leb-true (length (a ∷ b ∷ c ∷ d ∷ e ∷ r)) 4 h in omega arith

number-written : (s : Word) → is_number s ≡ true → Written s
unfolding is_number all
number-written [] h = never h
number-written (a ∷ []) h =
    let A = (both (digit a && true) true (both ((digit a && true) && true) true h).0).0 in
    let x = digit_range a (both (digit a) true A).0 in written_1 a x.0 x.1
number-written (a ∷ b ∷ []) h =
    let P = both ((digit a && (digit b && true)) && true) (not (eqb a 48)) h in
    let A = both (digit a) (digit b && true) (both (digit a && (digit b && true)) true P.0).0 in
    let x = digit_range a A.0 in
    let y = digit_range b (both (digit b) true A.1).0 in written_2 a b (no_zero a x.0 P.1) x.1 y.0 y.1
number-written (a ∷ b ∷ c ∷ []) h =
    let P = both ((digit a && (digit b && (digit c && true))) && true) (not (eqb a 48)) h in
    let A = both (digit a) (digit b && (digit c && true)) (both (digit a && (digit b && (digit c && true))) true P.0).0 in
    let B = both (digit b) (digit c && true) A.1 in
    let x = digit_range a A.0 in
    let y = digit_range b B.0 in
    let z = digit_range c (both (digit c) true B.1).0 in
    written_3 a b c (no_zero a x.0 P.1) x.1 y.0 y.1 z.0 z.1
number-written (a ∷ b ∷ c ∷ d ∷ []) h =
    let P = both ((digit a && (digit b && (digit c && (digit d && true)))) && true) (not (eqb a 48)) h in
    let A = both (digit a) (digit b && (digit c && (digit d && true))) (both (digit a && (digit b && (digit c && (digit d && true)))) true P.0).0 in
    let B = both (digit b) (digit c && (digit d && true)) A.1 in
    let C = both (digit c) (digit d && true) B.1 in
    let x = digit_range a A.0 in
    let y = digit_range b B.0 in
    let z = digit_range c C.0 in
    let w = digit_range d (both (digit d) true C.1).0 in
    written_4 a b c d (no_zero a x.0 P.1) x.1 y.0 y.1 z.0 z.1 w.0 w.1
number-written (a ∷ b ∷ c ∷ d ∷ e ∷ r) h =
    let s : Word = a ∷ b ∷ c ∷ d ∷ e ∷ r in
    let P = both (all digit s && leb (length s) 4) (eqb (length s) 1 || not (eqb a 48)) h in
    absurd (long a b c d e r (both (all digit s) (leb (length s) 4) P.0).1)

pub decimal-number : (s : Word) (n : ℕ) → number_of s ≡ some n → (decimal n ≡ s) × (n < 10000)
unfolding number_of Written
decimal-number s n h = go (is_number s) refl h
  where
    go : (t : Bool) → is_number s ≡ t → cond t (some (value 0 s)) none ≡ some n → (decimal n ≡ s) × (n < 10000)
    go true e k = let z : value 0 s ≡ n = cc in rw (← z) (number-written s e)
    go false e k = absurd (let z : ◌≡◌ {A = ℕ} 0 1 = cc in omega arith)

-- The number that a field means is the one that is written so.
pub number-exact : (s : Word) (n : ℕ) → (number_of s ≡ some n) ↔ ((decimal n ≡ s) × (n < 10000))
number-exact s n = (decimal-number s n, λ p. rw p.0 at (number-decimal n p.1))

-- A text by its lines.
ended-bytes : (ss : List (List ℕ)) → map bytes_of (map ended_line ss) ≡ ss
unfolding ended_line
ended-bytes [] = refl
ended-bytes (s ∷ ss) = rw (ended-bytes ss)

ended-ends : (ss : List (List ℕ)) → all ends_of (map ended_line ss) ≡ true
unfolding ended_line all
ended-ends [] = refl
ended-ends (s ∷ ss) = ended-ends ss

pub text-ended : (text : List ℕ) (ss : List (List ℕ)) → lines text ≡ map ended_line ss → text ≡ text_of ss
text-ended text ss e = sym (text-lines text (rw e (ended-ends ss))) ∙ rw (e, ended-bytes ss)
