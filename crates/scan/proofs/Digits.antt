-- Numbers: what the loop over at most four digits has shown, and when a field is a number.
use Rattle.std.specs.Prelude.{ℕ, zero, suc, ◌+◌, ◌*◌, ◌-◌, ◌≤◌, ◌<◌, ◌≡◌, refl, Bool, true, false, not, ◌&&◌, ◌||◌, List, [], ◌∷◌, length, get_or, drop, eqb, leb, Some, None}
use Rattle.std.specs.List.{list_all}
use Rattle.std.proofs.Common.{sym, ◌∙◌, arith, drop_of_length-le, drop-cons, add-one, leb-true, le-leb, eq-eqb, ne_eqb}
use Rattle.std.proofs.lemmas.Bool.{lt-leb}
use Rattle.texts.specs.Bytes.{all, digit, is_number, value, number_of}
use Rattle.std.proofs.Math.Bool.{true≢false}
use Rattle.texts.proofs.Beneath.Tools.{both}
use Rattle.scan.specs.Numbers.{Digits, value_of}
use Rattle.scan.proofs.Compare.{all_told}

digit_range : (b : ℕ) → digit b ≡ true → (48 ≤ b) × (b ≤ 57)
unfolding digit
digit_range b h = let p = both (leb 48 b) (leb b 57) h in (leb-true 48 b p.0, leb-true b 57 p.1)

all_at : (l : List ℕ) (i : ℕ) → all digit l ≡ true → i < length l → digit (get_or l i 0) ≡ true
unfolding all
all_at [] i h k = absurd (omega arith)
all_at (x ∷ xs) zero h k = (both (digit x) (all digit xs) h).0
all_at (x ∷ xs) (suc i) h k = all_at xs i (both (digit x) (all digit xs) h).1 (omega arith)

pub record Digit (b : ℕ) : Type 0 where
  pub low : 48 ≤ b
  pub high : b ≤ 57

pub digit_at : (l : List ℕ) (i : ℕ) → Digits l → i < length l → Digit (get_or l i 0)
digit_at l i d h = let p = digit_range (get_or l i 0) (all_at l i d.each h) in record { low = p.0; high = p.1 }

-- the largest number of i digits
unfoldable pub nines : ℕ → ℕ
nines zero = 0
nines (suc i) = nines i * 10 + 9

nines-few : (i : ℕ) → i < 4 → nines i ≤ 999
unfolding nines
nines-few zero h = omega arith
nines-few (suc zero) h = omega arith
nines-few (suc (suc zero)) h = omega arith
nines-few (suc (suc (suc zero))) h = omega arith
nines-few (suc (suc (suc (suc i)))) h = absurd (omega arith)

-- v is the value of the digits before i
pub record Valued (l : List ℕ) (v i : ℕ) : Type 0 where
  pub small : v ≤ nines i
  pub rest : value 0 l ≡ value v (drop i l)

pub valued_none : (l : List ℕ) → Valued l 0 0
valued_none l = record { small = omega arith; rest = refl }

module _ (l : List ℕ) (v i : ℕ) (d : Digits l) (s : Valued l v i) where
  pub valued_small : i < length l → v ≤ 999
  valued_small h = omega (arith, s.small, nines-few i (omega (arith, d.few)))

  pub valued_more : i < length l → {m : ℕ} → m ≡ get_or l i 0 - 48 → Valued l (v * 10 + m) (i + 1)
  unfolding value nines
  valued_more h e =
      let g = digit_at l i d h in
      record {
        small = rw add-one (omega (arith, s.small, g.low, g.high));
        rest = s.rest ∙ rw (drop-cons l i 0 h, add-one, e);
      }

  pub valued_end : length l ≤ i → v ≡ value 0 l
  unfolding value
  valued_end h = sym (s.rest ∙ rw (drop_of_length-le l h))

-- when a field is a number, by its length
module _ (l : List ℕ) where
  number_cons : 0 < length l
      → is_number l ≡ (all digit l && leb (length l) 4 && (eqb (length l) 1 || not (eqb (get_or l 0 0) 48)))
  unfolding is_number
  number_cons h = go l h
    where
      go : (v : List ℕ) → 0 < length v
          → is_number v ≡ (all digit v && leb (length v) 4 && (eqb (length v) 1 || not (eqb (get_or v 0 0) 48)))
      go [] h = absurd (omega arith)
      go (b ∷ bs) h = refl

  pub number_empty : length l ≡ 0 → false ≡ is_number l
  unfolding is_number
  number_empty h = go l h
    where
      go : (v : List ℕ) → length v ≡ 0 → false ≡ is_number v
      go [] h = refl
      go (b ∷ bs) h = absurd (omega arith)

  pub number_one : length l ≡ 1 → {t : Bool} → t ≡ digit (get_or l 0 0) → t ≡ is_number l
  unfolding is_number all
  number_one h e = go l h e
    where
      go : (v : List ℕ) → length v ≡ 1 → {t : Bool} → t ≡ digit (get_or v 0 0) → t ≡ is_number v
      go [] h e = absurd (omega arith)
      go (b ∷ []) h {t} e = rw (← e) (turn t)
        where
          turn : (t : Bool) → t ≡ (t && true && true && true)
          turn true = refl
          turn false = refl
      go (b ∷ x ∷ xs) h e = absurd (omega arith)

  module _ (h : 2 ≤ length l) (k : length l ≤ 4) where
    number_many : is_number l ≡ (all digit l && not (eqb (get_or l 0 0) 48))
    number_many =
        number_cons (omega arith)
        ∙ rw (le-leb (length l) 4 k, ne_eqb (length l) 1 (λ q. omega arith)) (turn (all digit l) (eqb (get_or l 0 0) 48))
      where
        turn : (t u : Bool) → (t && true && (false || not u)) ≡ (t && not u)
        turn true u = refl
        turn false u = refl

    pub number_zero : get_or l 0 0 ≡ 48 → not (eqb (get_or l 0 0) 48) ≡ is_number l
    number_zero e = rw (eq-eqb (get_or l 0 0) 48 e) (sym (number_many ∙ rw (eq-eqb (get_or l 0 0) 48 e) (turn (all digit l))))
      where
        turn : (t : Bool) → (t && false) ≡ false
        turn true = refl
        turn false = refl

    pub number_all : (get_or l 0 0 ≡ 48 → ⊥) → {t : Bool} → t ≡ list_all digit l → t ≡ is_number l
    number_all ne e = e ∙ sym (number_many ∙ rw (ne_eqb (get_or l 0 0) 48 ne, ← all_told digit l) (turn (list_all digit l)))
      where
        turn : (t : Bool) → (t && true) ≡ t
        turn true = refl
        turn false = refl

  pub number_long : 4 < length l → false ≡ is_number l
  number_long h = sym (number_cons (omega arith) ∙ rw (lt-leb (length l) 4 h) (turn (all digit l)))
    where
      turn : (t : Bool) → (t && false && (eqb (length l) 1 || not (eqb (get_or l 0 0) 48))) ≡ false
      turn true = refl
      turn false = refl

-- it has at most four bytes, each a digit
pub number_digits : (l : List ℕ) {t : Bool} → t ≡ is_number l → t ≡ true → Digits l
unfolding is_number
number_digits [] e h = absurd (true≢false (sym h ∙ e))
number_digits (b ∷ bs) e h =
    let l = b ∷ bs in
    let p = both (all digit l && leb (length l) 4) (eqb (length l) 1 || not (eqb b 48)) (sym e ∙ h) in
    let q = both (all digit l) (leb (length l) 4) p.0 in
    record { few = leb-true (length l) 4 q.1; each = q.0 }

pub is_none : (l : List ℕ) {t : Bool} → t ≡ is_number l → t ≡ false → value_of None ≡ number_of l
unfolding number_of
is_none l e h = rw (← e, h)

pub is_some : (l : List ℕ) {t : Bool} → t ≡ is_number l → t ≡ true → (v : ℕ) → v ≡ value 0 l → value_of (Some v) ≡ number_of l
unfolding number_of
is_some l e h v g = rw (← e, h, g)
