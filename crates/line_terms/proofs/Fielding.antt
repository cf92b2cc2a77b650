-- One law for each way out of the functions that cut and read the fields of a line. Assumes nothing.
use Rattle.std.specs.Prelude.{Option, None, Some, ℕ, suc, ◌+◌, ◌-◌, ◌<◌, ◌≤◌, ◌≡◌, true, false, List, length, take, drop, set}
use Rattle.std.proofs.Common.{arith, length-drop, length-take-le, lt-ltb, le-ltb}
use native.Mathlib.Nat.{sub-zero}
use Rattle.texts.specs.Books.{Agent}
use Rattle.scan.specs.Places.{place, is}
use Rattle.scan.specs.Laws.Placing.{place_le}
use Rattle.terms.specs.Sheet.{Sheet}
use Rattle.terms.specs.Reader.{done, field_by}
use Rattle.line_terms.specs.Fields.{field_end, ran, on_code, fields_by}

-- the end of a field
module _ (text : List ℕ) (at to n : ℕ) (found : n ≡ place (is 9) (take (to - at) (drop at text)))
    (order : at ≤ to) (within : to ≤ length text) where
  pub end_within : at + n ≤ to
  end_within =
      let l : length (take (to - at) (drop at text)) ≡ to - at = length-take-le (to - at) (drop at text) (omega (arith, length-drop at text)) in
      let p = place_le (is 9) (take (to - at) (drop at text)) in
      omega arith

  pub end_way : (at + n ≡ field_end text at to) × (at + n ≤ to)
  unfolding field_end
  end_way = (rw found, end_within)

-- i of n fields are read; what the rest of them give is what all of them give
pub record Reading (text : List ℕ) (ags : List Agent) (from to n : ℕ) (s₀ : Sheet) (codes₀ : List ℕ) (s : Sheet) (codes : List ℕ) (at i : ℕ) : Type 0 where
  pub within : i ≤ n
  pub rest : fields_by text ags to (n - i) i at s codes ≡ fields_by text ags to n 0 from s₀ codes₀

pub reading_none : (text : List ℕ) (ags : List Agent) (from to n : ℕ) (s : Sheet) (codes : List ℕ)
    → Reading text ags from to n s codes s codes from 0
reading_none text ags from to n s codes = record { within = omega arith; rest = rw sub-zero }

module _
    {text : List ℕ} {ags : List Agent} {from to n : ℕ} {s₀ : Sheet} {codes₀ : List ℕ} (s : Sheet) (codes : List ℕ) {at i : ℕ}
    (r : Reading text ags from to n s₀ codes₀ s codes at i) where
  pub reading_end : n ≤ i → ran true s codes ≡ fields_by text ags to n 0 from s₀ codes₀
  unfolding fields_by
  reading_end h = let z : n - i ≡ 0 = omega arith in rw z at r.rest

  module _ (more : i < n) where
    left : n - i ≡ suc (n - (i + 1))
    left = omega arith

    pub reading_short : to < at → ran false s codes ≡ fields_by text ags to n 0 from s₀ codes₀
    unfolding fields_by
    reading_short h = rw (left, lt-ltb to at h) at r.rest

    module _
        (order : at ≤ to) {e : ℕ} (ends : e ≡ field_end text at to) {f : Option ℕ} (s₁ : Sheet) (read : done f s₁ ≡ field_by text ags at e s) where
      one : on_code i codes (done f s₁) (fields_by text ags to (n - (i + 1)) (i + 1) (e + 1)) ≡ fields_by text ags to n 0 from s₀ codes₀
      unfolding fields_by
      one = rw (read, ends) (rw (left, le-ltb to at order) at r.rest)

      pub reading_wrong : f ≡ None → ran false s₁ codes ≡ fields_by text ags to n 0 from s₀ codes₀
      unfolding on_code
      reading_wrong q = rw q at one

      pub reading_more : {v : ℕ} → f ≡ Some v
          → Reading text ags from to n s₀ codes₀ s₁ (set codes i v) (e + 1) (i + 1)
      unfolding on_code
      reading_more q = record { within = omega arith; rest = rw q at one }

-- the laws of `read_fields`
pub ruleset reading_laws = (reading_none, reading_end, reading_short, reading_wrong, reading_more)
