-- The spelling pass: what its loop has shown.
use Rattle.std.specs.Prelude.{ℕ, zero, suc, ◌+◌, ◌≤◌, ◌<◌, ◌≡◌, refl, Bool, true, false, cond, List, length, get_or, drop, eqb}
use Rattle.std.proofs.Common.{ap, ◌∙◌, arith, add-one, drop-cons, drop_of_length-le}
use Rattle.std.proofs.Math.Option.{none, some}
use Rattle.texts.specs.Bytes.{word_byte}
use Rattle.texts.specs.Scan.{want, word, shut, lost, after_term, next, scan, done}
use Rattle.texts.specs.Scan as Flat
use Rattle.scan.specs.Words.{heads}
use Rattle.field_tests.specs.Laws.Spelling.{lost_on, lost-scan}
use Rattle.field_tests.specs.Spelled.{plain, open_of, is_lost, lost_at, misspelt_at}
use Rattle.field_tests.specs.declared.spelling.Scan.{Scan}
use Rattle.field_tests.specs.declared.spelling.Scan.TheVariants.{Want, Word, Shut, Lost}

-- no step opens more than one bracket
either : (P : Flat.Scan → Type 0) (t : Bool) {x y : Flat.Scan} → P x → P y → P (cond t x y)
either P true h k = h
either P false h k = k

depth_of : Flat.Scan → ℕ
depth_of (want d) = d
depth_of (word d) = d
depth_of (shut d) = d
depth_of lost = 0

after_depth : (d b : ℕ) → depth_of (after_term d b) ≤ d + 1
unfolding after_term depth_of
after_depth zero b = omega arith
after_depth (suc d) b =
    let P : Flat.Scan → Type 0 = λ q. depth_of q ≤ suc d + 1 in
    either P (eqb b 44) (omega arith) (either P (eqb b 41) (omega arith) (omega arith))

next-depth : (q : Flat.Scan) (b : ℕ) → depth_of (next q b) ≤ depth_of q + 1
unfolding next depth_of heads
next-depth (want d) b = either (λ q. depth_of q ≤ d + 1) (heads b) (omega arith) (omega arith)
next-depth (word d) b =
    either (λ q. depth_of q ≤ d + 1) (word_byte b) (omega arith)
    (either (λ q. depth_of q ≤ d + 1) (eqb b 40) (omega arith) (after_depth d b))
next-depth (shut d) b = after_depth d b
next-depth lost b = omega arith

plain-depth : (s : Scan) → depth_of (plain s) ≡ open_of s
unfolding depth_of
plain-depth (Want d) = refl
plain-depth (Word d) = refl
plain-depth (Shut d) = refl
plain-depth Lost = refl

-- the loop at i: what is left takes the pass where the whole takes it, and stops it at the same place
pub record Ran (l : List ℕ) (s : Scan) (i : ℕ) : Type 0 where
  pub shallow : open_of s ≤ i
  pub rest : scan (want 0) l ≡ scan (plain s) (drop i l)
  pub place : lost_at (want 0) l ≡ i + lost_at (plain s) (drop i l)

module _ (l : List ℕ) (s : Scan) (i : ℕ) (h : Ran l s i) where
  module _ (lt : i < length l) (r : Scan) (e : plain r ≡ next (plain s) (get_or l i 0)) where
    scan_on : scan (want 0) l ≡ scan (plain r) (drop (i + 1) l)
    unfolding scan
    scan_on = h.rest ∙ rw (drop-cons l i 0 lt, add-one, e)

    pub ran_more : (t : Bool) → t ≡ is_lost (plain r) → t ≡ false → Ran l r (i + 1)
    unfolding lost_at
    ran_more t w k =
        let n : is_lost (next (plain s) (get_or l i 0)) ≡ false = rw (← e, ← w) k in
        let p : lost_at (plain s) (drop i l) ≡ suc (lost_at (plain r) (drop (i + 1) l)) =
        rw (drop-cons l i 0 lt, add-one, n, e) in
        let g = next-depth (plain s) (get_or l i 0) in
        record {
          shallow = omega (arith, h.shallow, plain-depth s, plain-depth r, ap depth_of e);
          rest = scan_on;
          place = omega (arith, h.place);
        }

    pub ran-wrong : (t : Bool) → t ≡ is_lost (plain r) → t ≡ true → some i ≡ misspelt_at l
    unfolding lost_at misspelt_at done
    ran-wrong t w k =
        let m : is_lost (plain r) ≡ true = rw (← w) k in
        let n : is_lost (next (plain s) (get_or l i 0)) ≡ true = rw (← e) m in
        let p : lost_at (plain s) (drop i l) ≡ 0 = rw (drop-cons l i 0 lt, n) in
        let z : i ≡ lost_at (want 0) l = omega (arith, h.place) in
        rw (scan_on, lost_on (plain r) m, lost-scan, ← z)

  module _ (le : length l ≤ i) (ge : i ≤ length l) where
    all_scan : scan (want 0) l ≡ plain s
    unfolding scan
    all_scan = h.rest ∙ rw (drop_of_length-le l le)

    pub ran_right : (t : Bool) → t ≡ done (plain s) → t ≡ true → none ≡ misspelt_at l
    unfolding misspelt_at
    ran_right t w k = rw (all_scan, ← w, k)

    pub ran-short : (t : Bool) → t ≡ done (plain s) → t ≡ false → some (length l) ≡ misspelt_at l
    unfolding misspelt_at lost_at
    ran-short t w k =
        let p : lost_at (plain s) (drop i l) ≡ 0 = rw (drop_of_length-le l le) in
        let z : length l ≡ lost_at (want 0) l = omega (arith, h.place) in
        rw (all_scan, ← w, k, ← z)
