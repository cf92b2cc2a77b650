-- The fields from number k on are the fields of the part that begins with field k.
use Rattle.std.specs.Prelude.{ℕ, zero, suc, ◌+◌, ◌-◌, ◌≤◌, ◌<◌, ◌≡◌, refl, Bool, true, false, cond, List, [], ◌∷◌, ◌++◌, eqb, leb, ltb, length, drop}
use Rattle.std.proofs.Common.{sym, ap, ◌∙◌, arith, length-drop, drop-drop, length-take-le, le-leb, ltb-true, ltb-false}
use Rattle.std.proofs.Math.Option.{some}
use Rattle.std.proofs.Math.Seq.{drop-append-add}
use Rattle.std.proofs.lemmas.Bool.{lt-leb, not-true}
use Rattle.texts.specs.Bytes.{Word, any, all, fields}
use Rattle.texts.specs.Terms.{Term, nodes}
use Rattle.texts.specs.RuleText.{terms_of, big_node}
use Rattle.texts.specs.Splitting.{free}
use Rattle.texts.proofs.Beneath.Splitting.{fields-cons, fields_last}
use Rattle.texts.proofs.Beneath.Tools.{both, any_append}
use Rattle.texts.proofs.Beneath.Means.{spell-terms}
use Rattle.texts.specs.Passes.{met_in, big_met}
use Rattle.texts.proofs.Beneath.Passes.{big_met_lem}
use Rattle.texts.specs.Walk.{walk}
use Rattle.scan.specs.Places.{place, is}
use Rattle.scan.specs.Cutting.{up_to, tabs, field_start}
use Rattle.scan.proofs.Beneath.Cutting.{cut-free, cut-mark, cut_all}
use Rattle.scan.specs.Laws.Placing.{place_le}
use Rattle.lines.specs.Fields.{too_big, fields_from}

-- A part with a tab is its first field, the tab and the rest; one with none is its only field.
pub data Cut (l : List ℕ) : Type 0 where
  more : (f rest : Word) → all (free 9) f ≡ true → l ≡ f ++ (9 ∷ rest) → Cut l
  only : all (free 9) l ≡ true → Cut l

pub cut : (l : List ℕ) → Cut l
cut l = go (ltb (place (is 9) l) (length l)) refl
  where
    go : (t : Bool) → ltb (place (is 9) l) (length l) ≡ t → Cut l
    go true e = more (up_to 9 l) (drop (suc (place (is 9) l)) l) (cut-free 9 l) (sym (cut-mark 9 l (ltb-true _ _ e)))
    go false e = only (rw (cut_all 9 l (ltb-false _ _ e)) at (cut-free 9 l))

no_tab : (b : ℕ) → free 9 b ≡ true → tabs b ≡ 0
unfolding free tabs
no_tab b h = rw (not-true (eqb b 9) h)

pub start_zero : (l : List ℕ) → field_start l 0 ≡ 0
unfolding field_start
start_zero [] = refl
start_zero (b ∷ bs) = refl

one_less : (k : ℕ) → suc k - tabs 9 ≡ k
unfolding tabs
one_less k = omega arith

-- where the next field begins
pub start_more : (f rest : Word) (k : ℕ) → all (free 9) f ≡ true
    → field_start (f ++ (9 ∷ rest)) (suc k) ≡ length f + suc (field_start rest k)
unfolding field_start all
start_more [] rest k ok = let z : suc k - tabs 9 ≡ k = one_less k in rw z (omega arith)
start_more (b ∷ f) rest k ok =
    let p = both (free 9 b) (all (free 9) f) ok in
    let e = no_tab b p.0 in
    let z : suc k - tabs b ≡ suc k = omega arith in
    rw z (omega (arith, start_more f rest k p.1))

pub start_only : (l : List ℕ) (k : ℕ) → all (free 9) l ≡ true → field_start l (suc k) ≡ length l
unfolding field_start all
start_only [] k ok = refl
start_only (b ∷ bs) k ok =
    let p = both (free 9 b) (all (free 9) bs) ok in
    let e = no_tab b p.0 in
    let z : suc k - tabs b ≡ suc k = omega arith in
    rw z (ap suc (start_only bs k p.1))

-- the fields from number k on
pub fields-drop : (l : List ℕ) (k : ℕ) → k < length (fields l) → drop k (fields l) ≡ fields (drop (field_start l k) l)
fields-drop l zero h = rw start_zero
fields-drop l (suc k) h = go (cut l) (λ r. fields-drop r k)
  where
    go : Cut l → ((r : List ℕ) → k < length (fields r) → drop k (fields r) ≡ fields (drop (field_start r k) r))
        → drop (suc k) (fields l) ≡ fields (drop (field_start l (suc k)) l)
    go (more f rest ok e) ih =
        let d = fields-cons f rest ok in
        let n : length (fields l) ≡ suc (length (fields rest)) = ap length (ap fields e ∙ d) in
        rw (e, d, start_more f rest k ok, drop-append-add f (9 ∷ rest) (suc (field_start rest k)))
        (ih rest (omega arith))
    go (only ok) ih = absurd (let n : length (fields l) ≡ 1 = ap length (fields_last l ok) in omega arith)

up_length : (m : ℕ) (l : List ℕ) → length (up_to m l) ≡ place (is m) l
unfolding up_to
up_length m l = length-take-le (place (is m) l) l (place_le (is m) l)

module _ (l : List ℕ) (at : ℕ) (h : at ≤ length l) where
  abbrev m : List ℕ
  m = drop at l

  abbrev p : ℕ
  p = place (is 9) m

  from_cut : (t : Bool) → ltb p (length m) ≡ t
      → fields m ≡ up_to 9 m ∷ cond (leb (at + length (up_to 9 m) + 1) (length l)) (fields (drop (at + length (up_to 9 m) + 1) l)) []
  from_cut true e =
      let b = ltb-true p (length m) e in
      let n : length (up_to 9 m) ≡ p = up_length 9 m in
      let z : at + p + 1 ≡ at + suc p = omega arith in
      ap fields (sym (cut-mark 9 m b)) ∙ (fields-cons (up_to 9 m) (drop (suc p) m) (cut-free 9 m)
      ∙ rw (n, le-leb (at + p + 1) (length l) (omega (arith, length-drop at l)), z, ← drop-drop (suc p) at l))
  from_cut false e =
      let a : up_to 9 m ≡ m = cut_all 9 m (ltb-false p (length m) e) in
      fields_last m (rw a at (cut-free 9 m))
      ∙ rw (a, lt-leb (at + length m + 1) (length l) (omega (arith, length-drop at l)))

-- one field after the other
pub from_more : (l : List ℕ) (at : ℕ) → at ≤ length l
    → fields_from l at ≡ up_to 9 (drop at l) ∷ fields_from l (at + length (up_to 9 (drop at l)) + 1)
unfolding fields_from
from_more l at h = rw (le-leb at (length l) h) (from_cut l at h (ltb (place (is 9) (drop at l)) (length (drop at l))) refl)

pub field-within : (l : List ℕ) (at : ℕ) → at ≤ length l → at + length (up_to 9 (drop at l)) ≤ length l
field-within l at h = omega (arith, up_length 9 (drop at l), place_le (is 9) (drop at l), length-drop at l)

-- what the walks over fields meet, field by field
met-big : (fs : List Word) → any big_met (met_in fs) ≡ any too_big fs
unfolding met_in any too_big
met-big [] = refl
met-big (f ∷ fs) = any_append big_met (walk 0 [] f) (met_in fs) ∙ rw (met-big fs)

-- The terms that the fields spell.
pub big-terms : (fs : List Word) (ts : List Term) → terms_of fs ≡ some ts → any too_big fs ≡ any big_node (nodes ts)
big-terms fs ts h =
    let p = spell-terms fs ts h in sym (met-big fs) ∙ (ap (λ gs. any big_met (met_in gs)) (sym p.0) ∙ big_met_lem ts p.1)
