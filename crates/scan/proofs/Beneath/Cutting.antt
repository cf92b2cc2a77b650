-- A line that is cut is the first of the lines, and a field that is cut the k-th of the fields.
use Rattle.std.specs.Prelude.{ℕ, zero, suc, ◌+◌, ◌-◌, ◌≤◌, ◌<◌, ◌≡◌, refl, Bool, true, false, cond, List, [], ◌∷◌, ◌++◌, length, take, drop, get_or, eqb, Option, Some, None, Result, Ok, Err}
use Rattle.std.proofs.Common.{sym, ap, ◌∙◌, arith, sub-one, drop_of_length-le, take_all}
use Rattle.parts.specs.declared.faults.Fault.{Fault}
use Rattle.parts.specs.declared.faults.Fault.TheVariants.{BadByte}
use Rattle.std.proofs.Math.ListN.{length-drop}
use Rattle.std.proofs.Math.Seq.{drop-drop}
use Rattle.std.proofs.Math.Dec.{ltb, leb}
use Rattle.std.proofs.Common.{eqb-true, leb-true, leb-false, ltb-true, ltb-false}
use Rattle.texts.specs.Bytes.{all, lines, on_field, fields}
use Rattle.texts.specs.Splitting.{free}
use Rattle.texts.specs.Bytes.{ended_line}
use Rattle.texts.proofs.Beneath.Splitting.{lines_cons, lines_last}
use Rattle.scan.specs.Places.{place, is}
use Rattle.scan.specs.Cutting.{up_to, next_line, tabs, field_start}
use Rattle.scan.specs.Laws.Cutting.{EndedAt, UnendedAt, Told}

-- what is cut has none of the marks
pub cut-free : (m : ℕ) (l : List ℕ) → all (free m) (up_to m l) ≡ true
unfolding up_to place all free
cut-free m [] = refl
cut-free m (x ∷ xs) = go (eqb x m) refl (cut-free m xs)
  where
    go : (t : Bool) → eqb x m ≡ t → all (free m) (take (place (is m) xs) xs) ≡ true
        → all (free m) (take (cond t 0 (suc (place (is m) xs))) (x ∷ xs)) ≡ true
    go true e ih = refl
    go false e ih = rw e ih

-- and the first mark stands after it
pub cut-mark : (m : ℕ) (l : List ℕ) → place (is m) l < length l → up_to m l ++ (m ∷ drop (suc (place (is m) l)) l) ≡ l
unfolding up_to place
cut-mark m [] h = absurd (omega arith)
cut-mark m (x ∷ xs) h = go (eqb x m) refl h (cut-mark m xs)
  where
    go : (t : Bool) → eqb x m ≡ t → cond t 0 (suc (place (is m) xs)) < suc (length xs)
        → (place (is m) xs < length xs → take (place (is m) xs) xs ++ (m ∷ drop (suc (place (is m) xs)) xs) ≡ xs)
        → take (cond t 0 (suc (place (is m) xs))) (x ∷ xs) ++ (m ∷ drop (cond t 0 (suc (place (is m) xs))) xs) ≡ x ∷ xs
    go true e k ih = ap (λ (y : ℕ). y ∷ xs) (sym (eqb-true x m e))
    go false e k ih = ap (λ (ys : List ℕ). x ∷ ys) (ih (omega arith))

-- where there is no mark, all is cut
pub cut_all : (m : ℕ) (l : List ℕ) → length l ≤ place (is m) l → up_to m l ≡ l
unfolding up_to
cut_all m l h = take_all (place (is m) l) l h

-- the lines of a text that has a newline
lines-mark : (l : List ℕ) → place (is 10) l < length l
    → lines l ≡ ended_line (up_to 10 l) ∷ lines (drop (suc (place (is 10) l)) l)
lines-mark l h =
    ap lines (sym (cut-mark 10 l h)) ∙ lines_cons (up_to 10 l) (drop (suc (place (is 10) l)) l) (cut-free 10 l)

-- of one that has none
lines_none : (l : List ℕ) → 0 < length l → length l ≤ place (is 10) l
    → lines l ≡ record { bytes = l; ended = false } ∷ []
lines_none [] h k = absurd (omega arith)
lines_none (b ∷ bs) h k = lines_last b bs (rw (cut_all 10 (b ∷ bs) k) at (cut-free 10 (b ∷ bs)))

-- the line that begins at a place, by what the line cutter says of it
module _ (text : List ℕ) (at : ℕ) where
  ended_at : place (is 10) (drop at text) < length (drop at text) → EndedAt text at (at + place (is 10) (drop at text))
  unfolding up_to
  ended_at h =
      let n = place (is 10) (drop at text) in
      let z : at + n - at ≡ n = omega arith in
      let y : suc (at + n) ≡ at + suc n = omega arith in
      record {
        begins = omega arith;
        within = omega (arith, length-drop at text);
        bytes = rw z;
        rest = lines-mark (drop at text) h ∙ rw (y, ← drop-drop (suc n) at text);
      }

  pub told_line : Told text at (next_line text at)
  unfolding next_line Told lines
  told_line = go (leb (length text) at) (ltb (place (is 10) (drop at text)) (length (drop at text))) refl refl
    where
      go : (t u : Bool) → leb (length text) at ≡ t → ltb (place (is 10) (drop at text)) (length (drop at text)) ≡ u
          → Told text at (cond t (Ok None) (cond u (Ok (Some (at + place (is 10) (drop at text)))) (Err BadByte)))
      go true u e k = ap lines (drop_of_length-le text (leb-true (length text) at e))
      go false true e k = ended_at (ltb-true (place (is 10) (drop at text)) (length (drop at text)) k)
      go false false e k = record {
        number = refl;
        last =
            lines_none (drop at text) (omega (arith, length-drop at text, leb-false (length text) at e))
            (ltb-false (place (is 10) (drop at text)) (length (drop at text)) k);
      }

  -- and one by one, of an answer r
  module _ {r : Result (Option ℕ) Fault} (is : r ≡ next_line text at) where
    pub ended_line_lem : {e : ℕ} → r ≡ Ok (Some e) → EndedAt text at e
    unfolding Told
    ended_line_lem h = rw (← is, h) at told_line

    -- the same where a pattern or a `?` tells of the two in turn
    pub ended_line_in : {o : Option ℕ} → r ≡ Ok o → {e : ℕ} → o ≡ Some e → EndedAt text at e
    ended_line_in h k = ended_line_lem (h ∙ ap Ok k)

    pub unended_at : {f : Fault} → r ≡ Err f → UnendedAt text at f
    unfolding Told
    unended_at h = rw (← is, h) at told_line

    pub unended_line : {f : Fault} → r ≡ Err f → lines (drop at text) ≡ record { bytes = drop at text; ended = false } ∷ []
    unended_line h = (unended_at h).last

    -- which is number 2
    pub unended_fault : {f : Fault} → r ≡ Err f → f ≡ BadByte
    unended_fault h = (unended_at h).number

    pub no_line : r ≡ Ok None → lines (drop at text) ≡ []
    unfolding Told
    no_line h = rw (← is, h) at told_line

    pub no_line_in : {o : Option ℕ} → r ≡ Ok o → o ≡ None → lines (drop at text) ≡ []
    no_line_in h k = no_line (h ∙ ap Ok k)

-- the fields of a line
on_length : (b : ℕ) (fs : List (List ℕ)) → length (on_field b fs) ≡ length fs
unfolding on_field
on_length b [] = refl
on_length b (f ∷ fs) = refl

-- a tab more is a field more
pub count-cons : (b : ℕ) (bs : List ℕ) → length (fields (b ∷ bs)) ≡ tabs b + length (fields bs)
unfolding fields tabs
count-cons b bs = go (eqb b 9)
  where
    go : (t : Bool) → length (cond t ([] ∷ fields bs) (on_field b (fields bs))) ≡ cond t 1 0 + length (fields bs)
    go true = omega arith
    go false = omega (arith, on_length b (fields bs))

pub start_le : (l : List ℕ) (k : ℕ) → field_start l k ≤ length l
unfolding field_start
start_le [] k = omega arith
start_le (b ∷ bs) zero = omega arith
start_le (b ∷ bs) (suc k) = omega (arith, start_le bs (suc k - tabs b))

on_first : (b : ℕ) (bs : List ℕ) (t : Bool) (fs : List (List ℕ)) → 0 < length fs
    → take (place (is 9) bs) bs ≡ get_or fs 0 []
    → take (cond t 0 (suc (place (is 9) bs))) (b ∷ bs) ≡ get_or (cond t ([] ∷ fs) (on_field b fs)) 0 []
unfolding on_field
on_first b bs true fs h e = refl
on_first b bs false [] h e = absurd (omega arith)
on_first b bs false (f ∷ fs) h e = ap (λ (xs : List ℕ). b ∷ xs) e

some_field : (l : List ℕ) → 0 < length (fields l)
unfolding fields
some_field [] = omega arith
some_field (b ∷ bs) = omega (arith, count-cons b bs, some_field bs)

first_field : (l : List ℕ) → up_to 9 l ≡ get_or (fields l) 0 []
unfolding up_to fields place
first_field [] = refl
first_field (b ∷ bs) = on_first b bs (eqb b 9) (fields bs) (some_field bs) (first_field bs)

on_later : (b k : ℕ) (fs : List (List ℕ)) → get_or (on_field b fs) (suc k) [] ≡ get_or fs (suc k) []
unfolding on_field
on_later b k [] = refl
on_later b k (f ∷ fs) = refl

no_field : (k : ℕ) → up_to 9 [] ≡ get_or (fields []) k []
unfolding up_to fields place
no_field zero = refl
no_field (suc k) = refl

later-field : (b : ℕ) (bs : List ℕ) (k : ℕ) → get_or (fields bs) (suc k - tabs b) [] ≡ get_or (fields (b ∷ bs)) (suc k) []
unfolding tabs fields
later-field b bs k = go (eqb b 9)
  where
    go : (t : Bool)
        → get_or (fields bs) (suc k - cond t 1 0) [] ≡ get_or (cond t ([] ∷ fields bs) (on_field b (fields bs))) (suc k) []
    go true = rw sub-one
    go false = let z : suc k - 0 ≡ suc k = omega arith in rw z (sym (on_later b k (fields bs)))

-- the part up to the next tab from where field k begins is field k
pub field_cut : (l : List ℕ) (k : ℕ) → up_to 9 (drop (field_start l k) l) ≡ get_or (fields l) k []
unfolding field_start
field_cut [] k = no_field k
field_cut (b ∷ bs) zero = first_field (b ∷ bs)
field_cut (b ∷ bs) (suc k) = field_cut bs (suc k - tabs b) ∙ later-field b bs k
