-- The fields of a line from its k-th on, where the field cutter says that it begins. Assumes nothing.
use Rattle.std.specs.Prelude.{ℕ, zero, suc, ◌+◌, ◌-◌, ◌<◌, ◌≤◌, ◌≡◌, refl, Bool, true, false, cond, List, [], ◌∷◌, ◌++◌, eqb, ltb, length, take, drop}
use Rattle.std.proofs.Common.{sym, ap, ◌∙◌, append_assoc, sub-one, arith, length-drop, take-append-drop, drop_of_length-le, length-take-le, take_at, ltb-true, ltb-false}
use Rattle.texts.specs.Bytes.{Word, on_field, fields}
use Rattle.scan.specs.Cutting.{tabs, field_start}
use Rattle.scan.proofs.Beneath.Cutting.{count-cons, start_le}
use Rattle.terms.proofs.Beneath.Spelt.{skip}
use Rattle.line_terms.specs.Meaning.{Parted}
use Rattle.line_terms.specs.Proofs.Cut.{line-length, standing, parted_none, parted_some}

on_drop : (b k : ℕ) (fs : List Word) → drop (suc k) (on_field b fs) ≡ drop (suc k) fs
unfolding on_field
on_drop b k [] = refl
on_drop b k (f ∷ fs) = refl

later : (b : ℕ) (bs : List ℕ) (k : ℕ) → drop (suc k - tabs b) (fields bs) ≡ drop (suc k) (fields (b ∷ bs))
unfolding tabs fields
later b bs k = go (eqb b 9)
  where
    go : (t : Bool)
        → drop (suc k - cond t 1 0) (fields bs) ≡ drop (suc k) (cond t ([] ∷ fields bs) (on_field b (fields bs)))
    go true = rw sub-one
    go false = let z : suc k - 0 ≡ suc k = omega arith in rw z (sym (on_drop b k (fields bs)))

tabs-small : (b : ℕ) → tabs b ≤ 1
unfolding tabs
tabs-small b = go (eqb b 9)
  where
    go : (t : Bool) → cond t 1 0 ≤ 1
    go true = omega arith
    go false = omega arith

one_field : length (fields []) ≡ 1
unfolding fields
one_field = refl

fields_at : (l : List ℕ) (k : ℕ) → k < length (fields l) → fields (drop (field_start l k) l) ≡ drop k (fields l)
unfolding field_start
fields_at [] zero h = refl
fields_at [] (suc k) h = absurd (omega (arith, one_field))
fields_at (b ∷ bs) zero h = refl
fields_at (b ∷ bs) (suc k) h =
    fields_at bs (suc k - tabs b) (omega (arith, count-cons b bs, tabs-small b)) ∙ later b bs k

module _ (text : List ℕ) (from to : ℕ) (order : from ≤ to) (within : to ≤ length text) where
  -- a line without its first j bytes
  cut_off : (j : ℕ) → j ≤ to - from
      → take (to - (from + j)) (drop (from + j) text) ≡ drop j (take (to - from) (drop from text))
  cut_off j h =
      let line : List ℕ = take (to - from) (drop from text) in
      let long : length line ≡ to - from = line-length text from to order within in
      let front : length (take j line) ≡ j = length-take-le j line (omega arith) in
      let e : drop from text ≡ take j line ++ (drop j line ++ drop to text) =
      standing text from to order within
      ∙ (ap (λ (x : List ℕ). x ++ drop to text) (sym (take-append-drop j line)) ∙ append_assoc (take j line) (drop j line) (drop to text)) in
      let d : drop (from + j) text ≡ drop j line ++ drop to text = rw front at (skip text from (take j line) (drop j line ++ drop to text) e) in
      rw d (take_at (drop j line) (drop to text) (to - (from + j)) (length-drop j line ∙ omega arith))

  pub parted_at : (k : ℕ)
      → Parted text (from + field_start (take (to - from) (drop from text)) k) to (drop k (fields (take (to - from) (drop from text))))
  parted_at k = go (ltb k (length (fields (take (to - from) (drop from text))))) refl
    where
      line : List ℕ
      line = take (to - from) (drop from text)

      go : (t : Bool) → ltb k (length (fields line)) ≡ t → Parted text (from + field_start line k) to (drop k (fields line))
      go true h =
          let s : field_start line k ≤ to - from = omega (arith, start_le line k, line-length text from to order within) in
          parted_some text (from + field_start line k) to (drop k (fields line)) (omega arith)
          (sym (fields_at line k (ltb-true k (length (fields line)) h)) ∙ ap fields (sym (cut_off (field_start line k) s)))
      go false h =
          parted_none text (from + field_start line k) to (drop k (fields line)) (drop_of_length-le (fields line) (ltb-false k (length (fields line)) h))
