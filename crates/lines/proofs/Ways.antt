-- One law for each way out of the functions over fields, and of the look-up of a word.
use Prim.Native.Nat.{ℕ, ◌≤◌, ◌<◌}
use mathlib.Core.Path.{◌≡◌, refl, sym, ap, ◌∙◌}
use mathlib.Core.Bool.{Bool, true, false, cond}
use mathlib.Core.List.{List, [], ◌∷◌}
use mathlib.Core.Option.{Option, none, some}
use native.Mathlib.Omega.{arith}
use lib.Dec.{ltb}
use lib.ListN.{length, get_or, take, drop, length-drop, drop_of_length-le}
use lib.Seq.{take_all}
use borrow.Author.Tests.{le-ltb}
use Rattle.texts.specs.Bytes.{Word, any, same, fields}
use Rattle.texts.specs.Terms.{Term, nodes}
use Rattle.texts.specs.Books.{Agent, declared}
use Rattle.texts.specs.Answers.{absent}
use Rattle.texts.specs.RuleText.{Counts, header_of, terms_of, big_node}
use Rattle.texts.specs.Passes.{misspelt}
use Rattle.texts.proofs.Beneath.Passes.{terms-absent}
use Rattle.scan.specs.Cutting.{field_start}
use Rattle.field_tests.specs.Spelled.{misspelt_at, wrong_at}
use Rattle.field_tests.specs.Sized.{big_at}
use Rattle.field_tests.specs.Laws.Spelling.{right_spelled, wrong-spelled}
use Rattle.field_tests.specs.Laws.Sizing.{big-exact}
use Rattle.terms.specs.Words.{found}
use Rattle.terms.proofs.Beneath.Numbers.{found-agent, found_none}
use Rattle.terms.specs.declared.words.Agent.{Agent as Known}
use Rattle.std.specs.Prelude as Prelude
use Rattle.std.specs.Prelude.{is_some, Result, Ok, Err, is_err}
use Rattle.lines.specs.Fields.{both_counts, too_big}
use Rattle.lines.specs.Laws.Fields.{fields-drop, big-terms}

-- a header
module _ (w : Word) (fs : List Word) (n : ℕ) (e : n ≡ length fs) where
  pub header-count : (n ≡ 3 → ⊥) → none ≡ header_of w fs
  unfolding header_of
  header-count h = go fs (λ k. h (e ∙ k))
    where
      go : (gs : List Word) → (length gs ≡ 3 → ⊥) → none ≡ header_of w gs
      go [] k = refl
      go (f ∷ []) k = refl
      go (f ∷ g ∷ []) k = refl
      go (f ∷ g ∷ i ∷ []) k = absurd (k refl)
      go (f ∷ g ∷ i ∷ j ∷ gs) k = refl

  header-three : n ≡ 3 → header_of w fs ≡ cond (same (get_or fs 0 []) w) (both_counts (get_or fs 1 []) (get_or fs 2 [])) none
  unfolding header_of both_counts
  header-three h = go fs (sym e ∙ h)
    where
      go : (gs : List Word) → length gs ≡ 3
          → header_of w gs ≡ cond (same (get_or gs 0 []) w) (both_counts (get_or gs 1 []) (get_or gs 2 [])) none
      go [] k = absurd (omega arith)
      go (f ∷ []) k = absurd (omega arith)
      go (f ∷ g ∷ []) k = absurd (omega arith)
      go (f ∷ g ∷ i ∷ []) k = refl
      go (f ∷ g ∷ i ∷ j ∷ gs) k = absurd (omega arith)

  module _ (three : n ≡ 3) (f : Word) (first : f ≡ get_or fs 0 []) (t : Bool) (s : t ≡ same f w) where
    pub header_other : t ≡ false → none ≡ header_of w fs
    header_other h = rw (header-three three, ← first, ← s, h)

    pub header_read : t ≡ true → (g i : Word) → g ≡ get_or fs 1 [] → i ≡ get_or fs 2 [] → {o : Option Counts}
        → o ≡ both_counts g i → o ≡ header_of w fs
    header_read h g i eg ei q = q ∙ rw (header-three three, ← first, ← s, h, eg, ei)

-- a part from a place on
pub part-from : (l : List ℕ) (at s : ℕ) (r : List ℕ) → at ≡ s → r ≡ take (length l) (drop at l) → r ≡ drop s l
part-from l at s r e q = q ∙ rw e (take_all (length l) (drop s l) (omega (arith, length-drop s l)))

-- one field
pub spelt : (l : Word) (q : Result (Unit {0}) ℕ) → wrong_at q ≡ misspelt_at l → is_err q ≡ misspelt l
spelt l (Ok x) e = sym (right_spelled l e)
spelt l (Err n) e = sym (wrong-spelled l n e).0

pub field-big : (l : Word) (n : ℕ) → n ≡ big_at l → ltb n (length l) ≡ too_big l
unfolding too_big
field-big l n e = rw e (big-exact l)

-- the fields from number k on
module _ (l : List ℕ) (k n : ℕ) (e : n ≡ length (fields l)) where
  module _ (few : n ≤ k) where
    none_left : drop k (fields l) ≡ []
    none_left = drop_of_length-le (fields l) (rw e at few)

    pub misspelt_none : ltb k n ≡ absent (terms_of (drop k (fields l)))
    unfolding absent terms_of
    misspelt_none = le-ltb k n few ∙ rw none_left refl

    pub oversized_none : (ts : List Term) → terms_of (drop k (fields l)) ≡ some ts → ltb k n ≡ any big_node (nodes ts)
    unfolding any
    oversized_none ts h = le-ltb k n few ∙ rw none_left at (big-terms (drop k (fields l)) ts h)

  module _ (more : k < n) (p : List ℕ) (q : p ≡ drop (field_start l k) l) where
    here : fields p ≡ drop k (fields l)
    here = ap fields q ∙ sym (fields-drop l k (rw e at more))

    pub misspelt_some : {r : Bool} → r ≡ any misspelt (fields p) → r ≡ absent (terms_of (drop k (fields l)))
    misspelt_some h = h ∙ (ap (any misspelt) here ∙ sym (terms-absent (drop k (fields l))))

    pub oversized_some : {r : Bool} → r ≡ any too_big (fields p)
        → (ts : List Term) → terms_of (drop k (fields l)) ≡ some ts → r ≡ any big_node (nodes ts)
    oversized_some h ts j = h ∙ (ap (any too_big) here ∙ big-terms (drop k (fields l)) ts j)

-- a word looked up
pub word_known : (ags : List Agent) (w : Word) {f : Prelude.Option Known} → f ≡ found 0 ags w → is_some f ≡ declared ags w
word_known ags w {f} e = go (declared ags w) refl
  where
    go : (t : Bool) → declared ags w ≡ t → is_some f ≡ t
    go true d = ap is_some (e ∙ found-agent ags w 0 d)
    go false d = ap is_some (e ∙ found_none ags w 0 d)
