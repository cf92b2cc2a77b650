-- The first field of a line that is cut, and the line that is left after it. Assumes nothing.
use Rattle.std.specs.Prelude.{ℕ, suc, ◌+◌, ◌-◌, ◌<◌, ◌≤◌, ◌≡◌, refl, Bool, true, false, length, take, ltb, List, [], ◌∷◌, ◌++◌, drop}
use Rattle.std.proofs.Common.{sym, ap, ◌∙◌, length-drop, take-append-drop, take-take, drop-drop, take_at, ltb-true, ltb-false, append_assoc, arith, length-take-le}
use Rattle.std.proofs.Math.Option.{some}
use Rattle.texts.specs.Bytes.{Word, word_byte, letter, digit, fields}
use Rattle.texts.specs.Terms.{Term}
use Rattle.texts.specs.Answers.{◌>>=◌}
use Rattle.texts.specs.RuleText.{terms_of}
use Rattle.texts.specs.Reader.{term_of}
use Rattle.texts.proofs.Beneath.Tools.{found}
use Rattle.texts.proofs.Beneath.Splitting.{fields-cons, fields_last}
use Rattle.scan.specs.Places.{place, is}
use Rattle.scan.specs.Cutting.{up_to}
use Rattle.scan.specs.Laws.Placing.{place_le}
use Rattle.scan.proofs.Beneath.Cutting.{cut-free, cut-mark, cut_all}
use Rattle.terms.specs.Meaning.{Stops, Spells}
use Rattle.terms.proofs.Beneath.Spelt.{skip, skip_one}
use Rattle.line_terms.specs.Fields.{field_end}
use Rattle.line_terms.specs.Meaning.{Parted, Cut, Written}

-- what can stand after a field
pub tab-stops : (b : List ℕ) → Stops (9 ∷ b)
unfolding Stops word_byte letter digit
tab-stops b = (refl, λ e. omega arith)

pub newline_stops : (b : List ℕ) → Stops (10 ∷ b)
unfolding Stops word_byte letter digit
newline_stops b = (refl, λ e. omega arith)

first_of : {f g : Word} {fs gs : List Word} → f ∷ fs ≡ g ∷ gs → f ≡ g
first_of e = cc

rest_of : {f g : Word} {fs gs : List Word} → f ∷ fs ≡ g ∷ gs → fs ≡ gs
rest_of e = cc

pub parted_none : (text : List ℕ) (from to : ℕ) (fs : List Word) → fs ≡ [] → Parted text from to fs
unfolding Parted
parted_none text from to fs e = rw e tt

pub parted_some : (text : List ℕ) (from to : ℕ) (fs : List Word) → from ≤ to
    → fs ≡ fields (take (to - from) (drop from text)) → Parted text from to fs
unfolding Parted
parted_some text from to [] h e = tt
parted_some text from to (f ∷ fs) h e = (h, sym e)

module _ (text : List ℕ) (from to : ℕ) (order : from ≤ to) (within : to ≤ length text) where
  abbrev line : List ℕ
  line = take (to - from) (drop from text)

  abbrev end : ℕ
  end = place (is 9) line

  pub line-length : length (take (to - from) (drop from text)) ≡ to - from
  line-length = length-take-le (to - from) (drop from text) (omega (arith, length-drop from text))

  end_le : end ≤ to - from
  end_le = omega (arith, place_le (is 9) line, line-length)

  pub standing : drop from text ≡ take (to - from) (drop from text) ++ drop to text
  standing =
      let z : from + (to - from) ≡ to = omega arith in
      sym (take-append-drop (to - from) (drop from text)) ∙ ap (λ (x : List ℕ). line ++ x) (drop-drop (to - from) from text ∙ rw z)

  field_is : take (from + end - from) (drop from text) ≡ up_to 9 line
  unfolding up_to
  field_is =
      let z : from + end - from ≡ end = omega arith in
      rw z (sym (take-take end (to - from) (drop from text) end_le))

  field-length : length (up_to 9 line) ≡ end
  unfolding up_to
  field-length = length-take-le end line (omega (arith, end_le, line-length))

  -- a tab stands after it
  module _ (tab : end < length line) where
    abbrev after : List ℕ
    after = drop (suc end) line

    marked : up_to 9 line ++ (9 ∷ after) ≡ line
    marked = cut-mark 9 line tab

    here : drop (from + end) text ≡ 9 ∷ (after ++ drop to text)
    here =
        rw field-length at
        (skip text from (up_to 9 line) (9 ∷ (after ++ drop to text))
        (standing ∙ (ap (λ (x : List ℕ). x ++ drop to text) (sym marked) ∙ append_assoc (up_to 9 line) (9 ∷ after) (drop to text))))

    after_is : take (to - (from + end + 1)) (drop (from + end + 1) text) ≡ after
    after_is =
        rw (skip_one text (from + end) 9 (after ++ drop to text) here)
        (take_at after (drop to text) (to - (from + end + 1)) (length-drop (suc end) line ∙ omega (arith, line-length)))

    cut-tab : (f : Word) (fs : List Word) → fields line ≡ f ∷ fs → Cut text from to f fs
    unfolding field_end
    cut-tab f fs e =
        let p : fields line ≡ up_to 9 line ∷ fields after = ap fields (sym marked) ∙ fields-cons (up_to 9 line) after (cut-free 9 line) in
        let q : f ∷ fs ≡ up_to 9 line ∷ fields after = sym e ∙ p in
        record {
          begins = omega arith;
          ends = omega (arith, end_le);
          field = field_is ∙ sym (first_of q);
          stops = rw here (tab-stops (after ++ drop to text));
          rest = parted_some text (from + end + 1) to fs (omega (arith, line-length)) (rest_of q ∙ ap fields (sym after_is));
        }

  -- it is the last one
  cut_last : Stops (drop to text) → length line ≤ end → (f : Word) (fs : List Word) → fields line ≡ f ∷ fs
      → Cut text from to f fs
  unfolding field_end
  cut_last st last f fs e =
      let a : up_to 9 line ≡ line = cut_all 9 line last in
      let q : f ∷ fs ≡ line ∷ [] = sym e ∙ fields_last line (rw a at (cut-free 9 line)) in
      let z : from + end ≡ to = omega (arith, end_le, line-length) in
      record {
        begins = omega arith;
        ends = omega (arith, end_le);
        field = field_is ∙ (a ∙ sym (first_of q));
        stops = rw z st;
        rest = parted_none text (from + end + 1) to fs (rest_of q);
      }

  pub cut : Stops (drop to text) → (f : Word) (fs : List Word) → fields (take (to - from) (drop from text)) ≡ f ∷ fs
      → Cut text from to f fs
  cut st f fs e = go (ltb end (length line)) refl
    where
      go : (t : Bool) → ltb end (length line) ≡ t → Cut text from to f fs
      go true h = cut-tab (ltb-true end (length line) h) f fs e
      go false h = cut_last st (ltb-false end (length line) h) f fs e

-- the first term of a line, and the line after its field
pub record First (text : List ℕ) (from to : ℕ) (fs : List Word) (t : Term) (ts : List Term) : Type 0 where
  pub order : from ≤ to
  pub ends : field_end text from to ≤ to
  pub spells : Spells text from (field_end text from to) t
  pub rest : Written text (field_end text from to + 1) to fs ts

parted : (text : List ℕ) (from to : ℕ) (f : Word) (fs : List Word) → Parted text from to (f ∷ fs)
    → (from ≤ to) × (fields (take (to - from) (drop from text)) ≡ f ∷ fs)
unfolding Parted
parted text from to f fs h = h

pub first_field : (text : List ℕ) (from to : ℕ) (f : Word) (fs : List Word) → to ≤ length text → Stops (drop to text)
    → Parted text from to (f ∷ fs) → Cut text from to f fs
first_field text from to f fs h st p =
    let q = parted text from to f fs p in cut text from to q.0 h st f fs q.1

equation_terms : (f : Word) (fs : List Word) (ts : List Term) → terms_of (f ∷ fs) ≡ some ts
    → (t : Term) × (us : List Term) × (term_of f ≡ some t) × (terms_of fs ≡ some us) × (ts ≡ t ∷ us)
unfolding terms_of
equation_terms f fs ts h =
    let p = found (term_of f) (λ t. terms_of fs >>= λ us. some (t ∷ us)) h in
    let q = found (terms_of fs) (λ us. some (p.0 ∷ us)) p.2 in
    (p.0, q.0, p.1, q.1, some_is q.2)
  where
    some_is : {x y : List Term} → some x ≡ some y → y ≡ x
    some_is e = cc

-- fields and terms are as many
pub no_terms : (text : List ℕ) (from to : ℕ) (ts : List Term) → Written text from to [] ts → ts ≡ []
unfolding terms_of
no_terms text from to ts w = go w.terms
  where
    go : some [] ≡ some ts → ts ≡ []
    go e = cc

pub some_terms : (text : List ℕ) (from to : ℕ) (f : Word) (fs : List Word) (ts : List Term)
    → Written text from to (f ∷ fs) ts
    → (t : Term) × (us : List Term) × (ts ≡ t ∷ us) × First text from to fs t us
some_terms text from to f fs ts w =
    let p = parted text from to f fs w.parted in
    let c = first_field text from to f fs w.within w.stops w.parted in
    let q = equation_terms f fs ts w.terms in (
      q.0,
      q.1,
      q.4,
      record {
        order = p.0;
        ends = c.ends;
        spells = record { order = c.begins; within = omega (arith, c.ends, w.within); spells = ap term_of c.field ∙ q.2; stops = c.stops };
        rest = record { within = w.within; stops = w.stops; parted = c.rest; terms = q.3 };
      },
    )
