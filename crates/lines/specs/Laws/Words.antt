-- The words of a part of a line are those of its fields, and where the fields spell terms those of the terms.
use Rattle.std.specs.Prelude.{ℕ, zero, suc, ◌+◌, ◌≤◌, ◌≡◌, refl, Bool, true, false, cond, List, [], ◌∷◌, ◌++◌, map, length, take, drop}
use Rattle.std.proofs.Common.{sym, ◌∙◌, append_assoc, append-nil, arith, length-append, take_all}
use Rattle.std.proofs.Math.Path.{ap}
use Rattle.std.proofs.lemmas.List.{map-append}
use Rattle.std.proofs.Math.Option.{some}
use Rattle.std.proofs.Math.Seq.{drop-nil, drop-length, drop-append-add, take-append-add}
use Rattle.texts.specs.Bytes.{Word, keep, fields, letter, digit, word_byte}
use Rattle.texts.specs.Terms.{Term, nodes, words_of}
use Rattle.texts.specs.Books.{Agent, declared, cells_of}
use Rattle.texts.specs.RuleText.{terms_of}
use Rattle.texts.proofs.Beneath.Splitting.{fields-cons, fields_last}
use Rattle.texts.proofs.Beneath.Means.{spell-terms}
use Rattle.texts.specs.Passes.{met_in}
use Rattle.texts.proofs.Beneath.Passes.{met-nodes, words-seen}
use Rattle.texts.specs.Walk.{Met, depth, met, walk}
use Rattle.scan.specs.Cutting.{field_start}
use Rattle.scan.specs.Words.{words_in}
use Rattle.scan.specs.Laws.Wording.{level-free}
use Rattle.lines.specs.Words.{words_of_all}
use Rattle.lines.specs.Laws.Fields.{Cut, more, only, cut, start_zero, start_more, start_only}

abbrev word_of : Met → Word
word_of m = m.word

-- a tab parts words
walk-tab : (w : Word) (d : ℕ) (rest : List ℕ) → walk d w (9 ∷ rest) ≡ met w d ++ walk d [] rest
unfolding walk depth word_byte letter digit
walk-tab w d rest = refl

tab-parts : (f rest : List ℕ) (w : Word) (d : ℕ)
    → map word_of (walk d w (f ++ (9 ∷ rest))) ≡ map word_of (walk d w f) ++ words_in rest
unfolding walk words_in
tab-parts [] rest w d =
    ap (map word_of) (walk-tab w d rest)
    ∙ (map-append word_of (met w d) (walk d [] rest) ∙ rw (level-free rest [] d 0))
tab-parts (b ∷ f) rest w d =
    go (word_byte b) (tab-parts f rest (w ++ (b ∷ [])) d) (tab-parts f rest [] (depth d b))
  where
    go : (t : Bool) → map word_of (walk d (w ++ (b ∷ [])) (f ++ (9 ∷ rest))) ≡ map word_of (walk d (w ++ (b ∷ [])) f) ++ words_in rest
        → map word_of (walk (depth d b) [] (f ++ (9 ∷ rest))) ≡ map word_of (walk (depth d b) [] f) ++ words_in rest
        → map word_of (cond t (walk d (w ++ (b ∷ [])) (f ++ (9 ∷ rest))) (met w d ++ walk (depth d b) [] (f ++ (9 ∷ rest))))
        ≡ map word_of (cond t (walk d (w ++ (b ∷ [])) f) (met w d ++ walk (depth d b) [] f)) ++ words_in rest
    go true p q = p
    go false p q =
        map-append word_of (met w d) (walk (depth d b) [] (f ++ (9 ∷ rest)))
        ∙ (rw (q, map-append word_of (met w d) (walk (depth d b) [] f), append_assoc))

pub words-tab : (f rest : List ℕ) → words_in (f ++ (9 ∷ rest)) ≡ words_in f ++ words_in rest
unfolding words_in
words-tab f rest = tab-parts f rest [] 0

pub words_none : words_in [] ≡ []
unfolding words_in walk met
words_none = refl

one_field : (l : List ℕ) (m : ℕ) → words_in l ≡ words_of_all (take (suc m) (l ∷ []))
unfolding words_of_all
one_field l zero = sym (append-nil (words_in l))
one_field l (suc m) = sym (append-nil (words_in l))

-- The part of m fields from its start, with the tabs after them.
pub words_take : (l : List ℕ) (m : ℕ) → words_in (take (field_start l m) l) ≡ words_of_all (take m (fields l))
unfolding words_of_all
words_take l zero = rw start_zero words_none
words_take l (suc m) = go (cut l) (λ r. words_take r m)
  where
    go : Cut l → ((r : List ℕ) → words_in (take (field_start r m) r) ≡ words_of_all (take m (fields r)))
        → words_in (take (field_start l (suc m)) l) ≡ words_of_all (take (suc m) (fields l))
    go (more f rest ok e) ih =
        rw (e, fields-cons f rest ok, start_more f rest m ok, take-append-add f (9 ∷ rest) (suc (field_start rest m)))
        (words-tab f (take (field_start rest m) rest) ∙ ap (λ ws. words_in f ++ ws) (ih rest))
    go (only ok) ih =
        rw (fields_last l ok, start_only l m ok) (ap words_in (take_all (length l) l (omega arith)) ∙ one_field l m)

past_one : (l : Word) (k : ℕ) → drop (suc k) (l ∷ []) ≡ []
past_one l k = drop-nil k

-- past the last field the line ends
starts_end : (l : List ℕ) (k : ℕ) → length (fields l) ≤ k → length l ≤ field_start l k
starts_end l zero h = absurd (go (cut l))
  where
    go : Cut l → ⊥
    go (more f rest ok e) = omega (arith, ap length (ap fields e ∙ fields-cons f rest ok))
    go (only ok) = omega (arith, ap length (fields_last l ok))
starts_end l (suc k) h = go (cut l) (λ r. starts_end r k)
  where
    go : Cut l → ((r : List ℕ) → length (fields r) ≤ k → length r ≤ field_start r k) → length l ≤ field_start l (suc k)
    go (more f rest ok e) ih =
        let n : length (fields l) ≡ suc (length (fields rest)) = ap length (ap fields e ∙ fields-cons f rest ok) in
        let d : length l ≡ length f + suc (length rest) = ap length e ∙ length-append f (9 ∷ rest) in
        omega (arith, ih rest (omega arith), ap (λ x. field_start x (suc k)) e, start_more f rest k ok)
    go (only ok) ih = omega (arith, start_only l k ok)

-- All fields.
words_all : (l : List ℕ) → words_in l ≡ words_of_all (fields l)
words_all l =
    sym (ap words_in (take_all (field_start l (length (fields l))) l (starts_end l (length (fields l)) (omega arith))))
    ∙ (words_take l (length (fields l)) ∙ ap words_of_all (take_all (length (fields l)) (fields l) (omega arith)))

-- The part from field k on.
pub words-drop : (l : List ℕ) (k : ℕ) → words_in (drop (field_start l k) l) ≡ words_of_all (drop k (fields l))
unfolding words_of_all
words-drop l zero = rw start_zero (words_all l)
words-drop l (suc k) = go (cut l) (λ r. words-drop r k)
  where
    go : Cut l → ((r : List ℕ) → words_in (drop (field_start r k) r) ≡ words_of_all (drop k (fields r)))
        → words_in (drop (field_start l (suc k)) l) ≡ words_of_all (drop (suc k) (fields l))
    go (more f rest ok e) ih =
        rw (e, fields-cons f rest ok, start_more f rest k ok, drop-append-add f (9 ∷ rest) (suc (field_start rest k))) (ih rest)
    go (only ok) ih = rw (fields_last l ok, start_only l k ok, drop-length l, past_one l k) words_none

-- Fields that spell terms have the words of the terms.
all_met : (fs : List Word) → words_of_all fs ≡ map word_of (met_in fs)
unfolding words_of_all met_in words_in
all_met [] = refl
all_met (f ∷ fs) = rw (all_met fs) (sym (map-append word_of (walk 0 [] f) (met_in fs)))

pub words-terms : (fs : List Word) (ts : List Term) → terms_of fs ≡ some ts → words_of_all fs ≡ words_of (nodes ts)
words-terms fs ts h =
    let p = spell-terms fs ts h in
    all_met fs ∙ (ap (λ gs. map word_of (met_in gs)) (sym p.0) ∙ (ap (map word_of) (met-nodes ts p.1) ∙ words-seen (nodes ts)))

-- The words of the part from field k on, where the fields spell terms: what `cells_in` counts of it are the cells.
module _ (l : List ℕ) (k : ℕ) (ts : List Term) (h : terms_of (drop k (fields l)) ≡ some ts) where
  pub part-words : words_in (drop (field_start l k) l) ≡ words_of (nodes ts)
  part-words = words-drop l k ∙ words-terms (drop k (fields l)) ts h

  pub part-cells : (ags : List Agent) → keep (declared ags) (words_in (drop (field_start l k) l)) ≡ cells_of ags ts
  unfolding cells_of
  part-cells ags = ap (keep (declared ags)) part-words
