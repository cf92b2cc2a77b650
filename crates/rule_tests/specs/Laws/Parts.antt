-- The words of a rule's line, of its left fields and of its right side.
use Rattle.std.specs.Prelude.{◌≡◌, refl, ℕ, get_or, take, drop}
use Rattle.std.proofs.Common.{sym, ap, ◌∙◌}
use mathlib.Core.List.{List, [], ◌∷◌, ◌++◌}
use Rattle.std.proofs.Math.Option.{some}
use Rattle.texts.specs.Bytes.{Word, fields}
use Rattle.texts.specs.Terms.{Term, nodes, words_of}
use Rattle.texts.specs.Books.{Rule, lefts, rights}
use Rattle.texts.specs.Answers.{◌>>=◌}
use Rattle.texts.specs.RuleText.{terms_of}
use Rattle.texts.specs.Reader.{term_of}
use Rattle.scan.specs.Cutting.{field_start}
use Rattle.scan.specs.Words.{words_in}
use Rattle.lines.specs.Words.{words_of_all}
use Rattle.lines.specs.Laws.Fields.{start_zero}
use Rattle.lines.specs.Laws.Words.{words_take, words-terms, part-words}
use Rattle.rule_tests.specs.Fields.{Fields}

-- The terms of a list of fields, of which the first is known.
pub terms-cons : (f : Word) (fs : List Word) (t : Term) (ts : List Term) → term_of f ≡ some t → terms_of fs ≡ some ts → terms_of (f ∷ fs) ≡ some (t ∷ ts)
unfolding terms_of ◌>>=◌
terms-cons f fs t ts h k = rw (h, k)

pub terms_none : terms_of [] ≡ some []
unfolding terms_of
terms_none = refl

module _ (l : List ℕ) (r : Rule) (f : Fields l r) where
  pub all_terms : terms_of (fields l) ≡ some (lefts r ++ rights r)
  unfolding lefts
  all_terms =
      rw f.are
      (terms-cons f.first (f.second ∷ f.right) r.first (r.second ∷ rights r) f.one (terms-cons f.second f.right r.second (rights r) f.two f.terms))

  pub left_terms : terms_of (take 2 (fields l)) ≡ some (lefts r)
  unfolding lefts
  left_terms =
      rw f.are
      (terms-cons f.first (f.second ∷ []) r.first (r.second ∷ []) f.one (terms-cons f.second [] r.second [] f.two terms_none))

  pub right_terms : terms_of (drop 2 (fields l)) ≡ some (rights r)
  right_terms = rw f.are f.terms

  pub words-whole : words_in l ≡ words_of (nodes (lefts r ++ rights r))
  words-whole = sym (ap (λ n. words_in (drop n l)) (start_zero l)) ∙ part-words l 0 (lefts r ++ rights r) all_terms

  pub words_left : words_in (take (field_start l 2) l) ≡ words_of (nodes (lefts r))
  words_left = words_take l 2 ∙ words-terms (take 2 (fields l)) (lefts r) left_terms

  pub words_right : words_in (drop (field_start l 2) l) ≡ words_of (nodes (rights r))
  words_right = part-words l 2 (rights r) right_terms

  pub first_field : get_or (fields l) 0 [] ≡ f.first
  first_field = rw f.are

  pub second-field : get_or (fields l) 1 [] ≡ f.second
  second-field = rw f.are

-- The words of one field.
pub field-words : (f : Word) (t : Term) → term_of f ≡ some t → words_in f ≡ words_of (nodes (t ∷ []))
unfolding words_of_all
field-words f t h = sym (nil (words_in f)) ∙ words-terms (f ∷ []) (t ∷ []) (terms-cons f [] t [] h terms_none)
  where
    nil : (ws : List Word) → ws ++ [] ≡ ws
    nil [] = refl
    nil (w ∷ ws) = ap (λ (k : List Word). w ∷ k) (nil ws)
