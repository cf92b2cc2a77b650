-- The words of the left fields of a well-formed rule: a head, and its arguments.
use Rattle.std.specs.Prelude.{ℕ, ◌≡◌, true, false, List, [], ◌∷◌, ◌++◌, length, drop}
use Rattle.std.proofs.Common.{ap, ◌∙◌, eq-eqb}
use mathlib.Core.List.Memᴰ
use Rattle.std.proofs.Math.Option.{some}
use Rattle.texts.specs.Bytes.{Word, any, fields, In}
use Rattle.texts.specs.Terms.{Term, nodes, words_of}
use Rattle.texts.specs.Books.{Agent, Rule, declared, takes, head_of, args_of, left_args, lefts, rights}
use Rattle.texts.specs.Coded.{template}
use Rattle.texts.specs.RuleText.{wrong_args, over_names, terms_of}
use Rattle.texts.proofs.Beneath.Tools.{pair, true_all, false-any}
use Rattle.texts.proofs.Beneath.Agents.{symbol-number}
use Rattle.texts.proofs.Beneath.Linear.{words_append}
use Rattle.texts.proofs.Beneath.Ranged.{first_arity, second-arity}
use Rattle.scan.specs.Cutting.{field_start}
use Rattle.scan.specs.Words.{words_in}
use Rattle.lines.specs.Laws.Words.{part-words}
use Rattle.rule_tests.specs.Laws.Parts.{words-whole, terms-cons}
use Rattle.rule_tests.specs.Laws.Apart.{nodes-apart}
use Rattle.rule_tests.specs.Laws.Lefts.{agent-words, sides_right}
use Rattle.rule_sheet.specs.Wellformed.{Wellformed}

module _ (l : List ℕ) (ags : List Agent) (r : Rule) (wf : Wellformed l ags r) where
  over : (t : Term) → declared ags (head_of t) ≡ true → ((w : Word) → In w (args_of t) → In w (left_args r)) → over_names ags t ≡ true
  unfolding over_names
  over t h k = pair (declared ags (head_of t)) _ h (true_all _ (args_of t) (λ w m. rw (wf.sound.named.names w (k w m))))

  over_first : over_names ags r.first ≡ true
  unfolding left_args
  over_first = over r.first wf.sound.named.first_agent (λ w m. Memᴰ.append_left (args_of r.second) m)

  over-second : over_names ags r.second ≡ true
  unfolding left_args
  over-second = over r.second wf.sound.named.second_agent (λ w m. Memᴰ.append_right (args_of r.first) m)

  no7 : any (wrong_args ags) (nodes (lefts r)) ≡ false
  unfolding wrong_args
  no7 = false-any (wrong_args ags) (nodes (lefts r))
      (λ n m. rw (eq-eqb n.args (takes ags n.word) (wf.sound.arities n (rw (nodes-apart (lefts r) (rights r)) (Memᴰ.append_left (nodes (rights r)) m)))))

  on : (t : Term) (ts : List Term) → over_names ags t ≡ true → any (wrong_args ags) (nodes (t ∷ [])) ≡ false
      → words_of (nodes (t ∷ ts)) ≡ head_of t ∷ (args_of t ++ words_of (nodes ts))
  on t ts o h =
      ap words_of (nodes-apart (t ∷ []) ts)
      ∙ (words_append (nodes (t ∷ [])) (nodes ts) ∙ ap (λ (ws : List Word). ws ++ words_of (nodes ts)) (agent-words ags t o h))

  pub first_words : words_in (drop 0 l) ≡ head_of r.first ∷ (args_of r.first ++ words_of (nodes (r.second ∷ rights r)))
  unfolding lefts
  first_words = words-whole l r wf.fields ∙ on r.first (r.second ∷ rights r) over_first (sides_right ags r no7).0

  second-terms : terms_of (drop 1 (fields l)) ≡ some (r.second ∷ rights r)
  second-terms = rw wf.fields.are (terms-cons wf.fields.second wf.fields.right r.second (rights r) wf.fields.two wf.fields.terms)

  pub second-words : words_in (drop (field_start l 1) l) ≡ head_of r.second ∷ (args_of r.second ++ words_of (nodes (rights r)))
  second-words = part-words l 1 (r.second ∷ rights r) second-terms ∙ on r.second (rights r) over-second (sides_right ags r no7).1

  -- The heads take as many arguments.
  pub first_takes : length (args_of r.first) ≡ takes ags (head_of r.first)
  unfolding template
  first_takes = first_arity ags r wf.sound ∙ (symbol-number ags (head_of r.first) wf.sound.named.first_agent).1

  pub second-takes : length (args_of r.second) ≡ takes ags (head_of r.second)
  unfolding template
  second-takes = second-arity ags r wf.sound ∙ (symbol-number ags (head_of r.second) wf.sound.named.second_agent).1
