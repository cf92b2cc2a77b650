-- The identifiers of the left and of the right, and number 7 on either.
use Rattle.std.specs.Prelude.{◌≡◌, refl, false, List, [], ◌∷◌, ◌++◌}
use Rattle.std.proofs.Common.{sym, ap, ◌∙◌, append_assoc}
use Rattle.texts.specs.Bytes.{any}
use Rattle.texts.specs.Terms.{Term, Node, nodes_at, nodes}
use Rattle.texts.specs.Books.{Book, Rule, is_rule, lefts, rights}
use Rattle.texts.specs.RuleText.{wrong_args, fault7}
use Rattle.texts.proofs.Beneath.Tools.{neither, any_append}

pub nodes-apart : (ts us : List Term) → nodes (ts ++ us) ≡ nodes ts ++ nodes us
unfolding nodes
nodes-apart [] us = refl
nodes-apart (t ∷ ts) us = ap (λ (ns : List Node). nodes_at 1 t ++ ns) (nodes-apart ts us) ∙ sym (append_assoc (nodes_at 1 t) (nodes ts) (nodes us))

pub seven-apart : (b : Book) (r : Rule) → fault7 b (is_rule r) ≡ false
    → (any (wrong_args b.agents) (nodes (lefts r)) ≡ false) × (any (wrong_args b.agents) (nodes (rights r)) ≡ false)
unfolding fault7
seven-apart b r h =
    neither (any (wrong_args b.agents) (nodes (lefts r))) (any (wrong_args b.agents) (nodes (rights r)))
    (sym (any_append (wrong_args b.agents) (nodes (lefts r)) (nodes (rights r))) ∙ (ap (any (wrong_args b.agents)) (sym (nodes-apart (lefts r) (rights r))) ∙ h))
