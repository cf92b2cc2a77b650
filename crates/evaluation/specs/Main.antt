-- What the promise of the evaluator says, in theorems.
use Rattle.std.specs.Prelude.{ℕ, ◌≡◌, List, length}
use Rattle.std.proofs.Common.{sym, ap, ◌∙◌}
use Rattle.std.proofs.lemmas.List.Edits.{sets}
use Rattle.texts.specs.Answers.{accepted, refused}
use Rattle.texts.specs.Books.{Book, word_rules, word_net}
use Rattle.texts.specs.NetText.{read_net}
use Rattle.texts.specs.RuleText.{read_rules}
use Rattle.report.specs.Firsts.{refusal}
use Rattle.evaluation.specs.Evaluated.{net_printed, rules_printed, evaluated}

-- No second output and no second answer meet the promise.
pub only_output : (rules net o u v : List ℕ) (r q : ℕ)
    → u ≡ sets o 0 (evaluated rules net) → r ≡ length (evaluated rules net)
    → v ≡ sets o 0 (evaluated rules net) → q ≡ length (evaluated rules net) → (u ≡ v) × (r ≡ q)
only_output rules net o u v r q a b c d = (a ∙ sym c, b ∙ sym d)

-- If the rules are refused, that is printed, whatever the net text is.
pub rules_first : (rules net : List ℕ) (n k : ℕ) → read_rules rules ≡ refused n k → evaluated rules net ≡ refusal word_rules n k
unfolding evaluated rules_printed
rules_first rules net n k e = ap (λ x. rules_printed x net) e

-- If only the net text is refused, that is printed.
pub net-second : (rules net : List ℕ) (b : Book) (n k : ℕ) → read_rules rules ≡ accepted b → read_net b.agents net ≡ refused n k
    → evaluated rules net ≡ refusal word_net n k
unfolding evaluated rules_printed net_printed
net-second rules net b n k e f = ap (λ x. rules_printed x net) e ∙ ap (net_printed b.agents _) f
