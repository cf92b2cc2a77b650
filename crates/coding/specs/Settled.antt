-- What a well-formed rule is answered by the numbers 9 and 10, and the table after it.
use Rattle.std.specs.Prelude.{ℕ, zero, suc, ◌<◌, ◌≤◌, ◌≡◌, List, length}
use Rattle.parts.specs.Limits.{symbols_max, rules_max, rule_equations_max}
use Rattle.texts.specs.Books.{Book, is_rule, add}
use Rattle.texts.specs.Books as Books
use Rattle.texts.specs.Answers.{OfLine, fine, fault, refuse}
use Rattle.texts.specs.RuleText.{fault9, fault10}
use Rattle.texts.specs.Coded.{template}
use Rattle.texts.specs.RuleSound.{SoundRule}
use Rattle.texts.specs.Bytes.{In}
use Rattle.texts.specs.Templates.{Few}
use Rattle.table.specs.declared.Rule.{Rule}
use Rattle.table.specs.Layout.{rules_in, agents_in, table_bytes}
use Rattle.table.specs.Rule.{stands}
use Rattle.table.specs.Laws.Whole.{FitAgents}

-- The answer of a line by a number: 0 where it is fine.
abbrev pub answered : ℕ → Book → OfLine Book
answered zero b = fine b
answered (suc n) b = fault (suc n)

-- The bytes of the table after it: those of the book with the line where it is fine; else they are as before.
abbrev pub bytes_after : ℕ → Book → List ℕ → List ℕ
bytes_after zero b w = table_bytes b
bytes_after (suc n) b w = w

-- A rule that a table has room for.
pub record Putable (w : List ℕ) (rule : Rule) : Type 0 where
  pub symbols : length (agents_in w) ≤ symbols_max
  pub room : rules_in w < rules_max
  pub left : rule.left < symbols_max
  pub right : rule.right < symbols_max
  pub few : rule.equations ≤ rule_equations_max

-- The table is that of the book b, and the rule of the code is r coded, which has none of the faults 5 to 8.
pub record Ready (b : Book) (r : Books.Rule) (w : List ℕ) (rule : Rule) : Type 0 where
  pub table : w ≡ table_bytes b
  pub agents : FitAgents b.agents
  pub others : (q : Books.Rule) → In q b.rules → SoundRule b.agents q
  pub sound : SoundRule b.agents r
  pub few : Few r
  pub coded : stands b.agents rule ≡ template b.agents r

pub record Settled (b : Book) (r : Books.Rule) (n : ℕ) (w v : List ℕ) : Type 0 where
  pub answer : refuse 9 (fault9 b (is_rule r)) (refuse 10 (fault10 b (is_rule r)) (fine (add b (is_rule r)))) ≡ answered n (add b (is_rule r))
  pub table : v ≡ bytes_after n (add b (is_rule r)) w
