-- What the tests of the numbers 5, 7 and 8 say of a rule.
use Rattle.std.specs.Prelude.{ℕ, zero, suc, ◌<◌, ◌≡◌, false, List, length}
use Rattle.parts.specs.Limits.{text_max}
use Rattle.texts.specs.Books.{Agent, Book, Rule, is_rule, add}
use Rattle.texts.specs.Answers.{OfLine, fine, fault, refuse}
use Rattle.texts.specs.RuleText.{fault5, fault7, fault8, fault9, fault10, judged}
use Rattle.table.specs.Laws.Whole.{FitAgents}
use Rattle.rule_tests.specs.Fields.{Fields}

-- The rule r stands in this part of its line, after a book with these agents and so many rules.
pub record Stands (b : Book) (r : Rule) (rest : List ℕ) (ags : List Agent) (rules : ℕ) : Type 0 where
  pub fields : Fields rest r
  pub short : length rest < text_max
  pub agents : ags ≡ b.agents
  pub fit : FitAgents b.agents
  pub count : rules ≡ length b.rules

-- The least of the three that is given, or 0 and what is left to judge.
abbrev pub passed : ℕ → OfLine Book → OfLine Book
passed zero x = x
passed (suc n) x = fault (suc n)

-- None of the three is given.
pub record Clear (b : Book) (r : Rule) : Type 0 where
  pub no5 : fault5 b (is_rule r) ≡ false
  pub no7 : fault7 b (is_rule r) ≡ false
  pub no8 : fault8 b (is_rule r) ≡ false

pub record Tested (b : Book) (r : Rule) (n : ℕ) : Type 0 where
  pub answer : judged b (is_rule r) ≡ passed n (refuse 9 (fault9 b (is_rule r)) (refuse 10 (fault10 b (is_rule r)) (fine (add b (is_rule r)))))
  pub clear : n ≡ 0 → Clear b r
