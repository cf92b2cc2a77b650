-- A rule with none of the faults 5 to 8, and the fields that it stands in.
use Rattle.std.specs.Prelude.{ℕ, ◌<◌, ◌≤◌, ◌≡◌, false, List, ◌++◌, length}
use Rattle.parts.specs.Limits.{text_max, rule_equations_max, rule_cells_max, rule_names_max}
use Rattle.texts.specs.Bytes.{any}
use Rattle.texts.specs.Terms.{nodes}
use Rattle.texts.specs.Books.{Agent, Rule, lefts, rights, cells_of, new_names_of}
use Rattle.texts.specs.RuleText.{big_node}
use Rattle.texts.specs.RuleSound.{SoundRule}
use Rattle.table.specs.Laws.Whole.{FitAgents}
use Rattle.rule_tests.specs.Fields.{Fields}

pub record Wellformed (l : List ℕ) (ags : List Agent) (r : Rule) : Type 0 where
  pub fields : Fields l r
  pub short : length l < text_max
  pub agents : FitAgents ags
  pub sound : SoundRule ags r
  pub small : any big_node (nodes (lefts r ++ rights r)) ≡ false
  pub equations : length r.right ≤ rule_equations_max
  pub cells : length (cells_of ags (rights r)) ≤ rule_cells_max
  pub names : length (new_names_of ags r) ≤ rule_names_max
