-- What the test of a table asks of a rule after others, and what it has done when it turns to the rules.
use Rattle.std.specs.Prelude.{ℕ, ◌≤◌, ◌≡◌, Bool, not, ◌&&◌, List, get_or}
use Rattle.parts.specs.Limits.{rules_max}
use Rattle.model.specs.Table.{Entry}
use Rattle.texts.specs.Bytes.{any}
use Rattle.texts.specs.TableTest.{test_template, pair_test}
use Rattle.table.specs.Layout.{agents_in, rules_in, entry_of, bytes_of}
use Rattle.table.specs.Laws.Whole.{FitAgents}
use Rattle.table.specs.Put.{only_agents}

-- A rule after others: it passes, and none of them has its pair.
unfoldable pub rule_new : List ℕ → List ℕ → List Entry → Bool
rule_new w r rs = test_template (agents_in w) (entry_of (agents_in w) r) && not (any (pair_test (get_or r 0 0) (get_or r 1 0)) rs)

-- The agents of a table have passed and are written into the copy; its rules wait.
pub record RulesWait (w o : List ℕ) : Type 0 where
  pub fit : FitAgents (agents_in w)
  pub few : rules_in w ≤ rules_max
  pub copied : o ≡ bytes_of (only_agents (agents_in w))
