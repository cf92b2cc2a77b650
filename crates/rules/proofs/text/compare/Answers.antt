-- `rules::text::compare` meets its contract: a law for each way out.
use Rattle.rules.proofs.Whole.{other_agents, other_rules, same_counts}
use Rattle.rules.proofs.text.compare.Goals as goal
use Rattle.rules.proofs.text.compare.Goals.{then-told-agents-via-then-told-agents, then-told-agents-via-else-told-agents+then-told-rules}

pub returns-then-told-agents : goal.returns-then-told-agents
returns-then-told-agents c = elim c.then-told-agents.branch [
  | then-told-agents-via-then-told-agents w ↦ other_agents _ _ _ _ _ c.symbol_count.ensures c.from-agents.ensures _ _ c.rule_count.ensures c.from-rules.ensures w.if-told-agents.true _ c.on_first.ensures
  | then-told-agents-via-else-told-agents+then-told-rules w ↦ other_rules _ _ _ _ _ c.symbol_count.ensures c.from-agents.ensures _ _ c.rule_count.ensures c.from-rules.ensures w.if-told-agents.false w.if-told-rules.true _ c.on_first.ensures
]

pub returns : goal.returns
returns c = same_counts _ _ _ _ _ c.symbol_count.ensures c.from-agents.ensures _ _ c.rule_count.ensures c.from-rules.ensures c.if-told-agents.false c.if-told-rules.false
