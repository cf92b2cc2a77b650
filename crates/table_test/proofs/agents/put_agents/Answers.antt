-- `table_test::agents::put_agents` meets its contract.
use Rattle.std.proofs.Common.{rules}
use Rattle.table_test.proofs.Agreed.{copied_none, copied-room, copied_more, copied_end}
use Rattle.table_test.proofs.agents.put_agents.Goals as goal

pub loop-s-init : goal.loop-s-init
loop-s-init c = search (rules, copied_none)

pub put_agent-requires : goal.put_agent-requires
put_agent-requires c = copied-room _ _ _ _ _ _ _ c.symbol_count.ensures c.from-s-end.ensures c.requires.0 c.requires.1
    c.loop-s.invariant c.loop-s-test.true c.letters.ensures c.arity_at.ensures

pub loop-s-preserved : goal.loop-s-preserved
loop-s-preserved c = search (rules, copied_more)

pub returns : goal.returns
returns c = search (rules, copied_end)
