-- `putting::put_agent` meets its contract.
use Rattle.putting.proofs.Stores.{put_agent_way}
use Rattle.putting.proofs.put_agent.Goals as goal

pub returns : goal.returns
returns c = put_agent_way _ _ _ _ _ _ _ c.symbol_count-n.ensures c.from.ensures c.requires.0 c.agent_row-row.ensures c.put_row.ensures
