-- `firing::building::put_equation` meets its contract.
use Rattle.firing.proofs.Builds.{equation_way, equation-room}
use borrow.Author.Rules.{rules}
use Rattle.firing.proofs.building.put_equation.Goals as goal

pub put_at_head-requires : goal.put_at_head-requires
put_at_head-requires c = search (rules, equation-room)

pub returns : goal.returns
returns c = search (rules, equation_way)
