-- `firing::building::fill_argument` meets its contract.
use Rattle.firing.proofs.Builds.{argument_way}
use borrow.Author.Rules.{rules}
use Rattle.firing.proofs.building.fill_argument.Goals as goal

pub returns : goal.returns
returns c = search (rules, argument_way)
