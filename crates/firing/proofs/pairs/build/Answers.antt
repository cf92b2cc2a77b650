-- `firing::pairs::build` meets its contract.
use Rattle.firing.proofs.Builds.{build_room, build_way}
use borrow.Author.Rules.{rules}
use Rattle.firing.proofs.pairs.build.Goals as goal

pub put_equations-requires : goal.put_equations-requires
put_equations-requires c = search (rules, build_room)

pub returns : goal.returns
returns c = search (rules, build_way)
