-- `rule_sheet::lefts::enter_left`: the loop keeps `Entering`.
use Rattle.std.proofs.Common.{rules}
use Rattle.rule_sheet.proofs.Entering.{entering_none, entering_room, entering_more, entering_end}
use Rattle.rule_sheet.proofs.lefts.enter_left.Goals as goal

pub loop-i-init : goal.loop-i-init
loop-i-init c = search (rules, entering_none)

pub enter_next-from-requires : goal.enter_next-from-requires
enter_next-from-requires c = search (rules, entering_room)

pub loop-i-preserved : goal.loop-i-preserved
loop-i-preserved c = search (rules, entering_more)

pub returns : goal.returns
returns c = search (rules, entering_end)
