-- `rule_sheet::whole::enter_lefts` meets its contract.
use Rattle.rule_sheet.proofs.Heading.{second-room, lefts_in}
use Rattle.std.proofs.Common.{rules}
use Rattle.rule_sheet.proofs.whole.enter_lefts.Goals as goal

pub enter_agent-right-requires : goal.enter_agent-right-requires
enter_agent-right-requires c = search (rules, second-room)

pub returns : goal.returns
returns c = search (rules, lefts_in)
