-- `rule_sheet::whole::head_of` meets its contract.
use Rattle.std.proofs.Common.{rules}
use Rattle.rule_sheet.proofs.Heading.{head_is}
use Rattle.rule_sheet.proofs.whole.head_of.Goals as goal

pub returns : goal.returns
returns c = search (rules, head_is)
