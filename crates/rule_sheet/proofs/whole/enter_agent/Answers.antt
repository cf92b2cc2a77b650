-- `rule_sheet::whole::enter_agent` meets its contract.
use Rattle.rule_sheet.proofs.Heading.{agent_in}
use Rattle.std.proofs.Common.{rules}
use Rattle.rule_sheet.proofs.whole.enter_agent.Goals as goal

pub returns : goal.returns
returns c = search (rules, agent_in)
