-- `machine::meeting::rule_for` meets its contract.
use Rattle.machine.proofs.Meetings.{rule_is}
use Rattle.std.proofs.Common.{rules}
use Rattle.machine.proofs.meeting.rule_for.Goals as goal

pub returns : goal.returns
returns c = search (rules, rule_is)
