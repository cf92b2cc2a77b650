-- `machine::meeting::symbol_at` meets its contract.
use Rattle.machine.proofs.Meetings.{symbol_is}
use Rattle.std.proofs.Common.{rules}
use Rattle.machine.proofs.meeting.symbol_at.Goals as goal

pub returns : goal.returns
returns c = search (rules, symbol_is)
