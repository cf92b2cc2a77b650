-- `machine::meeting::stick` meets its contract.
use Rattle.machine.proofs.Meetings.{stick_room, stick_way}
use Rattle.std.proofs.Common.{rules}
use Rattle.machine.proofs.meeting.stick.Goals as goal

pub put_at_head-requires : goal.put_at_head-requires
put_at_head-requires c = search (rules, stick_room)

pub returns : goal.returns
returns c = search (rules, stick_way)
