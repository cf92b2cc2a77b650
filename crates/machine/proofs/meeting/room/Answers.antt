-- `machine::meeting::room` meets its contract.
use Rattle.machine.proofs.Meetings.{room-cells, room_none, room-names, room_all}
use Rattle.machine.proofs.meeting.room.Goals as goal
use Rattle.machine.proofs.meeting.room.Goals.{then-cells, else-cells}

pub returns-then-names : goal.returns-then-names
returns-then-names c =
    elim c.if-cells.branch [
      | then-cells w ↦ room_all _ _ _ c.args.k _ _ c.cell_count.ensures c.from.ensures w.if-cells.true _ _ c.name_count.ensures c.from-2.ensures _ w.value-is _ _ c.if-names.true c.equation_count.ensures c.from-3.ensures
      | else-cells w ↦ room_none _ _ c.args.waits c.args.k _ _ c.cell_count.ensures c.from.ensures _ w.if-cells.false w.value-is c.if-names.true
    ]

pub returns-else-names : goal.returns-else-names
returns-else-names c =
    elim c.if-cells.branch [
      | then-cells w ↦ room-names _ _ _ _ _ _ c.cell_count.ensures c.from.ensures w.if-cells.true _ _ c.name_count.ensures c.from-2.ensures _ w.value-is c.if-names.false
      | else-cells w ↦ room-cells _ _ _ _ _ _ c.cell_count.ensures c.from.ensures _ w.if-cells.false w.value-is
    ]
