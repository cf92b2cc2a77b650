-- `scan::cutting::field_start` meets its contract.
use Rattle.std.proofs.Common.{rules, arith}
use Rattle.scan.proofs.Cuts.{started_here, started_tab, started_other, started_end}
use Rattle.scan.proofs.cutting.field_start.Goals as goal
use Rattle.scan.proofs.cutting.field_start.Goals.{then-b-eq9, else-b-eq9}

pub loop-i-init : goal.loop-i-init
loop-i-init c = record { rest = omega arith }

pub returns-then-left-eq0 : goal.returns-then-left-eq0
returns-then-left-eq0 c = search (rules, started_here)

pub loop-i-preserved : goal.loop-i-preserved
loop-i-preserved c =
    elim c.if-b-eq9.branch [ then-b-eq9 w ↦ search (rules, started_tab) | else-b-eq9 w ↦ search (rules, started_other) ]

pub returns : goal.returns
returns c = search (rules, started_end)
