-- Each line begins past the one before.
use Rattle.std.proofs.Common.{length, ◌+◌, ◌-◌}
use Rattle.scan_cases.proofs.lines.Given as goal

abbrev pub decreases-loop-at : goal.decreases-loop-at
decreases-loop-at g l = length l.text + 1 - l.at
