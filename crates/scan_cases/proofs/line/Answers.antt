-- The newline of a line that is ended stands in the text.
use Rattle.std.proofs.Common.{arith}
use Rattle.scan.proofs.Beneath.Cutting.{ended_line_in}
use Rattle.scan_cases.proofs.line.Goals as goal

pub returns-in_ok-ended-in-Ok-Some : goal.returns-in_ok-ended-in-Ok-Some
returns-in_ok-ended-in-Ok-Some g c =
    let p = ended_line_in c.args.text.now c.args.at c.next_line.ensures c.in-Ok-Some.is c.in-Ok-Some.field-0-is in
    record { after = p.begins; inside = omega (arith, p.within) }
