-- `rules::text::read_records` meets its contract: the loop's invariant is `Reading`.
use Rattle.std.specs.Prelude.{◌≡◌, Some, None, Ok}
use Rattle.std.proofs.Common.{rules, ap, ◌∙◌}
use Rattle.rules.proofs.Reading.{reading_none, reading_end, reading_unended, end_begins, line-stands, reading_bad, end_fits, end_less, reading_more}
use Rattle.rules.proofs.text.read_records.Goals as goal

pub lines-init : goal.lines-init
lines-init c = search (rules, reading_none)

pub returns-in-Ok-None : goal.returns-in-Ok-None
returns-in-Ok-None c =
    let z : c.next_line.result ≡ Ok None = c.in-Ok-None.is ∙ ap Ok c.in-Ok-None.field-0-is in reading_end _ _ _ _ _ c.lines.invariant _ c.next_line.ensures z

pub overflow_sub-end : goal.overflow_sub-end
overflow_sub-end c =
    let z : c.next_line.result ≡ Ok (Some c.in-Ok-Some.end) = c.in-Ok-Some.is ∙ ap Ok c.in-Ok-Some.field-0-is in end_begins _ _ _ _ _ c.lines.invariant _ c.next_line.ensures _ z

pub judge_line-requires : goal.judge_line-requires
judge_line-requires c =
    let z : c.next_line.result ≡ Ok (Some c.in-Ok-Some.end) = c.in-Ok-Some.is ∙ ap Ok c.in-Ok-Some.field-0-is in line-stands _ _ _ _ _ c.lines.invariant _ c.next_line.ensures _ z c.requires.0 _ c.part.ensures

pub returns-in-Err-judge_line : goal.returns-in-Err-judge_line
returns-in-Err-judge_line c =
    let z : c.next_line.result ≡ Ok (Some c.in-Ok-Some.end) = c.in-Ok-Some.is ∙ ap Ok c.in-Ok-Some.field-0-is in reading_bad _ _ _ _ _ c.lines.invariant _ c.next_line.ensures _ z _ c.part.ensures _ _ c.judge_line.ensures _ c.in-Err-judge_line.is

pub overflow_add-at : goal.overflow_add-at
overflow_add-at c =
    let z : c.next_line.result ≡ Ok (Some c.in-Ok-Some.end) = c.in-Ok-Some.is ∙ ap Ok c.in-Ok-Some.field-0-is in let f = end_fits _ _ _ _ _ c.lines.invariant _ c.next_line.ensures _ z c.requires.0 in search rules

pub lines-smaller : goal.lines-smaller
lines-smaller c =
    let z : c.next_line.result ≡ Ok (Some c.in-Ok-Some.end) = c.in-Ok-Some.is ∙ ap Ok c.in-Ok-Some.field-0-is in end_less _ _ _ _ _ c.lines.invariant _ c.next_line.ensures _ z c.requires.0

pub lines-preserved : goal.lines-preserved
lines-preserved c =
    let z : c.next_line.result ≡ Ok (Some c.in-Ok-Some.end) = c.in-Ok-Some.is ∙ ap Ok c.in-Ok-Some.field-0-is in reading_more _ _ _ _ _ c.lines.invariant _ c.next_line.ensures _ z _ c.part.ensures _ _ c.judge_line.ensures _ c.in_default.is

pub returns-in-Err : goal.returns-in-Err
returns-in-Err c = reading_unended _ _ _ _ _ c.lines.invariant _ c.next_line.ensures _ c.in-Err.is
