-- `rules::text::read_lines` meets its contract: a law for each way out.
use Rattle.std.specs.Prelude.{◌≡◌, Some, None, Ok}
use Rattle.std.proofs.Common.{rules, ap, ◌∙◌}
use Rattle.rules.proofs.Whole.{no_first, first_unended, first_ended}
use Rattle.rules.proofs.text.read_lines.Goals as goal

pub read_header-requires : goal.read_header-requires
read_header-requires c =
    let z : c.next_line.result ≡ Ok (Some c.in-Ok-Some.end) = c.in-Ok-Some.is ∙ ap Ok c.in-Ok-Some.field-0-is in search (rules, first_ended)

pub returns-in-Ok-None : goal.returns-in-Ok-None
returns-in-Ok-None c =
    let z : c.next_line.result ≡ Ok None = c.in-Ok-None.is ∙ ap Ok c.in-Ok-None.field-0-is in search (rules, no_first)

pub returns-in-Err : goal.returns-in-Err
returns-in-Err c = search (rules, first_unended)
