-- `rules::text::read_header` meets its contract: a law for each way out.
use Rattle.std.proofs.Common.{rules}
use Rattle.rules.proofs.Whole.{header-bad, header-wrong, header-counts}
use Rattle.rules.proofs.text.read_header.Goals as goal

pub returns-then-first_bad-line : goal.returns-then-first_bad-line
returns-then-first_bad-line c = search (rules, header-bad)

pub returns-in-None : goal.returns-in-None
returns-in-None c = search (rules, header-wrong)

pub returns-in-Some : goal.returns-in-Some
returns-in-Some c = search (rules, header-counts)
