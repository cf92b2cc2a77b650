-- `rules::read_rules` meets its contract: a law for each way out.
use Rattle.std.proofs.Common.{rules}
use Rattle.rules.proofs.Whole.{too_long-text, text-refused, text-accepted}
use Rattle.rules.proofs.read_rules.Goals as goal

pub returns-then-text-gt-TEXT : goal.returns-then-text-gt-TEXT
returns-then-text-gt-TEXT c = search (rules, too_long-text)

pub returns-in_err-read_lines : goal.returns-in_err-read_lines
returns-in_err-read_lines c = text-refused _ _ c.if-text-gt-TEXT.false _ _ c.read_lines.ensures _ c.in_err-read_lines.was _ (search rules)

pub returns : goal.returns
returns c = text-accepted _ _ c.if-text-gt-TEXT.false _ _ c.read_lines.ensures _ c.in_ok-read_lines.was
