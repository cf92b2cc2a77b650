-- `both_counts`: both are numbers, or there are no counts. Assumes nothing.
use Rattle.std.proofs.Common.{rules}
use Rattle.texts.specs.Answers.{◌>>=◌}
use Rattle.lines.specs.Fields.{both_counts}
use Rattle.lines.proofs.fields.both_counts.Goals as goal

pub returns-in_err-decimal : goal.returns-in_err-decimal
unfolding both_counts ◌>>=◌
returns-in_err-decimal c = search rules

pub returns-in_err-decimal-2 : goal.returns-in_err-decimal-2
unfolding both_counts ◌>>=◌
returns-in_err-decimal-2 c = search rules

pub returns : goal.returns
unfolding both_counts ◌>>=◌
returns c = search rules
