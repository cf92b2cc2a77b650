-- `read_term` and `read_args` meet their contracts: the measure falls with the levels left, and with the arguments left. Assumes nothing.
use Rattle.std.specs.Prelude.{◌*◌, ◌+◌}
use Rattle.terms.proofs.+read_args_read_term.Given as goal

abbrev pub decreases-read_args : goal.decreases-read_args
decreases-read_args l = l.levels * 6 + 1 + l.more

abbrev pub decreases-read_term : goal.decreases-read_term
decreases-read_term l = l.levels * 6
