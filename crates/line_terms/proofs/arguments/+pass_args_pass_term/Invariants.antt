-- `pass_term` and `pass_args`: the measure falls with the levels left, and with the arguments left. Assumes nothing.
use Rattle.std.specs.Prelude.{◌*◌, ◌+◌}
use Rattle.line_terms.proofs.arguments.+pass_args_pass_term.Given as goal

abbrev pub decreases-pass_args : goal.decreases-pass_args
decreases-pass_args l = l.levels * 65537 + 1 + l.more

abbrev pub decreases-pass_term : goal.decreases-pass_term
decreases-pass_term l = l.levels * 65537
