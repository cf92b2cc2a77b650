-- `fields_argued`: a field more is passed. Assumes nothing.
use Rattle.std.proofs.Common.{rules}
use Rattle.line_terms.proofs.Arguing.{passing_more}
use Rattle.line_terms.proofs.arguments.fields_argued.Goals as goal

pub loop-i-preserved : goal.loop-i-preserved
loop-i-preserved c = search (rules, passing_more)
