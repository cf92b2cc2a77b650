-- `net_lines::terms_of::terms_in` meets its contract.
use Rattle.std.proofs.Common.{rules}
use Rattle.net_lines.proofs.Lines.{one_first, after_first}
use Rattle.net_lines.proofs.terms_of.terms_in.Goals as goal

pub overflow_sub-result : goal.overflow_sub-result
overflow_sub-result c = search (rules, one_first)

pub returns : goal.returns
returns c = search (rules, after_first)
