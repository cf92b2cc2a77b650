-- `report::firsts::put_line` meets its contract.
use Rattle.report.specs.Begun.{line_put}
use Rattle.std.proofs.Common.{rules}
use Rattle.report.proofs.firsts.put_line.Goals as goal

pub returns : goal.returns
returns c = search (rules, line_put)
