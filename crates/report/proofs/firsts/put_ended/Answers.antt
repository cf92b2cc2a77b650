-- `report::firsts::put_ended` meets its contract.
use Rattle.report.specs.Begun.{ended_put}
use Rattle.std.proofs.Common.{rules}
use Rattle.report.proofs.firsts.put_ended.Goals as goal

pub returns : goal.returns
returns c = search (rules, ended_put)
