-- `ruling::tested` meets its contract.
use Rattle.std.proofs.Common.{rules}
use Rattle.ruling.proofs.Judging.{tested-five, tested-seven, tested-eight, tested_none}
use Rattle.ruling.proofs.tested.Goals as goal

pub returns-then-too_big : goal.returns-then-too_big
returns-then-too_big c = search (rules, tested-five)

pub returns-then-not-fields_argued : goal.returns-then-not-fields_argued
returns-then-not-fields_argued c = search (rules, tested-seven)

pub returns-then-ill_formed : goal.returns-then-ill_formed
returns-then-ill_formed c = search (rules, tested-eight)

pub returns : goal.returns
returns c = search (rules, tested_none)
