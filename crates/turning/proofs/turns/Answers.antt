-- `turning::turns` meets its contract.
use Rattle.std.proofs.Common.{arith}
use Rattle.std.proofs.lemmas.Bool.Decides.{nat_tests}
use Rattle.turning.proofs.Turned.{turns-are}
use Rattle.turning.proofs.turns.Goals as goal

pub returns-then-b-d : goal.returns-then-b-d
returns-then-b-d c =
    let e = turns-are c.args.row.now c.args.i c.args.j c.turned_code-a.result c.turned_code-b.result c.turned_code-a.ensures c.turned_code-b.ensures in
    grind (arith, nat_tests)

pub returns-then-a-d : goal.returns-then-a-d
returns-then-a-d c =
    let e = turns-are c.args.row.now c.args.i c.args.j c.turned_code-a.result c.turned_code-b.result c.turned_code-a.ensures c.turned_code-b.ensures in
    grind (arith, nat_tests)

pub returns-else-a-d : goal.returns-else-a-d
returns-else-a-d c =
    let e = turns-are c.args.row.now c.args.i c.args.j c.turned_code-a.result c.turned_code-b.result c.turned_code-a.ensures c.turned_code-b.ensures in
    grind (arith, nat_tests)
