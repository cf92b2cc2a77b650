-- `lent::whole::state_sound` meets its contract.
use Rattle.std.specs.Prelude.{◌≡◌, true}
use Rattle.std.proofs.Common.{arith}
use Rattle.std.proofs.lemmas.Grind.{common_steps}
use Rattle.model.specs.Test.{declared, sized}
use Rattle.state.specs.Layout.{view}
use Rattle.sound.specs.Lent.{under}
use Rattle.lent.proofs.Together.{tested-clauses, symbols-known, sizes-known}
use Rattle.lent.proofs.whole.state_sound.Goals as goal

pub unruled-requires : goal.unruled-requires
unruled-requires c =
    let w = c.args.lent.table.bytes.now in
    let s = view c.args.lent.state.now in
    let z : sized s ≡ true = grind (arith, common_steps) in
    let d : declared (under w) s ≡ true = grind (arith, common_steps) in
    (symbols-known w s z c.args.lent.table.usable d, sizes-known w s z)

pub reached-requires : goal.reached-requires
reached-requires c =
    let w = c.args.lent.table.bytes.now in
    let s = view c.args.lent.state.now in
    let z : sized s ≡ true = grind (arith, common_steps) in
    sizes-known w s z

pub twice-requires : goal.twice-requires
twice-requires c =
    let w = c.args.lent.table.bytes.now in
    let s = view c.args.lent.state.now in
    let z : sized s ≡ true = grind (arith, common_steps) in
    sizes-known w s z

pub returns-then-reached : goal.returns-then-reached
returns-then-reached c = grind (arith, common_steps, tested-clauses)

pub returns-else-reached : goal.returns-else-reached
returns-else-reached c = grind (arith, common_steps, tested-clauses)
