-- `sound::passes::width_of` meets its contract.
use Rattle.sound.proofs.Ways.{no_width, width_way}
use Rattle.std.proofs.Common.{rules}
use Rattle.sound.proofs.passes.width_of.Goals as goal

pub returns-then-word-eq0 : goal.returns-then-word-eq0
returns-then-word-eq0 c = search (rules, no_width)

pub returns : goal.returns
returns c = width_way c.args.table.bytes.now c.args.word c.arity_of.result c.args.table.usable c.if-word-eq0.false c.arity_of.ensures
