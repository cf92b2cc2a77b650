-- `putting::agent_row` meets its contract.
use Rattle.std.specs.Prelude.{length, replicate, refl}
use Rattle.std.proofs.Common.{arith}
use Rattle.parts.specs.Limits.{agent_size}
use Rattle.table.proofs.Storing.{stored}
use Rattle.putting.proofs.Stores.{agent_row_way}
use Rattle.putting.proofs.agent_row.Goals as goal

pub returns : goal.returns
returns c =
    let letters = c.args.letters.now in
    agent_row_way letters _ c.args.arity (stored (replicate agent_size 0) letters c.copy_from_slice.new.self 0 (length letters) c.copy_from_slice.ensures.after refl (omega arith)) c.requires.0
