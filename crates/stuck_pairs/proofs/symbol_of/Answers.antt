-- `stuck_pairs::symbol_of` meets its contract.
use Rattle.stuck_pairs.proofs.Stuck.{symbol-beyond}
use Rattle.std.proofs.Common.{arith}
use Rattle.stuck_pairs.proofs.symbol_of.Goals as goal

pub returns-else-i-lt-CELLS : goal.returns-else-i-lt-CELLS
returns-else-i-lt-CELLS c = symbol-beyond c.args.state.now c.args.c.0 (omega arith)
