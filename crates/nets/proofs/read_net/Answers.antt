-- `nets::read_net` meets its contract: a law for each way out.
use Rattle.std.proofs.Common.{rules}
use Rattle.nets.proofs.Tested.{unsound_call, long-call}
use Rattle.nets.proofs.read_net.Goals as goal

pub returns-then-not-table_sound : goal.returns-then-not-table_sound
returns-then-not-table_sound c = search (rules, unsound_call)

pub returns-then-text-gt-TEXT : goal.returns-then-text-gt-TEXT
returns-then-text-gt-TEXT c = search (rules, long-call)
