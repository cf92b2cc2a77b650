-- `state::part_words` meets its contract.
use Rattle.std.proofs.Common.{rules}
use Rattle.state.proofs.Laws.{part_way}
use Rattle.state.proofs.part_words.Goals as goal

pub returns : goal.returns
returns c = search (rules, part_way)
