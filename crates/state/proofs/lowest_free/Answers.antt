-- `state::lowest_free` meets its contract.
use Rattle.std.proofs.Common.{rules}
use Rattle.state.proofs.Laws.{part_begins}
use Rattle.state.proofs.Piles.{look_way}
use Rattle.state.proofs.lowest_free.Goals as goal

pub slice_bounds-rest-count : goal.slice_bounds-rest-count
slice_bounds-rest-count c = search (rules, part_begins)

pub slice_bounds-rest-start : goal.slice_bounds-rest-start
slice_bounds-rest-start c = search (rules, part_begins)

pub returns : goal.returns
returns c = search (rules, look_way)
