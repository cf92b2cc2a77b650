-- `scan::cutting::part` meets its contract.
use Rattle.std.proofs.Common.{rules}
use Rattle.scan.proofs.Cuts.{part_length, part_cut}
use Rattle.scan.proofs.cutting.part.Goals as goal

pub slice_bounds-result-end : goal.slice_bounds-result-end
slice_bounds-result-end c = search (rules, part_length)

pub returns : goal.returns
returns c = search (rules, part_cut)
