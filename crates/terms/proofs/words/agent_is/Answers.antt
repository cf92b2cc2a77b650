-- `agent_is`: the row's beginning up to its first zero. Assumes nothing.
use Rattle.std.proofs.Common.{rules}
use Rattle.terms.proofs.Look.{agent_way, cut_whole}
use Rattle.terms.proofs.words.agent_is.Goals as goal

pub slice_bounds-eq-end : goal.slice_bounds-eq-end
slice_bounds-eq-end c = search (rules, cut_whole)

pub returns : goal.returns
returns c = search (rules, agent_way)
