-- `cell_walk::visit_pile` meets its contract.
use Rattle.std.proofs.Common.{arith, rules}
use Rattle.sound.proofs.Places.{part_small}
use Rattle.cell_walk.proofs.Steps.{left_all, left_ready, left_more, left_stop, left_end}
use Rattle.cell_walk.proofs.Roots.{pile-cut, pile-begins, pile_gone}
use Rattle.cell_walk.proofs.visit_pile.Goals as goal

pub loop-k-init : goal.loop-k-init
loop-k-init c = search (rules, left_all)

pub overflow_mul-k : goal.overflow_mul-k
overflow_mul-k c = omega (arith, part_small c.args.p)

pub visit_row-requires : goal.visit_row-requires
visit_row-requires c = search (rules, left_ready)

pub returns-then-not-visit_row : goal.returns-then-not-visit_row
returns-then-not-visit_row c = search (rules, left_stop, pile-begins)

pub loop-k-preserved : goal.loop-k-preserved
loop-k-preserved c = search (rules, left_more, pile-cut)

pub returns : goal.returns
returns c = search (rules, left_end, pile_gone)
