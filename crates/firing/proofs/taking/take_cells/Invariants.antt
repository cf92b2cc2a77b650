-- `firing::taking::take_cells` meets its contract.
use Rattle.firing.proofs.Takes.{Taking}
use Rattle.firing.specs.Frames.{cells_at}
use Rattle.firing.specs.Taken.{cell_code}
use Rattle.firing.specs.Built.{cells_of, symbol_word}
use Rattle.state.specs.Layout.{view}
use Rattle.state.specs.declared.Part.TheVariants.{Symbols}
use Rattle.firing.proofs.taking.take_cells.Given as goal

abbrev pub invariant-loop-m : goal.invariant-loop-m
invariant-loop-m l = Taking Symbols (symbol_word l.rule.table.now l.rule.number)
    cell_code cells_at (cells_of l.rule.table.now l.rule.number) (view l.initial.state) (view l.state) l.initial.frame l.frame l.from l.m
