-- `rule_sheet::lefts::enter_left`: the loop keeps `Entering`.
use Rattle.terms.specs.Sheet.{view}
use Rattle.rule_sheet.proofs.Entering.{Entering}
use Rattle.rule_sheet.proofs.lefts.enter_left.Given as goal

abbrev pub invariant-loop-i : goal.invariant-loop-i
invariant-loop-i l = Entering l.text l.at l.n (view l.initial.sheet) l.i l.from (view l.sheet)
