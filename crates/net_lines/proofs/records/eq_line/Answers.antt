-- `net_lines::records::eq_line` meets its contract.
use Rattle.std.proofs.Common.{rules, refl}
use Rattle.net_lines.specs.Proofs.Whole.{eq-bad, eq_5, eq_end}
use Rattle.net_lines.proofs.records.eq_line.Goals as goal

pub returns-in_err-eq_shape-clause-eq_read : goal.returns-in_err-eq_shape-clause-eq_read
returns-in_err-eq_shape-clause-eq_read c = search (rules, eq-bad)

pub returns-then-k-ge-NET_EQUATIONS-clause-eq_read : goal.returns-then-k-ge-NET_EQUATIONS-clause-eq_read
returns-then-k-ge-NET_EQUATIONS-clause-eq_read c = search (rules, eq_5)

pub returns-clause-eq_read : goal.returns-clause-eq_read
returns-clause-eq_read c = λ m st fit d ef ek. eq_end _ _ _ _ _ _ _ _ _ refl m c.in_ok-eq_shape.ensures.shaped c.in_ok-eq_shape.ensures.three st fit d ef ek c.requires.2 c.if-k-ge-NET_EQUATIONS.false c.judge.ensures
