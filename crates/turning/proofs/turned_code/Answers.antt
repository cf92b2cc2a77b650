-- `turning::turned_code` meets its contract.
use Rattle.turning.proofs.Turned.{turned-cell, turned_left, turned_right}
use Rattle.std.proofs.Common.{rules}
use Rattle.turning.proofs.turned_code.Goals as goal

pub returns-then-x-eq1 : goal.returns-then-x-eq1
returns-then-x-eq1 c = search (rules, turned-cell)

pub returns-then-x-step : goal.returns-then-x-step
returns-then-x-step c = search (rules, turned_left)

pub returns : goal.returns
returns c = search (rules, turned_right)
