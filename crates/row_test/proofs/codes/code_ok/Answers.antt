-- `row_test::codes::code_ok` meets its contract.
use Rattle.row_test.proofs.Coding.{code-cell, code_left, code_right, code_new}
use Rattle.std.proofs.Common.{rules}
use Rattle.row_test.proofs.codes.code_ok.Goals as goal

pub returns-then-x-eq1 : goal.returns-then-x-eq1
returns-then-x-eq1 c = search (rules, code-cell)

pub returns-then-h-lt-ARITY : goal.returns-then-h-lt-ARITY
returns-then-h-lt-ARITY c = search (rules, code_left)

pub returns-then-h : goal.returns-then-h
returns-then-h c = search (rules, code_right)

pub returns : goal.returns
returns c = search (rules, code_new)
