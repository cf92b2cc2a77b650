-- `net_lines::records::shape` meets its contract.
use Rattle.std.proofs.Common.{rules}
use Rattle.net_lines.specs.Proofs.Shapes.{shape_2, shape_3, shape_4, shape_fine}
use Rattle.net_lines.proofs.records.shape.Goals as goal

pub returns-then-first_bad-line-clause-shaped : goal.returns-then-first_bad-line-clause-shaped
returns-then-first_bad-line-clause-shaped c = search (rules, shape_2)

pub returns-then-not-formed-clause-shaped : goal.returns-then-not-formed-clause-shaped
returns-then-not-formed-clause-shaped c = search (rules, shape_3)

pub returns-then-misspelt-clause-shaped : goal.returns-then-misspelt-clause-shaped
returns-then-misspelt-clause-shaped c = search (rules, shape_4)

pub returns-clause-shaped : goal.returns-clause-shaped
returns-clause-shaped c = search (rules, shape_fine)
