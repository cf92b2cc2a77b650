-- The net so far on the sheet, in the codes and in the marks of its lines.
use Rattle.std.specs.Prelude.{ℕ, suc, ◌≡◌, List, [], length, get_or}
use Rattle.parts.specs.Limits.{net_equations_max}
use Rattle.texts.specs.Books.{Agent, Net, net_terms}
use Rattle.texts.specs.NetText.{net_lines}
use Rattle.table.specs.Lists.{tab}
use Rattle.terms.specs.Sheet.{Sheet}
use Rattle.twice.specs.Marks.{marks_from}
use Rattle.net_lines.specs.Draft.{Draft}

-- the first n marks
abbrev pub marked : List ℕ → ℕ → List ℕ
marked ms n = tab n (λ k. get_or ms k 0)

pub record Drafted (text : List ℕ) (ags : List Agent) (s : Sheet) (cs ms : List ℕ) (m : Net) : Type 0 where
  pub draft : Draft text ags s cs (net_terms m)
  pub marks : marked ms (suc (length m.equations)) ≡ marks_from ags [] (net_lines m)
  pub long : length ms ≡ suc net_equations_max
