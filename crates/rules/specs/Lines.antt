-- What is promised of the judge of a line, and what it asks for.
use Rattle.std.specs.Prelude.{ℕ, ◌<◌, ◌≡◌, List, [], length, get_or, drop}
use Rattle.std.proofs.Math.Option.{some}
use Rattle.parts.specs.Limits.{text_max}
use Rattle.texts.specs.Bytes.{Word, Line, fields}
use Rattle.texts.specs.Books.{Book}
use Rattle.texts.specs.RuleText.{Shape, rule_shape, shape_of, rule_line}
use Rattle.texts.specs.Good.{GoodBook}
use Rattle.table.specs.Layout.{table_bytes}
use Rattle.table.specs.Given.{Given}
use Rattle.rule_lines.specs.Judged.{Judged}

-- What a line asks for: its table is that of some good book, and it is shorter than a text may be, since its newline
-- stands in the text too.
pub record Stands (line w : List ℕ) : Type 0 where
  pub given : Given w
  pub short : length line < text_max

-- The shape of a rule with these fields.
abbrev pub rule_of : List Word → Shape
rule_of fs = rule_shape (get_or fs 1 []) (get_or fs 2 []) (drop 3 fs)

-- The same of a line of which number 3 says that it is a rule.
pub record RuleStands (line w : List ℕ) : Type 0 where
  pub book : Book
  pub good : GoodBook book
  pub bytes : w ≡ table_bytes book
  pub shape_is_rule : shape_of book (fields line) ≡ some (rule_of (fields line))
  pub short : length line < text_max

-- A whole line.
pub record LineJudged (was is : List ℕ) (line : Line) (n : ℕ) : Type 0 where
  pub so : (b : Book) → GoodBook b → was ≡ table_bytes b → Judged was is (rule_line b line) n
