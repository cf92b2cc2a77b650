-- What a `rule` line means, how it is judged, and the table after it.
use Rattle.std.specs.Prelude.{ℕ, ◌<◌, ◌≡◌, List, ◌++◌, length, drop}
use Rattle.std.proofs.Math.Option.{some}
use Rattle.parts.specs.Limits.{text_max}
use Rattle.texts.specs.Bytes.{fields}
use Rattle.texts.specs.Books.{Book, Rule, is_rule, add, lefts, rights}
use Rattle.texts.specs.RuleText.{terms_of, judged}
use Rattle.texts.specs.Good.{GoodBook}
use Rattle.table.specs.Layout.{table_bytes}
use Rattle.coding.specs.Settled.{answered, bytes_after}

-- After the good book b, whose table is lent, the fields of the line after its first spell the terms of the rule r. The line is shorter than a
-- text may be, since its newline stands in the text too.
pub record Meant (b : Book) (r : Rule) (line w : List ℕ) : Type 0 where
  pub good : GoodBook b
  pub table : w ≡ table_bytes b
  pub terms : terms_of (drop 1 (fields line)) ≡ some (lefts r ++ rights r)
  pub short : length line < text_max

-- The answer n is the line's, 0 being that it is fine; and the bytes of the table, which were w, are then v.
pub record Judged (b : Book) (r : Rule) (n : ℕ) (w v : List ℕ) : Type 0 where
  pub answer : judged b (is_rule r) ≡ answered n (add b (is_rule r))
  pub table : v ≡ bytes_after n (add b (is_rule r)) w
