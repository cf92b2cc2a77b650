-- What is promised of a judge of a line, for every book that the lines before it may mean.
use Rattle.std.specs.Prelude.{ℕ, ◌≡◌, true, List}
use Rattle.std.proofs.Math.Option.{some}
use Rattle.texts.specs.Bytes.{Word}
use Rattle.texts.specs.Books.{Book, is_agent}
use Rattle.texts.specs.Answers.{OfLine, fine, fault, need}
use Rattle.texts.specs.RuleText.{Shape, ruleless, shape_of, record_of, judged}
use Rattle.texts.specs.Good.{GoodBook}
use Rattle.table.specs.Layout.{table_bytes}
use Rattle.table.specs.Put.{agent}

-- The answer 0 and the table of the book with the line's record; or the line's number, and the table as it was.
pub data Judged (was is : List ℕ) (x : OfLine Book) (n : ℕ) : Type 0 where
  passed : n ≡ 0 → (b : Book) → x ≡ fine b → is ≡ table_bytes b → Judged was is x n
  failed : (n ≡ 0 → ⊥) → x ≡ fault n → is ≡ was → Judged was is x n

-- An agent whose symbol is well spelt, where it may stand.
pub record AgentJudged (was is : List ℕ) (word : Word) (arity n : ℕ) : Type 0 where
  pub so : (b : Book) → GoodBook b → ruleless b ≡ true → was ≡ table_bytes b
      → Judged was is (judged b (is_agent (agent word arity))) n

-- A line with these fields, whose record has this shape: number 4 and what follows.
pub record ShapeJudged (was is : List ℕ) (fs : List Word) (s : Shape) (n : ℕ) : Type 0 where
  pub so : (b : Book) → GoodBook b → was ≡ table_bytes b → shape_of b fs ≡ some s
      → Judged was is (need 4 (record_of s) (judged b)) n
