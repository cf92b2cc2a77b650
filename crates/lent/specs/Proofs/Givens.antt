-- A table that some rule text would give: the machine's table in it, which is sound, and that its bytes are usable.
use Rattle.std.specs.Prelude.{◌≡◌, refl, true, List, ℕ}
use Rattle.std.proofs.Common.{sym, ◌∙◌, ap}
use Rattle.model.specs.SoundTable.{SoundTable}
use Rattle.texts.specs.Books.{Book}
use Rattle.texts.specs.Coded.{table_of, machine}
use Rattle.texts.specs.Good.{GoodBook}
use Rattle.texts.proofs.Main.{table-book, table_test, table-sound}
use Rattle.texts.specs.TableTest.{test_table}
use Rattle.table.specs.Laws.Whole.{FitTable, agents_back, tested-fits, view-bytes}
use Rattle.table.specs.Layout.{agents_in, bytes_of, table_bytes}
use Rattle.table.specs.Layout as Layout
use Rattle.table.specs.Given.{Given}
use Rattle.sound.specs.Lent.{under, Usable}
use Rattle.sound.proofs.Tables.{under-arity}

-- The table of a good book passes its test and keeps to the sizes.
tested : (b : Book) → GoodBook b → test_table (table_of b) ≡ true
tested b g = (table_test (table_of b)).1 ((table-book (table_of b)).1 (b, g, refl))

fits : (b : Book) → GoodBook b → FitTable (table_of b)
fits b g = tested-fits (table_of b) (tested b g)

-- Its bytes stand for the table of the book.
module _ (w : List ℕ) (b : Book) (good : GoodBook b) (given : w ≡ table_bytes b) where
  pub stands_for : Layout.view w ≡ table_of b
  unfolding table_bytes
  stands_for = ap Layout.view given ∙ view-bytes (table_of b) (fits b good)

  pub under_is : under w ≡ machine (table_of b)
  unfolding under
  under_is = ap machine stands_for

  agents-are : agents_in w ≡ (table_of b).agents
  unfolding table_bytes
  agents-are = ap agents_in given ∙ agents_back (table_of b) (fits b good).agents

-- It passes its test and is usable, and the machine's table in it is sound.
module _ (w : List ℕ) (g : Given w) where
  pub given-tested : test_table (Layout.view w) ≡ true
  given-tested = rw (stands_for w g.0 g.1 g.2) (tested g.0 g.1)

  pub given-sound : SoundTable (under w)
  given-sound = rw (under_is w g.0 g.1 g.2) (table-sound g.0 g.1)

  pub given-usable : Usable w
  unfolding table_bytes
  given-usable =
      record {
        exact = g.2 ∙ ap bytes_of (sym (stands_for w g.0 g.1 g.2));
        few = rw (agents-are w g.0 g.1 g.2) (fits g.0 g.1).agents.few;
        narrow = λ n. rw (under-arity w n) at (given-sound.arities n);
      }
