-- A lent table and a lent state that are sound, and what that says of the machine's table and state in them.
use Rattle.std.specs.Prelude.{◌≡◌, List, ℕ}
use Rattle.std.proofs.Common.{subst}
use Rattle.model.specs.Sound.{Sound}
use Rattle.model.specs.SoundTable.{SoundTable}
use Rattle.texts.specs.Books.{Book}
use Rattle.texts.specs.Coded.{table_of, machine}
use Rattle.texts.specs.Good.{GoodBook}
use Rattle.table.specs.Layout.{table_bytes}
use Rattle.table.specs.Given.{Given}
use Rattle.state.specs.Layout.{view}
use Rattle.sound.specs.Lent.{under, Usable}
pub use Rattle.lent.specs.Proofs.Givens.{stands_for, under_is, given-tested, given-usable, given-sound}

-- "A sound table is one that some rule text would give if its length had no limit", and the state is sound under it.
pub record BothSound (w v : List ℕ) : Type 0 where
  pub book : Book
  pub good : GoodBook book
  pub given : w ≡ table_bytes book
  pub sound : Sound (machine (table_of book)) (view v)

-- So the machine's table and state in them are sound, and the table's bytes are just those of a table.
module _ {w v : List ℕ} (h : BothSound w v) where
  pub table-given : Given w
  table-given = (h.book, h.good, h.given)

  pub usable : Usable w
  usable = given-usable w table-given

  pub sound_table_lem : SoundTable (under w)
  sound_table_lem = given-sound w table-given

  pub sound-state : Sound (under w) (view v)
  sound-state = rw (under_is w h.book h.good h.given) h.sound

-- And the other way round.
pub both_of : (w v : List ℕ) → Given w → Sound (under w) (view v) → BothSound w v
both_of w v g s =
    record {
      book = g.0;
      good = g.1;
      given = g.2;
      sound = subst (λ t. Sound t (view v)) (under_is w g.0 g.1 g.2) s;
    }
