-- What a sound lent table is.
use Rattle.std.specs.Prelude.{ℕ, ◌≡◌, List}
use Rattle.texts.specs.Books.{Book}
use Rattle.texts.specs.Good.{GoodBook}
use Rattle.table.specs.Layout.{table_bytes}

-- "A sound table is one that some rule text would give if its length had no limit." w is every byte of the lent table, and b what such a text says.
abbrev pub Given : List ℕ → Type 0
Given w = (b : Book) × GoodBook b × (w ≡ table_bytes b)
