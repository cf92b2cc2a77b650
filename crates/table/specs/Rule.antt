-- What a rule of the code holds: the row that it has in a table, and so the rule that it stands for.
use Rattle.std.specs.Prelude.{ℕ, List, ◌∷◌, ◌++◌, Option, Some, None}
use Rattle.model.specs.Table.{Entry, Found, none, straight, turned}
use Rattle.texts.specs.Books.{Agent}
use Rattle.table.specs.Layout.{entry_of}
use Rattle.table.specs.declared.Rule.{Rule}
use Rattle.table.specs.declared.Match.{Match}
use Rattle.table.specs.declared.Match.TheVariants.{Straight, Turned}

abbrev pub row : Rule → List ℕ
row r = r.left ∷ r.right ∷ r.equations ∷ r.cells ∷ r.names ∷ (r.sides ++ r.nodes)

-- The rule, where these are the agents.
unfoldable pub stands : List Agent → Rule → Entry
stands ags r = entry_of ags (row r)

-- What a look-up answers.
abbrev pub matched : Found → Option Match
matched none = None
matched (straight i e) = Some (Straight i)
matched (turned i e) = Some (Turned i)
