-- What stands between the brackets of a term.
use Rattle.std.specs.Prelude.{ℕ, List, [], ◌++◌}
use Rattle.texts.specs.Terms.{Terms, nil, cons, spell, closing}

-- what stands between the brackets, the closing one included
unfoldable pub inner : Terms → List ℕ
inner nil = []
inner (cons t ts) = spell t ++ closing ts
