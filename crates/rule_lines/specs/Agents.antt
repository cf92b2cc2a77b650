-- Number 5 of an agent, by the count of the agents before it.
use Rattle.std.specs.Prelude.{ℕ, Bool, ◌||◌, ltb, leb}
use Rattle.parts.specs.Limits.{symbols_max, arity_max}
use Rattle.texts.specs.Bytes.{Word}
use Rattle.texts.specs.RuleText.{is_too_long}

-- its symbol is too long, its arity too large, or there is no room for it
unfoldable pub big_agent : Word → ℕ → ℕ → Bool
big_agent word arity before = is_too_long word || ltb arity_max arity || leb symbols_max before
