-- A table with one agent or one rule more: what the writers leave.
use Rattle.std.specs.Prelude.{ℕ, ◌+◌, ◌*◌, ◌/◌, ◌%◌, List, [], ◌∷◌, ◌++◌, set}
use Rattle.std.proofs.lemmas.List.Edits.{sets}
use Rattle.parts.specs.Limits.{symbols_max, rule_size}
use Rattle.model.specs.Table.{Entry}
use Rattle.texts.specs.Bytes.{Word}
use Rattle.texts.specs.Books.{Agent}
use Rattle.texts.specs.Coded.{Table}
use Rattle.table.specs.Layout.{count_at, pairs_at, rules_at}

abbrev pub no_table : Table
no_table = record { agents = []; rules = [] }

abbrev pub only_agents : List Agent → Table
only_agents ags = record { agents = ags; rules = [] }

abbrev pub agent : Word → ℕ → Agent
agent w n = record { symbol = w; arity = n }

abbrev pub with_agent : Agent → Table → Table
with_agent a t = record { agents = t.agents ++ (a ∷ []); rules = t.rules }

abbrev pub with_rule : Entry → Table → Table
with_rule e t = record { agents = t.agents; rules = t.rules ++ (e ∷ []) }

-- The stores that make it: the row of rule n, the index of its pair both ways, and the count.
unfoldable pub ruled : List ℕ → List ℕ → ℕ → ℕ → ℕ → List ℕ
ruled w r n l m =
    set
    (set
    (sets
    (sets (sets w (rules_at + rule_size * n) r) (pairs_at + 2 * (symbols_max * m + l)) (n ∷ 2 ∷ []))
    (pairs_at + 2 * (symbols_max * l + m))
    (n ∷ 1 ∷ []))
    count_at
    ((n + 1) % 256))
    (1 + count_at)
    ((n + 1) / 256)
