-- An executable test of a lent table: flat passes over its agents, its rules, and the sides of each rule.
use Rattle.std.specs.Prelude.{ℕ, zero, suc, ◌+◌, ◌-◌, Bool, true, false, cond, not, ◌&&◌, ◌||◌, List, [], ◌∷◌, ◌++◌, length, eqb, ltb, leb}
use Rattle.parts.specs.Limits.{identifier_max, symbols_max, arity_max, rules_max, rule_equations_max, rule_cells_max, rule_names_max}
use Rattle.parts.specs.Sides.{Side, name, cell, Pair, ◌:=◌}
use Rattle.model.specs.Table.{Cell, Entry}
use Rattle.texts.specs.Bytes.{any, all, keep}
use Rattle.texts.specs.Terms.{symbol}
use Rattle.texts.specs.Books.{Agent, declared}
use Rattle.texts.specs.Coded.{arity_at, unpaired, second_from, new_from, Table}

-- "Identifier 1 to 16 bytes", "symbols [begin] with a letter", "arity 0 to 4".
unfoldable pub agent_ok : Agent → Bool
agent_ok a = symbol a.symbol && leb (length a.symbol) identifier_max && leb a.arity arity_max

-- Each agent after those before it: no "symbol declared twice".
unfoldable pub test_agents : List Agent → List Agent → Bool
test_agents seen [] = true
test_agents seen (a ∷ bs) = agent_ok a && not (declared seen a.symbol) && test_agents (seen ++ (a ∷ [])) bs

-- A cell of a declared symbol with as many arguments as its arity.
unfoldable pub cell_ok : List Agent → Cell → Bool
cell_ok ags c = ltb c.symbol (length ags) && eqb (length c.args) (arity_at ags c.symbol)

-- All sides of a rule: those of its equations, and the arguments of its cells.
unfoldable pub args_all : List Cell → List Side
args_all [] = []
args_all (c ∷ cs) = c.args ++ args_all cs

unfoldable pub all_codes : Entry → List Side
all_codes e = unpaired e.body ++ args_all e.cells

unfoldable pub same_side : Side → Side → Bool
same_side (name x) (name y) = eqb x y
same_side (name x) (cell d) = false
same_side (cell c) (name y) = false
same_side (cell c) (cell d) = eqb c d

-- A name is an argument of the left agent, one of the right agent, or one of the new names; a cell is one of the
-- rule's.
unfoldable pub code_ok : List Agent → Entry → Side → Bool
code_ok ags e (name x) =
    cond (ltb x second_from) (ltb x (arity_at ags e.left))
    (cond (ltb x new_from) (ltb x (second_from + arity_at ags e.right)) (ltb x (new_from + e.fresh)))
code_ok ags e (cell c) = ltb c (length e.cells)

-- Each of the n names from number k on stands so often.
unfoldable pub tally : {A : Type 0} → (A → Bool) → List A → ℕ
tally p xs = length (keep p xs)

unfoldable pub standing : ℕ → List Side → ℕ → ℕ → Bool
standing often cs k zero = true
standing often cs k (suc n) = standing often cs k n && eqb (tally (same_side (name (k + n))) cs) often

-- Reading order: "outer before inner, left before right". The names before the first cell, and what stands from it on.
unfoldable pub ahead : List Side → List ℕ
ahead [] = []
ahead (name x ∷ cs) = x ∷ ahead cs
ahead (cell c ∷ cs) = []

unfoldable pub onward : List Side → List Side
onward [] = []
onward (name x ∷ cs) = onward cs
onward (cell c ∷ cs) = cell c ∷ cs

unfoldable pub head_is : Side → List Side → Bool
head_is c [] = false
head_is c (d ∷ ds) = same_side c d

unfoldable pub rest : List Side → List Side
rest [] = []
rest (c ∷ cs) = cs

unfoldable pub void : List Side → Bool
void [] = true
void (c ∷ cs) = false

-- `cs` are the sides that wait to be met, the next first (a stack), m is the number of the next cell. Names are passed
-- over; the first cell that waits must be cell m, and its arguments then wait in its place. In the end no cell is
-- left, and none waits: each cell was met once, in order.
unfoldable pub walk : ℕ → List Side → List Cell → Bool
walk m cs [] = void (onward cs)
walk m cs (d ∷ ds) = head_is (cell m) (onward cs) && walk (suc m) (d.args ++ rest (onward cs)) ds

-- The names that the same walk meets, in order.
unfoldable pub met : List Side → List Cell → List ℕ
met cs [] = ahead cs
met cs (d ∷ ds) = ahead cs ++ met (d.args ++ rest (onward cs)) ds

-- "New names likewise": the next one that is new is number n, every other one is an argument or was met before; there
-- are `total` of them in the end.
unfoldable pub numbered : ℕ → ℕ → List ℕ → Bool
numbered total n [] = eqb n total
numbered total n (x ∷ xs) =
    cond (eqb x (new_from + n)) (numbered total (suc n) xs) (ltb x (new_from + n) && numbered total n xs)

-- A rule of a symbol with itself: "no agents and no new names, and its set of unordered pairs is unchanged when the
-- two left argument lists change places".
unfoldable pub turned : ℕ → ℕ
turned x = cond (ltb x second_from) (second_from + x) (x - second_from)

unfoldable pub turned_side : Side → Side
turned_side (name x) = name (turned x)
turned_side (cell c) = cell c

-- The first equation, turned, is the second.
unfoldable pub turns_to : Pair → Pair → Bool
turns_to (a := b) (c := d) =
    same_side (turned_side a) c && same_side (turned_side b) d || same_side (turned_side a) d && same_side (turned_side b) c

unfoldable pub is_two_sided : Entry → Bool
is_two_sided e = eqb (length e.cells) 0 && eqb e.fresh 0 && all (λ p. any (turns_to p) e.body) e.body

-- One rule.
unfoldable pub test_template : List Agent → Entry → Bool
test_template ags e =
    -- both symbols are declared
    ltb e.left (length ags)
    && ltb e.right (length ags)
    -- "at most 16 equations, 32 cells and 32 new names"
    && leb (length e.body) rule_equations_max
    && leb (length e.cells) rule_cells_max
    && leb e.fresh rule_names_max
    -- each cell: a declared symbol with as many arguments as its arity
    && all (cell_ok ags) e.cells
    && all (code_ok ags e) (all_codes e)
    -- "each of these occurs once on the right; any other name on the right occurs twice there"
    && standing 1 (all_codes e) 0 (arity_at ags e.left)
    && standing 1 (all_codes e) second_from (arity_at ags e.right)
    && standing 2 (all_codes e) new_from e.fresh
    -- cells and new names are numbered as they are met
    && walk 0 (unpaired e.body) e.cells
    && numbered e.fresh 0 (met (unpaired e.body) e.cells)
    -- a rule of a symbol with itself reads the same from both sides
    && (not (eqb e.left e.right) || is_two_sided e)

-- A rule of two symbols, whichever is which.
unfoldable pub pair_test : ℕ → ℕ → Entry → Bool
pair_test f s e = eqb f e.left && eqb s e.right || eqb f e.right && eqb s e.left

-- Each rule after those before it: "one rule for each pair of symbols, whichever is written first".
unfoldable pub test_templates : List Agent → List Entry → List Entry → Bool
test_templates ags seen [] = true
test_templates ags seen (e ∷ es) =
    test_template ags e && not (any (pair_test e.left e.right) seen) && test_templates ags (seen ++ (e ∷ [])) es

-- The table: "64 symbols", "256 rules".
unfoldable pub test_table : Table → Bool
test_table t =
    leb (length t.agents) symbols_max
    && leb (length t.rules) rules_max
    && test_agents [] t.agents
    && test_templates t.agents [] t.rules
