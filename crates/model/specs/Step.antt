-- What the rows of the step table speak of: the picked equation, an equation put, a pair held, a rule fired. How a step
-- is computed with it stands in Stepped.antt; that it is the row that holds, in StepTable.antt.
use Rattle.std.specs.Prelude.{List, [], ◌∷◌, ◌++◌, map, ℕ, suc, ◌+◌, ◌*◌, ◌-◌, pred, length, get_or, take, drop, set}
use Rattle.std.proofs.lemmas.List.Edits.{sets}
use Rattle.parts.specs.Limits.{arity_max}
use Rattle.parts.specs.Sides.{Side, name, cell, Pair, ◌:=◌, code, side}
use Rattle.model.specs.State.{Stack, stack, St, with_cells, with_names, with_waiting, with_stuck}
use Rattle.model.specs.State.{equation, pushed, pushed_all, pulled, lowest, zeros}
use Rattle.model.specs.Table.{Cell, Entry, Table, Found, none, find}

-- A state after a step, or the number of a refusal.
pub data Answer : Type 0 where
  moved : St → Answer
  refused : ℕ → Answer

-- "Picks count from 0 at the head." Number 12: "pick at or past the number waiting".
abbrev pub place : St → ℕ → ℕ
place s p = s.waiting.used - suc p

abbrev pub picked : St → ℕ → Pair
picked s p = equation (place s p) s.waiting.words

-- "The picked equation leaves the list and the rest keep their order"; it is number k from the start.
abbrev pub taken_out : ℕ → St → St
taken_out k s = with_waiting (stack (pulled k s.waiting.words) (pred s.waiting.used)) s

-- "put" means at the head. Of several, the first becomes the head.
abbrev pub push : Pair → Stack → Stack
push p l = stack (pushed l.used p l.words) (suc l.used)

abbrev pub put : Pair → St → St
put p s = with_waiting (push p s.waiting) s

abbrev pub puts : List Pair → St → St
puts ps s = with_waiting (stack (pushed_all s.waiting.used ps s.waiting.words) (s.waiting.used + length ps)) s

-- "two cells, no rule": "pair goes to the head of the stuck list".
abbrev pub held : ℕ → ℕ → St → St
held a b s = with_stuck (push (cell a := cell b) s.stuck) s

-- "two cells, rule": "both cells freed and zeroed, right side put in its order (its first equation becomes the head),
-- new names fresh". "New cells take the lowest free numbers in the order the right side is read [..]; new names
-- likewise."
abbrev pub freed : ℕ → ℕ → List ℕ → List ℕ
freed a b l = set (set l a 0) b 0

abbrev pub new_cells : Entry → ℕ → ℕ → St → List ℕ
new_cells e a b s = lowest 0 (length e.cells) (freed a b s.symbols)

abbrev pub new_names : Entry → St → List ℕ
new_names e s = lowest 0 e.fresh s.names

-- What the names and cells of a right side stand for: the arguments of the two cells, the new names, the new cells.
abbrev pub quad : ℕ → List ℕ → List ℕ
quad c l = take arity_max (drop (arity_max * c) l)

abbrev pub env : Entry → ℕ → ℕ → St → ℕ → Side
env e a b s z = side (get_or (quad a s.arguments ++ (quad b s.arguments ++ map (λ x. 2 * x) (new_names e s))) z 0)

abbrev pub alloc : Entry → ℕ → ℕ → St → ℕ → ℕ
alloc e a b s m = get_or (new_cells e a b s) m 0

abbrev pub inst : (ℕ → Side) → (ℕ → ℕ) → Side → Side
inst env alloc (name z) = env z
inst env alloc (cell k) = cell (alloc k)

abbrev pub inst_cell : (ℕ → Side) → (ℕ → ℕ) → Cell → Cell
inst_cell env alloc k = record { symbol = k.symbol; args = map (inst env alloc) k.args }

abbrev pub inst_pair : (ℕ → Side) → (ℕ → ℕ) → Pair → Pair
inst_pair env alloc (a := b) = inst env alloc a := inst env alloc b

abbrev pub copies : Entry → ℕ → ℕ → St → List Cell
copies e a b s = map (inst_cell (env e a b s) (alloc e a b s)) e.cells

-- Cells written at numbers, and names set bare.
abbrev pub write_symbols : List ℕ → List Cell → List ℕ → List ℕ
write_symbols [] ks l = l
write_symbols (c ∷ cs) [] l = l
write_symbols (c ∷ cs) (k ∷ ks) l = write_symbols cs ks (set l c (suc k.symbol))

abbrev pub write_arguments : List ℕ → List Cell → List ℕ → List ℕ
write_arguments [] ks l = l
write_arguments (c ∷ cs) [] l = l
write_arguments (c ∷ cs) (k ∷ ks) l = write_arguments cs ks (sets l (arity_max * c) (map code k.args))

abbrev pub set_bare : List ℕ → List ℕ → List ℕ
set_bare [] l = l
set_bare (x ∷ xs) l = set_bare xs (set l x 1)

abbrev pub zero_cell : ℕ → List ℕ → List ℕ
zero_cell c l = sets l (arity_max * c) (zeros arity_max)

abbrev pub fired : Entry → ℕ → ℕ → St → St
fired e a b s =
    puts
    (map (inst_pair (env e a b s) (alloc e a b s)) e.body)
    (with_names
    (set_bare (new_names e s) s.names)
    (with_cells
    (write_symbols (new_cells e a b s) (copies e a b s) (freed a b s.symbols))
    (write_arguments (new_cells e a b s) (copies e a b s) (zero_cell b (zero_cell a s.arguments)))
    s))

-- The rule of two cells, by their symbols.
abbrev pub symbol_of : ℕ → St → ℕ
symbol_of c s = pred (get_or s.symbols c 0)

abbrev pub rule_of : Table → ℕ → ℕ → St → Found
rule_of T a b s = find T.rules 0 (symbol_of a s) (symbol_of b s)

-- The rule that the picked equation fires, if any.
abbrev pub rule_for : Table → Pair → St → Found
rule_for T (name x := t) s = none
rule_for T (cell a := name y) s = none
rule_for T (cell a := cell b) s = rule_of T a b s

abbrev pub rule_at : Table → St → ℕ → Found
rule_at T s p = rule_for T (picked s p) s
