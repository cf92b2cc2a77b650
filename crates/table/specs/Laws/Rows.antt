-- Each row of a table's bytes has its length, and stands for the agent, the cell or the rule that it was made of.
use Rattle.std.specs.Prelude.{ℕ, suc, ◌+◌, ◌*◌, ◌<◌, ◌≤◌, pred, refl, Bool, true, ◌&&◌, List, [], ◌∷◌, ◌++◌, map, get_or, take, ltb, leb}
use Rattle.std.proofs.Math.Path.{◌≡◌, sym, ap, ap₂}
use Rattle.std.proofs.Common.{◌∙◌, arith, length-append, take_at, get_or-append-add}
use Rattle.std.proofs.Math.ListN.{length, get_or-map, get_or-append}
use Rattle.std.proofs.Math.Seq.{get_or-append_seam}
use borrow.Author.Tests.{leb-true, eqb-true}
use Rattle.parts.specs.Limits.{identifier_max, arity_max, rule_equations_max, rule_cells_max, agent_size, node_size, rule_size}
use Rattle.parts.specs.Sides.{name, Pair, ◌:=◌, code, side}
use Rattle.parts.specs.Codes.{side-code}
use Rattle.model.specs.Table.{Cell, Entry}
use Rattle.texts.specs.Bytes.{Word, all, letter, digit, word_byte}
use Rattle.texts.specs.Terms.{symbol}
use Rattle.texts.specs.Books.{Agent}
use Rattle.texts.specs.TableTest.{agent_ok, cell_ok}
use Rattle.texts.specs.Coded.{arity_at, unpaired}
use Rattle.texts.proofs.Beneath.Tools.{never, both}
use Rattle.table.specs.Lists.{tab, blocks, filled, row_of}
use Rattle.table.specs.Laws.Lists.{length-tab, tab_at, tab_list, length-row, row_at, length-blocks, block_get}
use Rattle.table.specs.Layout.{sides_in, nodes_in, word, agent_of, equation_of, symbol_of, cell_of, entry_of, agent_bytes, node_bytes, rule_bytes}

-- What holds of each element of a list holds of the one with a number.
pub all_at : {A : Type 0} (f : A → Bool) (xs : List A) (k : ℕ) (d : A) → all f xs ≡ true → k < length xs → f (get_or xs k d) ≡ true
unfolding all
all_at f [] k d h q = absurd (omega arith)
all_at f (x ∷ xs) ℕ.zero d h q = (both (f x) (all f xs) h).0
all_at f (x ∷ xs) (ℕ.suc k) d h q = all_at f xs k d (both (f x) (all f xs) h).1 (omega arith)

-- Lengths.
pub length-agent : (a : Agent) → length (agent_bytes a) ≡ agent_size
unfolding agent_bytes
length-agent a = omega (arith, length-append (filled identifier_max a.symbol) (suc a.arity ∷ []), length-tab identifier_max (λ k. get_or a.symbol k 0))

pub length-node : (c : Cell) → length (node_bytes c) ≡ node_size
unfolding node_bytes
length-node c = omega (arith, length-tab arity_max (λ k. get_or (map code c.args) k 0))

length-sides : (e : Entry) → length (filled (2 * rule_equations_max) (map code (unpaired e.body))) ≡ 2 * rule_equations_max
length-sides e = length-tab (2 * rule_equations_max) (λ k. get_or (map code (unpaired e.body)) k 0)

length-nodes : (e : Entry) → length (blocks rule_cells_max (row_of node_size node_bytes e.cells)) ≡ node_size * rule_cells_max
length-nodes e = length-blocks node_size rule_cells_max (row_of node_size node_bytes e.cells) (λ k. length-row node_size node_bytes e.cells k length-node)

pub length-rule : (e : Entry) → length (rule_bytes e) ≡ rule_size
unfolding rule_bytes
length-rule e =
    omega (
      arith,
      length-append (filled (2 * rule_equations_max) (map code (unpaired e.body))) (blocks rule_cells_max (row_of node_size node_bytes e.cells)),
      length-sides e,
      length-nodes e,
    )

-- A symbol has no byte 0.
wordy : word_byte 0 ≡ true → ⊥
unfolding word_byte letter digit
wordy h = never h

lettery : letter 0 ≡ true → ⊥
unfolding letter
lettery h = never h

word_none : (n : ℕ) → word (filled n []) ≡ []
unfolding word tab
word_none ℕ.zero = refl
word_none (ℕ.suc n) = refl

word_all : (n : ℕ) (l : Word) → all word_byte l ≡ true → length l ≤ n → word (filled n l) ≡ l
unfolding word tab all
word_all n [] h q = word_none n
word_all ℕ.zero (b ∷ l) h q = absurd (omega arith)
word_all (ℕ.suc n) (ℕ.zero ∷ l) h q = absurd (wordy (both (word_byte 0) (all word_byte l) h).0)
word_all (ℕ.suc n) (ℕ.suc b ∷ l) h q = ap (λ w. suc b ∷ w) (word_all n l (both (word_byte (suc b)) (all word_byte l) h).1 (omega arith))

pub word-filled : (n : ℕ) (l : Word) → symbol l ≡ true → length l ≤ n → word (filled n l) ≡ l
unfolding word tab symbol
word-filled n [] h q = word_none n
word-filled ℕ.zero (b ∷ l) h q = absurd (omega arith)
word-filled (ℕ.suc n) (ℕ.zero ∷ l) h q = absurd (lettery (both (letter 0) (all word_byte l) h).0)
word-filled (ℕ.suc n) (ℕ.suc b ∷ l) h q = ap (λ w. suc b ∷ w) (word_all n l (both (letter (suc b)) (all word_byte l) h).1 (omega arith))

pub agent_back : (a : Agent) → agent_ok a ≡ true → agent_of (agent_bytes a) ≡ a
unfolding agent_of agent_bytes agent_ok
agent_back a h =
    let p = both (symbol a.symbol && leb (length a.symbol) identifier_max) (leb a.arity arity_max) h in
    let q = both (symbol a.symbol) (leb (length a.symbol) identifier_max) p.0 in
    let s : word (take identifier_max (filled identifier_max a.symbol ++ (suc a.arity ∷ []))) ≡ a.symbol =
    ap word (take_at (filled identifier_max a.symbol) (suc a.arity ∷ []) identifier_max (length-tab identifier_max (λ k. get_or a.symbol k 0)))
    ∙ word-filled identifier_max a.symbol q.0 (leb-true (length a.symbol) identifier_max q.1) in
    let n : get_or (filled identifier_max a.symbol ++ (suc a.arity ∷ [])) identifier_max 0 ≡ suc a.arity =
    rw (length-tab identifier_max (λ k. get_or a.symbol k 0)) at (get_or-append_seam (filled identifier_max a.symbol) (suc a.arity) [] 0) in
    ap₂ (λ v m. record { symbol = v; arity = m }) s (ap pred n)

-- The sides of equations, two by two.
pairs_back : (ps : List Pair) (d : Pair) (k : ℕ) → k < length ps
    → (side (get_or (map code (unpaired ps)) (2 * k) 0) := side (get_or (map code (unpaired ps)) (1 + 2 * k) 0)) ≡ get_or ps k d
unfolding unpaired
pairs_back [] d k h = absurd (omega arith)
pairs_back ((s := t) ∷ ps) d ℕ.zero h = ap₂ ◌:=◌ (side-code s) (side-code t)
pairs_back ((s := t) ∷ ps) d (ℕ.suc k) h =
    let e : 2 * suc k ≡ suc (suc (2 * k)) = omega arith in
    let f : 1 + suc (suc (2 * k)) ≡ suc (suc (1 + 2 * k)) = omega arith in
    rw (e, f) (pairs_back ps d k (omega arith))

length-unpaired : (ps : List Pair) → length (map code (unpaired ps)) ≡ 2 * length ps
unfolding unpaired
length-unpaired [] = omega arith
length-unpaired ((s := t) ∷ ps) = omega (arith, length-unpaired ps)

-- What a rule of the table must keep so that its row stands for it.
pub record Fits (ags : List Agent) (e : Entry) : Type 0 where
  pub few : length e.body ≤ rule_equations_max
  pub little : length e.cells ≤ rule_cells_max
  pub args : all (cell_ok ags) e.cells ≡ true

-- No agent has more arguments than a cell has places.
pub arity-small : (ags : List Agent) (s : ℕ) → all agent_ok ags ≡ true → arity_at ags s ≤ arity_max
unfolding all arity_at agent_ok
arity-small [] s h = omega arith
arity-small (a ∷ ags) ℕ.zero h =
    leb-true a.arity arity_max
    (both (symbol a.symbol && leb (length a.symbol) identifier_max) (leb a.arity arity_max) (both (agent_ok a) (all agent_ok ags) h).0).1
arity-small (a ∷ ags) (ℕ.suc s) h = arity-small ags s (both (agent_ok a) (all agent_ok ags) h).1

-- a side and a cell in the row of a rule
pub side_in : (e : Entry) (k : ℕ) → k < 2 * rule_equations_max → get_or (rule_bytes e) (sides_in + k) 0 ≡ get_or (map code (unpaired e.body)) k 0
unfolding rule_bytes
side_in e k h =
    get_or-append-add (e.left ∷ e.right ∷ length e.body ∷ length e.cells ∷ e.fresh ∷ []) (filled (2 * rule_equations_max) (map code (unpaired e.body)) ++ blocks rule_cells_max (row_of node_size node_bytes e.cells)) k 0
    ∙ get_or-append (filled (2 * rule_equations_max) (map code (unpaired e.body))) (blocks rule_cells_max (row_of node_size node_bytes e.cells)) 0 k (omega (arith, length-sides e))
    ∙ tab_at (2 * rule_equations_max) (λ k. get_or (map code (unpaired e.body)) k 0) k 0 h

pub node_in : (e : Entry) (k j : ℕ) → k < rule_cells_max → j < node_size
    → get_or (rule_bytes e) (nodes_in + (node_size * k + j)) 0 ≡ get_or (row_of node_size node_bytes e.cells k) j 0
unfolding rule_bytes
node_in e k j h q =
    let i : nodes_in + (node_size * k + j) ≡ 5 + (length (filled (2 * rule_equations_max) (map code (unpaired e.body))) + (node_size * k + j)) =
    omega (arith, length-sides e) in
    rw i
    (get_or-append-add (e.left ∷ e.right ∷ length e.body ∷ length e.cells ∷ e.fresh ∷ []) (filled (2 * rule_equations_max) (map code (unpaired e.body)) ++ blocks rule_cells_max (row_of node_size node_bytes e.cells)) (length (filled (2 * rule_equations_max) (map code (unpaired e.body))) + (node_size * k + j)) 0
    ∙ get_or-append-add (filled (2 * rule_equations_max) (map code (unpaired e.body))) (blocks rule_cells_max (row_of node_size node_bytes e.cells)) (node_size * k + j) 0
    ∙ block_get node_size rule_cells_max (row_of node_size node_bytes e.cells) (λ k. length-row node_size node_bytes e.cells k length-node) k j h q)

-- A cell's row stands for the cell, at the number of the cell.
no_cell : Cell
no_cell = record { symbol = 0; args = [] }

cell_in : (e : Entry) (k j : ℕ) → k < length e.cells → k < rule_cells_max → j < node_size
    → get_or (rule_bytes e) (nodes_in + (node_size * k + j)) 0 ≡ get_or (node_bytes (get_or e.cells k no_cell)) j 0
cell_in e k j h q p = node_in e k j q p ∙ ap (λ r. get_or r j 0) (row_at node_size node_bytes e.cells k no_cell h)

symbol_in : (e : Entry) (k : ℕ) → k < length e.cells → k < rule_cells_max → symbol_of (rule_bytes e) k ≡ (get_or e.cells k no_cell).symbol
unfolding node_bytes
symbol_in e k h q =
    let i : nodes_in + node_size * k ≡ nodes_in + (node_size * k + 0) = omega arith in
    ap (λ n. pred (get_or (rule_bytes e) n 0)) i ∙ ap pred (cell_in e k 0 h q (omega arith))

arg_in : (e : Entry) (k j : ℕ) → k < length e.cells → k < rule_cells_max → j < arity_max
    → side (get_or (rule_bytes e) (nodes_in + (node_size * k + (1 + j))) 0) ≡ get_or (get_or e.cells k no_cell).args j (name 0)
unfolding node_bytes
arg_in e k j h q p =
    let i : 1 + j ≡ suc j = omega arith in
    let c = get_or e.cells k no_cell in
    ap side
    (cell_in e k (1 + j) h q (omega arith)
    ∙ (ap (λ m. get_or (node_bytes (get_or e.cells k no_cell)) m 0) i
    ∙ (tab_at arity_max (λ n. get_or (map code (get_or e.cells k no_cell).args) n 0) j 0 p
    ∙ get_or-map code (get_or e.cells k no_cell).args j (name 0))))
    ∙ side-code (get_or (get_or e.cells k no_cell).args j (name 0))

cell_is : {c d : Cell} → c.symbol ≡ d.symbol → c.args ≡ d.args → c ≡ d
cell_is e f = ap₂ (λ s a. record { symbol = s; args = a }) e f

module _ (ags : List Agent) (good : all agent_ok ags ≡ true) where
  cell_back : (e : Entry) → Fits ags e → (k : ℕ) → k < length e.cells → cell_of ags (rule_bytes e) k ≡ get_or e.cells k no_cell
  unfolding cell_of cell_ok
  cell_back e f k h =
      let q : k < rule_cells_max = omega (arith, f.little) in
      let s = symbol_in e k h q in
      let o = both (ltb (get_or e.cells k no_cell).symbol (length ags)) _ (all_at (cell_ok ags) e.cells k no_cell f.args h) in
      let l : length (get_or e.cells k no_cell).args ≡ arity_at ags (get_or e.cells k no_cell).symbol = eqb-true _ _ o.1 in
      let n : arity_at ags (symbol_of (rule_bytes e) k) ≡ length (get_or e.cells k no_cell).args = ap (arity_at ags) s ∙ sym l in
      cell_is s
      (ap (λ m. tab m (λ j. side (get_or (rule_bytes e) (nodes_in + (node_size * k + (1 + j))) 0))) n
      ∙ tab_list (get_or e.cells k no_cell).args (λ j. side (get_or (rule_bytes e) (nodes_in + (node_size * k + (1 + j))) 0)) (name 0)
      (λ j r. arg_in e k j h q (omega (arith, r, l, arity-small ags (get_or e.cells k no_cell).symbol good))))

  -- The row of a rule stands for the rule.
  pub rule_back : (e : Entry) → Fits ags e → entry_of ags (rule_bytes e) ≡ e
  unfolding entry_of rule_bytes
  rule_back e f = both-parts
      (tab_list e.body (equation_of (rule_bytes e)) (name 0 := name 0)
      (λ k h. ap₂ (λ a b. side a := side b) (side_in e (2 * k) (omega (arith, f.few))) (side_in e (1 + 2 * k) (omega (arith, f.few))) ∙ pairs_back e.body (name 0 := name 0) k h))
      (tab_list e.cells (cell_of ags (rule_bytes e)) no_cell (cell_back e f))
    where
      both-parts : tab (length e.body) (equation_of (rule_bytes e)) ≡ e.body → tab (length e.cells) (cell_of ags (rule_bytes e)) ≡ e.cells
          → ◌≡◌ {A = Entry} (record { left = e.left; right = e.right; body = tab (length e.body) (equation_of (rule_bytes e)); cells = tab (length e.cells) (cell_of ags (rule_bytes e)); fresh = e.fresh }) e
      both-parts p q = ap₂ (λ b c. record { left = e.left; right = e.right; body = b; cells = c; fresh = e.fresh }) p q
