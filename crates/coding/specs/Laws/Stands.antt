-- A rule that was made of a sheet and of codes stands for the entry whose cells the sheet holds and whose sides have these codes.
use Prim.Native.Nat.{ℕ, suc, ◌+◌, ◌*◌, ◌/◌, ◌%◌, ◌<◌, ◌≤◌, pred}
use Rattle.std.specs.Prelude.{◌≡◌, Bool, true, false, cond, List, [], ◌∷◌, ◌++◌, map, length, ltb}
use Rattle.std.proofs.Math.Path.{refl, sym, ap, ap₂}
use Rattle.std.proofs.Common.{◌∙◌, add-one}
use native.Mathlib.Omega.{arith}
use Rattle.std.proofs.Math.Nat.{mod-eq_of_lt, mul-add-div, div-eq_of_lt, mul-add-mod_self_left, mul-div_right}
use Rattle.std.proofs.Math.ListN.{get_or, get_or-map, get_or-append}
use Rattle.std.proofs.Math.Seq.{get_or-append-add}
use borrow.Author.Tests.{eqb-true, ltb-true, lt-ltb}
use Rattle.parts.specs.Limits.{symbols_max, arity_max, rule_equations_max, rule_cells_max, rule_names_max, node_size}
use Rattle.parts.specs.Sides.{Side, name, cell, Pair, ◌:=◌, code, side}
use Rattle.model.specs.Table.{Cell, Entry}
use Rattle.texts.specs.Bytes.{Word, all}
use Rattle.texts.specs.Books.{Agent}
use Rattle.texts.specs.Coded.{second_from, new_from, arity_at, unpaired}
use Rattle.texts.specs.TableTest.{agent_ok, cell_ok, code_ok, args_all, all_codes}
use Rattle.texts.proofs.Beneath.Tools.{both, all_left, all_right, all_mono}
use Rattle.table.specs.declared.Rule.{Rule}
use Rattle.table.specs.Lists.{tab}
use Rattle.table.specs.Layout.{sides_in, nodes_in, equation_of, symbol_of, cell_of, entry_of, rule_bytes}
use Rattle.table.specs.Layout as Layout
use Rattle.table.specs.Rule.{row, stands}
use Rattle.table.specs.Laws.Lists.{tab_at, tab_cong, row_at}
use Rattle.table.specs.Laws.Rows.{all_at, Fits, arity-small, side_in, node_in, rule_back}
use Rattle.terms.specs.Sheet.{Sheet}
use Rattle.terms.specs.Meaning.{CellIs, CellsAre, Holds}
use Rattle.coding.specs.Made.{byte_size, node_byte, side_bytes, node_bytes, Made}

-- A code that fits a byte.
byte : Side → Bool
byte s = ltb (code s) byte_size

-- The sides of an entry within the sizes do.
code-byte : (ags : List Agent) (e : Entry) → length e.cells ≤ rule_cells_max → e.fresh ≤ rule_names_max → (s : Side) → code_ok ags e s ≡ true → byte s ≡ true
unfolding code_ok byte
code-byte ags e hc hn (cell c) h = let q : c < length e.cells = ltb-true c (length e.cells) h in lt-ltb (1 + 2 * c) byte_size (omega (arith, q))
code-byte ags e hc hn (name x) h = lt-ltb (2 * x) byte_size (go (ltb x second_from) (ltb x new_from) refl refl h)
  where
    go : (t u : Bool) → ltb x second_from ≡ t → ltb x new_from ≡ u
        → cond t (ltb x (arity_at ags e.left)) (cond u (ltb x (second_from + arity_at ags e.right)) (ltb x (new_from + e.fresh))) ≡ true → 2 * x < byte_size
    go true u ht hu k = let q : x < second_from = ltb-true x second_from ht in omega (arith, q)
    go false true ht hu k = let q : x < new_from = ltb-true x new_from hu in omega (arith, q)
    go false false ht hu k = let q : x < new_from + e.fresh = ltb-true x (new_from + e.fresh) k in omega (arith, q)

abbrev none : Cell
none = record { symbol = 0; args = [] }

cells_at : (s : Sheet) (cs : List Cell) (i k : ℕ) → CellsAre s i cs → k < length cs → CellIs s (i + k) (get_or cs k none)
unfolding CellsAre
cells_at s [] i k h q = absurd (omega arith)
cells_at s (c ∷ cs) i ℕ.zero h q = let z : i + 0 ≡ i = omega arith in rw z h.0
cells_at s (c ∷ cs) i (ℕ.suc k) h q = let z : i + suc k ≡ suc i + k = omega arith in rw z (cells_at s cs (suc i) k h.1 (omega arith))

args_at : (cs : List Cell) (k : ℕ) → all byte (args_all cs) ≡ true → k < length cs → all byte (get_or cs k none).args ≡ true
unfolding args_all
args_at [] k h q = absurd (omega arith)
args_at (c ∷ cs) ℕ.zero h q = all_left byte c.args (args_all cs) h
args_at (c ∷ cs) (ℕ.suc k) h q = args_at cs k (all_right byte c.args (args_all cs) h) (omega arith)

byte_at : (xs : List Side) (k : ℕ) → all byte xs ≡ true → k < length xs → code (get_or xs k (name 0)) < byte_size
unfolding byte
byte_at xs k h q = ltb-true (code (get_or xs k (name 0))) byte_size (all_at byte xs k (name 0) h q)

entry_of_lem : {a b c d f g : ℕ} {ps qs : List Pair} {cs ds : List Cell} → a ≡ b → c ≡ d → ps ≡ qs → cs ≡ ds → f ≡ g
    → ◌≡◌ {A = Entry} (record { left = a; right = c; body = ps; cells = cs; fresh = f }) (record { left = b; right = d; body = qs; cells = ds; fresh = g })
entry_of_lem p q r s t = rw (p, q, r, s, t)

-- What is asked of an entry.
pub record Small (ags : List Agent) (e : Entry) : Type 0 where
  pub agents : length ags ≤ symbols_max
  pub good : all agent_ok ags ≡ true
  pub fits : Fits ags e
  pub fresh : e.fresh ≤ rule_names_max
  pub codes : all (code_ok ags e) (all_codes e) ≡ true

module _ (text : List ℕ) (ags : List Agent) (e : Entry) (small : Small ags e) (s : Sheet) (ws : List Word) (holds : Holds text s e.cells ws)
    (n : ℕ) (codes : List ℕ) (rule : Rule) (made : Made rule e.left e.right n codes s)
    (long : n ≡ length (unpaired e.body)) (given : (i : ℕ) → i < n → get_or codes i 0 ≡ code (get_or (unpaired e.body) i (name 0)))
    (pairs : length (unpaired e.body) ≡ 2 * length e.body) (news : length ws ≡ new_from + e.fresh) where
  all_bytes : all byte (unpaired e.body ++ args_all e.cells) ≡ true
  unfolding all_codes
  all_bytes = all_mono (code_ok ags e) byte (code-byte ags e small.fits.little small.fresh) (unpaired e.body ++ args_all e.cells) small.codes

  -- A side in the row.
  side_same : (i : ℕ) → i < n → get_or (row rule) (sides_in + i) 0 ≡ get_or (rule_bytes e) (sides_in + i) 0
  unfolding side_bytes
  side_same i h =
      let l : i < 2 * rule_equations_max = omega (arith, long, pairs, small.fits.few) in
      let b : code (get_or (unpaired e.body) i (name 0)) < byte_size =
      byte_at (unpaired e.body) i (all_left byte (unpaired e.body) (args_all e.cells) all_bytes) (omega (arith, long)) in
      get_or-append-add (rule.left ∷ rule.right ∷ rule.equations ∷ rule.cells ∷ rule.names ∷ []) (rule.sides ++ rule.nodes) i 0
      ∙ (get_or-append rule.sides rule.nodes 0 i (omega (arith, made.sides.long))
      ∙ (made.sides.each i h
      ∙ (ap (λ x. x % byte_size) (given i h)
      ∙ (mod-eq_of_lt b
      ∙ sym (side_in e i l ∙ get_or-map code (unpaired e.body) i (name 0))))))

  cells-long : s.cells ≡ length e.cells
  cells-long = holds.count

  -- A byte of a cell in the row.
  node_same : (k j : ℕ) → k < length e.cells → j < node_size
      → get_or (row rule) (nodes_in + (node_size * k + j)) 0 ≡ node_byte s k j
  unfolding node_bytes
  node_same k j h q =
      let z : nodes_in + (node_size * k + j) ≡ 5 + (length rule.sides + (node_size * k + j)) = omega (arith, made.sides.long) in
      let d : (node_size * k + j) / node_size ≡ k = mul-add-div (omega arith) k j ∙ (ap (λ x. k + x) (div-eq_of_lt q) ∙ omega arith) in
      let m : (node_size * k + j) % node_size ≡ j = mul-add-mod_self_left node_size k j ∙ mod-eq_of_lt q in
      rw z
      (get_or-append-add (rule.left ∷ rule.right ∷ rule.equations ∷ rule.cells ∷ rule.names ∷ []) (rule.sides ++ rule.nodes) (length rule.sides + (node_size * k + j)) 0
      ∙ (get_or-append-add rule.sides rule.nodes (node_size * k + j) 0
      ∙ (made.nodes.each (node_size * k + j) (omega (arith, cells-long)) ∙ ap₂ (node_byte s) d m)))

  cell_is : (k : ℕ) → k < length e.cells → CellIs s k (get_or e.cells k none)
  cell_is k h = let z : 0 + k ≡ k = omega arith in rw z at (cells_at s e.cells 0 k holds.cells h)

  row_same : (k j : ℕ) → k < length e.cells → j < node_size → get_or (rule_bytes e) (nodes_in + (node_size * k + j)) 0 ≡ get_or (Layout.node_bytes (get_or e.cells k none)) j 0
  row_same k j h q = node_in e k j (omega (arith, small.fits.little)) q ∙ ap (λ r. get_or r j 0) (row_at node_size Layout.node_bytes e.cells k none h)

  cell-good : (k : ℕ) → k < length e.cells
      → ((get_or e.cells k none).symbol < length ags) × (length (get_or e.cells k none).args ≡ arity_at ags (get_or e.cells k none).symbol)
  unfolding cell_ok
  cell-good k h =
      let o = both (ltb (get_or e.cells k none).symbol (length ags)) _ (all_at (cell_ok ags) e.cells k none small.fits.args h) in
      (ltb-true _ _ o.0, eqb-true _ _ o.1)

  symbol_same : (k : ℕ) → k < length e.cells → get_or (row rule) (nodes_in + (node_size * k + 0)) 0 ≡ get_or (rule_bytes e) (nodes_in + (node_size * k + 0)) 0
  unfolding node_byte Layout.node_bytes
  symbol_same k h =
      let b : get_or s.symbols k 0 < byte_size = omega (arith, (cell_is k h).symbol, (cell-good k h).0, small.agents) in
      node_same k 0 h (omega arith)
      ∙ (mod-eq_of_lt b ∙ ((cell_is k h).symbol ∙ (add-one (get_or e.cells k none).symbol ∙ sym (row_same k 0 h (omega arith)))))

  arg_same : (k j : ℕ) → k < length e.cells → j < length (get_or e.cells k none).args
      → get_or (row rule) (nodes_in + (node_size * k + (1 + j))) 0 ≡ get_or (rule_bytes e) (nodes_in + (node_size * k + (1 + j))) 0
  unfolding node_byte Layout.node_bytes
  arg_same k j h q =
      let a : j < arity_max = omega (arith, q, (cell-good k h).1, arity-small ags (get_or e.cells k none).symbol small.good) in
      let z : 1 + j ≡ suc j = omega arith in
      let p = (cell_is k h).args j q in
      let b : code (get_or (get_or e.cells k none).args j (name 0)) < byte_size =
      byte_at (get_or e.cells k none).args j (args_at e.cells k (all_right byte (unpaired e.body) (args_all e.cells) all_bytes) h) q in
      rw z
      (node_same k (suc j) h (omega (arith, a))
      ∙ (ap (λ x. x % byte_size) p
      ∙ (mod-eq_of_lt b
      ∙ sym (row_same k (suc j) h (omega (arith, a))
      ∙ (tab_at arity_max (λ m. get_or (map code (get_or e.cells k none).args) m 0) j 0 a ∙ get_or-map code (get_or e.cells k none).args j (name 0))))))

  cell_same : (k : ℕ) → k < length e.cells → cell_of ags (row rule) k ≡ cell_of ags (rule_bytes e) k
  unfolding cell_of Layout.node_bytes
  cell_same k h =
      let z : nodes_in + node_size * k ≡ nodes_in + (node_size * k + 0) = omega arith in
      let y : symbol_of (row rule) k ≡ symbol_of (rule_bytes e) k =
      ap (λ i. pred (get_or (row rule) i 0)) z ∙ (ap pred (symbol_same k h) ∙ ap (λ i. pred (get_or (rule_bytes e) i 0)) (sym z)) in
      let c : symbol_of (rule_bytes e) k ≡ (get_or e.cells k none).symbol =
      ap (λ i. pred (get_or (rule_bytes e) i 0)) z ∙ (ap pred (row_same k 0 h (omega arith)) ∙ first (get_or e.cells k none)) in
      let f : (j : ℕ) → j < arity_at ags (symbol_of (rule_bytes e) k)
      → side (get_or (row rule) (nodes_in + (node_size * k + (1 + j))) 0) ≡ side (get_or (rule_bytes e) (nodes_in + (node_size * k + (1 + j))) 0) =
      λ j q. ap side (arg_same k j h (omega (arith, q, ap (arity_at ags) c, (cell-good k h).1))) in
      made_of y (ap (λ m. tab (arity_at ags m) (λ j. side (get_or (row rule) (nodes_in + (node_size * k + (1 + j))) 0))) y
      ∙ tab_cong (arity_at ags (symbol_of (rule_bytes e) k)) _ _ f)
    where
      first : (c : Cell) → pred (get_or (Layout.node_bytes c) 0 0) ≡ c.symbol
      first c = refl

      made_of : {x y : ℕ} {us vs : List Side} → x ≡ y → us ≡ vs → ◌≡◌ {A = Cell} (record { symbol = x; args = us }) (record { symbol = y; args = vs })
      made_of p q = ap₂ (λ a b. record { symbol = a; args = b }) p q

  counts : (rule.equations ≡ length e.body) × (rule.cells ≡ length e.cells) × (rule.names ≡ e.fresh)
  counts = (
    made.equations ∙ (ap (λ m. m / 2) (long ∙ pairs) ∙ mul-div_right (length e.body) (omega arith)),
    made.cells ∙ cells-long,
    made.names ∙ omega (arith, holds.names.count, news),
  )

  entry_same : entry_of ags (row rule) ≡ entry_of ags (rule_bytes e)
  unfolding entry_of rule_bytes
  entry_same = entry_of_lem made.left made.right
      (ap (λ m. tab m (equation_of (row rule))) counts.0
      ∙ tab_cong (length e.body) (equation_of (row rule)) (equation_of (rule_bytes e))
      (λ k h. ap₂ (λ x y. side x := side y) (side_same (2 * k) (omega (arith, long, pairs))) (side_same (1 + 2 * k) (omega (arith, long, pairs)))))
      (ap (λ m. tab m (cell_of ags (row rule))) counts.1 ∙ tab_cong (length e.cells) (cell_of ags (row rule)) (cell_of ags (rule_bytes e)) cell_same)
      counts.2

  -- The rule stands for the entry.
  pub made-stands : stands ags rule ≡ e
  unfolding stands
  made-stands = entry_same ∙ rule_back ags small.good e small.fits
