-- What the row 'two cells, rule' writes: its new cells and names, and what each number of the rule stands for.
use Rattle.std.specs.Prelude.{◌≡◌, refl, List, [], ◌∷◌, ◌++◌, map, ℕ, suc, ◌+◌, ◌*◌, ◌-◌, ◌≤◌, ◌<◌, length, get_or, drop, set}
use Rattle.std.proofs.Common.{sym, ◌∙◌, ap, ap₂, arith, length-drop, get_or-take, get_or-append-add, length-take-le}
use Rattle.std.proofs.Math.Decide.{dec_lt}
use Rattle.std.proofs.lemmas.List.{length-map}
use Rattle.std.proofs.Math.ListN.{get_or-append, get_or-map, get_or-eq_default}
use Rattle.calculus.specs.Calculus.{Rule}
use Rattle.calculus.proofs.Beneath.Count.{δ_same}
use Rattle.calculus.specs.Terms.{δ, sum, count}
use Rattle.parts.specs.Limits.{names_max}
use Rattle.parts.specs.Sides.{Side, name, side}
use Rattle.parts.specs.Codes.{side-code}
use Rattle.model.specs.State.{St, used, from}
use Rattle.model.specs.Table.{Cell, Entry, Table, no_cell, entry}
use Rattle.model.specs.Step.{inst, inst_cell, new_cells, new_names, quad, env, alloc, write_symbols}
use Rattle.model.specs.Step.{write_arguments, zero_cell, copies, symbol_of}
use Rattle.model.specs.Stepped.{Room}
use Rattle.model.specs.Sound.{width, cell_at, live, mem_of}
use Rattle.model.specs.SoundTable.{SoundEntry, SoundTable}
use Rattle.model.proofs.Beneath.Cellwork.{length₂, args_length₂, live₂, used₁, used₂, copied, kept₂, zeros₂}
use Rattle.model.proofs.Beneath.Cellwork.{declared₂, length₁}
use Rattle.model.proofs.Beneath.Frame.{Framed}
use Rattle.model.proofs.Beneath.Fresh.{cell_by}
use Rattle.model.proofs.Beneath.Pool.{in_range}
use Rattle.model.proofs.Beneath.Store.{Free, lowest-free, lowest-many, count-get_or, get_or-apart, map-get_or}
use Rattle.model.proofs.Beneath.Store.{Small}
use Rattle.model.proofs.Beneath.Froms.{from-count}

module _ {T : Table} (h : SoundTable T) (st : St) (f : Framed T st) (i : ℕ) (listed-rule : i < length T.rules) (a b : ℕ) (two : (c : ℕ) → δ c a + δ c b ≤ live st.symbols c) (room : Room (entry T i) st) where
  abbrev ar : List ℕ
  ar = T.arities

  abbrev ss : List ℕ
  ss = st.symbols

  abbrev l : List ℕ
  l = st.arguments

  abbrev ns : List ℕ
  ns = st.names

  abbrev e : Entry
  e = entry T i

  abbrev r : Rule
  r = h.rule i

  abbrev se : SoundEntry T e r
  se = h.entries i listed-rule

  abbrev E : ℕ → Side
  E = env e a b st

  abbrev A : ℕ → ℕ
  A = alloc e a b st

  abbrev ps : List ℕ
  ps = new_cells e a b st

  abbrev xs : List ℕ
  xs = new_names e st

  abbrev ks : List Cell
  ks = copies e a b st

  size : length l ≡ 4 * length ss
  size = omega (arith, f.sizes.symbols, f.sizes.arguments)

  -- The new cells and the new names are free places, as many as the rule asks.
  free : Free ps (set (set ss a 0) b 0)
  free = lowest-free (length e.cells) (set (set ss a 0) b 0)

  pub free_names : Free xs ns
  free_names = lowest-free e.fresh ns

  ps-many : length ps ≡ length e.cells
  ps-many =
      lowest-many
      (length e.cells)
      (set (set ss a 0) b 0)
      (omega (
        arith,
        room.0,
        used₁ ar ss l size h.arities f.zeros.arguments a b two,
        length₁ ar ss l size h.arities f.zeros.arguments a b two,
        f.sizes.symbols,
      ))

  xs-many : length xs ≡ e.fresh
  xs-many = lowest-many e.fresh ns (omega (arith, room.1, f.sizes.names))

  ks-many : length ks ≡ length e.cells
  ks-many = length-map e.cells (inst_cell E A)

  many : length ps ≡ length ks
  many = omega (arith, ps-many, ks-many)

  ks_at : (j : ℕ) → get_or ks j no_cell ≡ inst_cell E A (get_or e.cells j no_cell)
  ks_at j = get_or-map (inst_cell E A) e.cells j no_cell

  ks-args : (j : ℕ) → length (get_or ks j no_cell).args ≡ length (get_or e.cells j no_cell).args
  ks-args j = ap (λ k. length k.args) (ks_at j) ∙ length-map (get_or e.cells j no_cell).args (inst E A)

  sm : Small ks
  sm j = by (dec_lt j (length e.cells))
    where
      by : Dec (j < length e.cells) → length (get_or ks j no_cell).args ≤ 4
      by (yes o) = omega (arith, ks-args j, (se.cells j o).args, h.arities (get_or e.cells j no_cell).symbol)
      by (no o) = omega (arith, ks-args j, ap (λ k. length k.args) (get_or-eq_default e.cells no_cell {n = j} (omega arith)))

  fit : (j : ℕ) → j < length ks → length (get_or ks j no_cell).args ≡ get_or ar (get_or ks j no_cell).symbol 0
  fit j o = ks-args j ∙ (se.cells j (omega (arith, ks-many))).args ∙ ap (λ k. get_or ar k.symbol 0) (sym (ks_at j))

  abbrev ss' : List ℕ
  ss' = write_symbols ps ks (set (set ss a 0) b 0)

  abbrev l' : List ℕ
  l' = write_arguments ps ks (zero_cell b (zero_cell a l))

  abbrev mem' : ℕ → Cell
  mem' = cell_at ar ss' l'

  live-a : 0 < live ss a
  live-a = omega (arith, two a, δ_same a)

  live-b : 0 < live ss b
  live-b = omega (arith, two b, δ_same b)

  -- What a number of the template stands for.
  quad-length : (c : ℕ) → 0 < live ss c → length (quad c l) ≡ 4
  quad-length c o = length-take-le 4 (drop (4 * c) l) (omega (arith, in_range ss c (omega arith), size, length-drop (4 * c) l))

  abbrev words : List ℕ
  words = map (λ x. 2 * x) xs

  env_left : (k : ℕ) → k < 4 → E (0 + k) ≡ side (get_or (drop (4 * a) l) k 0)
  env_left k o =
      let z : 0 + k ≡ k = omega arith in
      ap E z
      ∙ ap side (get_or-append (quad a l) (quad b l ++ words) 0 k (omega (arith, quad-length a live-a)) ∙ get_or-take 4 (drop (4 * a) l) k 0 o)

  env_right : (k : ℕ) → k < 4 → E (4 + k) ≡ side (get_or (drop (4 * b) l) k 0)
  env_right k o =
      ap
      side
      (ap (λ n. get_or (quad a l ++ (quad b l ++ words)) (n + k) 0) (sym (quad-length a live-a))
      ∙ get_or-append-add (quad a l) (quad b l ++ words) k 0
      ∙ get_or-append (quad b l) words 0 k (omega (arith, quad-length b live-b))
      ∙ get_or-take 4 (drop (4 * b) l) k 0 o)

  env_new : (z k : ℕ) → z ≡ 8 + k → E z ≡ name (get_or xs k 0)
  env_new z k o =
      let p : z ≡ length (quad a l) + (length (quad b l) + k) = omega (arith, quad-length a live-a, quad-length b live-b) in
      ap
      side
      (ap (λ n. get_or (quad a l ++ (quad b l ++ words)) n 0) p
      ∙ get_or-append-add (quad a l) (quad b l ++ words) (length (quad b l) + k) 0
      ∙ get_or-append-add (quad b l) words k 0
      ∙ get_or-map (λ x. 2 * x) xs k 0)
      ∙ side-code (name (get_or xs k 0))

  abbrev new_name : ℕ → ℕ
  new_name z = get_or xs (z - 8) 0

  is_new : (z : ℕ) → 0 < count z r.new → (8 ≤ z) × (z < 8 + e.fresh)
  is_new z o = from-count 8 e.fresh z (omega (arith, o, ap (count z) se.means.new))

  pub cell_left : e.left ≡ symbol_of a st → mem_of T st a ≡ record { symbol = r.left; args = map E r.xs }
  cell_left o =
      cell_by ar ss l a 0 E size h.arities live-a env_left
      ∙ ap₂
      (λ s n. record { symbol = s; args = map E n })
      (sym o ∙ sym se.means.left)
      (ap (λ s. from 0 (get_or ar s 0)) (sym o) ∙ sym se.means.xs)

  pub cell_right : e.right ≡ symbol_of b st → mem_of T st b ≡ record { symbol = r.right; args = map E r.ys }
  cell_right o =
      cell_by ar ss l b 4 E size h.arities live-b env_right
      ∙ ap₂
      (λ s n. record { symbol = s; args = map E n })
      (sym o ∙ sym se.means.right)
      (ap (λ s. from 4 (get_or ar s 0)) (sym o) ∙ sym se.means.ys)

  pub named_new : (z : ℕ) → 0 < count z r.new → E z ≡ name (new_name z)
  named_new z o = env_new z (z - 8) (let p = is_new z o in omega (arith, p.0))

  -- The cells after the row.
  pub places : map A (from 0 (length e.cells)) ≡ ps
  places =
      ap (λ n. map A (from 0 n)) (sym ps-many)
      ∙ map-get_or ps 0 A (λ k o. let z : 0 + k ≡ k = omega arith in ap A z)

  pub live_after : (c : ℕ) → live ss' c + (δ c a + δ c b) ≡ live ss c + count c ps
  live_after c = live₂ ar ss l size h.arities f.zeros.arguments a b two ps ks free many sm fit c

  pub stays : (c : ℕ) → 0 < live ss c → ¬ (c ≡ a) → ¬ (c ≡ b) → mem' c ≡ mem_of T st c
  stays c = kept₂ ar ss l size h.arities f.zeros.arguments a b two ps ks free many sm fit c

  pub copied_at : (k : ℕ) → 0 < count k (from 0 (length e.cells)) → mem' (A k) ≡ inst_cell E A (get_or e.cells k no_cell)
  copied_at k o =
      copied ar ss l size h.arities f.zeros.arguments a b two ps ks free many sm fit k
      (let p = from-count 0 (length e.cells) k o in omega (arith, p.1, ks-many))
      ∙ ks_at k

  pub cells_used : used ss' + 2 ≡ used ss + length e.cells
  cells_used = omega (arith, used₂ ar ss l size h.arities f.zeros.arguments a b two ps ks free many sm fit, ps-many)

  pub symbols-length : length ss' ≡ length ss
  symbols-length = length₂ ar ss l size h.arities f.zeros.arguments a b two ps ks free many sm fit

  pub arguments-length : length l' ≡ length l
  arguments-length = args_length₂ ar ss l size h.arities f.zeros.arguments a b two ps ks free many sm fit

  pub arguments-zero : (c k : ℕ) → k < 4 → width ar (get_or ss' c 0) ≤ k → get_or l' (4 * c + k) 0 ≡ 0
  arguments-zero = zeros₂ ar ss l size h.arities f.zeros.arguments a b two ps ks free many sm fit

  pub symbols-declared : (c : ℕ) → get_or ss' c 0 ≤ length ar
  symbols-declared =
      declared₂ ar ss l size h.arities f.zeros.arguments a b two ps ks free many sm fit (length ar) f.declared
      (λ j o. omega (arith, ap (λ k. k.symbol) (ks_at j), (se.cells j (omega (arith, ks-many))).symbol))

  -- The new names are apart from one another and from the names in use.
  pub new_once : (z : ℕ) → 0 < count z r.new → 0 < count (new_name z) xs
  new_once z o = let p = is_new z o in count-get_or xs (z - 8) (omega (arith, p.0, p.1, xs-many))

  pub new_counts : (x : ℕ) → sum (λ z. δ x (new_name z)) r.new ≡ count x xs
  new_counts x = ap (sum (λ z. δ x (new_name z))) se.means.new ∙ row e.fresh xs 8 (λ k o. let z : 8 + k - 8 ≡ k = omega arith in ap (λ n. get_or xs n 0) z) xs-many
    where
      row : (n : ℕ) (ys : List ℕ) (j : ℕ) → ((k : ℕ) → k < length ys → new_name (j + k) ≡ get_or ys k 0)
          → length ys ≡ n
          → sum (λ z. δ x (new_name z)) (from j n) ≡ count x ys
      row ℕ.zero [] j t o = refl
      row ℕ.zero (y ∷ ys) j t o = absurd (omega arith)
      row (ℕ.suc n) [] j t o = absurd (omega arith)
      row (ℕ.suc n) (y ∷ ys) j t o =
          ap₂
          ◌+◌
          (ap (δ x) (ap new_name (let z : j ≡ j + 0 = omega arith in z) ∙ t 0 (omega arith)))
          (row n ys (suc j) (λ k w. ap new_name (let z : suc j + k ≡ j + suc k = omega arith in z) ∙ t (suc k) (omega arith)) (omega arith))

  pub apart : (y z : ℕ) → 0 < count y r.new → 0 < count z r.new → new_name y ≡ new_name z → y ≡ z
  apart y z o t w =
      let p = is_new y o in
      let u = is_new z t in
      let k : y - 8 ≡ z - 8 =
      get_or-apart
      xs
      (λ c. omega (arith, free_names.once c))
      (y - 8)
      (z - 8)
      (omega (arith, p.0, p.1, xs-many))
      (omega (arith, u.0, u.1, xs-many))
      w in
      omega (arith, k, p.0, u.0)

  pub below : (z : ℕ) → 0 < count z r.new → new_name z < names_max
  below z o = by (dec_lt (new_name z) (length ns))
    where
      by : Dec (new_name z < length ns) → new_name z < names_max
      by (yes t) = omega (arith, f.sizes.names)
      by (no t) = absurd (omega (arith, new_once z o, free_names.inside (new_name z) (omega arith)))
