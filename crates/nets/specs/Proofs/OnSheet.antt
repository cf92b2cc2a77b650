-- What stands on the sheet and in the codes of a draft is the net as the machine loads it.
use Rattle.std.specs.Prelude.{ℕ, suc, ◌+◌, ◌*◌, ◌<◌, pred, refl, true, eqb, ltb, get_or, List, [], ◌∷◌, ◌++◌, map}
use Rattle.std.proofs.Math.Path.{◌≡◌, sym, ap, ap₂}
use Rattle.std.proofs.Common.{◌∙◌, get_or-take, get_or-append-add, eqb-true, append-nil, arith}
use Rattle.std.proofs.Math.ListN.{length, take, length-append, get_or-append}
use Rattle.parts.specs.Limits.{arity_max}
use Rattle.parts.specs.Sides.{Side, name, Pair, ◌:=◌, code, side}
use Rattle.parts.specs.Codes.{side-code}
use Rattle.model.specs.Table.{Cell, no_cell}
use Rattle.model.specs.Load as Loading
use Rattle.texts.specs.Bytes.{Word, all, different}
use Rattle.texts.specs.Books.{Agent, Net, cells_of, names_of, sides, net_terms}
use Rattle.texts.specs.Coded.{packed, twos, codes, cells_from, net_number, load, arity_at}
use Rattle.texts.specs.TableTest.{cell_ok}
use Rattle.texts.proofs.Beneath.Tools.{both}
use Rattle.texts.proofs.Beneath.TableSound.{all_cells_ok}
use Rattle.texts.proofs.Beneath.Loads.{codes-append}
use Rattle.table.specs.Lists.{tab}
use Rattle.table.specs.Laws.Lists.{tab_list}
use Rattle.terms.specs.Sheet.{Sheet}
use Rattle.terms.specs.Meaning.{number, CellIs, CellsAre, Holds}
use Rattle.loading.specs.OnSheet.{symbol_on, width_on, cell_on, cells_on, face_on, equation_on, equations_on, net_on}
use Rattle.net_lines.specs.Draft.{named, Draft}
use Rattle.net_lines.specs.Proofs.Codes.{codes-length}
use Rattle.net_lines.specs.Proofs.Whole.{net-length}

-- The cells.
cell_is : (s : Sheet) (cs : List Cell) (i k : ℕ) → CellsAre s i cs → k < length cs → CellIs s (i + k) (get_or cs k no_cell)
unfolding CellsAre
cell_is s [] i k h q = absurd (omega arith)
cell_is s (c ∷ cs) i ℕ.zero h q = rw (let z : i + 0 ≡ i = omega arith in z) h.0
cell_is s (c ∷ cs) i (ℕ.suc k) h q = rw (let z : i + suc k ≡ suc i + k = omega arith in z) (cell_is s cs (suc i) k h.1 (omega arith))

all_at : (ags : List Agent) (cs : List Cell) (k : ℕ) → all (cell_ok ags) cs ≡ true → k < length cs → cell_ok ags (get_or cs k no_cell) ≡ true
unfolding all
all_at ags [] k h q = absurd (omega arith)
all_at ags (c ∷ cs) ℕ.zero h q = (both (cell_ok ags c) (all (cell_ok ags) cs) h).0
all_at ags (c ∷ cs) (ℕ.suc k) h q = all_at ags cs k (both (cell_ok ags c) (all (cell_ok ags) cs) h).1 (omega arith)

cell-made : (ags : List Agent) (s : Sheet) (k : ℕ) (c : Cell) → CellIs s k c → cell_ok ags c ≡ true → cell_on ags s k ≡ c
unfolding cell_on width_on symbol_on cell_ok
cell-made ags s k c h ok =
    let e : pred (get_or s.symbols k 0) ≡ c.symbol = (let z = h.symbol in omega (arith, z)) in
    let w : arity_at ags (pred (get_or s.symbols k 0)) ≡ length c.args =
    ap (arity_at ags) e ∙ sym (eqb-true (length c.args) (arity_at ags c.symbol) (both (ltb c.symbol (length ags)) (eqb (length c.args) (arity_at ags c.symbol)) ok).1) in
    ap₂ (λ a b. record { symbol = a; args = b }) e
    (ap (λ n. tab n (λ j. side (get_or s.arguments (arity_max * k + j) 0))) w
    ∙ tab_list c.args (λ j. side (get_or s.arguments (arity_max * k + j) 0)) (name 0) (λ j q. ap side (h.args j q) ∙ side-code (get_or c.args j (name 0))))

cells-made : (text : List ℕ) (ags : List Agent) (s : Sheet) (cs : List Cell) (ws : List Word) → Holds text s cs ws → all (cell_ok ags) cs ≡ true → cells_on ags s ≡ cs
unfolding cells_on
cells-made text ags s cs ws h ok =
    ap (λ n. tab n (cell_on ags s)) h.count
    ∙ tab_list cs (cell_on ags s) no_cell
    (λ k q. let c = cell_is s cs 0 k h.cells q in cell-made ags s k (get_or cs k no_cell) (rw (let z : 0 + k ≡ k = omega arith in z) at c) (all_at ags cs k ok q))

-- The codes.
map_at : (xs : List Side) (k : ℕ) → get_or (map code xs) k 0 ≡ code (get_or xs k (name 0))
map_at [] k = refl
map_at (x ∷ xs) ℕ.zero = refl
map_at (x ∷ xs) (ℕ.suc k) = map_at xs k

module _ (cs : List ℕ) (n : ℕ) (xs : List Side) (e : take n cs ≡ map code xs) (m : length xs ≡ n) where
  code_here : (k : ℕ) → k < n → side (get_or cs k 0) ≡ get_or xs k (name 0)
  code_here k h =
      ap side (sym (get_or-take n cs k 0 h) ∙ ap (λ l. get_or l k 0) e ∙ map_at xs k) ∙ side-code (get_or xs k (name 0))

  all_made : face_on cs n ≡ xs
  unfolding face_on
  all_made = ap (λ k. tab k (λ k. side (get_or cs k 0))) (sym m) ∙ tab_list xs (λ k. side (get_or cs k 0)) (name 0) (λ k q. code_here k (omega (arith, m)))

twos-length : (xs : List Side) (k : ℕ) → length xs ≡ 2 * k → length (twos xs) ≡ k
unfolding twos
twos-length [] ℕ.zero h = refl
twos-length [] (ℕ.suc k) h = absurd (omega arith)
twos-length (a ∷ []) k h = absurd (omega arith)
twos-length (a ∷ b ∷ xs) ℕ.zero h = absurd (omega arith)
twos-length (a ∷ b ∷ xs) (ℕ.suc k) h = ap suc (twos-length xs k (omega arith))

twos_at : (xs : List Side) (k i : ℕ) → length xs ≡ 2 * k → i < k → get_or (twos xs) i (name 0 := name 0) ≡ get_or xs (2 * i) (name 0) := get_or xs (2 * i + 1) (name 0)
unfolding twos
twos_at [] k i h q = absurd (omega arith)
twos_at (a ∷ []) k i h q = absurd (omega arith)
twos_at (a ∷ b ∷ xs) ℕ.zero i h q = absurd (omega arith)
twos_at (a ∷ b ∷ xs) (ℕ.suc k) ℕ.zero h q = refl
twos_at (a ∷ b ∷ xs) (ℕ.suc k) (ℕ.suc i) h q =
    twos_at xs k i (omega arith) (omega arith)
    ∙ ap₂ (λ u v. get_or (a ∷ b ∷ xs) u (name 0) := get_or (a ∷ b ∷ xs) v (name 0)) (let z : suc (suc (2 * i)) ≡ 2 * suc i = omega arith in z) (let z : suc (suc (2 * i + 1)) ≡ 2 * suc i + 1 = omega arith in z)

module _ (cs : List ℕ) (f k : ℕ) (us vs : List Side) (e : take (f + 2 * k) cs ≡ map code (us ++ vs)) (ma : length us ≡ f) (mb : length vs ≡ 2 * k) where
  both_long : length (us ++ vs) ≡ f + 2 * k
  both_long = let z = length-append us vs in omega (arith, z, ma, mb)

  face-made : face_on cs f ≡ us
  unfolding face_on
  face-made =
      ap (λ k. tab k (λ k. side (get_or cs k 0))) (sym ma)
      ∙ tab_list us (λ k. side (get_or cs k 0)) (name 0) (λ i q. code_here cs (f + 2 * k) (us ++ vs) e both_long i (omega (arith, q, ma)) ∙ get_or-append us vs (name 0) i q)

  second : (j : ℕ) → j < 2 * k → side (get_or cs (f + j) 0) ≡ get_or vs j (name 0)
  second j q =
      code_here cs (f + 2 * k) (us ++ vs) e both_long (f + j) (omega (arith, q))
      ∙ ap (λ n. get_or (us ++ vs) n (name 0)) (let z : f + j ≡ length us + j = omega (arith, ma) in z)
      ∙ get_or-append-add us vs j (name 0)

  equations-made : equations_on cs f k ≡ twos vs
  unfolding equations_on
  equations-made =
      ap (λ n. tab n (equation_on cs f)) (sym (twos-length vs k mb))
      ∙ tab_list (twos vs) (equation_on cs f) (name 0 := name 0)
      (λ i q.
      let h : i < k = (let z = twos-length vs k mb in omega (arith, z, q)) in
      ap₂ ◌:=◌ (second (2 * i) (omega (arith, h))) (ap (λ n. side (get_or cs n 0)) (let z : f + 2 * i + 1 ≡ f + (2 * i + 1) = omega arith in z) ∙ second (2 * i + 1) (omega (arith, h)))
      ∙ sym (twos_at vs k i mb h))

-- A draft of a net.
module _ (text : List ℕ) (ags : List Agent) (s : Sheet) (cs : List ℕ) (m : Net) (d : Draft text ags s cs (net_terms m)) where
  numbered : {A : Type 0} (g : (Word → ℕ) → A) → g (number (named ags (net_terms m) ++ [])) ≡ g (net_number ags m)
  unfolding net_number
  numbered g = ap (λ l. g (number l)) (append-nil (named ags (net_terms m)))

  pub cells_on_lem : cells_on ags s ≡ cells_from ags (net_number ags m) 0 (packed (net_terms m))
  cells_on_lem =
      cells-made text ags s (cells_from ags (number (named ags (net_terms m) ++ [])) 0 (packed (net_terms m))) (named ags (net_terms m)) (d.holds [])
      (all_cells_ok ags (number (named ags (net_terms m) ++ [])) (net_terms m) 0 d.right)
      ∙ numbered (λ n. cells_from ags n 0 (packed (net_terms m)))

  codes-are : take (length (net_terms m)) cs ≡ map code (codes ags (net_number ags m) 0 (packed (net_terms m)))
  codes-are = d.codes [] ∙ numbered (λ n. map code (codes ags n 0 (packed (net_terms m))))

  pub codes_on : face_on cs (length (net_terms m)) ≡ codes ags (net_number ags m) 0 (packed (net_terms m))
  codes_on = all_made cs (length (net_terms m)) (codes ags (net_number ags m) 0 (packed (net_terms m))) codes-are (codes-length ags (net_number ags m) (net_terms m) 0)

  pub names_on : s.names ≡ length (different (names_of ags (net_terms m)))
  names_on = (d.holds []).names.count

  split : map code (codes ags (net_number ags m) 0 (packed (net_terms m)))
      ≡ map code (codes ags (net_number ags m) 0 (packed m.face) ++ codes ags (net_number ags m) (0 + length (cells_of ags m.face)) (packed (sides m.equations)))
  unfolding net_terms
  split = ap (map code) (codes-append ags (net_number ags m) m.face (sides m.equations) 0)

  sides-many : length (sides m.equations) ≡ 2 * length m.equations
  unfolding net_terms
  sides-many = let a = net-length m in let b = length-append m.face (sides m.equations) in omega (arith, a, b)

  pub net_on_lem : net_on ags s cs (length m.face) (length m.equations) ≡ load ags m
  unfolding net_on load
  net_on_lem =
      let e : take (length m.face + 2 * length m.equations) cs
      ≡ map code (codes ags (net_number ags m) 0 (packed m.face) ++ codes ags (net_number ags m) (0 + length (cells_of ags m.face)) (packed (sides m.equations))) =
      ap (λ k. take k cs) (sym (net-length m)) ∙ codes-are ∙ split in
      let z : 0 + length (cells_of ags m.face) ≡ length (cells_of ags m.face) = omega arith in
      let la = codes-length ags (net_number ags m) m.face 0 in
      let lb = codes-length ags (net_number ags m) (sides m.equations) (0 + length (cells_of ags m.face)) ∙ sides-many in
      made
      (face-made cs (length m.face) (length m.equations) (codes ags (net_number ags m) 0 (packed m.face)) (codes ags (net_number ags m) (0 + length (cells_of ags m.face)) (packed (sides m.equations))) e la lb)
      (equations-made cs (length m.face) (length m.equations) (codes ags (net_number ags m) 0 (packed m.face)) (codes ags (net_number ags m) (0 + length (cells_of ags m.face)) (packed (sides m.equations))) e la lb ∙ ap (λ k. twos (codes ags (net_number ags m) k (packed (sides m.equations)))) z)
      cells_on_lem
      names_on
    where
      made : {a b : List Side} {c d : List Pair} {e f : List Cell} {g h : ℕ} → a ≡ b → c ≡ d → e ≡ f → g ≡ h
          → ◌≡◌ {A = Loading.Net} (record { face = a; equations = c; cells = e; names = g }) (record { face = b; equations = d; cells = f; names = h })
      made p q r t = rw (p, q, r, t)
