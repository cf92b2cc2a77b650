-- Each way out of the functions that make a rule.
use Prim.Native.Nat.{ℕ, suc, ◌+◌, ◌*◌, ◌/◌, ◌%◌, ◌-◌, ◌<◌, ◌≤◌}
use mathlib.Core.Path.{◌≡◌, refl, ap, ◌∙◌}
use mathlib.Core.List.{List}
use native.Mathlib.Omega.{arith}
use native.Mathlib.Nat.{mod-lt, mod-eq_of_lt, div-add-mod}
use borrow.Author.Count.{below_none, below_more}
use lib.ListN.{get_or, set, replicate, length-set, length-replicate}
use lib.Seq.{get_or-set_same, get_or-set_other}
use Rattle.parts.specs.Limits.{arity_max, rule_equations_max, rule_cells_max, node_size, net_cells_max}
use Rattle.texts.specs.Coded.{new_from}
use Rattle.terms.specs.Sheet.{Sheet}
use Rattle.coding.specs.Made.{byte_size, node_byte, Filled, side_bytes, node_bytes, Makeable, Made}

pub filled_none : (size : ℕ) (f : ℕ → ℕ) → Filled (replicate size 0) size f 0
filled_none size f = record { long = length-replicate size 0; each = below_none _ }

pub filled_more : (l : List ℕ) (size : ℕ) (f : ℕ → ℕ) (i v : ℕ) → Filled l size f i → i < size → v ≡ f i → Filled (set l i v) size f (i + 1)
filled_more l size f i v g h e = record {
  long = length-set l i v ∙ g.long;
  each = below_more _ i (λ k q. get_or-set_other l i k v 0 (omega (arith, q)) ∙ g.each k q) (get_or-set_same l i v 0 (omega (arith, g.long)) ∙ e);
}

pub node_first : (s : Sheet) (c j v x : ℕ) → j ≡ 0 → x ≡ get_or s.symbols c 0 → v ≡ x % byte_size → v ≡ node_byte s c j
unfolding node_byte
node_first s c j v x ej ex ev = rw (ej, ev, ex)

pub node-later : (s : Sheet) (c j v x : ℕ) → (j ≡ 0 → ⊥) → x ≡ get_or s.arguments (arity_max * c + (j - 1)) 0 → v ≡ x % byte_size → v ≡ node_byte s c j
unfolding node_byte
node-later s c ℕ.zero v x h ex ev = absurd (h refl)
node-later s c (ℕ.suc k) v x h ex ev = let z : suc k - 1 ≡ k = omega arith in ev ∙ (rw (ex, z))

pub filled_end : (l : List ℕ) (size : ℕ) (f : ℕ → ℕ) (i n : ℕ) → Filled l size f i → n ≤ i → Filled l size f n
filled_end l size f i n g h = record { long = g.long; each = λ k q. g.each k (omega (arith, q)) }

pub side_more : (codes l : List ℕ) (i n v : ℕ) → Filled l (2 * rule_equations_max) (side_bytes codes) i → i < n → n ≤ 2 * rule_equations_max
    → v ≡ get_or codes i 0 % byte_size → Filled (set l i v) (2 * rule_equations_max) (side_bytes codes) (i + 1)
unfolding side_bytes
side_more codes l i n v g h q e = filled_more l (2 * rule_equations_max) _ i v g (omega arith) e

pub node_more : (s : Sheet) (l : List ℕ) (p n v : ℕ) → Filled l (node_size * rule_cells_max) (node_bytes s) p → p < n → n ≤ node_size * rule_cells_max
    → v ≡ node_byte s (p / node_size) (p % node_size) → Filled (set l p v) (node_size * rule_cells_max) (node_bytes s) (p + 1)
unfolding node_bytes
node_more s l p n v g h q e = filled_more l (node_size * rule_cells_max) _ p v g (omega arith) e

pub node_there : (p n : ℕ) → p < n → n ≤ node_size * rule_cells_max → (p / node_size < net_cells_max) × (p % node_size < node_size)
node_there p n h q = (omega (arith, div-add-mod p node_size), mod-lt p (omega arith))

small : (v x : ℕ) → v ≡ x % byte_size → x < byte_size → v ≡ x
small v x e h = e ∙ mod-eq_of_lt h

pub rule-made : (s : Sheet) (codes : List ℕ) (l r n m k a b e c f : ℕ) (xs ys : List ℕ) → Makeable l r n codes s → m ≡ s.cells → k ≡ s.names
    → a ≡ l % byte_size → b ≡ r % byte_size → e ≡ n / 2 % byte_size → c ≡ m % byte_size → f ≡ (k - new_from) % byte_size
    → Filled xs (2 * rule_equations_max) (side_bytes codes) n → Filled ys (node_size * rule_cells_max) (node_bytes s) (node_size * m)
    → Made (record { left = a; right = b; equations = e; cells = c; names = f; sides = xs; nodes = ys }) l r n codes s
rule-made s codes l r n m k a b e c f xs ys g em ek ea eb ee ec ef hx hy = record {
  left = small a l ea (omega (arith, g.left));
  right = small b r eb (omega (arith, g.right));
  equations = small e (n / 2) ee (omega (arith, g.few, div-add-mod n 2));
  cells = small c m ec (omega (arith, em, g.cells)) ∙ em;
  names = small f (k - new_from) ef (omega (arith, ek, g.names)) ∙ ap (λ i. i - new_from) ek;
  sides = hx;
  nodes = rw em at hy;
}
