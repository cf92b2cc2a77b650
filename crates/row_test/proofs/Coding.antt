-- What the tests of a rule's codes find.
use Rattle.std.specs.Prelude.{ℕ, suc, ◌+◌, ◌*◌, ◌-◌, ◌/◌, ◌%◌, ◌<◌, ◌≤◌, ◌≡◌, refl, Bool, true, false, cond, ◌&&◌, List, [], ◌∷◌, ◌++◌, map, length, get_or, take, drop, replicate, ltb, eqb}
use Rattle.std.proofs.Common.{sym, ap, ap₂, ◌∙◌, append_assoc, arith, add-one, length-take, length-drop, length-append, take_at, length-take-le, get_or-take, get_or-drop, ext_get_or, lt-ltb, le-ltb}
use mathlib.Core.List.{map-append}
use Rattle.std.proofs.Math.ListN.{length-replicate}
use Rattle.std.proofs.Math.Seq.{sets, sets-eq, length-sets}
use Rattle.parts.specs.Limits.{arity_max, rule_equations_max, rule_cells_max, node_size, rule_size}
use Rattle.parts.specs.Sides.{Side, name, code, side}
use Rattle.parts.specs.Codes.{side-code, code-side}
use Rattle.model.specs.Table.{Cell}
use Rattle.texts.specs.Bytes.{all, keep}
use Rattle.texts.specs.Books.{Agent}
use Rattle.texts.specs.Coded.{second_from, new_from, arity_at, unpaired}
use Rattle.texts.specs.TableTest.{args_all, all_codes, same_side, tally, standing}
use Rattle.table.specs.Lists.{tab, each}
use Rattle.table.specs.Layout.{sides_in, nodes_in, agents_in, symbol_of, equation_of, cell_of, entry_of}
use Rattle.row_test.specs.Row.{RowFits, side_fits, code_fits, sides_max, side_bytes, arg_bytes}
use Rattle.table.specs.Laws.Lists.{length-tab, tab_at, tab_cong, tab-snoc}
use Rattle.table.specs.Laws.Rows.{arity-small}
use Rattle.table.specs.Laws.Sides.{even-side, odd-side, same_codes, sides_of}
use Rattle.table.specs.Laws.Passing.{all_each}
use Rattle.table.specs.Laws.Chains.{all_list, all_range}
use Rattle.std.proofs.lemmas.List.Recursion.{is_count_by}
use Rattle.table.proofs.Storing.{stored}
use Rattle.std.specs.List.{list_all, count_by, range_with_len}
use Rattle.std.proofs.lemmas.List.Folds.{list_all-map}
use borrow.Rule.Slice.PartMut.{put_mid}

-- The four answers of the test of a code; h is its half.
module _ (x h l r n c : ℕ) (e : h ≡ x / 2) where
  pub code-cell : x % 2 ≡ 1 → ltb h c ≡ code_fits l r n c x
  unfolding side_fits
  code-cell p = sym (ap (side_fits l r n c) (odd-side x p) ∙ ap (λ i. ltb i c) (sym e))

  pub code_left : (x % 2 ≡ 1 → ⊥) → h < second_from → ltb h l ≡ code_fits l r n c x
  unfolding side_fits
  code_left p q = sym (ap (side_fits l r n c) (even-side x p ∙ ap name (sym e)) ∙ rw (lt-ltb h second_from q))

  pub code_right : (x % 2 ≡ 1 → ⊥) → second_from ≤ h → h < new_from → ltb h (second_from + r) ≡ code_fits l r n c x
  unfolding side_fits
  code_right p q k = sym (ap (side_fits l r n c) (even-side x p ∙ ap name (sym e)) ∙ rw (le-ltb h second_from q, lt-ltb h new_from k))

  pub code_new : (x % 2 ≡ 1 → ⊥) → second_from ≤ h → new_from ≤ h → ltb h (new_from + n) ≡ code_fits l r n c x
  unfolding side_fits
  code_new p q k = sym (ap (side_fits l r n c) (even-side x p ∙ ap name (sym e)) ∙ rw (le-ltb h second_from q, le-ltb h new_from k))

-- Gathered codes: what was stored behind the last.
take-stored : (l v : List ℕ) (u : ℕ) → u + length v ≤ length l → take (u + length v) (sets l u v) ≡ take u l ++ v
take-stored l v u h =
    ap (take (u + length v)) (sets-eq v l u h)
    ∙ take_at (take u l ++ v) (drop (u + length v) l) (u + length v) (length-append (take u l) v ∙ ap (λ i. i + length v) (length-take-le u l (omega arith)))

-- a part of a row, number by number
pub part-tab : (r : List ℕ) (a n : ℕ) → a + n ≤ length r → take n (drop a r) ≡ tab n (λ k. get_or r (a + k) 0)
part-tab r a n h = ext_get_or 0 (take n (drop a r)) (tab n (λ k. get_or r (a + k) 0))
    (length-take n (drop a r) ∙ omega (arith, length-drop a r, length-tab n (λ k. get_or r (a + k) 0)))
    (λ k q. let p : k < n = omega (arith, length-take n (drop a r)) in
    get_or-take n (drop a r) k 0 p ∙ (get_or-drop a r k 0 ∙ sym (tab_at n (λ k. get_or r (a + k) 0) k 0 p)))

map-tab : {A B : Type 0} (f : A → B) (n : ℕ) (g : ℕ → A) → map f (tab n g) ≡ tab n (λ k. f (g k))
unfolding tab
map-tab f ℕ.zero g = refl
map-tab f (ℕ.suc n) g = ap (λ l. f (g 0) ∷ l) (map-tab f n (λ k. g (suc k)))

map_back : (l : List Side) → map side (map code l) ≡ l
map_back [] = refl
map_back (s ∷ l) = ap₂ (λ a b. a ∷ b) (side-code s) (map_back l)

pub sides_back : (ags : List Agent) (r : List ℕ) (n : ℕ) → n ≡ 2 * get_or r 2 0 → sides_in + n ≤ length r
    → map side (take n (drop sides_in r)) ≡ unpaired (entry_of ags r).body
sides_back ags r n e h =
    ap (map side) (part-tab r sides_in n h ∙ (ap (λ i. tab i (λ k. get_or r (sides_in + k) 0)) e ∙ sym (sides_of ags r))) ∙ map_back (unpaired (entry_of ags r).body)

pub args_back : (ags : List Agent) (r : List ℕ) (c a : ℕ) → a ≡ arity_at ags (symbol_of r c) → nodes_in + (node_size * c + 1) + a ≤ length r
    → map side (take a (drop (nodes_in + (node_size * c + 1)) r)) ≡ (cell_of ags r c).args
unfolding cell_of
args_back ags r c a e h =
    ap (map side) (part-tab r (nodes_in + (node_size * c + 1)) a h)
    ∙ (map-tab side a (λ k. get_or r (nodes_in + (node_size * c + 1) + k) 0)
    ∙ (tab_cong a (λ k. side (get_or r (nodes_in + (node_size * c + 1) + k) 0)) (λ j. side (get_or r (nodes_in + (node_size * c + (1 + j))) 0))
    (λ k q. ap (λ i. side (get_or r i 0)) (let z : nodes_in + (node_size * c + 1) + k ≡ nodes_in + (node_size * c + (1 + k)) = omega arith in z))
    ∙ ap (λ i. tab i (λ j. side (get_or r (nodes_in + (node_size * c + (1 + j))) 0))) e))

args-snoc : (cs : List Cell) (c : Cell) → args_all (cs ++ (c ∷ [])) ≡ args_all cs ++ c.args
unfolding args_all
args-snoc [] c = nil c.args
  where
    nil : (l : List Side) → l ++ [] ≡ l
    nil [] = refl
    nil (x ∷ l) = ap (λ k. x ∷ k) (nil l)
args-snoc (d ∷ cs) c = ap (λ l. d.args ++ l) (args-snoc cs c) ∙ sym (append_assoc d.args (args_all cs) c.args)

pub length-sides : (r : List ℕ) → length r ≡ rule_size → get_or r 2 0 ≤ rule_equations_max → length (side_bytes r) ≡ 2 * get_or r 2 0
unfolding side_bytes
length-sides r h k = length-take (2 * get_or r 2 0) (drop sides_in r) ∙ omega (arith, length-drop sides_in r)

pub length-args : (r : List ℕ) (c a : ℕ) → length r ≡ rule_size → c < rule_cells_max → a ≤ arity_max → length (arg_bytes r c a) ≡ a
unfolding arg_bytes
length-args r c a h k q = length-take a (drop (nodes_in + (node_size * c + 1)) r) ∙ omega (arith, length-drop (nodes_in + (node_size * c + 1)) r)

-- What put_sides and put_args store: v is what the part of the list holds then.
pub sides-stored : (r l v : List ℕ) (n at : ℕ) → n ≡ get_or r 2 0 → v ≡ take (sides_in + 2 * n - sides_in) (drop sides_in r)
    → length r ≡ rule_size → get_or r 2 0 ≤ rule_equations_max → at + 2 * get_or r 2 0 ≤ length l → put_mid at (at + 2 * n - at) l v ≡ sets l at (side_bytes r)
unfolding side_bytes
sides-stored r l v n at e ev h k q =
    let z : sides_in + 2 * n - sides_in ≡ 2 * get_or r 2 0 = omega arith in
    let m = length-sides r h k in
    stored l (side_bytes r) v at (at + 2 * n - at) (ev ∙ ap (λ i. take i (drop sides_in r)) z) (omega (arith, m)) (omega (arith, m))

pub args-stored : (r l v : List ℕ) (c a at : ℕ) → v ≡ take (nodes_in + (node_size * c + 1) + a - (nodes_in + (node_size * c + 1))) (drop (nodes_in + (node_size * c + 1)) r)
    → length r ≡ rule_size → c < rule_cells_max → a ≤ arity_max → at + a ≤ length l → put_mid at (at + a - at) l v ≡ sets l at (arg_bytes r c a)
unfolding arg_bytes
args-stored r l v c a at ev h k q b =
    let z : nodes_in + (node_size * c + 1) + a - (nodes_in + (node_size * c + 1)) ≡ a = omega arith in
    let m = length-args r c a h k q in
    stored l (arg_bytes r c a) v at (at + a - at) (ev ∙ ap (λ i. take i (drop (nodes_in + (node_size * c + 1)) r)) z) (omega (arith, m)) (omega (arith, m))

-- Gathered so far: the sides of the equations, and the arguments of the first c cells.
pub record Gathering (w r l : List ℕ) (u c : ℕ) : Type 0 where
  pub within : c ≤ get_or r 3 0
  pub few : u ≤ 2 * rule_equations_max + arity_max * c
  pub long : length l ≡ sides_max
  pub made : map side (take u l) ≡ unpaired (entry_of (agents_in w) r).body ++ args_all (tab c (cell_of (agents_in w) r))

nil : {A : Type 0} (l : List A) → l ++ [] ≡ l
nil [] = refl
nil (x ∷ l) = ap (λ k. x ∷ k) (nil l)

pub sides-are : (w r : List ℕ) → RowFits w r → map side (side_bytes r) ≡ unpaired (entry_of (agents_in w) r).body
unfolding side_bytes
sides-are w r f = sides_back (agents_in w) r (2 * get_or r 2 0) refl (omega (arith, f.long, f.few))

pub args_are : (w r : List ℕ) (c a : ℕ) → RowFits w r → c < get_or r 3 0 → a ≡ arity_at (agents_in w) (symbol_of r c) → map side (arg_bytes r c a) ≡ (cell_of (agents_in w) r c).args
unfolding arg_bytes
args_are w r c a f h e = args_back (agents_in w) r c a e (omega (arith, f.long, f.little, arity-small (agents_in w) (symbol_of r c) f.good))

pub gathering_none : (w r l : List ℕ) (n : ℕ) → RowFits w r → n ≡ get_or r 2 0 → l ≡ sets (replicate sides_max 0) 0 (side_bytes r) → Gathering w r l (2 * n) 0
unfolding args_all tab
gathering_none w r l n f e el = record {
  within = omega arith;
  few = omega (arith, f.few);
  long = ap length el ∙ (length-sets (replicate sides_max 0) 0 (side_bytes r) ∙ length-replicate {A = ℕ} sides_max 0);
  made =
      ap (map side) (ap₂ (λ i k. take i k) (let z : 2 * n ≡ 0 + length (side_bytes r) = omega (arith, length-sides r f.long f.few) in z) el
      ∙ take-stored (replicate sides_max 0) (side_bytes r) 0 (omega (arith, length-sides r f.long f.few, f.few, length-replicate {A = ℕ} sides_max 0)))
      ∙ (sides-are w r f ∙ sym (nil (unpaired (entry_of (agents_in w) r).body)));
}

pub arity-fits : (w r : List ℕ) (c a : ℕ) → RowFits w r → a ≡ arity_at (agents_in w) (symbol_of r c) → a ≤ arity_max
arity-fits w r c a f e = omega (arith, e, arity-small (agents_in w) (symbol_of r c) f.good)

-- m is the number of cells, as it was read
module _ (w r l : List ℕ) (u c m a : ℕ) (f : RowFits w r) (g : Gathering w r l u c) (em : m ≡ get_or r 3 0) (h : c < m) (ea : a ≡ arity_at (agents_in w) (symbol_of r c)) where
  pub gathering_room : (c < rule_cells_max) × (a ≤ arity_max) × (u + a ≤ sides_max)
  gathering_room = (omega (arith, f.little), arity-fits w r c a f ea, omega (arith, f.little, g.few, arity-fits w r c a f ea))

  pub gathering_more : (o : List ℕ) → o ≡ sets l u (arg_bytes r c a) → Gathering w r o (u + a) (c + 1)
  gathering_more o eo =
      let la : length (arg_bytes r c a) ≡ a = length-args r c a f.long (omega (arith, f.little)) (arity-fits w r c a f ea) in
      record {
        within = omega arith;
        few = omega (arith, g.few, arity-fits w r c a f ea);
        long = ap length eo ∙ (length-sets l u (arg_bytes r c a) ∙ g.long);
        made =
            ap (map side) (ap₂ (λ i k. take i k) (ap (λ i. u + i) (sym la)) eo ∙ take-stored l (arg_bytes r c a) u (omega (arith, la, g.long, g.few, f.little, arity-fits w r c a f ea)))
            ∙ (map-append side (take u l) (arg_bytes r c a)
            ∙ (ap₂ ◌++◌ g.made (args_are w r c a f (omega arith) ea)
            ∙ (append_assoc (unpaired (entry_of (agents_in w) r).body) (args_all (tab c (cell_of (agents_in w) r))) (cell_of (agents_in w) r c).args
            ∙ ap (λ k. unpaired (entry_of (agents_in w) r).body ++ k)
            (sym (args-snoc (tab c (cell_of (agents_in w) r)) (cell_of (agents_in w) r c)) ∙ ap args_all (sym (tab-snoc c (cell_of (agents_in w) r)) ∙ ap (λ i. tab i (cell_of (agents_in w) r)) (sym (add-one c)))))));
      }

pub gathering_end : (w r l : List ℕ) (u c m : ℕ) → RowFits w r → Gathering w r l u c → m ≡ get_or r 3 0 → m ≤ c
    → (map side (take u l) ≡ all_codes (entry_of (agents_in w) r)) × (u ≤ sides_max)
unfolding all_codes entry_of
gathering_end w r l u c m f g em h =
    let z : c ≡ get_or r 3 0 = omega (arith, g.within) in
    (g.made ∙ ap (λ i. unpaired (tab (get_or r 2 0) (equation_of r)) ++ args_all (tab i (cell_of (agents_in w) r))) z, omega (arith, g.few, g.within, f.little))

-- A test of all codes.
pub all_sides : (f : Side → Bool) (l : List ℕ) → list_all (λ x. f (side x)) l ≡ all f (map side l)
all_sides f l = sym (all_list f (map side l) ∙ list_all-map f side l)

-- How often a name stands.
one_more : (x c : ℕ) (l : List ℕ) → tally (same_side (name x)) (map side (c ∷ l))
    ≡ cond (eqb (2 * x) c) (1 + tally (same_side (name x)) (map side l)) (tally (same_side (name x)) (map side l))
unfolding tally keep
one_more x c l =
    ap (λ b. length (cond b (side c ∷ keep (same_side (name x)) (map side l)) (keep (same_side (name x)) (map side l))))
    (same_codes (name x) (side c) ∙ ap (eqb (2 * x)) (code-side c))
    ∙ by (eqb (2 * x) c)
  where
    by : (b : Bool) → length (cond b (side c ∷ keep (same_side (name x)) (map side l)) (keep (same_side (name x)) (map side l)))
        ≡ cond b (1 + length (keep (same_side (name x)) (map side l))) (length (keep (same_side (name x)) (map side l)))
    by true = let z : suc (length (keep (same_side (name x)) (map side l))) ≡ 1 + length (keep (same_side (name x)) (map side l)) = omega arith in z
    by false = refl

none_of : (x : ℕ) → tally (same_side (name x)) [] ≡ 0
unfolding tally keep
none_of x = refl

pub tally-count : (x : ℕ) (l : List ℕ) → count_by (λ c. eqb (2 * x) c) l ≡ tally (same_side (name x)) (map side l)
tally-count x l = sym (is_count_by (λ k. tally (same_side (name x)) (map side k)) (λ c. eqb (2 * x) c) (none_of x) (one_more x) l)

-- Each of n names stands so often.
abbrev Often : ℕ → List Side → ℕ → ℕ → Bool
Often m cs k i = eqb (tally (same_side (name (k + i))) cs) m

standing-each : (m : ℕ) (cs : List Side) (k n : ℕ) → standing m cs k n ≡ each n (Often m cs k)
unfolding standing each
standing-each m cs k ℕ.zero = refl
standing-each m cs k (ℕ.suc n) = ap (λ t. t && eqb (tally (same_side (name (k + n))) cs) m) (standing-each m cs k n)

pub standing-range : (m : ℕ) (cs : List Side) (k n : ℕ) → list_all (Often m cs k) (range_with_len 0 n) ≡ standing m cs k n
standing-range m cs k n =
    all_range (Often m cs k) n n (λ i. i) (list_all (Often m cs k) (range_with_len 0 n)) refl refl ∙ (all_each (Often m cs k) n (λ i. i) ∙ sym (standing-each m cs k n))
