-- What the walk over a stack of codes finds.
use Rattle.std.specs.Prelude.{ℕ, suc, ◌+◌, ◌*◌, ◌-◌, ◌/◌, ◌%◌, ◌<◌, ◌≤◌, ◌≡◌, refl, Bool, true, false, cond, ◌&&◌, List, [], ◌∷◌, ◌++◌, map, length, get_or, take, drop, replicate, eqb, ltb, leb}
use Rattle.std.proofs.Common.{sym, ap, ap₂, ◌∙◌, append_assoc, arith, add-one, drop_of_length-le, drop_at, length-take-le, drop-cons, eq-eqb, ne_eqb, eqb-true, lt-ltb, le-ltb, ltb-true, ltb-false, leb-true, leb-false}
use mathlib.Core.List.{map-append}
use Rattle.std.proofs.Math.ListN.{length-replicate}
use Rattle.std.proofs.Math.Seq.{sets, sets-eq, length-sets}
use borrow.Author.Tests.{eqb-false}
use Rattle.parts.specs.Limits.{arity_max, rule_equations_max, rule_cells_max}
use Rattle.parts.specs.Sides.{Side, name, cell, side}
use Rattle.model.specs.Table.{Cell}
use Rattle.texts.specs.Coded.{new_from}
use Rattle.texts.specs.TableTest.{same_side, ahead, onward, head_is, rest, void, walk, met, numbered}
use Rattle.texts.proofs.Beneath.Tools.{both}
use Rattle.table.specs.Lists.{tab}
use Rattle.table.specs.Layout.{agents_in, cell_of, entry_of}
use Rattle.row_test.specs.Row.{RowFits, walked, sides_max, side_bytes, arg_bytes, arity_in}
use Rattle.table.specs.Laws.Sides.{even-side, odd-side}
use Rattle.table.specs.Laws.Lists.{length-tab, tab_at}
use Rattle.row_test.proofs.Coding.{length-args, length-sides, arity-fits, sides-are, args_are}

-- The walk from here on, and the names that it meets.
abbrev pub Onward : ℕ → ℕ → ℕ → List Side → List Cell → Bool
Onward total m n cs ds = walk m cs ds && numbered total n (met cs ds)

by_name : (total m n x : ℕ) (cs : List Side) (ds : List Cell)
    → Onward total m n (name x ∷ cs) ds ≡ (walk m cs ds && cond (eqb x (new_from + n)) (numbered total (suc n) (met cs ds)) (ltb x (new_from + n) && numbered total n (met cs ds)))
unfolding walk met numbered onward ahead
by_name total m n x cs [] = refl
by_name total m n x cs (d ∷ ds) = refl

by_cell : (total m n c : ℕ) (cs : List Side) (d : Cell) (ds : List Cell)
    → Onward total m n (cell c ∷ cs) (d ∷ ds) ≡ ((eqb m c && walk (suc m) (d.args ++ cs) ds) && numbered total n (met (d.args ++ cs) ds))
unfolding walk met onward ahead head_is rest same_side
by_cell total m n c cs d ds = refl

cell-over : (total m n c : ℕ) (cs : List Side) → Onward total m n (cell c ∷ cs) [] ≡ false
unfolding walk onward void
cell-over total m n c cs = refl

cell-wrong : (total m n c : ℕ) (cs : List Side) (ds : List Cell) → (c ≡ m → ⊥) → Onward total m n (cell c ∷ cs) ds ≡ false
cell-wrong total m n c cs [] h = cell-over total m n c cs
cell-wrong total m n c cs (d ∷ ds) h =
    by_cell total m n c cs d ds ∙ ap (λ t. (t && walk (suc m) (d.args ++ cs) ds) && numbered total n (met (d.args ++ cs) ds)) (ne_eqb m c (λ e. h (sym e)))

at_end : (total m n : ℕ) → Onward total m n [] [] ≡ eqb n total
unfolding walk met numbered onward void ahead
at_end total m n = refl

early_end : (total m n : ℕ) (d : Cell) (ds : List Cell) → Onward total m n [] (d ∷ ds) ≡ false
unfolding walk onward head_is
early_end total m n d ds = refl

and_false : (t : Bool) → (t && false) ≡ false
and_false true = refl
and_false false = refl

-- Where the walk stands: the stack from `top` on, `m` cells met, the next new name `n`.
pub record Walking (w r : List ℕ) (top : ℕ) (s : List ℕ) (m n : ℕ) : Type 0 where
  pub long : length s ≡ sides_max
  pub high : top ≤ sides_max
  pub room : sides_max ≤ top + 2 * rule_equations_max + arity_max * m
  pub some : m ≤ get_or r 3 0
  pub few : n ≤ 256
  pub rest : walked (entry_of (agents_in w) r) ≡ Onward (get_or r 4 0) m n (map side (drop top s)) (drop m (tab (get_or r 3 0) (cell_of (agents_in w) r)))

drop-stored : (l v : List ℕ) (u : ℕ) → u + length v ≤ length l → drop u (sets l u v) ≡ v ++ drop (u + length v) l
drop-stored l v u h =
    ap (drop u) (sets-eq v l u h ∙ append_assoc (take u l) v (drop (u + length v) l))
    ∙ drop_at (take u l) (v ++ drop (u + length v) l) u (length-take-le u l (omega arith))

nil : {A : Type 0} (l : List A) → l ++ [] ≡ l
nil [] = refl
nil (x ∷ l) = ap (λ k. x ∷ k) (nil l)

pub walking_none : (w r s : List ℕ) (top : ℕ) → RowFits w r → top ≡ sides_max - 2 * get_or r 2 0 → s ≡ sets (replicate sides_max 0) top (side_bytes r) → Walking w r top s 0 0
unfolding walked entry_of
walking_none w r s top f et es =
    let ls = length-sides r f.long f.few in
    let lz = length-replicate {A = ℕ} sides_max 0 in
    let z : sides_max ≤ top + length (side_bytes r) = omega (arith, ls, f.few) in
    let d : drop top s ≡ side_bytes r =
    ap (drop top) es ∙ (drop-stored (replicate sides_max 0) (side_bytes r) top (omega (arith, ls, lz, f.few))
    ∙ (ap (λ l. side_bytes r ++ l) (drop_of_length-le (replicate sides_max 0) (let y : length (replicate {A = ℕ} sides_max 0) ≤ top + length (side_bytes r) = omega (arith, lz, z) in y)) ∙ nil (side_bytes r))) in
    record {
      long = ap length es ∙ (length-sets (replicate sides_max 0) top (side_bytes r) ∙ lz);
      high = omega arith;
      room = omega (arith, f.few);
      some = omega arith;
      few = omega arith;
      rest = ap (λ l. Onward (get_or r 4 0) 0 0 l (tab (get_or r 3 0) (cell_of (agents_in w) r))) (sym (ap (map side) d ∙ sides-are w r f));
    }

-- The head is a name or a cell.
module _ (w r : List ℕ) (top : ℕ) (s : List ℕ) (m n : ℕ) (f : RowFits w r) (g : Walking w r top s m n) (q : top < sides_max) where
  abbrev h : ℕ
  h = get_or s top 0 / 2

  head : map side (drop top s) ≡ side (get_or s top 0) ∷ map side (drop (suc top) s)
  head = ap (map side) (drop-cons s top 0 (omega (arith, g.long)))

  name_here : (get_or s top 0 % 2 ≡ 1 → ⊥) → walked (entry_of (agents_in w) r)
      ≡ (walk m (map side (drop (suc top) s)) (drop m (tab (get_or r 3 0) (cell_of (agents_in w) r)))
      && cond (eqb h (new_from + n)) (numbered (get_or r 4 0) (suc n) (met (map side (drop (suc top) s)) (drop m (tab (get_or r 3 0) (cell_of (agents_in w) r)))))
      (ltb h (new_from + n) && numbered (get_or r 4 0) n (met (map side (drop (suc top) s)) (drop m (tab (get_or r 3 0) (cell_of (agents_in w) r))))))
  name_here p =
      g.rest
      ∙ (ap (λ l. Onward (get_or r 4 0) m n l (drop m (tab (get_or r 3 0) (cell_of (agents_in w) r)))) (head ∙ ap (λ i. i ∷ map side (drop (suc top) s)) (even-side (get_or s top 0) p))
      ∙ by_name (get_or r 4 0) m n h (map side (drop (suc top) s)) (drop m (tab (get_or r 3 0) (cell_of (agents_in w) r))))

  -- t says whether the name is no later than the next new one, and k is the next new one after it.
  pub walking_name : (t : Bool) (k : ℕ) → (get_or s top 0 % 2 ≡ 1 → ⊥) → t ≡ leb (get_or s top 0 / 2) (new_from + n) → t ≡ true
      → k ≡ cond (eqb (get_or s top 0 / 2) (new_from + n)) (suc n) n → k ≤ 256 → Walking w r (top + 1) s m k
  walking_name t k p et e ek small = record {
    long = g.long;
    high = omega arith;
    room = omega (arith, g.room);
    some = g.some;
    few = small;
    rest = name_here p ∙ go (eqb h (new_from + n)) refl;
  }
    where
      on : (i : ℕ) → k ≡ i → Onward (get_or r 4 0) m i (map side (drop (suc top) s)) (drop m (tab (get_or r 3 0) (cell_of (agents_in w) r)))
          ≡ Onward (get_or r 4 0) m k (map side (drop (top + 1) s)) (drop m (tab (get_or r 3 0) (cell_of (agents_in w) r)))
      on i z = ap₂ (λ a b. Onward (get_or r 4 0) m b (map side (drop a s)) (drop m (tab (get_or r 3 0) (cell_of (agents_in w) r)))) (sym (add-one top)) (sym z)

      go : (b : Bool) → eqb h (new_from + n) ≡ b
          → (walk m (map side (drop (suc top) s)) (drop m (tab (get_or r 3 0) (cell_of (agents_in w) r)))
          && cond (eqb h (new_from + n)) (numbered (get_or r 4 0) (suc n) (met (map side (drop (suc top) s)) (drop m (tab (get_or r 3 0) (cell_of (agents_in w) r)))))
          (ltb h (new_from + n) && numbered (get_or r 4 0) n (met (map side (drop (suc top) s)) (drop m (tab (get_or r 3 0) (cell_of (agents_in w) r))))))
          ≡ Onward (get_or r 4 0) m k (map side (drop (top + 1) s)) (drop m (tab (get_or r 3 0) (cell_of (agents_in w) r)))
      go true b = rw b (on (suc n) (ek ∙ rw b))
      go false b =
          let y : h ≤ new_from + n = leb-true _ _ (sym et ∙ e) in
          rw (b, lt-ltb h (new_from + n) (omega (arith, y, eqb-false h (new_from + n) b))) (on n (ek ∙ rw b))

  pub walking_late : (t : Bool) → (get_or s top 0 % 2 ≡ 1 → ⊥) → t ≡ leb (get_or s top 0 / 2) (new_from + n) → t ≡ false → false ≡ walked (entry_of (agents_in w) r)
  walking_late t p et e =
      let y : new_from + n < h = leb-false _ _ (sym et ∙ e) in
      sym (name_here p ∙ rw (ne_eqb h (new_from + n) (λ z. omega (arith, y, z)), le-ltb h (new_from + n) (omega (arith, y))) (and_false (walk m (map side (drop (suc top) s)) (drop m (tab (get_or r 3 0) (cell_of (agents_in w) r))))))

  cell_here : get_or s top 0 % 2 ≡ 1 → walked (entry_of (agents_in w) r)
      ≡ Onward (get_or r 4 0) m n (cell h ∷ map side (drop (suc top) s)) (drop m (tab (get_or r 3 0) (cell_of (agents_in w) r)))
  cell_here p =
      g.rest
      ∙ ap (λ l. Onward (get_or r 4 0) m n l (drop m (tab (get_or r 3 0) (cell_of (agents_in w) r)))) (head ∙ ap (λ i. i ∷ map side (drop (suc top) s)) (odd-side (get_or s top 0) p))

  walking_into : (a k : ℕ) (o : List ℕ) → get_or s top 0 % 2 ≡ 1 → h ≡ m → m < get_or r 3 0 → a ≡ arity_in w r m → k ≡ top + 1 - a
      → o ≡ sets s k (arg_bytes r m a) → Walking w r k o (m + 1) n
  walking_into a k o p e l ea ek eo =
      let la : length (arg_bytes r m a) ≡ a = length-args r m a f.long (omega (arith, f.little)) (arity-fits w r m a f ea) in
      let fa : a ≤ arity_max = arity-fits w r m a f ea in
      let u : a ≤ top + 1 = omega (arith, fa, g.room, f.little, l) in
      let y : k + length (arg_bytes r m a) ≡ suc top = omega (arith, la, u, ek) in
      let d : drop k o ≡ arg_bytes r m a ++ drop (suc top) s =
      ap (drop k) eo ∙ (drop-stored s (arg_bytes r m a) k (omega (arith, y, g.long, q)) ∙ ap (λ i. arg_bytes r m a ++ drop i s) y) in
      let dm : map side (drop k o) ≡ (cell_of (agents_in w) r m).args ++ map side (drop (suc top) s) =
      ap (map side) d ∙ (map-append side (arg_bytes r m a) (drop (suc top) s) ∙ ap (λ t. t ++ map side (drop (suc top) s)) (args_are w r m a f (omega arith) ea)) in
      let dc : drop m (tab (get_or r 3 0) (cell_of (agents_in w) r)) ≡ cell_of (agents_in w) r m ∷ drop (suc m) (tab (get_or r 3 0) (cell_of (agents_in w) r)) =
      drop-cons (tab (get_or r 3 0) (cell_of (agents_in w) r)) m (cell_of (agents_in w) r 0) (omega (arith, length-tab (get_or r 3 0) (cell_of (agents_in w) r)))
      ∙ ap (λ x. x ∷ drop (suc m) (tab (get_or r 3 0) (cell_of (agents_in w) r))) (tab_at (get_or r 3 0) (cell_of (agents_in w) r) m (cell_of (agents_in w) r 0) (omega arith)) in
      record {
        long = ap length eo ∙ (length-sets s k (arg_bytes r m a) ∙ g.long);
        high = omega (arith, u, q, ek);
        room = omega (arith, u, fa, g.room, ek);
        some = omega arith;
        few = g.few;
        rest =
            cell_here p
            ∙ (ap (Onward (get_or r 4 0) m n (cell h ∷ map side (drop (suc top) s))) dc
            ∙ (by_cell (get_or r 4 0) m n h (map side (drop (suc top) s)) (cell_of (agents_in w) r m) (drop (suc m) (tab (get_or r 3 0) (cell_of (agents_in w) r)))
            ∙ (ap (λ t. (t && walk (suc m) ((cell_of (agents_in w) r m).args ++ map side (drop (suc top) s)) (drop (suc m) (tab (get_or r 3 0) (cell_of (agents_in w) r))))
            && numbered (get_or r 4 0) n (met ((cell_of (agents_in w) r m).args ++ map side (drop (suc top) s)) (drop (suc m) (tab (get_or r 3 0) (cell_of (agents_in w) r)))))
            (eq-eqb m h (sym e))
            ∙ ap₂ (λ i l. Onward (get_or r 4 0) i n l (drop i (tab (get_or r 3 0) (cell_of (agents_in w) r)))) (sym (add-one m)) (sym dm))));
      }

  -- t says whether the cell stands in its order.
  pub walking_astray : (t : Bool) → get_or s top 0 % 2 ≡ 1 → t ≡ (eqb (get_or s top 0 / 2) m && ltb m (get_or r 3 0)) → t ≡ false → false ≡ walked (entry_of (agents_in w) r)
  walking_astray t p et e = go (eqb h m) refl (sym et ∙ e)
    where
      go : (b : Bool) → eqb h m ≡ b → (b && ltb m (get_or r 3 0)) ≡ false → false ≡ walked (entry_of (agents_in w) r)
      go true b z =
          let l : get_or r 3 0 ≤ m = ltb-false _ _ z in
          let y : length (tab (get_or r 3 0) (cell_of (agents_in w) r)) ≤ m = omega (arith, length-tab (get_or r 3 0) (cell_of (agents_in w) r), l) in
          sym (cell_here p ∙ (ap (Onward (get_or r 4 0) m n (cell h ∷ map side (drop (suc top) s))) (drop_of_length-le (tab (get_or r 3 0) (cell_of (agents_in w) r)) y)
          ∙ cell-over (get_or r 4 0) m n h (map side (drop (suc top) s))))
      go false b z = sym (cell_here p ∙ cell-wrong (get_or r 4 0) m n h (map side (drop (suc top) s)) (drop m (tab (get_or r 3 0) (cell_of (agents_in w) r))) (eqb-false h m b))

  module _ (t : Bool) (et : t ≡ (eqb (get_or s top 0 / 2) m && ltb m (get_or r 3 0))) (e : t ≡ true) where
    due : (h ≡ m) × (m < get_or r 3 0)
    due = let b = both (eqb h m) (ltb m (get_or r 3 0)) (sym et ∙ e) in (eqb-true h m b.0, ltb-true m (get_or r 3 0) b.1)

    small-arity : arity_in w r m ≤ arity_max
    small-arity = arity-fits w r m (arity_in w r m) f refl

    fits_under : arity_in w r m ≤ top + 1
    fits_under = omega (arith, small-arity, g.room, f.little, due.1)

    pub walking_room : (m < get_or r 3 0) × (top < sides_max) × (arity_in w r m ≤ top + 1)
    walking_room = (due.1, q, fits_under)

    pub walking_less : (k : ℕ) → k ≡ top + 1 - arity_in w r m
        → 8 * (rule_cells_max - (m + 1)) + (sides_max - k) < 8 * (rule_cells_max - m) + (sides_max - top)
    walking_less k ek = omega (arith, ek, small-arity, fits_under, f.little, due.1, q)

    pub walking_cell : (k : ℕ) (o : List ℕ) → get_or s top 0 % 2 ≡ 1 → k ≡ top + 1 - arity_in w r m → o ≡ sets s k (arg_bytes r m (arity_in w r m)) → Walking w r k o (m + 1) n
    walking_cell k o p ek eo = walking_into (arity_in w r m) k o p due.0 due.1 refl ek eo

-- t says whether all cells and new names are met.
pub walking_end : (w r : List ℕ) (top : ℕ) (s : List ℕ) (m n : ℕ) (t : Bool) → Walking w r top s m n → sides_max ≤ top
    → t ≡ (eqb m (get_or r 3 0) && eqb n (get_or r 4 0)) → t ≡ walked (entry_of (agents_in w) r)
walking_end w r top s m n t g q et = et ∙ sym (ended ∙ go (eqb m (get_or r 3 0)) refl)
  where
    ended : walked (entry_of (agents_in w) r) ≡ Onward (get_or r 4 0) m n [] (drop m (tab (get_or r 3 0) (cell_of (agents_in w) r)))
    ended = g.rest ∙ ap (λ l. Onward (get_or r 4 0) m n (map side l) (drop m (tab (get_or r 3 0) (cell_of (agents_in w) r)))) (drop_of_length-le s (let z : length s ≤ top = omega (arith, g.long) in z))

    go : (b : Bool) → eqb m (get_or r 3 0) ≡ b → Onward (get_or r 4 0) m n [] (drop m (tab (get_or r 3 0) (cell_of (agents_in w) r))) ≡ (eqb m (get_or r 3 0) && eqb n (get_or r 4 0))
    go true b =
        let z : length (tab (get_or r 3 0) (cell_of (agents_in w) r)) ≤ m = omega (arith, length-tab (get_or r 3 0) (cell_of (agents_in w) r), eqb-true m (get_or r 3 0) b) in
        ap (Onward (get_or r 4 0) m n []) (drop_of_length-le (tab (get_or r 3 0) (cell_of (agents_in w) r)) z) ∙ (at_end (get_or r 4 0) m n ∙ rw b)
    go false b =
        ap (Onward (get_or r 4 0) m n [])
        (drop-cons (tab (get_or r 3 0) (cell_of (agents_in w) r)) m (cell_of (agents_in w) r 0) (omega (arith, length-tab (get_or r 3 0) (cell_of (agents_in w) r), g.some, eqb-false m (get_or r 3 0) b)))
        ∙ (early_end (get_or r 4 0) m n (get_or (tab (get_or r 3 0) (cell_of (agents_in w) r)) m (cell_of (agents_in w) r 0)) (drop (suc m) (tab (get_or r 3 0) (cell_of (agents_in w) r))) ∙ rw b)

-- The arguments of a cell, laid over its code; a is how many there are, as it was read.
pub entered-room : (w r : List ℕ) (c a top : ℕ) → RowFits w r → c < get_or r 3 0 → top < sides_max → arity_in w r c ≤ top + 1 → a ≡ arity_in w r c
    → (c < rule_cells_max) × (a ≤ arity_max) × (top + 1 - a + a ≤ sides_max)
entered-room w r c a top f h q u ea = (omega (arith, f.little, h), arity-fits w r c a f ea, omega (arith, ea, u, q))

pub entered_way : (w r s o : List ℕ) (c a top : ℕ) → a ≡ arity_in w r c → o ≡ sets s (top + 1 - a) (arg_bytes r c a)
    → (top + 1 - a ≡ top + 1 - arity_in w r c) × (o ≡ sets s (top + 1 - a) (arg_bytes r c (arity_in w r c)))
entered_way w r s o c a top e eo = (ap (λ i. top + 1 - i) e, eo ∙ ap (λ i. sets s (top + 1 - a) (arg_bytes r c i)) e)
