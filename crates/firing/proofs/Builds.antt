-- The loops that write the arguments of the new cells and put the equations.
use Prim.Native.Nat.{ℕ, suc, ◌+◌, ◌*◌, ◌-◌, ◌<◌, ◌≤◌}
use mathlib.Core.Path.{◌≡◌, refl, ap, ap₂, sym, ◌∙◌}
use mathlib.Core.List.{List, [], ◌∷◌, ◌++◌, map}
use native.Mathlib.Omega.{arith}
use lib.ListN.{length, set, length-map}
use lib.Seq.{sets}
use Rattle.parts.specs.Limits.{arity_max, waiting_max, rule_cells_max, cells_max}
use Rattle.parts.specs.Sides.{Side, name, cell, ◌:=◌, code, side}
use Rattle.parts.specs.Codes.{code-side}
use Rattle.parts.specs.Typed.{pair, plain, typed, plain-typed, number}
use Rattle.parts.specs.Typed as Typed
use Rattle.parts.specs.declared.Equation.{Equation}
use Rattle.parts.specs.declared.Side as Sort
use Rattle.parts.specs.declared.Side.TheVariants.{Name, Cell}
use Rattle.model.specs.State.{St, stack, with_waiting, from, pushed, pushed_all}
use Rattle.state.specs.Places.{stored, with_words}
use Rattle.state.specs.Moves.{put_on, RoomOn}
use Rattle.state.specs.declared.Part.TheVariants.{Arguments}
use Rattle.state.specs.declared.Pile.TheVariants.{Waits}
use Rattle.texts.specs.Coded.{arity_at}
use Rattle.table.specs.Layout.{rule_row, symbol_of, agents_in}
use Rattle.table.specs.Lists.{tab}
use Rattle.table.specs.Laws.Lists.{tab-snoc, length-tab}
use Rattle.firing.specs.Frames.{frame_size, place, worth, cell_in}
use Rattle.firing.specs.Built.{Ruled, Inside, CellsIn, equations_of, cells_of, width_of, side_of, argument_of}
use Rattle.firing.specs.Built.{value, argued, argued_from, argued_on, equation_for, put_from}
use Rattle.firing.specs.Fires.{built}

-- Every code of a rule has a place in the frame.
inside-place : (w : List ℕ) (i : ℕ) → Ruled w i → (t : Side) → Inside w i t → place t < frame_size
inside-place w i f (name z) h = omega (arith, f.names)
inside-place w i f (cell m) h = omega (arith, f.cells)

module _ (w : List ℕ) (i : ℕ) (f : Ruled w i) where
  pub argument_place : (m j x n : ℕ) → m < cells_of w i → j < width_of w i m → x ≡ j → n ≡ argument_of w i m x → place (side n) < frame_size
  argument_place m j x n h k q e = rw (e, q) (inside-place w i f (side (argument_of w i m j)) (f.arguments m j h k))

  pub argument_small : (m j x : ℕ) → j < width_of w i m → x ≡ j → x < arity_max
  argument_small m j x h q = omega (arith, f.narrow (symbol_of (rule_row w i) m))

  pub cell-small : (m : ℕ) → m < cells_of w i → m < rule_cells_max
  cell-small m h = omega (arith, f.cells)

  pub left_place : (j n : ℕ) → j < equations_of w i → n ≡ side_of w i (2 * j) → place (side n) < frame_size
  left_place j n h e = rw e (inside-place w i f (side (side_of w i (2 * j))) (f.sides j h).0)

  pub right_place : (j n : ℕ) → j < equations_of w i → n ≡ side_of w i (1 + 2 * j) → place (side n) < frame_size
  right_place j n h e = rw e (inside-place w i f (side (side_of w i (1 + 2 * j))) (f.sides j h).1)

pub argument_way : (w : List ℕ) (i : ℕ) (F : List ℕ) (s s₁ : St) (m c j x y n v : ℕ) → x ≡ j → y ≡ j → n
    ≡ argument_of w i m x → v ≡ worth F n
    → s₁ ≡ stored Arguments (arity_max * c + y) v s
    → s₁ ≡ stored Arguments (arity_max * c + j) (value w i F m j) s
unfolding value
argument_way w i F s s₁ m c j x y n v ex ey e q p = rw (p, q, e, ex, ey)

sets_snoc : (xs l : List ℕ) (at x : ℕ) → sets l at (xs ++ (x ∷ [])) ≡ set (sets l at xs) (at + length xs) x
sets_snoc [] l at x = let e : at + 0 ≡ at = omega arith in rw e
sets_snoc (y ∷ xs) l at x = let e : at + suc (length xs) ≡ suc at + length xs = omega arith in rw e (sets_snoc xs (set l at y) (suc at) x)

-- j arguments of cell m are written in cell c.
pub record Arguing (w : List ℕ) (i : ℕ) (F : List ℕ) (m c n : ℕ) (s₀ s : St) (j : ℕ) : Type 0 where
  pub high : j ≤ n
  pub so_far : s ≡ with_words Arguments (sets s₀.arguments (arity_max * c) (tab j (value w i F m))) s₀

module _ (w : List ℕ) (i : ℕ) (F : List ℕ) (m c n : ℕ) (s₀ : St) where
  pub argue_none : Arguing w i F m c n s₀ s₀ 0
  unfolding tab
  argue_none = record { high = omega arith; so_far = refl }

  pub argue_more : (s s₁ : St) (j : ℕ) → Arguing w i F m c n s₀ s j → j < n → s₁ ≡ stored Arguments (arity_max * c + j) (value w i F m j) s
      → Arguing w i F m c n s₀ s₁ (j + 1)
  unfolding stored
  argue_more s s₁ j t h e =
      let q : j + 1 ≡ suc j = omega arith in
      let f = value w i F m in
      let l = s₀.arguments in
      record {
        high = omega arith;
        so_far =
            rw q
            (e
            ∙ ap (λ x. with_words Arguments (set x.arguments (arity_max * c + j) (f j)) x) t.so_far
            ∙ ap (λ x. with_words Arguments x s₀)
            (ap (λ k. set (sets l (arity_max * c) (tab j f)) (arity_max * c + k) (f j)) (sym (length-tab j f))
            ∙ sym (sets_snoc (tab j f) l (arity_max * c) (f j))
            ∙ ap (sets l (arity_max * c)) (sym (tab-snoc j f))));
      }

  pub argue_end : (s : St) (j : ℕ) → Arguing w i F m c n s₀ s j → n ≤ j → c ≡ cell_in F m → (y : ℕ) → n
      ≡ arity_at (agents_in w) y → y ≡ symbol_of (rule_row w i) m
      → s ≡ argued_on w i F m 1 s₀
  unfolding argued_on argued_from argued
  argue_end s j t h e y k z =
      let q : j ≡ width_of w i m = omega (arith, t.high, ap (arity_at (agents_in w)) z) in
      t.so_far ∙ ap₂ (λ d x. with_words Arguments (sets s₀.arguments (arity_max * d) (tab x (value w i F m))) s₀) e q

pub argument_next : (w : List ℕ) (i m n j y : ℕ) → n ≡ arity_at (agents_in w) y → y ≡ symbol_of (rule_row w i) m → j < n → j < width_of w i m
argument_next w i m n j y k z h = omega (arith, ap (arity_at (agents_in w)) z)

pub cell-fits : (w : List ℕ) (i : ℕ) (F : List ℕ) (m c : ℕ) → CellsIn w i F → m < cells_of w i → c ≡ cell_in F m → c < cells_max
cell-fits w i F m c f h e = omega (arith, f.inside m h)

-- The arguments of the first m cells are written.
pub record Filling (w : List ℕ) (i : ℕ) (F : List ℕ) (n : ℕ) (s₀ s : St) (m : ℕ) : Type 0 where
  pub high : m ≤ n
  pub to_come : argued_on w i F m (n - m) s ≡ argued_on w i F 0 n s₀

module _ (w : List ℕ) (i : ℕ) (F : List ℕ) (n : ℕ) (s₀ : St) where
  pub fill_none : Filling w i F n s₀ s₀ 0
  fill_none = let e : n - 0 ≡ n = omega arith in record { high = omega arith; to_come = rw e }

  pub fill_next : (s : St) (m a b : ℕ) → Filling w i F n s₀ s m → a ≡ b → b ≡ n → m < a → m < n
  fill_next s m a b t e q h = omega arith

  pub fill_more : (s s₁ : St) (m a b : ℕ) → Filling w i F n s₀ s m → a ≡ b → b ≡ n → m < a → s₁
      ≡ argued_on w i F m 1 s → Filling w i F n s₀ s₁ (m + 1)
  unfolding argued_on argued_from
  fill_more s s₁ m a b t ea eb h e =
      let q : m + 1 ≡ suc m = omega arith in
      let k : n - m ≡ suc (n - suc m) = omega arith in
      record { high = omega arith; to_come = rw (q, e) (rw k at t.to_come) }

  pub fill_end : (s : St) (m a b : ℕ) → Filling w i F n s₀ s m → a ≡ b → b ≡ n → a ≤ m → s ≡ argued_on w i F 0 n s₀
  unfolding argued_on argued_from
  fill_end s m a b t ea eb h = let k : n - m ≡ 0 = omega arith in rw k at t.to_come

-- An equation put. The number of a side that a word holds is less than half of what a word can hold.
number-code : (t : Sort.Side) (k : ℕ) → code (plain t) < 2 * k → number t < k
number-code (Name x) k h = omega arith
number-code (Cell c) k h = omega arith

side-small : (n : ℕ) → n < 65536 → number (typed (side n)) < 32768
side-small n h = number-code (typed (side n)) 32768 (omega (arith, ap code (plain-typed (side n)), code-side n))

pub equation-room : (s : St) (l r : ℕ) (q : Equation) → l < 65536 → r < 65536 → q ≡ Typed.equation l r
    → s.waiting.used < waiting_max → RoomOn Waits q s
equation-room s l r q hl hr e h =
    record { room = omega arith; left = rw e (side-small l hl); right = rw e (side-small r hr) }

pub equation_way : (w : List ℕ) (i : ℕ) (F : List ℕ) (s s₁ : St) (j a b l r : ℕ) (q : Equation) → a ≡ side_of w i (2 * j) → l ≡ worth F a
    → b ≡ side_of w i (1 + 2 * j) → r ≡ worth F b → q ≡ Typed.equation l r → s₁ ≡ put_on Waits (pair q) s
    → s₁ ≡ put_on Waits (equation_for w i F j) s
unfolding equation_for
equation_way w i F s s₁ j a b l r q ea el eb er eq p =
    p
    ∙ ap (λ x. put_on Waits x s)
    (ap pair eq
    ∙ ap₂ ◌:=◌ (plain-typed (side l)) (plain-typed (side r))
    ∙ ap₂ (λ x y. side x := side y) (el ∙ ap (worth F) ea) (er ∙ ap (worth F) eb))

length_from : (j k : ℕ) → length (from j k) ≡ k
length_from j ℕ.zero = refl
length_from j (ℕ.suc k) = ap suc (length_from (suc j) k)

-- The equations from j on are put.
pub record Putting (w : List ℕ) (i : ℕ) (F : List ℕ) (n : ℕ) (s₀ s : St) (j : ℕ) : Type 0 where
  pub high : j ≤ n
  pub room : s₀.waiting.used + n ≤ waiting_max
  pub so_far : s ≡ put_from w i F j (n - j) s₀
  pub waits : s.waiting.used ≡ s₀.waiting.used + (n - j)

module _ (w : List ℕ) (i : ℕ) (F : List ℕ) (n : ℕ) (s₀ : St) where
  pub put_none : (m x : ℕ) → m ≡ x → x ≡ n → s₀.waiting.used + n ≤ waiting_max → Putting w i F n s₀ s₀ m
  unfolding put_from
  put_none m x e q h =
      let z : n - m ≡ 0 = omega arith in
      let u : s₀.waiting.used + 0 ≡ s₀.waiting.used = omega arith in
      record { high = omega arith; room = h; so_far = rw (z, u); waits = rw (z, u) }

  put_on-from : (j k : ℕ) → put_on Waits (equation_for w i F j) (put_from w i F (suc j) k s₀) ≡ put_from w i F j (suc k) s₀
  unfolding put_on put_from
  put_on-from j k =
      let u = s₀.waiting.used in
      let ps = map (equation_for w i F) (from (suc j) k) in
      ap
      (λ x. with_waiting (stack (pushed (u + length ps) (equation_for w i F j) (pushed_all u ps s₀.waiting.words)) x) s₀)
      (let e : suc (u + length ps) ≡ u + suc (length ps) = omega arith in e)

  put_used : (j k : ℕ) → (put_from w i F j k s₀).waiting.used ≡ s₀.waiting.used + k
  unfolding put_from
  put_used j k = ap (λ x. s₀.waiting.used + x) (length-map (from j k) (equation_for w i F) ∙ length_from j k)

  pub put_more : (s s₁ : St) (j : ℕ) → Putting w i F n s₀ s j → 0 < j → s₁
      ≡ put_on Waits (equation_for w i F (j - 1)) s → Putting w i F n s₀ s₁ (j - 1)
  put_more s s₁ j t h e =
      let q : j ≡ suc (j - 1) = omega arith in
      let k : n - (j - 1) ≡ suc (n - j) = omega (arith, t.high) in
      let p : s₁ ≡ put_from w i F (j - 1) (n - (j - 1)) s₀ =
      rw k (e ∙ ap (put_on Waits (equation_for w i F (j - 1))) (t.so_far
      ∙ ap (λ x. put_from w i F x (n - j) s₀) q) ∙ put_on-from (j - 1) (n - j)) in
      record {
        high = omega (arith, t.high);
        room = t.room;
        so_far = p;
        waits = ap (λ x. x.waiting.used) p
            ∙ put_used (j - 1) (n - (j - 1));
      }

  pub put_next : (s : St) (j : ℕ) → Putting w i F n s₀ s j → 0 < j → j - 1 < n
  put_next s j t h = omega (arith, t.high)

  pub put_room : (s : St) (j : ℕ) → Putting w i F n s₀ s j → 0 < j → s.waiting.used < waiting_max
  put_room s j t h = omega (arith, t.high, t.room, t.waits)

  pub put_end : (s : St) (j : ℕ) → Putting w i F n s₀ s j → j ≤ 0 → s ≡ put_from w i F 0 n s₀
  put_end s j t h =
      let q : j ≡ 0 = omega arith in
      let k : n - 0 ≡ n = omega arith in
      rw (q, k) at t.so_far

-- Both: the cells filled, and the equations put.
pub build_room : (w : List ℕ) (i : ℕ) (F : List ℕ) (s s₁ : St) → s₁ ≡ argued_on w i F 0 (cells_of w i) s
    → s.waiting.used + equations_of w i ≤ waiting_max → s₁.waiting.used + equations_of w i ≤ waiting_max
unfolding argued_on
build_room w i F s s₁ e h = rw e h

pub build_way : (w : List ℕ) (i : ℕ) (F : List ℕ) (s s₁ s₂ : St) → s₁ ≡ argued_on w i F 0 (cells_of w i) s
    → s₂ ≡ put_from w i F 0 (equations_of w i) s₁ → s₂ ≡ built w i F s
unfolding built
build_way w i F s s₁ s₂ p q = rw (q, p)
