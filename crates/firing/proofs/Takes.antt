-- The loops that take new names and new cells.
use Prim.Native.Nat.{ℕ, suc, ◌+◌, ◌*◌, ◌-◌, ◌<◌, ◌≤◌}
use mathlib.Core.Path.{◌≡◌, refl, ap, ap₂, sym, ◌∙◌}
use mathlib.Core.List.{List, ◌∷◌, map}
use native.Mathlib.Omega.{arith}
use lib.ListN.{length, get_or, set, length-set}
use lib.Seq.{sets}
use mir.Syntax.{w16}
use mir.Val.{Fits}
use Rattle.parts.specs.Limits.{cells_max, names_max, rule_cells_max, rule_names_max}
use Rattle.model.specs.State.{St, used, lowest}
use Rattle.state.specs.Places.{words, size, with_words, stored}
use Rattle.state.specs.Moves.{taken, free_from}
use Rattle.state.specs.declared.Part.{Part}
use Rattle.state.specs.declared.Part.TheVariants.{Symbols, Arguments, Names, Waiting, Stuck, Face}
use Rattle.table.specs.Layout.{rule_row, symbol_of}
use Rattle.firing.specs.Built.{Ruled, names_of, cells_of, symbol_word}
use Rattle.firing.specs.Frames.{names_at, cells_at}
use Rattle.firing.specs.Taken.{written, taken_on, entered, Takeable, name_code, cell_code}
use Rattle.firing.proofs.Lows.{first_free, taken-inside, lowest-taken, used-taken, below-taken}

same_words : (p : Part) (s : St) → s ≡ with_words p (words p s) s
same_words Symbols s = refl
same_words Arguments s = refl
same_words Names s = refl
same_words Waiting s = refl
same_words Stuck s = refl
same_words Face s = refl

words_with : (p : Part) (l : List ℕ) (s : St) → words p (with_words p l s) ≡ l
words_with Symbols l s = refl
words_with Arguments l s = refl
words_with Names l s = refl
words_with Waiting l s = refl
words_with Stuck l s = refl
words_with Face l s = refl

with_with : (p : Part) (l m : List ℕ) (s : St) → with_words p l (with_words p m s) ≡ with_words p l s
with_with Symbols l m s = refl
with_with Arguments l m s = refl
with_with Names l m s = refl
with_with Waiting l m s = refl
with_with Stuck l m s = refl
with_with Face l m s = refl

-- The number that is taken: it is free, and it fits.
pub free-inside : (p : Part) (s : St) (low : ℕ) → Takeable p 1 low s → free_from low (words p s) < size p
free-inside p s low t =
    omega (
      arith,
      first_free (words p s) low (omega (arith, t.fits, t.whole)) t.below,
      taken-inside (words p s) (omega (arith, t.room, t.whole)),
      t.whole,
    )

-- i of n are taken: the words v .. are set at the lowest i places, their codes c .. entered from `at` on.
pub record Taking (p : Part) (v c : ℕ → ℕ) (at n : ℕ) (s₀ s : St) (F₀ F : List ℕ) (low i : ℕ) : Type 0 where
  pub high : i ≤ n
  pub only : s ≡ with_words p (words p s) s₀
  pub whole : length (words p s) ≡ size p
  pub room : n + used (words p s) ≤ size p + i
  pub count : used (words p s) ≡ used (words p s₀) + i
  pub fits : low ≤ size p
  pub below : (j : ℕ) → j < low → 0 < get_or (words p s) j 0
  pub done : written v i (lowest 0 (n - i) (words p s)) (words p s) ≡ written v 0 (lowest 0 n (words p s₀)) (words p s₀)
  pub frame : sets F (at + i) (map c (lowest 0 (n - i) (words p s))) ≡ sets F₀ at (map c (lowest 0 n (words p s₀)))

take_none : (p : Part) (v c : ℕ → ℕ) (at n : ℕ) (s : St) (F : List ℕ) (low : ℕ) → Takeable p n low s → Taking p v c at n s s F F low 0
take_none p v c at n s F low t =
    let e : n - 0 ≡ n = omega arith in
    let z : at + 0 ≡ at = omega arith in
    record {
      high = omega arith;
      only = same_words p s;
      whole = t.whole;
      room = omega (arith, t.room);
      count = omega arith;
      fits = t.fits;
      below = t.below;
      done = rw e;
      frame = rw (e, z);
    }

-- another one can be taken
take_one : (p : Part) (v c : ℕ → ℕ) (at n : ℕ) (s₀ s : St) (F₀ F : List ℕ) (low i : ℕ) → Taking p v c at n s₀ s F₀ F low i → i < n
    → Takeable p 1 low s
take_one p v c at n s₀ s F₀ F low i t h =
    record { whole = t.whole; room = omega (arith, t.room); fits = t.fits; below = t.below }

take_more : (p : Part) (v c : ℕ → ℕ) (at n : ℕ) (s₀ s s₁ : St) (F₀ F F₁ : List ℕ) (low i r : ℕ)
    → Taking p v c at n s₀ s F₀ F low i → i < n → 0 < v i
    → r ≡ free_from low (words p s) + 1
    → s₁ ≡ stored p (free_from low (words p s)) (v i) s
    → F₁ ≡ set F (at + i) (c (free_from low (words p s)))
    → Taking p v c at n s₀ s₁ F₀ F₁ r (i + 1)
unfolding stored
take_more p v c at n s₀ s s₁ F₀ F F₁ low i r t h o er es eF =
    record {
      high = omega arith;
      only = whole ∙ sym (ap (λ x. with_words p x s₀) l₁_is);
      whole = rw l₁_is (length-set l q (v i) ∙ t.whole);
      room = rw l₁_is (omega (arith, t.room, used-taken l (v i) room o));
      count = rw l₁_is (omega (arith, t.count, used-taken l (v i) room o));
      fits = rw (er, first) (omega (arith, taken-inside l room, t.whole));
      below = λ j b. rw l₁_is (below-taken l (v i) room o j (omega (arith, er, first)));
      done = rw (l₁_is, i_is) (sym (ap (λ k. written v i k l) next) ∙ t.done);
      frame = rw (l₁_is, i_is, at_is, eF, first) (sym (ap (λ k. sets F (at + i) (map c k)) next) ∙ t.frame);
    }
  where
    l : List ℕ
    l = words p s

    q : ℕ
    q = taken l

    room : used (words p s) < length (words p s)
    room = omega (arith, t.room, t.whole)

    first : free_from low (words p s) ≡ taken (words p s)
    first = first_free (words p s) low (omega (arith, t.fits, t.whole)) t.below

    l₁_is : words p s₁ ≡ set (words p s) (taken (words p s)) (v i)
    l₁_is = ap (words p) es ∙ words_with p _ s ∙ ap (λ k. set (words p s) k (v i)) first

    whole : s₁ ≡ with_words p (set (words p s) (taken (words p s)) (v i)) s₀
    whole = es ∙ ap (λ k. with_words p (set (words p s) k (v i)) s) first
        ∙ ap (with_words p (set (words p s) (taken (words p s)) (v i))) t.only ∙ with_with p _ _ s₀

    i_is : i + 1 ≡ suc i
    i_is = omega arith

    at_is : at + suc i ≡ suc (at + i)
    at_is = omega arith

    n_is : n - i ≡ suc (n - suc i)
    n_is = omega arith

    next : lowest 0 (n - i) (words p s) ≡ taken (words p s) ∷ lowest 0 (n - suc i) (set (words p s) (taken (words p s)) (v i))
    next = ap (λ k. lowest 0 k (words p s)) n_is ∙ lowest-taken (words p s) (v i) room o (n - suc i)

module _ (p : Part) (v c : ℕ → ℕ) (at n : ℕ) (s₀ s : St) (F₀ F : List ℕ) (low i : ℕ) (t : Taking p v c at n s₀ s F₀ F
    low i) (h : n ≤ i) where
  none_left : n - i ≡ 0
  none_left = omega (arith, h)

  take-state : s ≡ taken_on p v n s₀
  unfolding taken_on
  take-state = t.only ∙ ap (λ l. with_words p l s₀) (rw none_left at t.done)

  take-frame : F ≡ entered p at c n s₀ F₀
  unfolding entered
  take-frame = rw none_left at t.frame

-- The same of names, which are set bare, and of cells, which get their symbols; m is the count as the code has it.
module _ (w : List ℕ) (k : ℕ) (s₀ s : St) (F₀ F : List ℕ) (low : ℕ) where
  pub names_none : Takeable Names (names_of w k) low s₀ → Taking Names (λ j. 1) name_code names_at (names_of w k) s₀ s₀ F₀ F₀ low 0
  names_none t = take_none Names (λ j. 1) name_code names_at (names_of w k) s₀ F₀ low t

  pub cells_none : Takeable Symbols (cells_of w k) low s₀
      → Taking Symbols (symbol_word w k) cell_code cells_at (cells_of w k) s₀ s₀ F₀ F₀ low 0
  cells_none t = take_none Symbols (symbol_word w k) cell_code cells_at (cells_of w k) s₀ F₀ low t

  module _ (i m x : ℕ) (e : m ≡ x) where
    module _ (q : x ≡ names_of w k) (t : Taking Names (λ j. 1) name_code names_at (names_of w k) s₀ s F₀ F low i) where
      pub name_takeable : i < m → Takeable Names 1 low s
      name_takeable h = take_one Names (λ j. 1) name_code names_at (names_of w k) s₀ s F₀ F low i t (omega arith)

      pub name-small : i < m → Ruled w k → i < rule_names_max
      name-small h f = omega (arith, f.names)

      pub name_more : (s₁ : St) (F₁ : List ℕ) (r : ℕ) → i < m → r ≡ free_from low s.names + 1
          → s₁ ≡ stored Names (free_from low s.names) 1 s
          → F₁ ≡ set F (names_at + i) (name_code (free_from low s.names))
          → Taking Names (λ j. 1) name_code names_at (names_of w k) s₀ s₁ F₀ F₁ r (i + 1)
      name_more s₁ F₁ r h er es eF =
          take_more Names (λ j. 1) name_code names_at (names_of w k) s₀ s s₁ F₀ F F₁ low i r t (omega arith) (omega arith) er es eF

      module _ (h : m ≤ i) where
        pub names-state : s ≡ taken_on Names (λ j. 1) (names_of w k) s₀
        names-state = take-state Names (λ j. 1) name_code names_at (names_of w k) s₀ s F₀ F low i t (omega arith)

        pub names-frame : F ≡ entered Names names_at name_code (names_of w k) s₀ F₀
        names-frame = take-frame Names (λ j. 1) name_code names_at (names_of w k) s₀ s F₀ F low i t (omega arith)

    module _ (q : x ≡ cells_of w k) (t : Taking Symbols (symbol_word w k) cell_code cells_at (cells_of w k) s₀ s F₀ F low i) where
      pub cell_takeable : i < m → Takeable Symbols 1 low s
      cell_takeable h = take_one Symbols (symbol_word w k) cell_code cells_at (cells_of w k) s₀ s F₀ F low i t (omega arith)

      pub cell-small : i < m → i < cells_of w k
      cell-small h = omega arith

      pub cell_more : (s₁ : St) (F₁ : List ℕ) (r : ℕ) → i < m → r ≡ free_from low s.symbols + 1
          → s₁ ≡ stored Symbols (free_from low s.symbols) (symbol_word w k i) s
          → F₁ ≡ set F (cells_at + i) (cell_code (free_from low s.symbols))
          → Taking Symbols (symbol_word w k) cell_code cells_at (cells_of w k) s₀ s₁ F₀ F₁ r (i + 1)
      cell_more s₁ F₁ r h er es eF =
          take_more Symbols (symbol_word w k) cell_code cells_at (cells_of w k) s₀ s s₁ F₀ F F₁ low i r t (omega
          arith) (omega arith) er es eF

      module _ (h : m ≤ i) where
        pub cells-state : s ≡ taken_on Symbols (symbol_word w k) (cells_of w k) s₀
        cells-state = take-state Symbols (symbol_word w k) cell_code cells_at (cells_of w k) s₀ s F₀ F low i t (omega arith)

        pub cells-frame : F ≡ entered Symbols cells_at cell_code (cells_of w k) s₀ F₀
        cells-frame = take-frame Symbols (symbol_word w k) cell_code cells_at (cells_of w k) s₀ s F₀ F low i t (omega arith)

-- One number taken: y is the number found.
module _ (s : St) (low y : ℕ) where
  module _ (t : Takeable Names 1 low s) (q : y ≡ free_from low s.names) where
    pub name-short : Fits w16 y
    name-short = omega (arith, free-inside Names s low t)

    pub name-inside : y < names_max
    name-inside = omega (arith, free-inside Names s low t)

    pub name_doubled : Fits w16 (2 * y)
    name_doubled = omega (arith, free-inside Names s low t)

    pub name-past : Fits w16 (y + 1)
    name-past = omega (arith, free-inside Names s low t)

  module _ (t : Takeable Symbols 1 low s) (q : y ≡ free_from low s.symbols) where
    pub cell-short : Fits w16 y
    cell-short = omega (arith, free-inside Symbols s low t)

    pub cell-inside : y < cells_max
    cell-inside = omega (arith, free-inside Symbols s low t)

    pub cell_doubled : Fits w16 (2 * y)
    cell_doubled = omega (arith, free-inside Symbols s low t)

    pub cell-coded : Fits w16 (1 + 2 * y)
    cell-coded = omega (arith, free-inside Symbols s low t)

    pub cell-past : Fits w16 (y + 1)
    cell-past = omega (arith, free-inside Symbols s low t)

pub past_way : (x y f : ℕ) → x ≡ y → y ≡ f → x + 1 ≡ f + 1
past_way x y f e q = omega arith

pub name-stored : (s s₁ : St) (x y f : ℕ) → x ≡ y → y ≡ f → s₁ ≡ stored Names x 1 s → s₁ ≡ stored Names f 1 s
name-stored s s₁ x y f e q p = rw (← q, ← e) p

pub name-entered : (F : List ℕ) (i x y f : ℕ) → x ≡ y → y ≡ f → set F (names_at + i) (2 * x) ≡ set F (names_at + i) (name_code f)
name-entered F i x y f e q = rw (e, q)

-- v is the symbol of the cell
pub symbol-fits : (w : List ℕ) (k m v : ℕ) → Ruled w k → m < cells_of w k → v ≡ symbol_of (rule_row w k) m → Fits w16 (v + 1)
symbol-fits w k m v f h e = omega (arith, f.symbols m h)

pub cell_one : (w : List ℕ) (k m : ℕ) → Ruled w k → m < cells_of w k → m < rule_cells_max
cell_one w k m f h = omega (arith, f.cells)

pub cell-stored : (w : List ℕ) (k m : ℕ) (s s₁ : St) (x y f v : ℕ) → x ≡ y → y ≡ f → v ≡ symbol_of (rule_row w k) m
    → s₁ ≡ stored Symbols x (v + 1) s
    → s₁ ≡ stored Symbols f (symbol_word w k m) s
cell-stored w k m s s₁ x y f v e q z p = p ∙ ap₂ (λ a b. stored Symbols a (b + 1) s) (e ∙ q) z

pub cell-entered : (F : List ℕ) (i x y f : ℕ) → x ≡ y → y ≡ f → set F (cells_at + i) (1 + 2 * x) ≡ set F (cells_at + i) (cell_code f)
cell-entered F i x y f e q = rw (e, q)
