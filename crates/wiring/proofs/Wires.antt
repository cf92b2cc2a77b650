-- One law for each way out of the wiring functions, and what dropping keeps.
use Prim.Native.Nat.{ℕ, zero, suc, ◌+◌, ◌-◌, ◌*◌, ◌<◌, ◌≤◌}
use mathlib.Core.Path.{◌≡◌, ap, sym, ◌∙◌}
use mathlib.Core.Bool.{Bool, true, false}
use mathlib.Core.List.{List, [], ◌∷◌}
use native.Mathlib.Omega.{arith}
use lib.Dec.{ltb, eqb}
use lib.ListN.{get_or, set, length-set}
use borrow.Author.Tests.{lt-ltb, le-ltb}
use Rattle.parts.specs.Limits.{names_max, cells_max}
use Rattle.parts.specs.Sides.{Pair, code, side}
use Rattle.parts.specs.Codes.{code-side}
use Rattle.parts.specs.Typed.{plain, pair, number, typed, plain-typed}
use Rattle.parts.specs.declared.Equation.{Equation}
use Rattle.parts.specs.declared.NameNo.{NameNo}
use Rattle.parts.specs.declared.CellNo.{CellNo}
use Rattle.parts.specs.declared.Side.{Side}
use Rattle.parts.specs.declared.Side.TheVariants.{Name, Cell}
use Rattle.model.specs.State.{St}
use Rattle.model.specs.Stepped.{fasten}
use Rattle.state.specs.Places.{stored, looped}
use Rattle.state.specs.Moves.{put_on}
use Rattle.state.specs.declared.Part.TheVariants.{Names}
use Rattle.state.specs.declared.Pile.TheVariants.{Waits}
use Rattle.kept.specs.Right.{Right}
use Rattle.kept.specs.declared.Kept.{Kept}
use Rattle.wiring.specs.Keeping.{Came}
use Rattle.wiring.proofs.Modelled.{wire_is}
use Rattle.wiring.specs.Wiring.{pick, bound, bonds_end, Wirable, Countable, Ready, end_of, loosened, dropped, fastened, wired}

-- the state meant, written otherwise
came_as : {s t u : St} {k : Kept} → Came s k t → t ≡ u → Came s k u
came_as c e = record { is = c.is ∙ e; right = c.right }

code-small : (s : Side) → number s < names_max → code (plain s) < 2 * names_max
code-small (Name x) h = omega arith
code-small (Cell c) h = omega arith

-- a side's number, in the arm of a match
pub name-small : {t : Side} {x : NameNo} → t ≡ Name x → number t < names_max → x.0 < names_max
name-small e h = omega (arith, ap number e)

-- the side that a name's word holds
number-code : (s : Side) (k : ℕ) → code (plain s) < 2 * k → number s < k
number-code (Name n) k h = omega arith
number-code (Cell c) k h = omega arith

side-small : (c : ℕ) → c < 2 * cells_max → number (typed (side c)) < names_max
side-small c h = number-code (typed (side c)) cells_max (omega (arith, ap code (plain-typed (side c)), code-side c))

pub held_small : (s : St) (u : Side) (y : NameNo) (x w : ℕ) → Wirable s → w ≡ get_or s.names x 0 → 2 ≤ w → u ≡ typed (side (w - 2)) → u ≡ Name y
    → y.0 < names_max
held_small s u y x w f e h k p =
    let small : number u < names_max = rw k (side-small (w - 2) (omega (arith, f.names x))) in omega (arith, ap number p)

module _ (s : St) (t : Side) (x : NameNo) (w : ℕ) (is : t ≡ Name x) (word : w ≡ get_or s.names x.0 0) where
  pub end_bare : w < 2 → Name x ≡ end_of t s
  unfolding end_of
  end_bare h = rw (is, lt-ltb _ _ (rw word at h))

  pub end_held : (r : Side) → 2 ≤ w → r ≡ typed (side (w - 2)) → r ≡ end_of t s
  unfolding end_of
  end_held r h e = rw (e, is, le-ltb _ _ (rw word at h), word)

  pub drop-bare : (k : Kept) → Right k s → w < 2 → Came s k (dropped t s)
  unfolding dropped
  drop-bare k f h = record { is = rw (is, lt-ltb _ _ (rw word at h)); right = f }

  module _ (u : Side) (s₁ : St) (k₁ : Kept) (h : 2 ≤ w) (told : u ≡ typed (side (w - 2))) (p : Came s₁ k₁ (stored Names x.0 0 s)) where
    pub drop-join : (y : NameNo) (s₂ : St) (k₂ : Kept) → u ≡ Name y → Came s₂ k₂ (stored Names y.0 1 s₁) → Came s₂ k₂ (dropped t s)
    unfolding dropped
    drop-join y s₂ k₂ e q = came_as q (rw (is, le-ltb _ _ (rw word at h), ← word, ← told, e, p.is))

    pub drop-tie : (c : CellNo) → u ≡ Cell c → Came s₁ k₁ (dropped t s)
    unfolding dropped
    drop-tie c e = came_as p (rw (is, le-ltb _ _ (rw word at h), ← word, ← told, e))

pub end_cell : (s : St) (t : Side) (c : CellNo) → t ≡ Cell c → Cell c ≡ end_of t s
unfolding end_of
end_cell s t c e = rw e

pub drop-cell : (s : St) (t : Side) (c : CellNo) (k : Kept) → t ≡ Cell c → Right k s → Came s k (dropped t s)
unfolding dropped
drop-cell s t c k e f = record { is = rw e; right = f }

-- a loop counted changes no name and no cell, nor does an equation put
right_looped : (s : St) (k : Kept) (n : ℕ) → Right k s → Right k (looped n s)
unfolding looped
right_looped s k n f =
    record {
      cells = f.cells;
      names = f.names;
      cells_taken = f.cells_taken;
      names_taken = f.names_taken;
      cells_fit = f.cells_fit;
      names_fit = f.names_fit;
    }

right_put : (s : St) (k : Kept) (q : Pair) → Right k s → Right k (put_on Waits q s)
unfolding put_on
right_put s k q f =
    record {
      cells = f.cells;
      names = f.names;
      cells_taken = f.cells_taken;
      names_taken = f.names_taken;
      cells_fit = f.cells_fit;
      names_fit = f.names_fit;
    }

pub fasten-loop : (s s₁ s₂ : St) (x y : NameNo) (k : Kept) (n : ℕ) (t : Bool) → t ≡ eqb x.0 y.0 → t ≡ true → n ≡ s.loops → Came s₁ k (stored Names x.0 0 s)
    → s₂ ≡ looped (n + 1) s₁ → Came s₂ k (fastened (Name x) (Name y) s)
unfolding fastened
fasten-loop s s₁ s₂ x y k n t d h e p q =
    record { is = rw (sym d ∙ h, q, p.is, e); right = rw q (right_looped s₁ k (n + 1) p.right) }

pub fasten-join : (s s₁ s₂ : St) (x y : NameNo) (k₁ k₂ : Kept) (a b : ℕ) (t : Bool) → t ≡ eqb x.0 y.0 → t ≡ false → a ≡ bound (Name y) → b ≡ bound (Name x)
    → Came s₁ k₁ (stored Names x.0 a s) → Came s₂ k₂ (stored Names y.0 b s₁) → Came s₂ k₂ (fastened (Name x) (Name y) s)
unfolding fastened
fasten-join s s₁ s₂ x y k₁ k₂ a b t d h ea eb p q = came_as q (rw (sym d ∙ h, p.is, ea, eb))

module _ (s s₁ : St) (l r : Side) (k : Kept) where
  pub fasten-names : (x y : NameNo) → l ≡ Name x → r ≡ Name y → Came s₁ k (fastened (Name x) (Name y) s) → Came s₁ k (fastened l r s)
  fasten-names x y e f p = came_as p (rw (e, f))

  pub fasten_left : (x : NameNo) (c : CellNo) → l ≡ Name x → r ≡ Cell c → Came s₁ k (stored Names x.0 (bound (Cell c)) s)
      → Came s₁ k (fastened l r s)
  unfolding fastened
  fasten_left x c e f p = came_as p (rw (e, f))

  pub fasten_right : (c : CellNo) (y : NameNo) → l ≡ Cell c → r ≡ Name y → Came s₁ k (stored Names y.0 (bound (Cell c)) s)
      → Came s₁ k (fastened l r s)
  unfolding fastened
  fasten_right c y e f p = came_as p (rw (e, f))

  pub fasten-cells : (a b : CellNo) → l ≡ Cell a → r ≡ Cell b → Came s₁ k (fastened (Cell a) (Cell b) s) → Came s₁ k (fastened l r s)
  fasten-cells a b e f p = came_as p (rw (e, f))

module _ (s s₁ : St) (a b : CellNo) (k : Kept) (q : Equation) (is : q ≡ record { left = Cell a; right = Cell b }) where
  pub put_way : Right k s → s₁ ≡ put_on Waits (pair q) s → Came s₁ k (fastened (Cell a) (Cell b) s)
  unfolding fastened
  put_way f p =
      record { is = p ∙ ap (λ d. put_on Waits (pair d) s) is; right = rw p (right_put s k (pair q) f) }

pub wire_way : (s s₁ s₂ s₃ : St) (k₁ k₂ k₃ : Kept) (l r a b : Side) → a ≡ end_of l s → Came s₁ k₁ (dropped l s) → b ≡ end_of r s₁
    → Came s₂ k₂ (dropped r s₁) → Came s₃ k₃ (fastened a b s₂) → Came s₃ k₃ (wired l r s)
unfolding wired
wire_way s s₁ s₂ s₃ k₁ k₂ k₃ l r a b ea p eb q t = came_as t (rw (q.is, eb, p.is, ea))

-- What is kept.
below_set : (l : List ℕ) (k i v : ℕ) → v < k → ((j : ℕ) → get_or l j 0 < k) → (j : ℕ) → get_or (set l i v) j 0 < k
below_set [] k i v h b j = b j
below_set (x ∷ xs) k zero v h b zero = h
below_set (x ∷ xs) k zero v h b (suc j) = b (suc j)
below_set (x ∷ xs) k (suc i) v h b zero = b zero
below_set (x ∷ xs) k (suc i) v h b (suc j) = below_set xs k i v h (λ m. b (suc m)) j

wirable-named : (s : St) (x v : ℕ) → v < bonds_end → Wirable s → Wirable (stored Names x v s)
unfolding stored
wirable-named s x v h f =
    record { room = f.room; names = below_set s.names bonds_end x v h f.names; size = simp length-set f.size }

pub wirable-set : (s s₁ : St) (k : Kept) (x v : ℕ) → v < bonds_end → Wirable s → Came s₁ k (stored Names x v s) → Wirable s₁
wirable-set s s₁ k x v h f p = rw p.is (wirable-named s x v h f)

pub wirable-bound : (s s₁ : St) (k : Kept) (t : Side) (x v : ℕ) → number t < names_max → v ≡ bound t → Wirable s
    → Came s₁ k (stored Names x v s) → Wirable s₁
wirable-bound s s₁ k t x v h e f p = wirable-set s s₁ k x v (omega (arith, code-small t h)) f p

wirable-dropped_at : (s : St) (t : Side) → Wirable s → Wirable (dropped t s)
unfolding dropped
wirable-dropped_at s (Name x) f = go (ltb (get_or s.names x.0 0) 2) (typed (side (get_or s.names x.0 0 - 2)))
  where
    go : (b : Bool) (u : Side) → Wirable (pick b s (loosened x.0 u s))
    go true u = f
    go false (Name y) = wirable-named _ y.0 1 (omega arith) (wirable-named s x.0 0 (omega arith) f)
    go false (Cell c) = wirable-named s x.0 0 (omega arith) f
wirable-dropped_at s (Cell c) f = f

pub wirable-dropped : (s s₁ : St) (t : Side) (k : Kept) → Wirable s → Came s₁ k (dropped t s) → Wirable s₁
wirable-dropped s s₁ t k f p = rw p.is (wirable-dropped_at s t f)

end_small_at : (s : St) (t : Side) → Wirable s → number t < names_max → number (end_of t s) < names_max
unfolding end_of
end_small_at s (Name x) f h = go (ltb (get_or s.names x.0 0) 2)
  where
    go : (b : Bool) → number (pick b (Name x) (typed (side (get_or s.names x.0 0 - 2)))) < names_max
    go true = h
    go false = side-small _ (omega (arith, f.names x.0))
end_small_at s (Cell c) f h = h

pub end_small : (s : St) (t e : Side) → Wirable s → number t < names_max → e ≡ end_of t s → number e < names_max
end_small s t e f h p = rw p (end_small_at s t f h)

-- the state and the ends that are fastened
module _ (s s₁ : St) (l r : Side) (k₁ : Kept) (f : Ready l r s) (p : Came s₁ k₁ (dropped l s)) where
  pub wirable-once : Wirable s₁
  wirable-once = wirable-dropped s s₁ l k₁ f.wirable p

  pub second-small : (e : Side) → e ≡ end_of r s₁ → number e < names_max
  second-small e q = end_small s₁ r e wirable-once f.right q

  module _ (s₂ : St) (k₂ : Kept) (q : Came s₂ k₂ (dropped r s₁)) where
    pub wirable-twice : Wirable s₂
    wirable-twice = wirable-dropped s₁ s₂ r k₂ wirable-once q

    pub countable : (a b : Side) → a ≡ end_of l s → b ≡ end_of r s₁ → Countable a b s₂
    countable a b ea eb = record { can = λ e. f.can (wire_is l r s ∙ (same ∙ e)) }
      where
        same : fasten (plain (end_of l s)) (plain (end_of r (dropped l s))) (dropped r (dropped l s)) ≡ fasten (plain a) (plain b) s₂
        same = rw (ea, eb, q.is, p.is)
