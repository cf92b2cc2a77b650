-- What a sound state gives to a step on one of its equations.
use Rattle.std.proofs.Common.{◌≡◌, refl, ap, subst, sym, ◌∙◌, Bool, true, false, ◌⊎◌, inl, inr, ℕ, suc, ◌*◌, ◌<◌, ◌≤◌, pred, arith, eqb, get_or, eq-eqb, eqb-true}
use Rattle.parts.specs.Limits.{cells_max, names_max, waiting_max, loops_max}
use Rattle.parts.specs.Sides.{name, cell, Pair, ◌:=◌, code, side}
use Rattle.parts.specs.Codes.{code-side}
use Rattle.parts.specs.Sides as Plain
use Rattle.parts.specs.Typed.{plain, pair, number}
use Rattle.parts.specs.declared.Equation.{Equation}
use Rattle.parts.specs.declared.NameNo.{NameNo}
use Rattle.parts.specs.declared.CellNo.{CellNo}
use Rattle.parts.specs.declared.Side.{Side}
use Rattle.parts.specs.declared.Side.TheVariants.{Name, Cell}
use Rattle.model.specs.Ranges.{LiveSide}
use Rattle.model.proofs.Beneath.Ranges.{waiting-live, bond-live}
use Rattle.model.proofs.Beneath.Tabled.{acts}
use Rattle.model.specs.Rows.{NoRoom, for_interaction, for_loop, for_joined_loop, Joined}
use Rattle.model.specs.Sound.{Sound}
use Rattle.model.specs.SoundTable.{SoundTable}
use Rattle.model.specs.State.{St, equation, bound}
use Rattle.model.specs.Step.{refused, picked, place, taken_out}
use Rattle.model.specs.Stepped.{act, stepped, wire}
use Rattle.model.proofs.Stopped.{refused_13}
use Rattle.model.specs.Table.{Table}
use Rattle.state.specs.Moves.{out_of_waiting, Pullable}
use Rattle.kept.specs.Right.{Right}
use Rattle.kept.specs.declared.Kept.{Kept}
use Rattle.wiring.specs.Wiring.{pick, bonds_end, loop_here, Wirable}
use Rattle.wiring.specs.Wiring as Wiring
use Rattle.machine.specs.Picked.{full_loop, Pickable}

-- a live side has a number that the code can index by
pub live_small : (s : St) (t : Side) → LiveSide s (plain t) → number t < names_max
live_small s (Name x) h = h.0
live_small s (Cell c) h = h.0

code-live : (s : St) (t : Plain.Side) → LiveSide s t → code t < 2 * cells_max
code-live s (name x) h = omega (arith, h.0)
code-live s (cell c) h = omega (arith, h.0)

-- leaving the list changes neither names nor cells
pub right_out : (s : St) (k : ℕ) (q : Kept) → Right q s → Right q (out_of_waiting k s)
unfolding out_of_waiting
right_out s k q f =
    record {
      cells = f.cells;
      names = f.names;
      cells_taken = f.cells_taken;
      names_taken = f.names_taken;
      cells_fit = f.cells_fit;
      names_fit = f.names_fit;
    }

module _ {T : Table} (t : SoundTable T) (s : St) (h : Sound T s) where
  bonds : (x : ℕ) → get_or s.names x 0 < bonds_end
  bonds x = go (get_or s.names x 0) refl
    where
      go : (v : ℕ) → get_or s.names x 0 ≡ v → v < bonds_end
      go ℕ.zero e = omega arith
      go (ℕ.suc ℕ.zero) e = omega arith
      go (ℕ.suc (ℕ.suc n)) e =
          let live = bond-live t s h x (side n) (e ∙ ap (λ m. suc (suc m)) (sym (code-side n))) in
          omega (arith, code-live s (side n) live, code-side n)

  pub pullable : (k : ℕ) → k < s.waiting.used → Pullable k s
  pullable k o = record { waits = o; size = h.sizes.waiting; room = h.sizes.waits; zeros = h.zeros.waiting }

  pub out-wirable : (k : ℕ) → k < s.waiting.used → Wirable (out_of_waiting k s)
  unfolding out_of_waiting
  out-wirable k o =
      let room : pred s.waiting.used < waiting_max = omega (arith, h.sizes.waits) in
      record { room = room; names = bonds; size = h.sizes.names }

  -- both sides of a waiting equation
  pub sides_live : (k : ℕ) (e : Equation) → k < s.waiting.used → pair e ≡ equation k s.waiting.words
      → LiveSide s (plain e.left) × LiveSide s (plain e.right)
  sides_live k e o q = go q (waiting-live t s h k o)
    where
      left : Pair → Plain.Side
      left (a := b) = a

      right : Pair → Plain.Side
      right (a := b) = b

      go : {a b : Plain.Side} → pair e ≡ (a := b) → LiveSide s a × LiveSide s b → LiveSide s (plain e.left) × LiveSide s (plain e.right)
      go q f = (subst (LiveSide s) (sym (ap left q)) f.0, subst (LiveSide s) (sym (ap right q)) f.1)

-- Where a picked equation is wired, it is refused just where it is a loop that can't be counted.
loops-full : (s : St) → s.loops ≤ loops_max → loops_max ≤ s.loops → eqb s.loops loops_max ≡ true
loops-full s a b = eq-eqb s.loops loops_max (omega arith)

never : {A : Type 0} → false ≡ true → A
never e = absurd (let z : ◌≡◌ {A = ℕ} 0 1 = cc in omega arith)

same_name : (s : St) (x y : NameNo) → x.0 ≡ y.0 → loop_here (Name x) (Name y) s ≡ true
unfolding loop_here
same_name s x y e = rw (eq-eqb _ _ e)

joined-name : (s : St) (x y : NameNo) → Joined s x.0 y.0 → loop_here (Name x) (Name y) s ≡ true
unfolding loop_here
joined-name s x y e = go (eqb x.0 y.0)
  where
    is : eqb (get_or s.names x.0 0) (Wiring.bound (Name y)) ≡ true
    is = eq-eqb (get_or s.names x.0 0) (Wiring.bound (Name y)) (e ∙ omega arith)

    go : (b : Bool) → pick b true (eqb (get_or s.names x.0 0) (Wiring.bound (Name y))) ≡ true
    go true = refl
    go false = is

full_is : (s : St) (l r : Side) → s.loops ≤ loops_max → loops_max ≤ s.loops → loop_here l r s ≡ true → full_loop l r s ≡ true
unfolding full_loop
full_is s l r a b e = rw (loops-full s a b) e

-- there is no room for an equation of two names only where it is a loop and the count is at its end
no_room-names : {T : Table} {s : St} {q : Pair} → NoRoom T s q → (x y : ℕ) → q ≡ (name x := name y)
    → (loops_max ≤ s.loops) × ((x ≡ y) ⊎ Joined s x y)
no_room-names (for_interaction e o) x y q = absurd (let z : ◌≡◌ {A = ℕ} 0 1 = cc in omega arith)
no_room-names (for_loop {x = v} b) x y q = (b, inl (let z : v ≡ x = cc in let w : v ≡ y = cc in cc))
no_room-names {s = s} (for_joined_loop {x = v} {y = w} j b) x y q =
    let z : v ≡ x = cc in
    let u : w ≡ y = cc in
    (b, inr (subst (λ m. get_or s.names x 0 ≡ bound (name m)) u (subst (λ m. get_or s.names m 0 ≡ bound (name w)) z j)))

no_room_mixed : {T : Table} {s : St} {q : Pair} → NoRoom T s q → (x c : ℕ) → (q ≡ (name x := cell c)) ⊎ (q ≡ (cell c := name x)) → ⊥
no_room_mixed (for_interaction e o) x c (inl q) = let z : ◌≡◌ {A = ℕ} 0 1 = cc in omega arith
no_room_mixed (for_interaction e o) x c (inr q) = let z : ◌≡◌ {A = ℕ} 0 1 = cc in omega arith
no_room_mixed (for_loop b) x c (inl q) = let z : ◌≡◌ {A = ℕ} 0 1 = cc in omega arith
no_room_mixed (for_loop b) x c (inr q) = let z : ◌≡◌ {A = ℕ} 0 1 = cc in omega arith
no_room_mixed (for_joined_loop j b) x c (inl q) = let z : ◌≡◌ {A = ℕ} 0 1 = cc in omega arith
no_room_mixed (for_joined_loop j b) x c (inr q) = let z : ◌≡◌ {A = ℕ} 0 1 = cc in omega arith

-- and a loop that can't be counted has no room
full-names : (s : St) (x y : NameNo) → full_loop (Name x) (Name y) s ≡ true
    → (loops_max ≤ s.loops) × ((x.0 ≡ y.0) ⊎ Joined s x.0 y.0)
unfolding full_loop loop_here
full-names s x y = go (eqb s.loops loops_max) refl (eqb x.0 y.0) refl
  where
    go : (b : Bool) → eqb s.loops loops_max ≡ b → (d : Bool) → eqb x.0 y.0 ≡ d
        → pick b (pick d true (eqb (get_or s.names x.0 0) (Wiring.bound (Name y)))) false ≡ true
        → (loops_max ≤ s.loops) × ((x.0 ≡ y.0) ⊎ Joined s x.0 y.0)
    go true p true q e = (omega (arith, eqb-true s.loops loops_max p), inl (eqb-true x.0 y.0 q))
    go true p false q e =
        let w = eqb-true (get_or s.names x.0 0) (Wiring.bound (Name y)) e in
        (omega (arith, eqb-true s.loops loops_max p), inr (w ∙ omega arith))
    go false p d q e = never e

full_mixed : (s : St) (x : NameNo) (c : CellNo) → full_loop (Name x) (Cell c) s ≡ false
unfolding full_loop loop_here
full_mixed s x c = go (eqb s.loops loops_max)
  where
    go : (b : Bool) → pick b false false ≡ false
    go true = refl
    go false = refl

roomless_names : (T : Table) (s : St) (x y : ℕ) → (loops_max ≤ s.loops) × ((x ≡ y) ⊎ Joined s x y)
    → NoRoom T s (name x := name y)
roomless_names T s x y (b, inl e) = subst (λ z. NoRoom T s (name x := name z)) e (for_loop b)
roomless_names T s x y (b, inr j) = for_joined_loop j b

-- The equation that is picked, with a name on its left, or exchanged.
pub data Shown (q : Pair) : Side → Side → Type 0 where
  as_is : {x : NameNo} {r : Side} → q ≡ (name x.0 := plain r) → Shown q (Name x) r
  turned_round : {x : NameNo} {c : CellNo} → q ≡ (cell c.0 := name x.0) → Shown q (Name x) (Cell c)

module _ {T : Table} (t : SoundTable T) (s : St) (h : Sound T s) (p k : ℕ) (o : p < s.waiting.used) (at : k ≡ place s p) where
  pub steps_by : {l r : Side} → Shown (picked s p) l r → stepped T s p ≡ wire (plain l) (plain r) (out_of_waiting k s)
  unfolding out_of_waiting
  steps_by {l} {r} (as_is e) = acts T s p o ∙ (ap (λ q. act T q (taken_out (place s p) s)) e ∙ ap (λ m. wire (plain l) (plain r) (taken_out m s)) (sym at))
  steps_by {l} {r} (turned_round e) = acts T s p o ∙ (ap (λ q. act T q (taken_out (place s p) s)) e ∙ ap (λ m. wire (plain l) (plain r) (taken_out m s)) (sym at))

  refuses : {l r : Side} → Shown (picked s p) l r → full_loop l r s ≡ true → stepped T s p ≡ refused 13
  refuses (as_is {x = x} {r = Name y} e) f =
      (refused_13 h p).1 (o, subst (NoRoom T s) (sym e) (roomless_names T s x.0 y.0 (full-names s x y f)))
  refuses (as_is {x = x} {r = Cell c} e) f = never (sym (full_mixed s x c) ∙ f)
  refuses (turned_round {x = x} {c = c} e) f = never (sym (full_mixed s x c) ∙ f)

  refused_full : {l r : Side} → Shown (picked s p) l r → stepped T s p ≡ refused 13 → full_loop l r s ≡ true
  refused_full (as_is {x = x} {r = Name y} e) q =
      let n = no_room-names ((refused_13 h p).0 q).1 x.0 y.0 e in
      full_is s (Name x) (Name y) h.sizes.loops n.0 (looped n.1)
    where
      looped : (x.0 ≡ y.0) ⊎ Joined s x.0 y.0 → loop_here (Name x) (Name y) s ≡ true
      looped (inl e) = same_name s x y e
      looped (inr j) = joined-name s x y j
  refused_full (as_is {x = x} {r = Cell c} e) q = absurd (no_room_mixed ((refused_13 h p).0 q).1 x.0 c.0 (inl e))
  refused_full (turned_round {x = x} {c = c} e) q = absurd (no_room_mixed ((refused_13 h p).0 q).1 x.0 c.0 (inr e))

  pub pickable : {l r : Side} → Shown (picked s p) l r → number l < names_max → number r < names_max → Pickable l r k s
  pickable {l} {r} e a b =
      let inside : k < s.waiting.used = omega arith in
      record {
        pullable = pullable t s h k inside;
        wirable = out-wirable t s h k inside;
        left = a;
        right = b;
        full = λ f. sym (steps_by e) ∙ refuses e f;
        free = λ f q. never (sym f ∙ refused_full e (steps_by e ∙ q));
      }
