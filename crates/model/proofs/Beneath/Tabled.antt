-- Each row of the step table is what a step does, and a picked equation of a sound state has a row or no room.
use Rattle.std.specs.Prelude.{◌≡◌, ◌⊎◌, ℕ, suc, ◌+◌, ◌-◌, ◌≤◌, ◌<◌, pred, length, get_or, set}
use Rattle.std.proofs.Math.Path.{refl}
use Rattle.std.proofs.Common.{sym, ◌∙◌, ap, subst, inl, inr, arith, set-set}
use Rattle.std.proofs.Math.Decide.{ℕ_discrete, dec_lt, dec_le}
use Rattle.parts.specs.Limits.{cells_max, names_max, waiting_max, loops_max}
use Rattle.parts.specs.Sides.{Side, name, cell, Pair, ◌:=◌, side}
use Rattle.parts.specs.Codes.{code-side}
use Rattle.model.specs.State.{St, with_names, bound, used}
use Rattle.model.specs.Table.{Entry, Table, Found, none, straight, turned}
use Rattle.model.specs.Step.{Answer, moved, refused, held, fired, rule_of}
use Rattle.model.specs.Stepped.{Room, room, fire_if, meet, act, stepped}
use Rattle.model.specs.Step.{place, taken_out, picked}
use Rattle.model.specs.Sound.{Mutual, Sound}
use Rattle.model.specs.Rows.{Passes, NoRoom, for_interaction, for_loop, for_joined_loop, count_loop}
use Rattle.model.specs.Rows.{Row, rule, rule_turned, no_rule, joined_to, tied_to, exchanged, loop, loop_joined}
use Rattle.model.specs.Rows.{III_0_0, III_0_c, III_0_e, III_c_0, III_c_c, III_c_e, III_e_0, III_e_c, III_e_e}
use Rattle.model.proofs.Beneath.Selves.{name-used, self-bare}
use Rattle.model.proofs.Beneath.Rows

-- There is room for a rule exactly if nothing passes its size.
room_or_not : (e : Entry) (s : St) → Room e s ⊎ Passes e s.waiting.used s
room_or_not e s =
    go
    (dec_le (used s.symbols - 2 + length e.cells) cells_max)
    (dec_le (used s.names + e.fresh) names_max)
    (dec_le (s.waiting.used + length e.body) waiting_max)
  where
    go : Dec (used s.symbols - 2 + length e.cells ≤ cells_max) → Dec (used s.names + e.fresh ≤ names_max)
        → Dec (s.waiting.used + length e.body ≤ waiting_max) → Room e s ⊎ Passes e s.waiting.used s
    go (yes k) (yes j) (yes i) = inl (k, j, i)
    go (no k) d c = inr (inl (omega arith))
    go (yes k) (no j) c = inr (inr (inl (omega arith)))
    go (yes k) (yes j) (no i) = inr (inr (inr (omega arith)))

room-passes : (e : Entry) (s : St) → Room e s → ¬ Passes e s.waiting.used s
room-passes e s r (inl k) = omega (arith, k, r.0)
room-passes e s r (inr (inl k)) = omega (arith, k, r.1)
room-passes e s r (inr (inr k)) = omega (arith, k, r.2)

-- What two cells do, by their rule.
module _ (T : Table) (s : St) where
  fires : (e : Entry) (a b : ℕ) → ¬ Passes e s.waiting.used s → fire_if e a b s ≡ moved (fired e a b s)
  fires e a b h = go (room e s)
    where
      on : Room e s ⊎ Passes e s.waiting.used s → Room e s
      on (inl k) = k
      on (inr k) = absurd (h k)

      go : (d : Dec (Room e s))
          → elim d as (λ w. Answer) [ yes k ↦ moved (fired e a b s) | no k ↦ refused 13 ] ≡ moved (fired e a b s)
      go (yes k) = refl
      go (no k) = absurd (k (on (room_or_not e s)))

  pub full : (e : Entry) (a b : ℕ) → Passes e s.waiting.used s → fire_if e a b s ≡ refused 13
  full e a b h = go (room e s)
    where
      go : (d : Dec (Room e s))
          → elim d as (λ w. Answer) [ yes k ↦ moved (fired e a b s) | no k ↦ refused 13 ] ≡ refused 13
      go (yes k) = absurd (room-passes e s k h)
      go (no k) = refl

  pub meets : (a b : ℕ) {r : Found} → rule_of T a b s ≡ r
      → meet T a b s ≡ elim r as (λ w. Answer) [ none ↦ moved (held a b s) | straight i e ↦ fire_if e a b s | turned i e ↦ fire_if e b a s ]
  meets a b e = ap (λ r. elim r as (λ w. Answer) [ none ↦ moved (held a b s) | straight i e ↦ fire_if e a b s | turned i e ↦ fire_if e b a s ]) e

  -- A row is what a step does.
  pub row-act : Mutual s.names → {q : Pair} {s' : St} → Row T s q s' → act T q s ≡ moved s'
  row-act m (rule {a = a} {b = b} {e = d} e h) = meets a b e ∙ fires d a b h
  row-act m (rule_turned {a = a} {b = b} {e = d} e h) = meets a b e ∙ fires d b a h
  row-act m (no_rule {a = a} {b = b} e) = meets a b e
  row-act m (Row.bare {x = x} {u = u} e) = Rows.bare-row s m x u e
  row-act m (joined_to {x = x} {u = u} y e) = Rows.joined-row s m x u y e
  row-act m (tied_to {x = x} {u = u} t e) = Rows.tied_row s m x u t e
  row-act m (exchanged r) = row-act m r
  row-act m (loop {x = x} e h) = Rows.loop-row s m x e ∙ Rows.counted x s h
  row-act m (loop_joined {x = x} {y = y} e h) =
      Rows.loop_joined-row s m x y e
      ∙ Rows.counted y (with_names (set (set s.names x 0) y 1) s) h
      ∙ ap (λ k. moved (count_loop (with_names k s))) (set-set (set s.names x 0) y 1 0)
  row-act m (III_0_0 {x = x} {y = y} e f n) = Rows.row_0_0 s m x y e f n
  row-act m (III_0_c {x = x} {y = y} w e f) = Rows.row_0_c s m x y w e f
  row-act m (III_0_e {x = x} {y = y} u e f) = Rows.row_0_e s m x y u e f
  row-act m (III_c_0 {x = x} {y = y} z e f) = Rows.row-c_0 s m x y z e f
  row-act m (III_c_c {x = x} {y = y} z w e f n k) = Rows.row-c-c s m x y z w e f n k
  row-act m (III_c_e {x = x} {y = y} z u e f) = Rows.row-c-e s m x y z u e f
  row-act m (III_e_0 {x = x} {y = y} t e f) = Rows.row-e_0 s m x y t e f
  row-act m (III_e_c {x = x} {y = y} t w e f) = Rows.row-e-c s m x y t w e f
  row-act m (III_e_e {x = x} {y = y} t u e f n) = Rows.row-e-e s m x y t u e f n

-- What a word says of a name.
data Word (v : ℕ) : Type 0 where
  is_bare : v ≡ 1 → Word v
  is_tied : (t : ℕ) → v ≡ bound (cell t) → Word v
  is_joined : (y : ℕ) → v ≡ bound (name y) → Word v

word : (v : ℕ) → 0 < v → Word v
word ℕ.zero h = absurd (omega arith)
word (ℕ.suc ℕ.zero) h = is_bare refl
word (ℕ.suc (ℕ.suc w)) h = on (side w) (omega (arith, code-side w))
  where
    on : (t : Side) → suc (suc w) ≡ bound t → Word (suc (suc w))
    on (name y) e = is_joined y e
    on (cell t) e = is_tied t e

pred_less : (n : ℕ) → pred n ≡ n - 1
pred_less n = omega arith

module _ (T : Table) (s : St) (p : ℕ) where
  abbrev pub rest : St
  rest = taken_out (place s p) s

  pub acts : p < s.waiting.used → stepped T s p ≡ act T (picked s p) rest
  unfolding stepped
  acts h = go (dec_lt p s.waiting.used)
    where
      go : (d : Dec (p < s.waiting.used))
          → elim d as (λ w. Answer) [ yes o ↦ act T (picked s p) rest | no o ↦ refused 12 ] ≡ act T (picked s p) rest
      go (yes o) = refl
      go (no o) = absurd (o h)

  -- Without room, a step refuses.
  pub roomless : Sound T s → p < s.waiting.used → NoRoom T s (picked s p) → stepped T s p ≡ refused 13
  roomless h o k = acts o ∙ go (picked s p) refl k
    where
      less : (e : Entry) → Passes e (s.waiting.used - 1) s → Passes e (pred s.waiting.used) s
      less e k = subst (λ n. Passes e n s) (sym (pred_less s.waiting.used)) k

      go : (q : Pair) → picked s p ≡ q → NoRoom T s q → act T q rest ≡ refused 13
      go q e (for_interaction {a = a} {b = b} {e = d} (inl f) k) = meets T rest a b f ∙ full T rest d a b (less d k)
      go q e (for_interaction {a = a} {b = b} {e = d} (inr f) k) = meets T rest a b f ∙ full T rest d b a (less d k)
      go q e (for_loop {x = x} l) = Rows.loop-row rest h.joins x (self-bare s h p o x e) ∙ Rows.uncounted x rest l
      go q e (for_joined_loop {x = x} {y = y} j l) =
          Rows.loop_joined-row rest h.joins x y j ∙ Rows.uncounted y (with_names (set (set s.names x 0) y 1) rest) l

  -- A row for each equation, or no room.
  abbrev Some : Pair → Type 0
  Some q = ((s' : St) × Row T rest q s') ⊎ NoRoom T s q

  cells-row : (a b : ℕ) → Some (cell a := cell b)
  cells-row a b = go (rule_of T a b s) refl
    where
      less : (e : Entry) → Passes e (pred s.waiting.used) s → Passes e (s.waiting.used - 1) s
      less e k = subst (λ n. Passes e n s) (pred_less s.waiting.used) k

      go : (r : Found) → rule_of T a b s ≡ r → Some (cell a := cell b)
      go Found.none e = inl (_, no_rule e)
      go (straight i d) e = on (room_or_not d rest)
        where
          on : Room d rest ⊎ Passes d (pred s.waiting.used) s → Some (cell a := cell b)
          on (inl k) = inl (_, rule e (room-passes d rest k))
          on (inr k) = inr (for_interaction (inl e) (less d k))
      go (turned i d) e = on (room_or_not d rest)
        where
          on : Room d rest ⊎ Passes d (pred s.waiting.used) s → Some (cell a := cell b)
          on (inl k) = inl (_, rule_turned e (room-passes d rest k))
          on (inr k) = inr (for_interaction (inr e) (less d k))

  cell_row : (x u : ℕ) → 0 < get_or s.names x 0 → (s' : St) × Row T rest (name x := cell u) s'
  cell_row x u h = go (word (get_or s.names x 0) h)
    where
      go : Word (get_or s.names x 0) → (s' : St) × Row T rest (name x := cell u) s'
      go (is_bare e) = (_, Row.bare e)
      go (is_tied t e) = (_, tied_to t e)
      go (is_joined y e) = (_, joined_to y e)

  names-row : (x y : ℕ) → 0 < get_or s.names x 0 → 0 < get_or s.names y 0 → (x ≡ y → get_or s.names x 0 ≡ 1)
      → Some (name x := name y)
  names-row x y h k b = go (ℕ_discrete x y)
    where
      by_count : Dec (s.loops < loops_max) → {q : Pair} → (s.loops < loops_max → Some q)
          → (loops_max ≤ s.loops → Some q) → Some q
      by_count (yes o) f g = f o
      by_count (no o) f g = g (omega arith)

      on : ¬ (x ≡ y) → Word (get_or s.names x 0) → Word (get_or s.names y 0) → Some (name x := name y)
      on n (is_bare e) (is_bare f) = inl (_, III_0_0 e f n)
      on n (is_bare e) (is_joined w f) = inl (_, III_0_c w e f)
      on n (is_bare e) (is_tied u f) = inl (_, III_0_e u e f)
      on n (is_joined z e) (is_bare f) = inl (_, III_c_0 z e f)
      on n (is_joined z e) (is_joined w f) = by (ℕ_discrete z y)
        where
          by : Dec (z ≡ y) → Some (name x := name y)
          by (yes q) =
              let j : get_or s.names x 0 ≡ bound (name y) = e ∙ ap (λ i. bound (name i)) q in
              by_count (dec_lt s.loops loops_max) (λ o. inl (_, loop_joined j o)) (λ o. inr (for_joined_loop j o))
          by (no q) = inl (_, III_c_c z w e f n q)
      on n (is_joined z e) (is_tied u f) = inl (_, III_c_e z u e f)
      on n (is_tied t e) (is_bare f) = inl (_, III_e_0 t e f)
      on n (is_tied t e) (is_joined w f) = inl (_, III_e_c t w e f)
      on n (is_tied t e) (is_tied u f) = inl (_, III_e_e t u e f n)

      go : Dec (x ≡ y) → Some (name x := name y)
      go (yes q) =
          subst
          (λ z. Some (name x := name z))
          q
          (by_count (dec_lt s.loops loops_max) (λ o. inl (_, loop (b q) o)) (λ o. inr (for_loop o)))
      go (no q) = on q (word (get_or s.names x 0) h) (word (get_or s.names y 0) k)

  pub row_or_not : Sound T s → p < s.waiting.used → Some (picked s p)
  row_or_not h o = go (picked s p) refl
    where
      go : (q : Pair) → picked s p ≡ q → Some q
      go (name x := name y) e =
          names-row
          x
          y
          (name-used s h p o x (name y) (inl e))
          (name-used s h p o y (name x) (inr e))
          (λ q. self-bare s h p o x (e ∙ ap (λ z. name x := name z) (sym q)))
      go (name x := cell u) e = inl (cell_row x u (name-used s h p o x (cell u) (inl e)))
      go (cell u := name x) e = let k = cell_row x u (name-used s h p o x (cell u) (inr e)) in inl (k.0, exchanged k.1)
      go (cell a := cell b) e = cells-row a b
