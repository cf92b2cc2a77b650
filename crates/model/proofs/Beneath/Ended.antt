-- Where nothing waits, the configuration of a sound state is at an end of the calculus.
use Rattle.std.specs.Prelude.{◌≡◌, refl, List, [], ◌∷◌, ◌++◌, ◌⊎◌, ℕ, suc, ◌+◌, ◌≤◌, ◌<◌, min, length, get_or, set}
use Rattle.std.proofs.Common.{sym, ◌∙◌, ap, ap₂, subst, inl, inr, arith, get_or-set_same, get_or-set_other}
use Rattle.std.proofs.Math.Decide.{dec_lt}
use Rattle.std.proofs.Math.ListN.{get_or-eq_default}
use Rattle.calculus.specs.Calculus.{Book, Step}
use Rattle.calculus.specs.Descent.{Normal}
use Rattle.calculus.proofs.Beneath.Count.{δ_other, first_term, rest_terms}
use Rattle.calculus.proofs.Beneath.Ended.{All, Cells, Idle, touches-∼, touches-append, touch-count}
use Rattle.calculus.proofs.Beneath.Ended.{All-∼, All-append, All-map, named_idle, ended_normal}
use Rattle.calculus.proofs.Beneath.Sub.{Sides_equivalence, back}
use Rattle.calculus.specs.Terms.{◌∼◌, none, keep, swap, step, var, node, Term, Terms, Eqn, ◌≐◌, Sides, touch, touches}
use Rattle.parts.specs.Limits.{names_max}
use Rattle.parts.specs.Sides.{Side, name, cell, Pair, ◌:=◌, side}
use Rattle.parts.specs.Codes.{code-side}
use Rattle.model.specs.State.{St, unpack, bound, listed}
use Rattle.model.specs.Table.{Cell, Table, Found, find, entry}
use Rattle.model.specs.Reading.{circles, Reads, by_name, by_cell, ReadsAll, no_pairs, pairs, link, bond_at}
use Rattle.model.specs.Reading.{bonds, pool_of}
use Rattle.model.specs.Sound.{Mutual, book, Sound, AllHeld, mem_of, meaning, pool}
use Rattle.model.specs.SoundTable.{SoundTable}
use Rattle.model.specs.Test.{is_name}
use Rattle.model.proofs.Beneath.Bonds.{◌≃◌, ≃_refl, bonds-drop, mutual_drop}
use Rattle.model.proofs.Beneath.Parts.{PairSides, Part, part}
use Rattle.model.proofs.Beneath.Pool.{in_range}
use Rattle.model.proofs.Beneath.Stepped.{Finds, finds}

-- In how many pairs a name is a side, as in equations.
abbrev pub touched : ℕ → List Pair → ℕ
touched x [] = 0
touched x ((a := b) ∷ l) = min 1 (is_name x a + is_name x b) + touched x l

touch-pair : {mem : ℕ → Cell} {a b : Side} {ts : Terms} {cs : List ℕ} (x : ℕ) (d : Term)
    → Reads mem (a ∷ b ∷ []) ts cs
    → touch x (first_term ts d ≐ first_term (rest_terms ts) d) ≡ min 1 (is_name x a + is_name x b)
touch-pair x d (by_name (by_name Reads.none)) = refl
touch-pair x d (by_name (by_cell e q Reads.none)) = refl
touch-pair x d (by_cell e q (by_name Reads.none)) = refl
touch-pair x d (by_cell e q (by_cell e' q' Reads.none)) = refl

pub touch_all : {mem : ℕ → Cell} {l : List Pair} {m : List Eqn} {cs : List ℕ} (x : ℕ) → ReadsAll mem l m cs
    → touches x m ≡ touched x l
touch_all x no_pairs = refl
touch_all x (pairs {t = t} r w) = ap₂ ◌+◌ (touch-pair x t r) (touch_all x w)

pub touched-append : (x : ℕ) (l m : List Pair) → touched x (l ++ m) ≡ touched x l + touched x m
touched-append x [] m = omega arith
touched-append x ((a := b) ∷ l) m = omega (arith, touched-append x l m)

touched-≃ : (x : ℕ) {l m : List Pair} → l ≃ m → touched x l ≡ touched x m
touched-≃ x none = refl
touched-≃ x (keep (PairSides.same {p = a := b}) p) = omega (arith, touched-≃ x p)
touched-≃ x (keep (PairSides.turn {a = a} {b = b}) p) = omega (arith, touched-≃ x p)
touched-≃ x (swap {a = a := b} {b = c := d}) = omega arith
touched-≃ x (step p q) = touched-≃ x p ∙ touched-≃ x q

-- A name that is neither tied nor joined is in no pair.
untouched : (x i : ℕ) (l : List ℕ) → ((k : ℕ) (s : Side) → get_or l k 0 ≡ bound s → (¬ (x ≡ i + k)) × (is_name x s ≡ 0))
    → touched x (bonds i l) ≡ 0
untouched x i [] h = refl
untouched x i (v ∷ l) h =
    omega (
      arith,
      touched-append x (bond_at i v) (bonds (suc i) l),
      go v refl,
      untouched x (suc i) l (λ k s e. ((λ q. (h (suc k) s e).0 (omega arith)), (h (suc k) s e).1)),
    )
  where
    on : (s : Side) → v ≡ bound s → touched x (link i s) ≡ 0
    on (cell c) e = omega (arith, δ_other {x = x} {y = i} (λ q. (h 0 (cell c) e).0 (omega arith)))
    on (name y) e = by (dec_lt i y)
      where
        by : (d : Dec (i < y)) → touched x (elim d [ yes o ↦ (name i := name y) ∷ [] | no o ↦ [] ]) ≡ 0
        by (yes o) = omega (arith, δ_other {x = x} {y = i} (λ q. (h 0 (name y) e).0 (omega arith)), (h 0 (name y) e).1)
        by (no o) = refl

    go : (w : ℕ) → v ≡ w → touched x (bond_at i w) ≡ 0
    go ℕ.zero e = refl
    go (ℕ.suc ℕ.zero) e = refl
    go (ℕ.suc (ℕ.suc w)) e = on (side w) (omega (arith, code-side w))

pub unbound : (l : List ℕ) (x : ℕ) → Mutual l → get_or l x 0 ≤ 1 → touched x (bonds 0 l) ≡ 0
unbound l x m h = untouched x 0 l (λ k s e. ((λ q. apart k s e q), (at k s e)))
  where
    apart : (k : ℕ) (s : Side) → get_or l k 0 ≡ bound s → ¬ (x ≡ 0 + k)
    apart k s e q = let p : x ≡ k = omega arith in omega (arith, e, ap (λ i. get_or l i 0) p)

    at : (k : ℕ) (s : Side) → get_or l k 0 ≡ bound s → is_name x s ≡ 0
    at k (cell c) e = refl
    at k (name y) e = δ_other {x = x} {y = y} (λ q. omega (arith, (m k y e).0, ap (λ i. get_or l i 0) q))

once : (l : List ℕ) (x : ℕ) → Mutual l → touched x (bonds 0 l) ≤ 1
once l x m = go (get_or l x 0) refl
  where
    go : (v : ℕ) → get_or l x 0 ≡ v → touched x (bonds 0 l) ≤ 1
    go ℕ.zero e = omega (arith, unbound l x m (omega (arith, e)))
    go (ℕ.suc ℕ.zero) e = omega (arith, unbound l x m (omega (arith, e)))
    go (ℕ.suc (ℕ.suc w)) e = on (side w) (omega (arith, e, code-side w))
      where
        here : x < length l
        here = in_range l x (omega (arith, e))

        on : (s : Side) → get_or l x 0 ≡ bound s → touched x (bonds 0 l) ≤ 1
        on (cell c) q =
            omega (
              arith,
              touched-≃ x (bonds-drop l x here (cell c) tt m q),
              unbound (set l x 0) x (mutual_drop l x (cell c) here tt q m) (omega (arith, get_or-set_same l x 0 0 here)),
            )
        on (name y) q =
            omega (
              arith,
              touched-≃ x (bonds-drop l x here (name y) there m q),
              unbound
                  (set (set l x 0) y 1)
                  x
                  (mutual_drop l x (name y) here there q m)
                  (omega (arith, get_or-set_other (set l x 0) y x 1 0 (m x y q).1, get_or-set_same l x 0 0 here)),
            )
          where
            there : y < length l
            there = in_range l y (omega (arith, (m x y q).0))

-- Each tie or join has a name on its left.
abbrev Led : List Pair → Type 0
Led [] = Unit {0}
Led ((name x := t) ∷ l) = Led l
Led ((cell c := t) ∷ l) = ⊥

led_append : (l m : List Pair) → Led l → Led m → Led (l ++ m)
led_append [] m h k = k
led_append ((name x := t) ∷ l) m h k = led_append l m h k
led_append ((cell c := t) ∷ l) m h k = absurd h

led : (i : ℕ) (l : List ℕ) → Led (bonds i l)
led i [] = tt
led i (v ∷ l) = led_append (bond_at i v) (bonds (suc i) l) (go v) (led (suc i) l)
  where
    on : (s : Side) → Led (link i s)
    on (cell c) = tt
    on (name y) = by (dec_lt i y)
      where
        by : (d : Dec (i < y)) → Led (elim d [ yes o ↦ (name i := name y) ∷ [] | no o ↦ [] ])
        by (yes o) = tt
        by (no o) = tt

    go : (w : ℕ) → Led (bond_at i w)
    go ℕ.zero = tt
    go (ℕ.suc ℕ.zero) = tt
    go (ℕ.suc (ℕ.suc w)) = on (side w)

led_pair : {mem : ℕ → Cell} {x : ℕ} {b : Side} {ts : Terms} {cs : List ℕ} (d : Term)
    → Reads mem (name x ∷ b ∷ []) ts cs
    → Cells (first_term ts d ≐ first_term (rest_terms ts) d) → ⊥
led_pair d (by_name r) h = h

led_all : {mem : ℕ → Cell} {l : List Pair} {m : List Eqn} {cs : List ℕ} → ReadsAll mem l m cs → Led l
    → All (λ e. Cells e → ⊥) m
led_all no_pairs h = tt
led_all {mem} (pairs {a = name x} {t = t} r w) h = (led_pair t r, led_all w h)
led_all {mem} (pairs {a = cell c} {t = t} r w) h = absurd h

-- A stuck pair, read.
abbrev first_symbol : Eqn → ℕ
first_symbol (var x ≐ u) = 0
first_symbol (node s ts ≐ u) = s

abbrev second_symbol : Eqn → ℕ
second_symbol (t ≐ var x) = 0
second_symbol (t ≐ node s ts) = s

pub record Pairing (mem : ℕ → Cell) (a b : ℕ) (e : Eqn) : Type 0 where
  pub cells : Cells e
  pub first : first_symbol e ≡ (mem a).symbol
  pub second : second_symbol e ≡ (mem b).symbol

stuck_pair : {mem : ℕ → Cell} {a b : ℕ} {ts : Terms} {cs : List ℕ} (d : Term) → Reads mem (cell a ∷ cell b ∷ []) ts cs
    → Pairing mem a b (first_term ts d ≐ first_term (rest_terms ts) d)
stuck_pair d (by_cell e q (by_cell e' q' Reads.none)) =
    record { cells = tt; first = ap (λ k. k.symbol) (sym e); second = ap (λ k. k.symbol) (sym e') }

module _ {T : Table} (h : SoundTable T) {mem : ℕ → Cell} where
  idle_pair : (a b : ℕ) (e : Eqn) → Pairing mem a b e
      → find T.rules 0 (mem a).symbol (mem b).symbol ≡ Found.none → Idle (book T) e
  idle_pair a b e p n i r o ts us s = go s
    where
      none_fits : Finds T.rules 0 (mem a).symbol (mem b).symbol Found.none
      none_fits = subst (Finds T.rules 0 (mem a).symbol (mem b).symbol) n (finds T.rules 0 (mem a).symbol (mem b).symbol)

      left : (entry T i).left ≡ r.left
      left = sym o.1.left

      right : (entry T i).right ≡ r.right
      right = sym o.1.right

      sides : {d : Eqn} → Sides e d
          → ((first_symbol d ≡ (mem a).symbol) × (second_symbol d ≡ (mem b).symbol)) ⊎ ((first_symbol d ≡ (mem b).symbol) × (second_symbol d ≡ (mem a).symbol))
      sides k = on k p.cells p.first p.second
        where
          on : {c d : Eqn} → Sides c d → Cells c → first_symbol c ≡ (mem a).symbol
              → second_symbol c ≡ (mem b).symbol
              → ((first_symbol d ≡ (mem a).symbol) × (second_symbol d ≡ (mem b).symbol)) ⊎ ((first_symbol d ≡ (mem b).symbol) × (second_symbol d ≡ (mem a).symbol))
          on Sides.same c x y = inl (x, y)
          on (Sides.turn {t = t} {u = u}) c x y = inr (turned t u c x y)
            where
              turned : (t u : Term) → Cells (t ≐ u) → first_symbol (t ≐ u) ≡ (mem a).symbol
                  → second_symbol (t ≐ u) ≡ (mem b).symbol
                  → (first_symbol (u ≐ t) ≡ (mem b).symbol) × (second_symbol (u ≐ t) ≡ (mem a).symbol)
              turned (var z) u c x y = absurd c
              turned (node s ts) (var z) c x y = absurd c
              turned (node s ts) (node s' us) c x y = (y, x)

      go : Sides e (node r.left ts ≐ node r.right us) → ⊥
      go k = by (sides k)
        where
          by : ((r.left ≡ (mem a).symbol) × (r.right ≡ (mem b).symbol)) ⊎ ((r.left ≡ (mem b).symbol) × (r.right ≡ (mem a).symbol))
              → ⊥
          by (inl x) = (none_fits i o.0).0 (left ∙ x.0, right ∙ x.1)
          by (inr x) = (none_fits i o.0).1 (left ∙ x.0, right ∙ x.1)

  stuck_all : {l : List Pair} {m : List Eqn} {cs : List ℕ} → ReadsAll mem l m cs → AllHeld T.rules mem l
      → All Cells m × All (Idle (book T)) m
  stuck_all no_pairs k = (tt, tt)
  stuck_all (pairs {a = name x} {t = t} r w) k = absurd k.0
  stuck_all (pairs {a = cell x} {b = name y} {t = t} r w) k = absurd k.0
  stuck_all (pairs {a = cell x} {b = cell y} {t = t} {u = u} r w) k =
      let p : Pairing mem x y (t ≐ u) = stuck_pair t r in
      let rest = stuck_all w k.1 in
      ((p.cells, rest.0), (idle_pair x y (t ≐ u) p k.0, rest.1))

idle_∼ : (B : Book) {l m : List Eqn} → l ∼ m → All (Idle B) l → All (Idle B) m
idle_∼ B p h = All-∼ (λ d e s k i r b ts us q. k i r b ts us (Sides_equivalence.join s q)) p h

cells_untouched : (x : ℕ) (l : List Eqn) → All Cells l → touches x l ≡ 0
cells_untouched x [] h = refl
cells_untouched x ((var y ≐ u) ∷ l) h = absurd h.0
cells_untouched x ((node a ts ≐ var y) ∷ l) h = absurd h.0
cells_untouched x ((node a ts ≐ node b us) ∷ l) h = omega (arith, cells_untouched x l h.1)

-- Loops.
circles-above : (range n x : ℕ) → range + n ≤ x → touches x (circles range n) ≡ 0
circles-above range ℕ.zero x h = refl
circles-above range (ℕ.suc n) x h = omega (arith, circles-above range n x (omega arith), δ_other {x = x} {y = range + n} (λ e. omega arith))

circles-below : (range n x : ℕ) → x < range → touches x (circles range n) ≡ 0
circles-below range ℕ.zero x h = refl
circles-below range (ℕ.suc n) x h = omega (arith, circles-below range n x h, δ_other {x = x} {y = range + n} (λ e. omega arith))

circles-once : (range n x : ℕ) → touches x (circles range n) ≤ 1
circles-once range ℕ.zero x = omega arith
circles-once range (ℕ.suc n) x = go (dec_lt x (range + n)) (circles-once range n x)
  where
    go : Dec (x < range + n) → touches x (circles range n) ≤ 1
        → touch x (var (range + n) ≐ var (range + n)) + touches x (circles range n) ≤ 1
    go (yes h) k = omega (arith, δ_other {x = x} {y = range + n} (λ e. omega arith))
    go (no h) k = omega (arith, circles-above range n x (omega arith))

circles-named : (range n : ℕ) → All (λ e. Cells e → ⊥) (circles range n)
circles-named range ℕ.zero = tt
circles-named range (ℕ.suc n) = (λ h. h, circles-named range n)

-- Where nothing waits, neither Communication nor Interaction applies.
pub nothing_applies : {T : Table} (h : SoundTable T) (st : St) (s : Sound T st) → st.waiting.used ≡ 0
    → Normal (Step (book T)) (meaning s)
nothing_applies {T} h st s e = go (part (bonds 0 st.names) order s.reads.pool_reads)
  where
    K : List Pair
    K = listed st.stuck

    order : pool st ≃ bonds 0 st.names ++ K
    order =
        subst
        (λ n. pool_of (unpack n st.waiting.words) K st.names ≃ bonds 0 st.names ++ K)
        (sym e)
        (≃_refl (bonds 0 st.names ++ K))

    go : Part (mem_of T st) (bonds 0 st.names) K s.reads.eqs s.reads.c₁
        → Normal (Step (book T)) (meaning s)
    go p = ended_normal (λ x. at_most x (dec_lt x names_max)) idle
      where
        stuck : All Cells p.others × All (Idle (book T)) p.others
        stuck = stuck_all h p.they s.stuck

        parts : (x : ℕ)
            → touches x (meaning s).eqs ≡ touches x p.eqs + touches x p.others + touches x (circles names_max st.loops)
        parts x =
            omega (
              arith,
              touches-append x s.reads.eqs (circles names_max st.loops),
              touches-∼ x p.order,
              touches-append x p.eqs p.others,
            )

        at_most : (x : ℕ) → Dec (x < names_max) → touches x (meaning s).eqs ≤ 1
        at_most x (yes q) =
            omega (
              arith,
              parts x,
              touch_all x p.it,
              once st.names x s.joins,
              cells_untouched x p.others stuck.0,
              circles-below names_max st.loops x q,
            )
        at_most x (no q) =
            omega (
              arith,
              touches-append x s.reads.eqs (circles names_max st.loops),
              circles-once names_max st.loops x,
              touch-count x s.reads.eqs,
              s.twice x,
              get_or-eq_default st.names 0 {n = x} (omega (arith, s.sizes.names)),
            )

        idle : All (Idle (book T)) (meaning s).eqs
        idle =
            All-append
            (Idle (book T))
            s.reads.eqs
            (circles names_max st.loops)
            (idle_∼
            (book T)
            (back p.order)
            (All-append (Idle (book T)) p.eqs p.others (All-map (named_idle (book T)) p.eqs (led_all p.it (led 0 st.names))) stuck.1))
            (All-map (named_idle (book T)) (circles names_max st.loops) (circles-named names_max st.loops))
