-- A right side of wires alone: the test that it is unchanged when the argument lists change places says so of the calculus' equations.
use Rattle.std.specs.Prelude.{ℕ, zero, suc, ◌+◌, ◌-◌, ◌<◌, ◌≤◌, ◌≡◌, Bool, true, false, ◌&&◌, ◌||◌, ◌↔◌, ◌⊎◌, List, [], ◌∷◌, ◌++◌, map, length, eqb}
use Rattle.std.proofs.Math.Path.{refl}
use Rattle.std.proofs.Common.{sym, ap, ap₂, ◌∙◌, inl, inr, ⊎_elim, arith, length-append, eqb-true, eq-eqb, lt-ltb, le-ltb}
use mathlib.Core.List.Memᴰ
use Rattle.std.proofs.lemmas.List.{map-append, length-map}
use Rattle.std.proofs.Math.Decide.{dec_lt}
use Rattle.parts.specs.Limits.{arity_max}
use Rattle.calculus.specs.Terms.{none, keep, step, var, nil, cons, Term, Terms, Eqn, ◌≐◌, Sides, same, turn, ◌∼◌, eqs_names, sub_eqn, δ, count, ren}
use Rattle.calculus.proofs.Beneath.Perm.{Ins, here, there, perm_shift, perm_sym, take}
use Rattle.calculus.proofs.Beneath.Sub.{Sides_equivalence}
use Rattle.calculus.proofs.Beneath.Count.{δ_same, δ-cases, if_yes, if_no}
use Rattle.calculus.specs.Rules.{exchange_lists, Level}
use Rattle.parts.specs.Sides.{Side, name, Pair, ◌:=◌}
use Rattle.model.specs.Table.{Cell}
use Rattle.model.specs.Reading.{Reads, none, by_name, by_cell, ReadsAll, no_pairs, pairs}
use Rattle.model.specs.State.{from}
use Rattle.texts.specs.Bytes.{any, all, In}
use Rattle.texts.specs.Coded.{second_from}
use Rattle.texts.specs.TableTest.{same_side, turned, turned_side, turns_to}
use Rattle.texts.proofs.Beneath.Tools.{both, all_true, true_all, any-true, any_in, any_append, in_split, not_empty}
use Rattle.texts.proofs.Beneath.Mirror.{all_map, any-map, any_ext, all_ext}

-- A wire: two names; as an equation of sides, as one of the calculus, and with its names changed.
abbrev pub Wire : Type 0
Wire = ℕ × ℕ

abbrev pub pair_of : Wire → Pair
pair_of w = name w.0 := name w.1

abbrev pub eqn_of : Wire → Eqn
eqn_of w = var w.0 ≐ var w.1

abbrev turn_of : Wire → Wire
turn_of w = (turned w.0, turned w.1)

abbrev pub ends : List Wire → List ℕ
ends [] = []
ends (w ∷ ws) = w.0 ∷ w.1 ∷ ends ws

-- Equations that meet no cell are wires.
no_cells : (a b : List ℕ) → a ++ b ≡ [] → (a ≡ []) × (b ≡ [])
no_cells [] b e = (refl, e)
no_cells (x ∷ a) b e = absurd (not_empty e)

wire : (mem : ℕ → Cell) (a b : Side) (ts : Terms) (cs : List ℕ) → Reads mem (a ∷ b ∷ []) ts cs → cs ≡ []
    → (x : ℕ) × (y : ℕ) × (a ≡ name x) × (b ≡ name y) × (ts ≡ cons (var x) (cons (var y) nil))
wire mem a b ts cs (by_name {x = x} (by_name {x = y} none)) e = (x, y, refl, refl, refl)
wire mem a b ts cs (by_name {x = x} (by_cell q r w)) e = absurd (not_empty e)
wire mem a b ts cs (by_cell q r w) e = absurd (not_empty e)

first_of : Terms → Term
first_of nil = var 0
first_of (cons t ts) = t

rest_of : Terms → Terms
rest_of nil = nil
rest_of (cons t ts) = ts

two_terms : (t u v w : Term) → cons t (cons u nil) ≡ cons v (cons w nil) → (t ≡ v) × (u ≡ w)
unfolding first_of rest_of
two_terms t u v w e = (ap first_of e, ap (λ l. first_of (rest_of l)) e)

pub wires_of : (mem : ℕ → Cell) (ps : List Pair) (es : List Eqn) (cs : List ℕ) → ReadsAll mem ps es cs → cs ≡ []
    → (ws : List Wire) × (ps ≡ map pair_of ws) × (es ≡ map eqn_of ws)
wires_of mem ps es cs no_pairs e = ([], refl, refl)
wires_of mem ps es cs (pairs {a = a} {b = b} {t = t} {u = u} {cs = c} {ds = d} {l = l} {m = m} r w) e =
    let z = no_cells c d e in
    let p = wire mem a b (cons t (cons u nil)) c r z.0 in
    let v = two_terms t u (var p.0) (var p.1) p.4 in
    let q = wires_of mem l m d w z.1 in
    ((p.0, p.1) ∷ q.0, ap₂ ◌∷◌ (ap₂ ◌:=◌ p.2 p.3) q.1, ap₂ ◌∷◌ (ap₂ ◌≐◌ v.0 v.1) q.2)

pub ends-names : (ws : List Wire) → eqs_names (map eqn_of ws) ≡ ends ws
ends-names [] = refl
ends-names (w ∷ ws) = ap (λ l. w.0 ∷ w.1 ∷ l) (ends-names ws)

ends-turn : (ws : List Wire) → ends (map turn_of ws) ≡ map turned (ends ws)
ends-turn [] = refl
ends-turn (w ∷ ws) = ap (λ l. turned w.0 ∷ turned w.1 ∷ l) (ends-turn ws)

-- Two wires are one, whichever end is which.
matches : Wire → Wire → Bool
matches v w = eqb v.0 w.0 && eqb v.1 w.1 || eqb v.0 w.1 && eqb v.1 w.0

either : (t u : Bool) → (t || u) ≡ true → (t ≡ true) ⊎ (u ≡ true)
either true u h = inl refl
either false u h = inr h

match_sides : (v w : Wire) → matches v w ≡ true → ((v.0 ≡ w.0) × (v.1 ≡ w.1)) ⊎ ((v.0 ≡ w.1) × (v.1 ≡ w.0))
unfolding matches
match_sides v w h =
    ⊎_elim (λ k. let p = both (eqb v.0 w.0) (eqb v.1 w.1) k in inl (eqb-true _ _ p.0, eqb-true _ _ p.1))
    (λ k. let p = both (eqb v.0 w.1) (eqb v.1 w.0) k in inr (eqb-true _ _ p.0, eqb-true _ _ p.1))
    (either (eqb v.0 w.0 && eqb v.1 w.1) _ h)

sides-alike : (v w : Wire) → matches v w ≡ true → Sides (eqn_of v) (eqn_of w)
sides-alike v w h = go (match_sides v w h)
  where
    go : ((v.0 ≡ w.0) × (v.1 ≡ w.1)) ⊎ ((v.0 ≡ w.1) × (v.1 ≡ w.0)) → Sides (eqn_of v) (eqn_of w)
    go (inl e) = rw (e.0, e.1) same
    go (inr e) = rw (e.0, e.1) turn

same_match : (a b c d : ℕ) → (var a ≐ var b) ≡ (var c ≐ var d) → matches (a, b) (c, d) ≡ true
unfolding matches
same_match a b c d e =
    let x : a ≡ c = cc in
    let y : b ≡ d = cc in
    rw (eq-eqb a c x, eq-eqb b d y)

turn_match : (a b c d : ℕ) → (var a ≐ var b) ≡ (var d ≐ var c) → matches (a, b) (c, d) ≡ true
unfolding matches
turn_match a b c d e =
    let x : a ≡ d = cc in
    let y : b ≡ c = cc in
    rw (eq-eqb a d x, eq-eqb b c y) (or_true (eqb a c && eqb b d))
  where
    or_true : (t : Bool) → (t || true) ≡ true
    or_true true = refl
    or_true false = refl

alike_match : {e f : Eqn} (v w : Wire) → Sides e f → e ≡ eqn_of v → f ≡ eqn_of w → matches v w ≡ true
alike_match v w same p q = same_match v.0 v.1 w.0 w.1 (sym p ∙ q)
alike_match v w (turn {t = t} {u = u}) p q = turn_match v.0 v.1 w.0 w.1 (sym p ∙ swapped t u q)
  where
    swapped : (t u : Term) → (u ≐ t) ≡ eqn_of w → (t ≐ u) ≡ (var w.1 ≐ var w.0)
    swapped t u e =
        let x : u ≡ var w.0 = cc in
        let y : t ≡ var w.1 = cc in
        rw (x, y)

-- A wire's ends are counted where it stands.
in_ends : (w : Wire) (ws : List Wire) → In w ws → (0 < count w.0 (ends ws)) × (0 < count w.1 (ends ws))
in_ends w [] m = absurd (Memᴰ.not-nil m)
in_ends w (v ∷ ws) m = go (Memᴰ.cases_cons m) (in_ends w ws)
  where
    go : (w ≡ v) ⊎ In w ws → (In w ws → (0 < count w.0 (ends ws)) × (0 < count w.1 (ends ws)))
        → (0 < count w.0 (ends (v ∷ ws))) × (0 < count w.1 (ends (v ∷ ws)))
    go (inl e) ih = rw (← e) (omega (arith, δ_same w.0), omega (arith, δ_same w.1))
    go (inr k) ih = let p = ih k in let a = p.0 in let b = p.1 in (omega (arith, a), omega (arith, b))

abbrev pub Once : List ℕ → Type 0
Once l = (x : ℕ) → count x l ≤ 1

-- Two wires of a list in which each name stands once do not match the same wire.
one_match : (v u w : Wire) (vs : List Wire) → Once (ends (v ∷ vs)) → In u vs → matches v w ≡ true → matches u w ≡ true → ⊥
one_match v u w vs o m h k =
    let a = (in_ends u vs m).0 in
    let c = o u.0 in
    go (match_sides v w h) (match_sides u w k) a c
  where
    go : ((v.0 ≡ w.0) × (v.1 ≡ w.1)) ⊎ ((v.0 ≡ w.1) × (v.1 ≡ w.0)) → ((u.0 ≡ w.0) × (u.1 ≡ w.1)) ⊎ ((u.0 ≡ w.1) × (u.1 ≡ w.0))
        → 0 < count u.0 (ends vs) → count u.0 (ends (v ∷ vs)) ≤ 1 → ⊥
    go (inl e) (inl f) a c = let z : u.0 ≡ v.0 = f.0 ∙ sym e.0 in omega (arith, a, c, δ_same u.0, ap (δ u.0) z)
    go (inl e) (inr f) a c = let z : u.0 ≡ v.1 = f.0 ∙ sym e.1 in omega (arith, a, c, δ_same u.0, ap (δ u.0) z)
    go (inr e) (inl f) a c = let z : u.0 ≡ v.1 = f.0 ∙ sym e.1 in omega (arith, a, c, δ_same u.0, ap (δ u.0) z)
    go (inr e) (inr f) a c = let z : u.0 ≡ v.0 = f.0 ∙ sym e.0 in omega (arith, a, c, δ_same u.0, ap (δ u.0) z)

any_out : {A : Type 0} (f : A → Bool) (w : A) (us ts : List A) → any f (us ++ (w ∷ ts)) ≡ (f w || any f (us ++ ts))
unfolding any
any_out f w us ts = rw (any_append f us (w ∷ ts), any_append f us ts) (move (any f us) (f w) (any f ts))
  where
    move : (a b c : Bool) → (a || (b || c)) ≡ (b || (a || c))
    move true true c = refl
    move true false c = refl
    move false true c = refl
    move false false c = refl

-- As many wires, each name once, and each wire among the others: the two lists are one up to order and sides.
perm_within : (vs ws : List Wire) → length vs ≡ length ws → Once (ends vs) → all (λ v. any (matches v) ws) vs ≡ true → map eqn_of vs ∼ map eqn_of ws
unfolding all
perm_within [] [] l o h = none
perm_within [] (w ∷ ws) l o h = absurd (omega (arith, l))
perm_within (v ∷ vs) ws l o h =
    let p = both (any (matches v) ws) _ h in
    let q = any-true (matches v) ws p.0 in
    let s = in_split q.0 ws q.1 in
    go (perm_within vs) q.0 s.0 s.1 s.2 q.2 p.1
  where
    smaller : (x : ℕ) → count x (ends vs) ≤ 1
    smaller x = let z = o x in omega (arith, z)

    go : ((ws : List Wire) → length vs ≡ length ws → Once (ends vs) → all (λ v. any (matches v) ws) vs ≡ true → map eqn_of vs ∼ map eqn_of ws)
        → (w : Wire) (us ts : List Wire) → ws ≡ us ++ (w ∷ ts) → matches v w ≡ true → all (λ v. any (matches v) ws) vs ≡ true → map eqn_of (v ∷ vs) ∼ map eqn_of ws
    go ih w us ts e k a =
        let n : length vs ≡ length (us ++ ts) =
        (let x = ap length e in let y = length-append us (w ∷ ts) in let z = length-append us ts in omega (arith, l, x, y, z)) in
        let b : all (λ v. any (matches v) (us ++ ts)) vs ≡ true =
        true_all _ vs (λ u m. rest u m (either (matches u w) (any (matches u) (us ++ ts)) (sym (any_out (matches u) w us ts) ∙ (ap (any (matches u)) (sym e) ∙ all_true _ u vs a m)))) in
        rw (e, map-append eqn_of us (w ∷ ts))
        (step (keep (sides-alike v w k) (rw (map-append eqn_of us ts) at (ih (us ++ ts) n smaller b)))
        (perm_sym Sides_equivalence (perm_shift Sides_equivalence (map eqn_of us) (eqn_of w) (map eqn_of ts))))
      where
        rest : (u : Wire) → In u vs → (matches u w ≡ true) ⊎ (any (matches u) (us ++ ts) ≡ true) → any (matches u) (us ++ ts) ≡ true
        rest u m (inl j) = absurd (one_match v u w vs o m k j)
        rest u m (inr j) = j

-- And back.
map_ins : (f : Eqn) (k : List Eqn) (ws : List Wire) → Ins f k (map eqn_of ws) → (w : Wire) × In w ws × (f ≡ eqn_of w)
map_ins f k [] i = elim i [ ]
map_ins f k (w ∷ ws) here = (w, Memᴰ.head refl, refl)
map_ins f k (w ∷ ws) (there i) = let p = map_ins f _ ws i in (p.0, Memᴰ.tail p.1, p.2)

ins_map : (w : Wire) (ws : List Wire) → In w ws → (k : List Eqn) × Ins (eqn_of w) k (map eqn_of ws)
ins_map w [] m = absurd (Memᴰ.not-nil m)
ins_map w (v ∷ ws) m =
    ⊎_elim (λ e. rw e (map eqn_of ws, here)) (λ j. let p = ins_map w ws j in (eqn_of v ∷ p.0, there p.1)) (Memᴰ.cases_cons m)

within_perm : (vs ws : List Wire) → map eqn_of vs ∼ map eqn_of ws → all (λ v. any (matches v) ws) vs ≡ true
within_perm vs ws p =
    true_all _ vs
    (λ v m. let i = ins_map v vs m in
    let t = take Sides_equivalence p i.1 in
    let q = map_ins t.fellow t.rest ws t.out in
    any_in (matches v) q.0 ws q.1 (alike_match v q.0 t.alike refl q.2))

-- The exchange of two rows of names, place by place, is what the test calls turned.
exchange_left : (n i j z : ℕ) → i + n ≤ j → i ≤ z → z < i + n → exchange_lists (from i n) (from j n) z ≡ j + (z - i)
exchange_left zero i j z h k l = absurd (omega (arith, k, l))
exchange_left (suc n) i j z h k l = go (exchange_left n (suc i) (suc j) z) (δ-cases z i)
  where
    go : (suc i + n ≤ suc j → suc i ≤ z → z < suc i + n → exchange_lists (from (suc i) n) (from (suc j) n) z ≡ suc j + (z - suc i))
        → ((z ≡ i) × (δ z i ≡ 1)) ⊎ ((¬ (z ≡ i)) × (δ z i ≡ 0)) → exchange_lists (from i (suc n)) (from j (suc n)) z ≡ j + (z - i)
    go ih (inl e) = if_yes j _ e.0 ∙ (let q = e.0 in omega (arith, q))
    go ih (inr e) =
        let q = e.0 in
        if_no j _ q ∙ (if_no i _ (λ y. omega (arith, y, h, l)) ∙ (ih (omega (arith, h)) (omega (arith, k, q)) (omega (arith, l)) ∙ omega (arith, k, q)))

exchange_right : (n i j z : ℕ) → i + n ≤ j → j ≤ z → z < j + n → exchange_lists (from i n) (from j n) z ≡ i + (z - j)
exchange_right zero i j z h k l = absurd (omega (arith, k, l))
exchange_right (suc n) i j z h k l = go (exchange_right n (suc i) (suc j) z) (δ-cases z j)
  where
    first : ¬ (z ≡ i)
    first y = omega (arith, y, h, k)

    go : (suc i + n ≤ suc j → suc j ≤ z → z < suc j + n → exchange_lists (from (suc i) n) (from (suc j) n) z ≡ suc i + (z - suc j))
        → ((z ≡ j) × (δ z j ≡ 1)) ⊎ ((¬ (z ≡ j)) × (δ z j ≡ 0)) → exchange_lists (from i (suc n)) (from j (suc n)) z ≡ i + (z - j)
    go ih (inl e) = if_no j _ first ∙ (if_yes i _ e.0 ∙ (let q = e.0 in omega (arith, q)))
    go ih (inr e) =
        let q = e.0 in
        if_no j _ first ∙ (if_no i _ q ∙ (ih (omega (arith, h)) (omega (arith, k, q)) (omega (arith, l)) ∙ omega (arith, k, q)))

pub level : (n i j : ℕ) → Level (from i n) (from j n)
level zero i j = tt
level (suc n) i j = level n (suc i) (suc j)

turned-low : (x : ℕ) → x < second_from → turned x ≡ second_from + x
unfolding turned
turned-low x h = rw (lt-ltb x second_from h)

turned-high : (x : ℕ) → second_from ≤ x → turned x ≡ x - second_from
unfolding turned
turned-high x h = rw (le-ltb x second_from h)

module _ (a : ℕ) (h : a ≤ arity_max) where
  -- an argument of one of the two agents
  abbrev pub Arg : ℕ → Type 0
  Arg x = (x < a) ⊎ ((second_from ≤ x) × (x < second_from + a))

  exchanged : (x : ℕ) → Arg x → exchange_lists (from 0 a) (from second_from a) x ≡ turned x
  exchanged x (inl l) =
      exchange_left a 0 second_from x (omega (arith, h)) (omega arith) (omega (arith, l)) ∙ (sym (turned-low x (omega (arith, l, h)) ∙ omega arith))
  exchanged x (inr l) =
      let p = l.0 in
      let q = l.1 in
      exchange_right a 0 second_from x (omega (arith, h)) p q ∙ (sym (turned-high x p ∙ omega arith))

  injective : (x y : ℕ) → Arg x → Arg y → turned x ≡ turned y → x ≡ y
  injective x y (inl k) (inl l) e = let p = turned-low x (omega (arith, k, h)) in let q = turned-low y (omega (arith, l, h)) in omega (arith, e, p, q)
  injective x y (inl k) (inr l) e =
      let p = turned-low x (omega (arith, k, h)) in
      let q = turned-high y l.0 in
      let b = l.1 in
      let c = l.0 in
      absurd (omega (arith, e, p, q, b, c, h))
  injective x y (inr k) (inl l) e =
      let p = turned-high x k.0 in
      let q = turned-low y (omega (arith, l, h)) in
      let b = k.1 in
      let c = k.0 in
      absurd (omega (arith, e, p, q, b, c, h))
  injective x y (inr k) (inr l) e =
      let p = turned-high x k.0 in
      let q = turned-high y l.0 in
      let b = k.0 in
      let c = l.0 in
      omega (arith, e, p, q, b, c)

  counted : (x : ℕ) (l : List ℕ) → 0 < count x (map turned l) → (y : ℕ) × (0 < count y l) × (x ≡ turned y)
  counted x [] k = absurd (omega (arith, k))
  counted x (y ∷ l) k = go (δ-cases x (turned y)) (counted x l)
    where
      go : ((x ≡ turned y) × (δ x (turned y) ≡ 1)) ⊎ ((¬ (x ≡ turned y)) × (δ x (turned y) ≡ 0))
          → (0 < count x (map turned l) → (y : ℕ) × (0 < count y l) × (x ≡ turned y)) → (z : ℕ) × (0 < count z (y ∷ l)) × (x ≡ turned z)
      go (inl e) ih = (y, omega (arith, δ_same y), e.0)
      go (inr e) ih = let d = e.1 in let p = ih (omega (arith, k, d)) in let c = p.1 in (p.0, omega (arith, c), p.2)

  turned-once : (l : List ℕ) → ((x : ℕ) → 0 < count x l → Arg x) → Once l → Once (map turned l)
  turned-once [] r o x = omega arith
  turned-once (y ∷ l) r o x =
      let ih = turned-once l (λ z k. r z (omega (arith, k))) (λ z. let q = o z in omega (arith, q)) x in
      go (δ-cases x (turned y)) (dec_lt 0 (count x (map turned l))) ih
    where
      go : ((x ≡ turned y) × (δ x (turned y) ≡ 1)) ⊎ ((¬ (x ≡ turned y)) × (δ x (turned y) ≡ 0)) → Dec (0 < count x (map turned l))
          → count x (map turned l) ≤ 1 → δ x (turned y) + count x (map turned l) ≤ 1
      go (inr e) d ih = let q = e.1 in omega (arith, q, ih)
      go (inl e) (no n) ih = let q = e.1 in omega (arith, q, n)
      go (inl e) (yes k) ih =
          let p = counted x l k in
          let c = p.1 in
          let z : y ≡ p.0 = injective y p.0 (r y (omega (arith, δ_same y))) (r p.0 (omega (arith, c))) (sym e.0 ∙ p.2) in
          let b = o y in
          absurd (omega (arith, b, c, δ_same y, ap (λ u. count u l) z))

  module _ (ws : List Wire) (range : (x : ℕ) → 0 < count x (ends ws) → Arg x) (once : Once (ends ws)) where
    abbrev tests : Bool
    tests = all (λ p. any (turns_to p) (map pair_of ws)) (map pair_of ws)

    turns-matches : (v w : Wire) → turns_to (pair_of v) (pair_of w) ≡ matches (turn_of v) w
    unfolding turns_to same_side turned_side matches
    turns-matches v w = refl

    tests-are : tests ≡ all (λ v. any (matches v) ws) (map turn_of ws)
    tests-are =
        all_map (λ p. any (turns_to p) (map pair_of ws)) pair_of ws
        ∙ (all_ext _ _ ws (λ v m. any-map (turns_to (pair_of v)) pair_of ws ∙ any_ext _ _ ws (λ w n. turns-matches v w)) ∙ sym (all_map (λ v. any (matches v) ws) turn_of ws))

    exchanges : (us : List Wire) → ((x : ℕ) → 0 < count x (ends us) → Arg x)
        → map (sub_eqn (ren (exchange_lists (from 0 a) (from second_from a)))) (map eqn_of us) ≡ map eqn_of (map turn_of us)
    exchanges [] r = refl
    exchanges (u ∷ us) r =
        ap₂ (λ e l. e ∷ l)
        (ap₂ (λ x y. var x ≐ var y) (exchanged u.0 (r u.0 (omega (arith, δ_same u.0)))) (exchanged u.1 (r u.1 (omega (arith, δ_same u.1)))))
        (exchanges us (λ x k. r x (omega (arith, k))))

    -- the test, and the condition of the calculus
    pub unchanged : (tests ≡ true) ↔ (map (sub_eqn (ren (exchange_lists (from 0 a) (from second_from a)))) (map eqn_of ws) ∼ map eqn_of ws)
    unchanged = (
      λ t. rw (exchanges ws range)
          (perm_within (map turn_of ws) ws (length-map ws turn_of) (λ x. rw (ends-turn ws) (turned-once (ends ws) range once x)) (sym tests-are ∙ t)),
      λ p. tests-are ∙ within_perm (map turn_of ws) ws (rw (exchanges ws range) at p),
    )
