-- What new bare names and new cells leave as it was.
use Rattle.std.specs.Prelude.{◌≡◌, refl, List, [], ◌∷◌, ◌++◌, map, ℕ, suc, ◌+◌, ◌*◌, ◌≤◌, ◌<◌, min, pred, length, get_or, take, drop, set}
use Rattle.std.proofs.Common.{sym, ◌∙◌, ap, ap₂, arith, length-drop}
use Rattle.calculus.proofs.Beneath.Count.{δ_same, sum-append}
use Rattle.calculus.specs.Terms.{δ, count, Terms, Eqn}
use Rattle.parts.specs.Sides.{Side, name, cell, Pair, ◌:=◌, side}
use Rattle.model.specs.State.{from}
use Rattle.model.specs.Table.{Cell, Entry, find}
use Rattle.model.specs.Step.{set_bare}
use Rattle.model.specs.Reading.{Reads, by_cell, ReadsAll, no_pairs, pairs, bond_at, bonds}
use Rattle.model.specs.Sound.{Mutual, width, cell_at, live, Held, AllHeld}
use Rattle.model.proofs.Beneath.Bonds.{mutual_set}
use Rattle.model.proofs.Beneath.Pool.{in_range}
use Rattle.model.proofs.Beneath.Store.{Free, free-head, free-tail, sides-from}

-- New names are bare, so that ties and joins are as they were.
bonds-bare : (i : ℕ) (l : List ℕ) (x : ℕ) → get_or l x 0 ≡ 0 → bonds i (set l x 1) ≡ bonds i l
bonds-bare i [] x e = refl
bonds-bare i (v ∷ l) ℕ.zero e = ap (λ w. bond_at i w ++ bonds (suc i) l) (sym e)
bonds-bare i (v ∷ l) (ℕ.suc x) e = ap (λ b. bond_at i v ++ b) (bonds-bare (suc i) l x e)

pub bonds_new : (ps l : List ℕ) → Free ps l → bonds 0 (set_bare ps l) ≡ bonds 0 l
bonds_new [] l f = refl
bonds_new (p ∷ ps) l f = bonds_new ps (set l p 1) (free-tail 1 f) ∙ bonds-bare 0 l p (free-head f).1

pub mutual_new : (ps l : List ℕ) → Free ps l → Mutual l → Mutual (set_bare ps l)
mutual_new [] l f m = m
mutual_new (p ∷ ps) l f m =
    mutual_new
    ps
    (set l p 1)
    (free-tail 1 f)
    (mutual_set l p 1 (free-head f).0 (λ y e. omega (arith, e, (free-head f).1)) (λ y e. omega arith) m)

-- Stuck pairs stay so where their cells do.
cells-met : {mem : ℕ → Cell} {a b : ℕ} {ts : Terms} {cs : List ℕ} → Reads mem (cell a ∷ cell b ∷ []) ts cs
    → (0 < count a cs) × (0 < count b cs)
cells-met {a = a} {b = b} (by_cell {ds = ds} e q (by_cell {ds = es} e' q' Reads.none)) =
    (omega (arith, δ_same a), omega (arith, δ_same b, sum-append (δ b) ds (b ∷ (es ++ []))))

pub held_kept : {mem mem' : ℕ → Cell} (rs : List Entry) {l : List Pair} {m : List Eqn} {cs : List ℕ}
    → ((c : ℕ) → 0 < count c cs → mem' c ≡ mem c) → ReadsAll mem l m cs
    → AllHeld rs mem l → AllHeld rs mem' l
held_kept rs k no_pairs h = tt
held_kept {mem} {mem'} rs k (pairs {a = a} {b = b} {cs = cs} {ds = ds} {l = l} r w) h =
    (on a b r h.0, held_kept rs (λ c o. k c (omega (arith, sum-append (δ c) cs ds))) w h.1)
  where
    on : (a b : Side) {ts : Terms} → Reads mem (a ∷ b ∷ []) ts cs → Held rs mem (a := b) → Held rs mem' (a := b)
    on (name x) b r p = absurd p
    on (cell x) (name y) r p = absurd p
    on (cell x) (cell y) r p =
        ap₂
        (λ c d. find rs 0 c.symbol d.symbol)
        (k x (omega (arith, (cells-met r).0, sum-append (δ x) cs ds)))
        (k y (omega (arith, (cells-met r).1, sum-append (δ y) cs ds)))
        ∙ p

-- A cell in use, by the numbers of its arguments.
pub cell_by : (ar ss l : List ℕ) (c j : ℕ) (f : ℕ → Side) → length l ≡ 4 * length ss → ((s : ℕ) → get_or ar s 0 ≤ 4)
    → 0 < live ss c
    → ((i : ℕ) → i < 4 → f (j + i) ≡ side (get_or (drop (4 * c) l) i 0))
    → cell_at ar ss l c ≡ record { symbol = pred (get_or ss c 0); args = map f (from j (get_or ar (pred (get_or ss c 0)) 0)) }
cell_by ar ss l c j f size small h k = go (get_or ss c 0) refl h
  where
    go : (v : ℕ) → get_or ss c 0 ≡ v → 0 < min 1 v
        → ◌≡◌
        {A = Cell}
        (record { symbol = pred v; args = map side (take (width ar v) (drop (4 * c) l)) })
        (record { symbol = pred v; args = map f (from j (get_or ar (pred v) 0)) })
    go ℕ.zero e o = absurd (omega arith)
    go (ℕ.suc s) e o =
        ap
        (λ w. record { symbol = s; args = w })
        (sides-from
        (drop (4 * c) l)
        j
        (get_or ar s 0)
        f
        (omega (arith, small s, in_range ss c (omega arith), size, length-drop (4 * c) l))
        (λ i q. k i (omega (arith, small s))))
