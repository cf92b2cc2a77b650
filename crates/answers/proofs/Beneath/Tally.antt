-- What a sound ended state counts: its cells in use are the agents of its net, and its loops and stuck pairs the net's.
use Rattle.std.specs.Prelude.{◌≡◌, refl, List, [], ◌∷◌, ◌++◌, ℕ, zero, suc, ◌+◌, ◌*◌, ◌≤◌, ◌<◌, length, take}
use Rattle.std.proofs.Common.{◌∙◌, ap, ap₂, arith, length-append}
use Rattle.std.proofs.Math.Decide.{dec_lt}
use Rattle.std.proofs.Math.Seq.{take-length}
use Rattle.calculus.specs.Terms.{Terms, Term, nil, cons, Eqn, ◌≐◌, δ, count, if_eq}
use Rattle.calculus.proofs.Beneath.Count.{δ_same, first_term, rest_terms, sum-append, if_yes, if_no}
use Rattle.parts.specs.Limits.{names_max}
use Rattle.parts.specs.Sides.{Side, name, cell, Pair, ◌:=◌}
use Rattle.parts.specs.Sides as Codes
use Rattle.model.specs.State.{St, unpack, listed, used}
use Rattle.model.specs.Table.{Cell, Table, Entry}
use Rattle.model.specs.Reading.{Reads, by_name, by_cell, ReadsAll, no_pairs, pairs, link, bond_at, bonds, circles}
use Rattle.model.specs.Sound.{Sound, meaning, mem_of, live, AllHeld}
use Rattle.model.specs.Walk.{below}
use Rattle.model.proofs.Beneath.Sums.{below_plus, below-zero, below_ext, below-δ}
use Rattle.model.proofs.Beneath.Loops.{used-round}
use Rattle.model.proofs.Beneath.Pool.{in_range}
use Rattle.answers.specs.Answer.{eqs_agents, net_agents, agents, stuck, sides, loop, loops}
use Rattle.answers.specs.Printer.{pair_sides}
use Rattle.answers.proofs.Beneath.StuckState.{stuck-state}

-- Each agent that is read is a cell met.
reads-agents : {mem : ℕ → Cell} {ss : List Side} {ts : Terms} {cs : List ℕ} → Reads mem ss ts cs → agents ts ≡ length cs
reads-agents Reads.none = refl
reads-agents (by_name r) = omega (arith, reads-agents r)
reads-agents (by_cell {ds = ds} {cs = cs} e q r) =
    omega (arith, reads-agents q, reads-agents r, length-append ds cs)

pool-agents : {mem : ℕ → Cell} {l : List Pair} {m : List Eqn} {cs : List ℕ} → ReadsAll mem l m cs
    → eqs_agents m ≡ length cs
pool-agents no_pairs = refl
pool-agents (pairs {cs = cs} {ds = ds} r w) =
    omega (arith, reads-agents r, pool-agents w, length-append cs ds)

-- A list is as long as its members below n are many, if all are; and so many places of an array are in use.
pub members : (n : ℕ) (l : List ℕ) → ((c : ℕ) → 0 < count c l → c < n) → below n (λ c. count c l) ≡ length l
members n [] h = below-zero n (λ c. 0) (λ i k. refl)
members n (x ∷ l) h =
    omega (
      arith,
      below_plus n (λ c. δ c x) (λ c. count c l) (λ c. count c (x ∷ l)) (λ i. refl),
      below-δ n x (h x (omega (arith, δ_same x))),
      members n l (λ c k. h c (omega (arith, k))),
    )

in_use : (l : List ℕ) (i : ℕ) → i ≤ length l → below i (live l) ≡ used (take i l)
in_use l zero h = refl
in_use l (suc i) h = omega (arith, in_use l i (omega (arith, h)), used-round l i (omega (arith, h)))

pub cells-are-agents : {T : Table} {st : St} (s : Sound T st) → net_agents (meaning s) ≡ used st.symbols
cells-are-agents {T} {st} s =
    omega (
      arith,
      reads-agents s.reads.face_reads,
      eqs-append s.reads.eqs (circles names_max st.loops),
      no_agents names_max st.loops,
      pool-agents s.reads.pool_reads,
      members n cs in_range_all,
      length-append s.reads.c₀ s.reads.c₁,
      below_ext n (λ c. count c cs) (live st.symbols) (λ c. both c),
      in_use st.symbols n (omega arith),
      ap used (take-length st.symbols),
    )
  where
    n : ℕ
    n = length st.symbols

    cs : List ℕ
    cs = s.reads.c₀ ++ s.reads.c₁

    both : (c : ℕ) → count c cs ≡ live st.symbols c
    both c = sum-append (δ c) s.reads.c₀ s.reads.c₁ ∙ s.once c

    in_range_all : (c : ℕ) → 0 < count c cs → c < n
    in_range_all c k = in_range st.symbols c (omega (arith, k, both c))

    eqs-append : (l m : List Eqn) → eqs_agents (l ++ m) ≡ eqs_agents l + eqs_agents m
    eqs-append [] m = omega arith
    eqs-append ((t ≐ u) ∷ l) m = omega (arith, eqs-append l m)

    no_agents : (range k : ℕ) → eqs_agents (circles range k) ≡ 0
    no_agents range zero = refl
    no_agents range (suc k) = omega (arith, no_agents range k)

-- As many stuck pairs.
abbrev terms_in : Terms → ℕ
terms_in nil = 0
terms_in (cons t ts) = suc (terms_in ts)

reads-many : {mem : ℕ → Cell} {ss : List Side} {ts : Terms} {cs : List ℕ} → Reads mem ss ts cs → terms_in ts ≡ length ss
reads-many Reads.none = refl
reads-many (by_name r) = ap suc (reads-many r)
reads-many (by_cell e q r) = ap suc (reads-many r)

pub stuck-many : {T : Table} {st : St} (s : Sound T st) → st.waiting.used ≡ 0
    → length (stuck (meaning s).eqs) ≡ st.stuck.used
stuck-many {st = st} s e =
    omega (
      arith,
      reads-many (stuck-state s e).reads,
      sides-many (stuck (meaning s).eqs),
      pairs-many (listed st.stuck),
      unpack-many st.stuck.used st.stuck.words,
    )
  where
    sides-many : (l : List Eqn) → terms_in (sides l) ≡ 2 * length l
    sides-many [] = refl
    sides-many ((t ≐ u) ∷ l) = omega (arith, sides-many l)

    pairs-many : (l : List Pair) → length (pair_sides l) ≡ 2 * length l
    pairs-many [] = refl
    pairs-many ((a := b) ∷ l) = omega (arith, pairs-many l)

    unpack-many : (n : ℕ) (l : List ℕ) → length (unpack n l) ≡ n
    unpack-many zero l = refl
    unpack-many (suc n) l = ap suc (unpack-many n l)

-- As many loops: no tie, join or stuck pair is one.
abbrev loop_of : Side → Side → ℕ
loop_of (name x) (name y) = if_eq x y 1 0
loop_of (name x) (cell c) = 0
loop_of (cell a) b = 0

abbrev loops_of : List Pair → ℕ
loops_of [] = 0
loops_of ((a := b) ∷ l) = loop_of a b + loops_of l

loops-read : {mem : ℕ → Cell} {l : List Pair} {m : List Eqn} {cs : List ℕ} → ReadsAll mem l m cs → loops m ≡ loops_of l
loops-read no_pairs = refl
loops-read (pairs {t = t} r w) = ap₂ ◌+◌ (one t r) (loops-read w)
  where
    one : {mem : ℕ → Cell} {a b : Side} {ts : Terms} {cs : List ℕ} (d : Term) → Reads mem (a ∷ b ∷ []) ts cs
        → loop (first_term ts d) (first_term (rest_terms ts) d) ≡ loop_of a b
    one d (by_name (by_name Reads.none)) = refl
    one d (by_name (by_cell e q Reads.none)) = refl
    one d (by_cell e q (by_name Reads.none)) = refl
    one d (by_cell e q (by_cell e' q' Reads.none)) = refl

loops_of-append : (l m : List Pair) → loops_of (l ++ m) ≡ loops_of l + loops_of m
loops_of-append [] m = omega arith
loops_of-append ((a := b) ∷ l) m = omega (arith, loops_of-append l m)

no_loops : (i : ℕ) (l : List ℕ) → loops_of (bonds i l) ≡ 0
no_loops i [] = refl
no_loops i (v ∷ l) = omega (arith, loops_of-append (bond_at i v) (bonds (suc i) l), go v, no_loops (suc i) l)
  where
    on : (t : Side) → loops_of (link i t) ≡ 0
    on (cell c) = refl
    on (name y) = by (dec_lt i y)
      where
        by : (d : Dec (i < y)) → loops_of (elim d [ yes o ↦ (name i := name y) ∷ [] | no o ↦ [] ]) ≡ 0
        by (yes o) = let e : if_eq {A = ℕ} i y 1 0 ≡ 0 = if_no 1 0 (λ q. omega (arith, q, o)) in omega (arith, e)
        by (no o) = refl

    go : (w : ℕ) → loops_of (bond_at i w) ≡ 0
    go zero = refl
    go (suc zero) = refl
    go (suc (suc w)) = on (Codes.side w)

no_stuck-loops : (rs : List Entry) (mem : ℕ → Cell) (l : List Pair) → AllHeld rs mem l → loops_of l ≡ 0
no_stuck-loops rs mem [] h = refl
no_stuck-loops rs mem ((name x := t) ∷ l) h = absurd h.0
no_stuck-loops rs mem ((cell a := name y) ∷ l) h = absurd h.0
no_stuck-loops rs mem ((cell a := cell b) ∷ l) h = omega (arith, no_stuck-loops rs mem l h.1)

pub loops-many : {T : Table} {st : St} (s : Sound T st) → st.waiting.used ≡ 0 → loops (meaning s).eqs ≡ st.loops
loops-many {T} {st} s e =
    omega (
      arith,
      loops-append s.reads.eqs (circles names_max st.loops),
      loops-circles names_max st.loops,
      loops-read s.reads.pool_reads,
      ap (λ n. loops_of (unpack n st.waiting.words ++ (bonds 0 st.names ++ K))) e,
      loops_of-append (bonds 0 st.names) K,
      no_loops 0 st.names,
      no_stuck-loops T.rules (mem_of T st) K s.stuck,
    )
  where
    K : List Pair
    K = listed st.stuck

    loops-append : (l m : List Eqn) → loops (l ++ m) ≡ loops l + loops m
    loops-append [] m = omega arith
    loops-append ((t ≐ u) ∷ l) m = omega (arith, loops-append l m)

    loops-circles : (range k : ℕ) → loops (circles range k) ≡ k
    loops-circles range zero = refl
    loops-circles range (suc k) =
        let e : if_eq {A = ℕ} (range + k) (range + k) 1 0 ≡ 1 = if_yes 1 0 refl in omega (
          arith,
          e,
          loops-circles range k,
        )
