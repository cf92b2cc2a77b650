-- The stuck pairs of a state are those of the net that it stands for.
use Rattle.std.specs.Prelude.{◌≡◌, refl, List, [], ◌∷◌, ◌++◌, ℕ, zero, suc, ◌<◌}
use Rattle.std.proofs.Common.{sym, ◌∙◌, ap, ap₂, subst, append_assoc, append-nil}
use Rattle.std.proofs.Math.Decide.{dec_lt}
use Rattle.calculus.specs.Terms.{Term, Terms, Eqn, ◌≐◌}
use Rattle.calculus.proofs.Beneath.Count.{first_term, rest_terms}
use Rattle.parts.specs.Sides.{Side, name, cell, Pair, ◌:=◌}
use Rattle.parts.specs.Limits.{names_max}
use Rattle.parts.specs.Sides as Wd
use Rattle.model.specs.Table.{Cell, Entry, Table}
use Rattle.model.specs.Reading.{Reads, by_name, by_cell, ReadsAll, no_pairs, pairs, circles, link, bond_at, bonds}
use Rattle.model.specs.State.{St, unpack, listed}
use Rattle.model.specs.Sound.{AllHeld, Sound, mem_of, meaning}
use Rattle.answers.specs.Printer.{pair_sides}
use Rattle.answers.specs.Answer.{stuck_pair, stuck, sides}

-- The sides of the pairs of two cells.
abbrev pub two_cells : Side → Side → List Side
two_cells (name x) b = []
two_cells (cell a) (name y) = []
two_cells (cell a) (cell b) = cell a ∷ cell b ∷ []

abbrev pub cell_pairs : List Pair → List Side
cell_pairs [] = []
cell_pairs ((a := b) ∷ l) = two_cells a b ++ cell_pairs l

pub record SomeReads (mem : ℕ → Cell) (ss : List Side) (ts : Terms) : Type 0 where
  pub cells : List ℕ
  pub reads : Reads mem ss ts cells

pair_reads : {mem : ℕ → Cell} {a b : Side} {ts : Terms} {cs : List ℕ} (d : Term) {ss : List Side} (m : List Eqn)
    → Reads mem (a ∷ b ∷ []) ts cs → SomeReads mem ss (sides m)
    → SomeReads mem (two_cells a b ++ ss) (sides (stuck_pair (first_term ts d) (first_term (rest_terms ts) d) ++ m))
pair_reads d m (by_name (by_name Reads.none)) w = w
pair_reads d m (by_name (by_cell e q Reads.none)) w = w
pair_reads d m (by_cell e q (by_name Reads.none)) w = w
pair_reads d m (by_cell e q (by_cell e' q' Reads.none)) w =
    record { cells = _; reads = by_cell e q (by_cell e' q' w.reads) }

stuck-reads : {mem : ℕ → Cell} {l : List Pair} {m : List Eqn} {cs : List ℕ} → ReadsAll mem l m cs
    → SomeReads mem (cell_pairs l) (sides (stuck m))
stuck-reads no_pairs = record { cells = []; reads = Reads.none }
stuck-reads (pairs {t = t} {m = m} r w) = pair_reads t (stuck m) r (stuck-reads w)

cell_pairs-append : (l m : List Pair) → cell_pairs (l ++ m) ≡ cell_pairs l ++ cell_pairs m
cell_pairs-append [] m = refl
cell_pairs-append ((a := b) ∷ l) m =
    ap (λ k. two_cells a b ++ k) (cell_pairs-append l m) ∙ sym (append_assoc (two_cells a b) (cell_pairs l) (cell_pairs m))

no_cell-pairs : (i : ℕ) (l : List ℕ) → cell_pairs (bonds i l) ≡ []
no_cell-pairs i [] = refl
no_cell-pairs i (v ∷ l) = cell_pairs-append (bond_at i v) (bonds (suc i) l) ∙ ap₂ ◌++◌ (go v) (no_cell-pairs (suc i) l)
  where
    on : (s : Side) → cell_pairs (link i s) ≡ []
    on (cell c) = refl
    on (name y) = by (dec_lt i y)
      where
        by : (d : Dec (i < y)) → cell_pairs (elim d [ yes o ↦ (name i := name y) ∷ [] | no o ↦ [] ]) ≡ []
        by (yes o) = refl
        by (no o) = refl

    go : (w : ℕ) → cell_pairs (bond_at i w) ≡ []
    go zero = refl
    go (suc zero) = refl
    go (suc (suc w)) = on (Wd.side w)

held-pairs : (rs : List Entry) (mem : ℕ → Cell) (l : List Pair) → AllHeld rs mem l → cell_pairs l ≡ pair_sides l
held-pairs rs mem [] h = refl
held-pairs rs mem ((name x := t) ∷ l) h = absurd h.0
held-pairs rs mem ((cell a := name y) ∷ l) h = absurd h.0
held-pairs rs mem ((cell a := cell b) ∷ l) h = ap (λ k. cell a ∷ cell b ∷ k) (held-pairs rs mem l h.1)

stuck-append : (l m : List Eqn) → stuck (l ++ m) ≡ stuck l ++ stuck m
stuck-append [] m = refl
stuck-append ((t ≐ u) ∷ l) m =
    ap (λ k. stuck_pair t u ++ k) (stuck-append l m)
    ∙ sym (append_assoc (stuck_pair t u) (stuck l) (stuck m))

stuck-circles : (range n : ℕ) → stuck (circles range n) ≡ []
stuck-circles range zero = refl
stuck-circles range (suc n) = stuck-circles range n

pub stuck-meaning : {T : Table} {st : St} (s : Sound T st) → stuck (meaning s).eqs ≡ stuck s.reads.eqs
stuck-meaning {st = st} s =
    stuck-append s.reads.eqs (circles names_max st.loops)
    ∙ ap (λ m. stuck s.reads.eqs ++ m) (stuck-circles names_max st.loops)
    ∙ append-nil (stuck s.reads.eqs)

-- Where nothing waits, the stuck pairs in their order are read as those of the net.
pub stuck-state : {T : Table} {st : St} (s : Sound T st) → st.waiting.used ≡ 0
    → SomeReads (mem_of T st) (pair_sides (listed st.stuck)) (sides (stuck (meaning s).eqs))
stuck-state {T} {st} s e =
    subst
    (λ m. SomeReads (mem_of T st) (pair_sides K) (sides m))
    (sym (stuck-meaning s))
    (subst (λ ss. SomeReads (mem_of T st) ss (sides (stuck s.reads.eqs))) all (stuck-reads s.reads.pool_reads))
  where
    K : List Pair
    K = listed st.stuck

    all : cell_pairs (listed st.waiting ++ (bonds 0 st.names ++ K)) ≡ pair_sides K
    all =
        ap (λ n. cell_pairs (unpack n st.waiting.words ++ (bonds 0 st.names ++ K))) e
        ∙ cell_pairs-append (bonds 0 st.names) K
        ∙ ap₂ ◌++◌ (no_cell-pairs 0 st.names) (held-pairs T.rules (mem_of T st) K s.stuck)
