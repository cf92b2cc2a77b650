-- The bonds of a state say what the equations of its net say.
use Rattle.std.specs.Prelude.{◌≡◌, refl, List, [], ◌∷◌, ◌++◌, ℕ, zero, suc, ◌+◌, ◌≤◌, ◌<◌, length, get_or}
use Rattle.std.proofs.Common.{sym, ap, subst, arith}
use Rattle.calculus.specs.Terms.{step, names, var, Term, Terms, Eqn, ◌≐◌, ◌∼◌, count, touches}
use Rattle.calculus.proofs.Beneath.Perm.{perm_append_right}
use Rattle.calculus.proofs.Beneath.Sub.{Sides_equivalence, ≈of}
use Rattle.calculus.proofs.Beneath.Count.{first_term, δ_other}
use Rattle.calculus.proofs.Beneath.Ended.{touches-append}
use Rattle.parts.specs.Sides.{Side, name, cell, Pair, ◌:=◌}
use Rattle.parts.specs.Codes.{code-side}
use Rattle.parts.specs.Limits.{names_max}
use Rattle.parts.specs.Sides as Wd
use Rattle.model.specs.Reading.{circles, Reads, by_name, by_cell, bonds}
use Rattle.model.specs.Table.{Cell, Entry, Table}
use Rattle.model.proofs.Beneath.Parts.{PairSides_equivalence, Part, part}
use Rattle.model.specs.State.{St, unpack, bare, to, bond, bound, listed}
use Rattle.model.specs.Follow.{drop_bond}
use Rattle.model.proofs.Beneath.Bonds.{◌≃◌, bonds-drop}
use Rattle.model.specs.Sound.{AllHeld, Sound, mem_of, meaning}
use Rattle.model.specs.SoundTable.{SoundTable}
use Rattle.model.proofs.Beneath.Pool.{Named, named, in_range}
use Rattle.model.proofs.Beneath.Ended.{touched, touch_all, touched-append, unbound}
use Rattle.model.proofs.AtEnd.{ended_normal}
use Rattle.model.proofs.Beneath.Walks.{sound-valid}
use Rattle.answers.specs.Printer.{state_bonds, state_face, state_pairs}
use Rattle.answers.specs.Answer.{net_agents, Pick, alone, beside, pick, stuck, sides, answer}
use Rattle.answers.proofs.Beneath.Order.{PickAlike, pick-∼}
use Rattle.answers.proofs.Beneath.Drain.{Once, pick_untouched, pick_first}
use Rattle.answers.proofs.Beneath.Wired.{inner, inner-wired, stuck-names}
use Rattle.answers.proofs.Beneath.Prints.{Match, Fits, printer_is_right}
use Rattle.answers.proofs.Beneath.StuckState.{stuck-state, stuck-meaning}
use Rattle.answers.proofs.Beneath.Same.{once}

inner-append : (x : ℕ) (l m : List Eqn) → inner x (l ++ m) ≡ inner x l + inner x m
inner-append x [] m = omega arith
inner-append x ((t ≐ u) ∷ l) m = omega (arith, inner-append x l m)

inner-circles : (x range n : ℕ) → inner x (circles range n) ≡ 0
inner-circles x range zero = refl
inner-circles x range (suc n) = omega (arith, inner-circles x range n)

-- The names of the loops are past the machine's.
no_circle : (x range n : ℕ) → x < range → touches x (circles range n) ≡ 0
no_circle x range zero k = refl
no_circle x range (suc n) k =
    omega (arith, no_circle x range n k, δ_other {x = x} {y = range + n} (λ e. omega (arith, e, k)))

matches : {mem : ℕ → Cell} {s : Side} {ts : Terms} {cs : List ℕ} (d : Term) → Reads mem (s ∷ []) ts cs
    → Match mem (to s) (first_term ts d)
matches {mem} d (by_name Reads.none) = refl
matches {mem} d (by_cell {c = c} {k = k} {us = us} {ds = ds} e q Reads.none) =
    record { c = c; ds = ds; bond = refl; symbol = ap (λ j. j.symbol) e; reads = subst (λ j. Reads mem j.args us ds) (sym e) q }

held_untouched : (rs : List Entry) (mem : ℕ → Cell) (x : ℕ) (l : List Pair) → AllHeld rs mem l → touched x l ≡ 0
held_untouched rs mem x [] h = refl
held_untouched rs mem x ((name y := t) ∷ l) h = absurd h.0
held_untouched rs mem x ((cell a := name y) ∷ l) h = absurd h.0
held_untouched rs mem x ((cell a := cell b) ∷ l) h = omega (arith, held_untouched rs mem x l h.1)

module _ {T : Table} {st : St} (s : Sound T st) (e : st.waiting.used ≡ 0) (o : Once (meaning s).eqs) where
  abbrev K : List Pair
  K = listed st.stuck

  bare-fits : (x : ℕ) → x < names_max → get_or st.names x 0 ≤ 1 → touches x (meaning s).eqs ≡ 0
  bare-fits x k h =
      omega (
        arith,
        touches-append x s.reads.eqs (circles names_max st.loops),
        no_circle x names_max st.loops k,
        touch_all x s.reads.pool_reads,
        ap (λ n. touched x (unpack n st.waiting.words ++ (bonds 0 st.names ++ K))) e,
        touched-append x (bonds 0 st.names) K,
        unbound st.names x s.joins h,
        held_untouched T.rules (mem_of T st) x K s.stuck,
      )

  bound-fits : (x : ℕ) (t : Side) → get_or st.names x 0 ≡ bound t
      → bonds 0 st.names ≃ (name x := t) ∷ bonds 0 (drop_bond x t st.names)
      → Fits (mem_of T st) (to t) (pick x (meaning s).eqs)
  bound-fits x t h d = go (part ((name x := t) ∷ []) pool s.reads.pool_reads)
    where
      R : List Pair
      R = bonds 0 (drop_bond x t st.names) ++ K

      pool : listed st.waiting ++ (bonds 0 st.names ++ K) ≃ ((name x := t) ∷ []) ++ R
      pool = subst (λ n. unpack n st.waiting.words ++ (bonds 0 st.names ++ K) ≃ (name x := t) ∷ R) (sym e) (perm_append_right PairSides_equivalence K d)

      go : Part (mem_of T st) ((name x := t) ∷ []) R s.reads.eqs s.reads.c₁
          → Fits (mem_of T st) (to t) (pick x (meaning s).eqs)
      go p = on (named p.it)
        where
          on : Named (mem_of T st) x t [] p.eqs p.its → Fits (mem_of T st) (to t) (pick x (meaning s).eqs)
          on q = last (pick x (meaning s).eqs) (subst (PickAlike (pick x (meaning s).eqs)) (pick_first x q.U rest) (pick-∼ x order (o x)))
            where
              rest : List Eqn
              rest = (q.m' ++ p.others) ++ circles names_max st.loops

              order : (meaning s).eqs ∼ (var x ≐ q.U) ∷ rest
              order =
                  perm_append_right
                  Sides_equivalence
                  (circles names_max st.loops)
                  (step p.order (≈of (ap (λ l. l ++ p.others) q.eqs)))

              last : (r : Pick) → PickAlike r (beside q.U rest) → Fits (mem_of T st) (to t) r
              last alone a = absurd a
              last (beside u l) a = subst (Match (mem_of T st) (to t)) (sym a.0) (matches q.U q.reads)

  state-fits : (x : ℕ) → 0 < get_or st.names x 0
      → Fits (mem_of T st) (bond (get_or st.names x 0)) (pick x (meaning s).eqs)
  state-fits x h = go (get_or st.names x 0) refl
    where
      here : x < length st.names
      here = in_range st.names x h

      F : ℕ → Type 0
      F v = Fits (mem_of T st) (bond v) (pick x (meaning s).eqs)

      drop : (t : Side) → get_or st.names x 0 ≡ bound t
          → bonds 0 st.names ≃ (name x := t) ∷ bonds 0 (drop_bond x t st.names)
      drop (cell c) q = bonds-drop st.names x here (cell c) tt s.joins q
      drop (name y) q =
          bonds-drop st.names x here (name y) (in_range st.names y (omega (arith, (s.joins x y q).0))) s.joins q

      go : (v : ℕ) → get_or st.names x 0 ≡ v → F v
      go zero q = absurd (omega (arith, h, q))
      go (suc zero) q =
          subst
          (Fits (mem_of T st) bare)
          (sym (pick_untouched x (meaning s).eqs (bare-fits x (omega (arith, here, s.sizes.names)) (omega (
            arith,
            q,
          )))))
          tt
      go (suc (suc w)) q =
          let r : get_or st.names x 0 ≡ bound (Wd.side w) = omega (arith, q, code-side w) in
          bound-fits x (Wd.side w) r (drop (Wd.side w) r)

  -- A name that is met is in use.
  in_use : (x : ℕ)
      → 0 < count x (names (meaning s).face) + count x (names (sides (stuck (meaning s).eqs))) + inner x (meaning s).eqs → 0 < get_or st.names x 0
  in_use x c =
      omega (
        arith,
        c,
        ap (λ m. count x (names (sides m))) (stuck-meaning s),
        inner-append x s.reads.eqs (circles names_max st.loops),
        inner-circles x names_max st.loops,
        stuck-names x s.reads.eqs,
        inner-wired x s.reads.eqs,
        s.twice x,
      )

-- A sound state at whose end nothing waits: the printer over its arrays shows the answer of its net.
pub state-printed : {T : Table} (h : SoundTable T) {st : St} (s : Sound T st) → st.waiting.used ≡ 0 → (m : ℕ)
    → net_agents (meaning s) ≤ m
    → ((state_face T st m).shown ≡ (answer (meaning s)).face) × ((state_pairs T st m).shown ≡ (answer (meaning s)).pairs)
state-printed {T} h {st} s e m b =
    printer_is_right
    {mem = mem_of T st}
    {bonds = state_bonds st}
    {C = meaning s}
    (record {
      valid = sound-valid h s;
      once = o;
      face = s.reads.face_reads;
      pairs = (stuck-state s e).reads;
      fits = λ x c. state-fits s e o x (in_use s e o x c);
    })
    m
    b
  where
    o : Once (meaning s).eqs
    o = once (ended_normal h s e)
