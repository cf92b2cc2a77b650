-- A walk is read as a sequence of steps of the calculus with the same interactions.
use Rattle.std.specs.Prelude.{◌≡◌, refl, List, [], ◌++◌, get_or, length}
use Rattle.std.proofs.Math.Path.{sym, ap₂}
use Rattle.std.proofs.Common.{◌∙◌, ap, subst}
use Prim.Native.Nat.{ℕ, suc, ◌+◌, ◌*◌, ◌≤◌}
use native.Mathlib.Omega.{arith}
use Rattle.calculus.specs.Calculus.{Book, Label, Step, Valid}
use Rattle.calculus.specs.Descent.{Ends, tally, Steps, done}
use Rattle.calculus.specs.Nets.{◌≈◌}
use Rattle.calculus.specs.Order.{interactions, uses, is_interaction, is_use}
use Rattle.calculus.proofs.Beneath.Descent.{tally-append, along}
use Rattle.calculus.proofs.Beneath.Order.{calculus_diamond}
use Rattle.calculus.proofs.Beneath.Perm.{Path_equivalence, perm_append_left}
use Rattle.calculus.proofs.Beneath.Rename.{≈_refl, ≈_sym, ≈_trans}
use Rattle.calculus.specs.Terms.{none, step, Conf}
use Rattle.parts.specs.Limits.{rule_equations_max, names_max}
use Rattle.parts.specs.Sides.{name, cell, Pair, ◌:=◌, Side}
use Rattle.model.specs.State.{free, bare, to, St, used, bond, Bond}
use Rattle.model.specs.Table.{Table, Found}
use Rattle.model.specs.Step.{rule_at, picked, moved}
use Rattle.model.specs.Follow.{follow, drops, hop, hops}
use Rattle.model.specs.Stepped.{stepped}
use Rattle.model.specs.Sound.{book, Sound, meaning}
use Rattle.model.specs.SoundTable.{SoundTable}
use Rattle.model.specs.Walk.{take, stay, one_use, Walk, made_in, below, one_made}
use Rattle.model.specs.Agree.{steps_in, uses_in}
use Rattle.model.proofs.Beneath.Books.{book-sound}
use Rattle.model.proofs.Beneath.Frame.{good_of}
use Rattle.model.proofs.Beneath.Moves.{Outcome, cost, Kind, Moves, wiring, right_cells, by_turned}
use Rattle.model.proofs.Beneath.Moves.{coms-interactions, steps-append, by_straight, coms-uses}
use Rattle.model.proofs.Beneath.PoolNet.{good-valid}
use Rattle.model.proofs.Beneath.Stepped.{step_is_right}
use Rattle.model.proofs.Beneath.Sums.{below_plus, below-δ, below-zero}

-- A walk from a sound state: where it ends is sound, and it is read as a sequence of steps of the calculus with the
-- same interactions.
pub record Walked {T : Table} (h : SoundTable T) {st : St} (s : Sound T st) (st' : St) (steps made : ℕ) (by_rule : ℕ → ℕ) : Type 0 where
  pub sound : Sound T st'
  pub labels : List Label
  pub ends : Ends ◌≈◌ (Step (book T)) (meaning s) [] labels (meaning sound)
  pub interactions_made : interactions labels ≡ made
  pub rules_used : (i : ℕ) → uses i labels ≡ by_rule i
  pub made_sum : made ≡ below (length T.rules) by_rule
  -- cells in use are those before, less two for each interaction, plus those of the right sides
  pub cells : used st'.symbols + 2 * interactions labels ≡ used st.symbols + tally (right_cells T) labels
  pub bound : steps + st'.waiting.used ≤ st.waiting.used + tally (cost rule_equations_max) labels

module _ {T : Table} (h : SoundTable T) where
  abbrev B : Book
  B = book T

  pub sound-valid : {st : St} (s : Sound T st) → Valid (meaning s)
  sound-valid {st} s = good-valid (good_of s) names_max st.loops s.sizes.names

  ends_after : {C D E : Conf} {M M' : List Label} → Steps (Step B) C M D → Ends ◌≈◌ (Step B) D [] M' E
      → Ends ◌≈◌ (Step B) C [] (M ++ M') E
  ends_after {M = M} w k =
      record {
        left = M ++ k.left;
        end = k.end;
        way = steps-append w k.way;
        equal = k.equal;
        labels = perm_append_left Path_equivalence M k.labels;
      }

  ends_same : {C C' E : Conf} {M : List Label} → Valid C → C ≈ C' → Ends ◌≈◌ (Step B) C [] M E
      → Ends ◌≈◌ (Step B) C' [] M E
  ends_same {C} {C'} {E} {M} v e k = go (along (calculus_diamond (book-sound h)) v e k.way)
    where
      go : Ends ◌≈◌ (Step B) C' [] k.left k.end → Ends ◌≈◌ (Step B) C' [] M E
      go j = record { left = j.left; end = j.end; way = j.way; equal = ≈_trans j.equal k.equal; labels = step j.labels k.labels }

  kind-made : {k : ℕ} {r : Found} {M : List Label} → Kind T k r M → interactions M ≡ one_made r
  kind-made {k = k} (wiring e) = ap interactions e ∙ coms-interactions k
  kind-made (by_straight l o e) = ap interactions e
  kind-made (by_turned l o e) = ap interactions e

  kind-uses : (i : ℕ) {k : ℕ} {r : Found} {M : List Label} → Kind T k r M → uses i M ≡ one_use i r
  kind-uses i {k = k} (wiring e) = ap (uses i) e ∙ coms-uses i k
  kind-uses i (by_straight l o e) = omega (arith, ap (uses i) e)
  kind-uses i (by_turned l o e) = omega (arith, ap (uses i) e)

  -- A step makes as many interactions as its rules are used.
  kind-sum : {k : ℕ} {r : Found} {M : List Label} → Kind T k r M
      → one_made r ≡ below (length T.rules) (λ i. one_use i r)
  kind-sum (wiring e) = sym (below-zero (length T.rules) (λ i. 0) (λ i h. refl))
  kind-sum (by_straight {i = i} l o e) = sym (below-δ (length T.rules) i l)
  kind-sum (by_turned {i = i} l o e) = sym (below-δ (length T.rules) i l)

  -- One step.
  pub moves : {st st' : St} (s : Sound T st) (p : ℕ) → stepped T st p ≡ moved st'
      → Moves T (book T) st (meaning s) (rule_at T st p) (drops (picked st p) st.names) st'
  moves {st} s p e = subst (Outcome T (book T) st (meaning s) (rule_at T st p) (drops (picked st p) st.names)) e (step_is_right h st s p)

  pub walked : {st st' : St} (s : Sound T st) (w : Walk T st st')
      → Walked h s st' (steps_in w) (made_in w) (λ i. uses_in i w)
  unfolding steps_in made_in uses_in
  walked {st} s stay =
      record {
        sound = s;
        labels = [];
        ends = record { left = []; end = meaning s; way = done; equal = ≈_refl (meaning s); labels = none };
        interactions_made = refl;
        rules_used = λ i. refl;
        made_sum = sym (below-zero (length T.rules) (λ i. 0) (λ i h. refl));
        cells = omega arith;
        bound = omega arith;
      }
  walked {st} {st' = st''} s (take {s' = st'} p e w) = go (moves s p e) (λ t. walked t w)
    where
      go : Moves T (book T) st (meaning s) (rule_at T st p) (drops (picked st p) st.names) st'
          → ((t : Sound T st') → Walked h t st'' (steps_in w) (made_in w) (λ i. uses_in i w))
          → Walked h s st'' (suc (steps_in w)) (one_made (rule_at T st p) + made_in w) (λ i. one_use i (rule_at T st p) + uses_in i w)
      go a f = on (f a.sound)
        where
          on : Walked h a.sound st'' (steps_in w) (made_in w) (λ i. uses_in i w)
              → Walked h s st'' (suc (steps_in w)) (one_made (rule_at T st p) + made_in w) (λ i. one_use i (rule_at T st p) + uses_in i w)
          on b =
              record {
                sound = b.sound;
                labels = a.labels ++ b.labels;
                ends =
                    ends_after
                    a.read.way
                    (ends_same (sound-valid a.sound) (≈_sym a.read.equal) b.ends);
                interactions_made =
                    tally-append is_interaction a.labels b.labels ∙ ap₂ ◌+◌ (kind-made a.kind) b.interactions_made;
                rules_used = λ i. tally-append (is_use i) a.labels b.labels ∙ ap₂ ◌+◌ (kind-uses i a.kind) (b.rules_used i);
                made_sum =
                    ap₂ ◌+◌ (kind-sum a.kind) b.made_sum
                    ∙ sym (below_plus (length T.rules) (λ i. one_use i (rule_at T st p)) (λ i. uses_in i w) (λ i. one_use i (rule_at T st p) + uses_in i w) (λ i. refl));
                cells =
                    omega (
                      arith,
                      a.cells,
                      b.cells,
                      tally-append is_interaction a.labels b.labels,
                      tally-append (right_cells T) a.labels b.labels,
                    );
                bound = omega (arith, a.waits, b.bound, tally-append (cost rule_equations_max) a.labels b.labels);
              }

-- At most two ties and joins are dropped.
few-hop : (b : Bond) → hop b ≤ 1
few-hop free = omega arith
few-hop bare = omega arith
few-hop (to s) = omega arith

few-hops : (a : Side) (l : List ℕ) → hops a l ≤ 1
few-hops (name y) l = few-hop (bond (get_or l y 0))
few-hops (cell c) l = omega arith

pub few-drops : (q : Pair) (l : List ℕ) → drops q l ≤ 2
few-drops (name x := t) l = omega (arith, few-hops (name x) l, few-hops t (follow (name x) l).names)
few-drops (cell a := name y) l = omega (arith, few-hops (name y) l)
few-drops (cell a := cell b) l = omega arith
