-- Theorem 2, demand 2: read as a net, a step is no change, one or two Communications, or one Interaction by the very
-- rule of the pair.
use Rattle.std.specs.Prelude.{◌≡◌, List, ℕ, ◌<◌}
use Rattle.std.proofs.Common.{sym, subst}
use Rattle.calculus.specs.Calculus.{Label}
use Rattle.parts.specs.Limits.{loops_max}
use Rattle.parts.specs.Sides.{name, ◌:=◌, Pair}
use Rattle.model.specs.State.{St}
use Rattle.model.specs.Table.{Table, Found, straight, turned}
use Rattle.model.specs.Step.{moved, place, taken_out, picked, rule_at}
use Rattle.model.specs.Stepped.{stepped}
use Rattle.model.specs.Sound.{Sound, meaning}
use Rattle.model.specs.SoundTable.{SoundTable}
use Rattle.model.proofs.Kept.{step_sound}
use Rattle.model.specs.Rows.{Joined, free, count_loop, Row, loop, loop_joined}
use Rattle.model.proofs.StepTable.{step-table}
use Rattle.model.specs.Follow.{drops, Labels, communications, interaction, interaction_turned, ReadAs}
use Rattle.model.proofs.Beneath.Moves.{Kind, wiring, by_straight, by_turned}
use Rattle.model.proofs.Beneath.Selves.{self-bare}
use Rattle.model.proofs.Beneath.Walks.{moves, few-drops}

pub demand_2 : {T : Table} (t : SoundTable T) {s s' : St} (h : Sound T s) (p : ℕ) (e : stepped T s p ≡ moved s')
    → ReadAs T (drops (picked s p) s.names) (rule_at T s p) (meaning h) (meaning (step_sound t h p e))
demand_2 {T} t {s} {s'} h p e =
    let m = moves t h p e in
    record { labels = m.labels; kind = kind m.kind; end = m.read.state; way = m.read.way; same = m.read.equal }
  where
    k : ℕ
    k = drops (picked s p) s.names

    kind : {r : Found} {M : List Label} → Kind T k r M → Labels T k r M
    kind (wiring q) = subst (Labels T k Found.none) (sym q) (communications (few-drops (picked s p) s.names))
    kind (by_straight {i = i} {e = d} l o q) = subst (Labels T k (straight i d)) (sym q) (interaction l o)
    kind (by_turned {i = i} {e = d} l o q) = subst (Labels T k (turned i d)) (sym q) (interaction_turned l o)

-- The two slips of document 001 are loops here: III.c_c with x joined to y, and III.0_0 on x = x.
module _ {T : Table} {s : St} (h : Sound T s) (p : ℕ) (o : p < s.waiting.used) (l : s.loops < loops_max) where
  by_row : {q : Pair} {s' : St} → picked s p ≡ q → Row T (taken_out (place s p) s) q s' → stepped T s p ≡ moved s'
  by_row {s' = s'} e r = step-table h p o (subst (λ q. Row T (taken_out (place s p) s) q s') (sym e) r)

  pub slip_c-c : {x y : ℕ} → picked s p ≡ (name x := name y) → Joined s x y
      → stepped T s p ≡ moved (count_loop (free y (free x (taken_out (place s p) s))))
  slip_c-c e j = by_row e (loop_joined j l)

  pub slip_0_0 : {x : ℕ} → picked s p ≡ (name x := name x)
      → stepped T s p ≡ moved (count_loop (free x (taken_out (place s p) s)))
  slip_0_0 {x} e = by_row e (loop (self-bare s h p o x e) l)
