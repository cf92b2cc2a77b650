-- Remarks on the definitions, each proved: what a Communication leaves, when it does not apply, what nets that are one
-- have in common, and which rules of a symbol with itself are refused.
use Rattle.std.specs.Prelude.{◌≡◌, refl, [], ℕ, suc, length}
use Rattle.std.proofs.Common.{sym, ◌∙◌, inl, inr, arith}
use Rattle.calculus.specs.Terms.{var, Terms, Conf, names, count, none, keep, Sides, ◌∼◌}
use Rattle.calculus.specs.Calculus.{Valid, Proper, Book, Communication, Com, Step, communication}
use Rattle.calculus.specs.Nets.{◌≈◌}
use Rattle.calculus.specs.Descent.{Normal}
use Rattle.calculus.specs.Rules.{one_sided, both_sided}
use Rattle.calculus.proofs.Beneath.Perm.{perm_length}
use Rattle.calculus.proofs.Beneath.Sub.{whole}
use Rattle.calculus.proofs.Beneath.Count.{sub-fixed}
use Rattle.calculus.proofs.Beneath.Wiring.{communications-meet}
use Rattle.calculus.proofs.Beneath.Ended.{named_idle, ended_normal}
use Rattle.calculus.proofs.Beneath.Rules.{one_sided_not_proper, both_sided_is_proper}
use Rattle.calculus.proofs.Beneath.Remarks.{loop_left}
use Rattle.calculus.specs.Remarks.{loop, twice}

-- A Communication takes exactly one equation away.
pub one_less : {C D : Conf} → Communication C D → length C.eqs ≡ suc (length D.eqs)
one_less c = omega (arith, perm_length c.before, perm_length c.after)

pub loop_stays : (ts : Terms) (x : ℕ) {D : Conf} → Communication (loop ts x) D → ⊥
loop_stays ts x c = omega (arith, perm_length c.before)

pub loop_ended : {B : Book} (ts : Terms) (x : ℕ) → Normal (Step B) (loop ts x)
loop_ended {B} ts x = ended_normal (λ y. omega arith) (named_idle B _ (λ h. h), tt)

pub taking_left : (ts : Terms) (x y : ℕ) → Communication (twice ts x y) (loop ts y)
taking_left ts x y =
    record { x = x; t = var y; u = var y; Δ = []; before = whole _; after = whole _; face = refl }

pub taking_right : (ts : Terms) (x y : ℕ) → Communication (twice ts x y) (loop ts x)
taking_right ts x y =
    record {
      x = y;
      t = var x;
      u = var x;
      Δ = [];
      before = keep Sides.turn (keep Sides.turn none);
      after = whole _;
      face = refl;
    }

-- Whatever Communication is made, one loop comes of it, and it is the same net whichever name is taken.
pub one_loop : {ts : Terms} {x y : ℕ} {D : Conf} → Communication (twice ts x y) D
    → (z : ℕ) × (D.eqs ∼ (loop ts z).eqs) × (D.face ≡ ts)
one_loop c = let k = loop_left c in (k.0, k.1, c.face)

pub same_loop : {ts : Terms} {x y : ℕ} {D E : Conf} → Valid (twice ts x y)
    → Communication (twice ts x y) D → Communication (twice ts x y) E → D ≈ E
same_loop {D = D} v c d =
    elim (communications-meet {B = λ i r. ⊥} v c d) [ inl h ↦ h | inr m ↦ absurd (no_step m.first) ]
  where
    -- the loop of the one is no longer than one equation
    no_step : {F : Conf} → Step (λ i r. ⊥) D Com F → ⊥
    no_step (communication k) = omega (arith, one_less c, perm_length k.before)

-- Nets that are one have the same interface, up to the names in it: where it has none, it is the same.
pub ≈-face : {C D : Conf} → C ≈ D → ((x : ℕ) → count x (names C.face) ≡ 0) → C.face ≡ D.face
≈-face {C} h no_names = sym (sub-fixed _ C.face (λ x k. absurd (omega (arith, no_names x, k)))) ∙ h.face

-- Document 01's case of refusal 10 is no proper rule, and its case that is read is one.
pub one_sided-refused : Proper one_sided → ⊥
one_sided-refused = one_sided_not_proper

pub both_sided-read : Proper both_sided
both_sided-read = both_sided_is_proper
