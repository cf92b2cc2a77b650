-- The interface is read by Collects.
use Rattle.std.specs.Prelude.{◌≡◌, refl, List, [], ◌∷◌, ◌++◌, ℕ, ◌+◌, ◌≤◌, length}
use Rattle.std.proofs.Common.{sym, ◌∙◌, ap, arith}
use Rattle.calculus.specs.Terms.{one, var, Term, Terms, Eqn, ◌≐◌, Conf, names, eqs_names, δ, count, ◌∼◌, if_eq}
use Rattle.calculus.specs.Terms.{◌⟦◌/◌⟧}
use Rattle.calculus.specs.Calculus.{Valid, Collect}
use Rattle.calculus.proofs.Beneath.Count.{δ_same, sum-append, if_yes, if_no}
use Rattle.calculus.proofs.Beneath.Ended.{touches-∼}
use Rattle.calculus.proofs.Beneath.Sub.{whole}
use Rattle.answers.specs.Answer.{stuck, sides, start, face_read}
use Rattle.answers.specs.Collected.{Collects, done, more, Collected}
use Rattle.answers.proofs.Beneath.Context.{Place, top, plug, around_names, plug-count, plug-sub, all_allowed}
use Rattle.answers.proofs.Beneath.Wired.{wired, wired-∼, stuck-names}
use Rattle.answers.proofs.Beneath.Knot.{unmet}
use Rattle.answers.proofs.Beneath.Drain.{Once}
use Rattle.answers.proofs.Beneath.Along.{Along, plain}
use Rattle.answers.proofs.Beneath.Gather.{Gathered, gather}

abbrev net : Terms → List Eqn → Conf
net ts l = record { face = ts; eqs = l }

abbrev Reach : Terms → List Eqn → Terms → List Eqn → Type 0
Reach ts l us m = Collects (net ts l) (net us m)

pub append_collects : {C D E : Conf} → Collects C D → Collects D E → Collects C E
append_collects done w = w
append_collects (more c v) w = more c (append_collects v w)

-- Putting the other side in the place of a name.
pub put : (c : Place one) (x : ℕ) (u : Term) → count x (around_names c) ≡ 0 → plug c u ≡ plug c (var x) ⟦ u / x ⟧
put c x u h =
    sym (
    plug-sub (λ y. if_eq y x u (var y)) c (var x) (λ z k. if_no u (var z) (λ e. absurd (omega (
      arith,
      k,
      h,
      ap (λ y. count y (around_names c)) e,
    ))))
    ∙ ap (plug c) (if_yes u (var x) refl))

pub follow : (c : Place one) → Unit {0} → (x : ℕ) (u : Term) (l r : List Eqn) → l ∼ (var x ≐ u) ∷ r
    → ((z : ℕ) → count z (names (plug c (var x))) + wired z l ≤ 2)
    → Reach (plug c (var x)) l (plug c u) r
follow c o x u l r i v = more one_collect done
  where
    one_collect : Collect (net (plug c (var x)) l) (net (plug c u) r)
    one_collect =
        record {
          x = x;
          t = u;
          Δ = r;
          inside = omega (arith, plug-count x c (var x), δ_same x);
          before = i;
          after = whole r;
          face = put c x u (omega (arith, v x, plug-count x c (var x), wired-∼ x i, δ_same x));
        }

module _ (C : Conf) (v : Valid C) (o : Once C.eqs) where
  abbrev pairs : Terms
  pairs = sides (stuck C.eqs)

  pub few : (z : ℕ) → count z (names C.face) + count z (names pairs) + wired z C.eqs ≤ 2
  few z = omega (arith, v z, stuck-names z C.eqs, sum-append (δ z) (names C.face) (eqs_names C.eqs))

  begin : Along (names C.face ++ (names pairs ++ [])) (start C) (plain 0 [])
  begin =
      record {
        next = refl;
        bare = refl;
        once = o;
        met = λ x k e. absurd (unmet e);
        agree = λ z k. refl;
        twice =
            λ z. omega (
              arith,
              few z,
              sum-append (δ z) (names C.face) (names pairs ++ []),
              sum-append (δ z) (names pairs) [],
            );
      }

  pub gathered : Gathered
      Reach
      (λ ts l. done)
      (λ ts us vs k l m. append_collects)
      (λ s c. Unit {0})
      (λ a c. tt)
      (λ ts c u. tt)
      (λ t c u. tt)
      follow
      (length C.eqs)
      C.face
      (start C)
      (plain 0 [])
      (names pairs ++ [])
  gathered =
      gather
      Reach
      (λ ts l. done)
      (λ ts us vs k l m. append_collects)
      (λ s c. Unit {0})
      (λ a c. tt)
      (λ ts c u. tt)
      (λ t c u. tt)
      follow
      (length C.eqs)
      C.face
      (start C)
      (plain 0 [])
      (names pairs ++ [])
      (omega arith)
      begin

  unfoldable pub collected : Collected C
  collected =
      record {
        end = net gathered.tree (face_read C).after.unmet;
        way = gathered.made.reach top (all_allowed C.face) (λ z. omega (arith, few z));
        no_more =
            λ D c.
            let t = gathered.made.settled c.x c.inside in
            omega (arith, t, touches-∼ c.x c.before, δ_same c.x);
        printed = gathered.made.shown;
      }
