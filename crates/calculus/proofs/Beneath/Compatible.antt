-- Equal nets have the same steps.
use Rattle.std.proofs.Common.{◌∙◌, ap, ap₂, arith}
use Rattle.std.specs.Prelude.{◌∷◌, ◌++◌, map, ℕ}
use Rattle.std.proofs.lemmas.List.{map-append}
use Rattle.calculus.specs.Terms.{node, Term, ◌≐◌, Conf, step, sub, sub_eqn, ren}
use Rattle.calculus.specs.Calculus.{Valid, Rule, Book, Sound, Communication, Interaction}
use Rattle.calculus.specs.Calculus.{Label, Step, communication, interaction}
use Rattle.calculus.specs.Nets.{◌≈◌}
use Rattle.calculus.proofs.Beneath.Diamond.{Reach}
use Rattle.calculus.proofs.Beneath.Sub.{≈of, back, sub-∼, sub-eqs-sub, sub-terms}
use Rattle.calculus.proofs.Beneath.Rename.{injective, ≈_sym, ≈-rename, occurs_same, rename}
use Rattle.calculus.proofs.Beneath.Occurs.{once_before}

module _ {C C' : Conf} (h : C ≈ C') where
  pub communication-along : {D : Conf} → Communication C D → Communication C' (rename h.names_by.to D)
  communication-along c =
      let ρ = ren h.names_by.to in
      record {
        x = h.names_by.to c.x;
        t = sub ρ c.t;
        u = sub ρ c.u;
        Δ = map (sub_eqn ρ) c.Δ;
        before = step (back h.eqs) (sub-∼ ρ c.before);
        after = sub-∼ ρ c.after;
        face = ap (sub ρ) c.face ∙ h.face;
      }

  unfoldable pub interaction_along : {r : Rule} {D : Conf} → Interaction r C D
      → Interaction r C' (rename h.names_by.to D)
  interaction_along {r} c =
      let ρ = ren h.names_by.to in
      let τ : ℕ → Term = λ z. sub ρ (c.σ z) in
      record {
        σ = τ;
        name = λ z. h.names_by.to (c.name z);
        chosen = λ z k. ap (sub ρ) (c.chosen z k);
        choice =
            record {
              fresh = λ z k. occurs_same h (c.name z) ∙ c.choice.fresh z k;
              apart = λ y z j k e. c.choice.apart y z j k (injective h.names_by e);
            };
        Δ = map (sub_eqn ρ) c.Δ;
        before =
            step
            (back h.eqs)
            (step
            (sub-∼ ρ c.before)
            (≈of
            (ap₂
            (λ ts us. (node r.left ts ≐ node r.right us) ∷ map (sub_eqn ρ) c.Δ)
            (sub-terms ρ c.σ r.xs)
            (sub-terms ρ c.σ r.ys))));
        after =
            step
            (sub-∼ ρ c.after)
            (≈of
            (map-append (sub_eqn ρ) (map (sub_eqn c.σ) r.body) c.Δ
            ∙ ap (λ l. l ++ map (sub_eqn ρ) c.Δ) (sub-eqs-sub ρ c.σ r.body)));
        face = ap (sub ρ) c.face ∙ h.face;
      }

-- Equal nets have the same steps, to equal nets.
pub compatible : {B : Book} → Sound B → {C C' D : Conf} {l : Label} → Valid C → C ≈ C' → Step B C l D
    → Reach ◌≈◌ (Step B) C' l D
compatible {B} S {C} {C'} {D} {l} v h s =
    record {
      state = rename h.names_by.to D;
      made = along s;
      equal = ≈_sym (≈-rename h.names_by D (λ x k. h.free x (once_before S v s x k)));
    }
  where
    along : {l : Label} → Step B C l D → Step B C' l (rename h.names_by.to D)
    along (communication c) = communication (communication-along h c)
    along (interaction b c) = interaction b (interaction_along h c)

pub valid_same : {C C' : Conf} → C ≈ C' → Valid C → Valid C'
valid_same {C} {C'} h v x =
    let k = ≈_sym h in
    omega (arith, v (k.names_by.to x), occurs_same k x)
