-- One net has one answer: what is printed of an ended net does not depend on names, order and sides.
use Rattle.std.specs.Prelude.{◌≡◌, refl, List, ◌∷◌, ℕ, ◌≤◌, ◌<◌, length}
use Rattle.std.proofs.Common.{sym, ◌∙◌, ap, ap₂, subst, arith}
use Rattle.std.proofs.Math.Decide.{dec_lt}
use Rattle.calculus.specs.Terms.{step, var, Term, Terms, Eqn, ◌≐◌, Conf, ◌∼◌, touches}
use Rattle.calculus.proofs.Beneath.Perm.{perm_refl, perm_cons, perm_length}
use Rattle.calculus.proofs.Beneath.Sub.{Sides_equivalence}
use Rattle.calculus.specs.Nets.{◌≈◌}
use Rattle.calculus.proofs.Beneath.Rename.{rename}
use Rattle.calculus.specs.Descent.{Normal}
use Rattle.calculus.specs.Calculus.{Book, Step, communication}
use Rattle.calculus.proofs.Beneath.Ended.{touches-∼}
use Rattle.answers.specs.Answer.{Pick, alone, beside, pick, read, stuck, sides, loops}
use Rattle.answers.specs.Same.{Same}
use Rattle.answers.specs.Answer.{tied_agents, start, face_read, pairs_read, answer}
use Rattle.answers.proofs.Beneath.Names.{eqs_to, answer-rename, stuck-rename}
use Rattle.answers.proofs.Beneath.Counts.{stuck-∼, loops-∼, tied_agents-∼}
use Rattle.answers.proofs.Beneath.Knot.{knot-alike}
use Rattle.answers.proofs.Beneath.Order.{PickIs, pick_is, Alike, ReadAlike, read_alike}

-- Where no Communication applies, a name touches one equation at most.
pub once : {B : Book} {C : Conf} → Normal (Step B) C → (x : ℕ) → touches x C.eqs ≤ 1
once {B} {C} h x = go (dec_lt 1 (touches x C.eqs))
  where
    second : {t : Term} {l : List Eqn} → C.eqs ∼ (var x ≐ t) ∷ l → 1 < touches x C.eqs → (p : Pick)
        → PickIs x l p → ⊥
    second {t} {l} e k alone i = omega (arith, k, touches-∼ x e, i)
    second {t} {l} e k (beside u r) i =
        h
        _
        (record { face = C.face; eqs = (t ≐ u) ∷ r })
        (communication
        (record {
          x = x;
          t = t;
          u = u;
          Δ = r;
          before = step e (perm_cons Sides_equivalence (var x ≐ t) i);
          after = perm_refl Sides_equivalence ((t ≐ u) ∷ r);
          face = refl;
        }))

    first : 1 < touches x C.eqs → (p : Pick) → PickIs x C.eqs p → ⊥
    first k alone i = omega (arith, k, i)
    first k (beside t l) i = second i k (pick x l) (pick_is x l)

    go : Dec (1 < touches x C.eqs) → touches x C.eqs ≤ 1
    go (yes k) = absurd (first k (pick x C.eqs) (pick_is x C.eqs))
    go (no k) = omega (arith, k)

module _ {C D : Conf} (face : C.face ≡ D.face) (eqs : C.eqs ∼ D.eqs) (settled : (x : ℕ) → touches x C.eqs ≤ 1) where
  starts : Alike (start C) (start D)
  starts = record { next = refl; numbers = refl; unmet = eqs; once = settled }

  pub face-alike : ReadAlike (face_read C) (face_read D)
  face-alike =
      rw (← face) (rw (← perm_length eqs) (read_alike (length C.eqs) C.face (start C) (start D) starts))

  pub pairs-alike : stuck C.eqs ≡ stuck D.eqs → ReadAlike (pairs_read C) (pairs_read D)
  pairs-alike e =
      subst
      (λ n. ReadAlike (pairs_read C) (read n (sides (stuck D.eqs)) (face_read D).after))
      (perm_length eqs)
      (subst
      (λ l. ReadAlike (pairs_read C) (read (length C.eqs) (sides l) (face_read D).after))
      e
      (read_alike (length C.eqs) (sides (stuck C.eqs)) (face_read C).after (face_read D).after face-alike.after))

-- One net, at its end, shows one interface, and has one number of stuck pairs, of loops and of agents in the knot.
pub same_answer : {B : Book} {C D : Conf} → Normal (Step B) D → C ≈ D → Same (answer C) (answer D)
same_answer {C = C} {D = D} n h =
    record {
      face = ap (λ a. a.face) renamed ∙ (face-alike {C = E} h.face h.eqs settled).shown;
      stuck = ap (λ a. a.stuck) renamed ∙ perm_length (stuck-∼ h.eqs);
      loops = ap (λ a. a.loops) renamed ∙ loops-∼ h.eqs;
      knot = ap (λ a. a.knot) renamed ∙ knot-alike {C = E} h.face h.eqs settled;
    }
  where
    E : Conf
    E = rename h.names_by.to C

    renamed : answer C ≡ answer E
    renamed = sym (answer-rename h.names_by C)

    settled : (x : ℕ) → touches x E.eqs ≤ 1
    settled x = omega (arith, once n x, touches-∼ x h.eqs)

-- One net whose stuck pairs are listed in one order, each with the same side first, has one answer altogether.
pub one_answer : {B : Book} {C D : Conf} → Normal (Step B) D → (h : C ≈ D)
    → eqs_to h.names_by (stuck C.eqs) ≡ stuck D.eqs
    → answer C ≡ answer D
one_answer {C = C} {D = D} n h e =
    renamed
    ∙ ap₂
    (λ (f p : Terms). record { face = f; pairs = p; stuck = length (stuck E.eqs); loops = loops E.eqs; knot = tied_agents (pairs_read E).after.unmet })
    (face-alike {C = E} h.face h.eqs settled).shown
    pairs.shown
    ∙ ap₂
    (λ (s l : ℕ). record { face = (face_read D).shown; pairs = (pairs_read D).shown; stuck = s; loops = l; knot = tied_agents (pairs_read E).after.unmet })
    (perm_length (stuck-∼ h.eqs))
    (loops-∼ h.eqs)
    ∙ ap
    (λ (k : ℕ). record { face = (face_read D).shown; pairs = (pairs_read D).shown; stuck = length (stuck D.eqs); loops = loops D.eqs; knot = k })
    (tied_agents-∼ pairs.after.unmet)
  where
    E : Conf
    E = rename h.names_by.to C

    renamed : answer C ≡ answer E
    renamed = sym (answer-rename h.names_by C)

    settled : (x : ℕ) → touches x E.eqs ≤ 1
    settled x = omega (arith, once n x, touches-∼ x h.eqs)

    pairs : ReadAlike (pairs_read E) (pairs_read D)
    pairs = pairs-alike {C = E} h.face h.eqs settled (stuck-rename h.names_by C.eqs ∙ e)
