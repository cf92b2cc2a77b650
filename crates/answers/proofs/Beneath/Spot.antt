-- A place inside an agent of a stuck pair: the equation that it is in.
use Rattle.std.specs.Prelude.{◌≡◌, refl, List, [], ◌∷◌, ◌++◌, ◌⊎◌, ℕ, ◌*◌, ◌≤◌}
use Rattle.std.proofs.Common.{sym, ◌∙◌, ap, append_assoc, inl, inr, arith}
use Rattle.calculus.specs.Terms.{Sort, one, many, Tree, node, nil, cons, Term, Terms, Eqn, ◌≐◌, names, δ, count}
use Rattle.calculus.specs.Terms.{Sides, keep, step, ◌∼◌}
use Rattle.calculus.proofs.Beneath.Count.{sum-append}
use Rattle.calculus.proofs.Beneath.Perm.{perm_shift}
use Rattle.calculus.proofs.Beneath.Sub.{Sides_equivalence, ≈of, whole}
use Rattle.answers.specs.Answer.{sides}
use Rattle.answers.proofs.Beneath.Context.{Place, top, within, head, tail, plug, around_names, Inside}
use Rattle.answers.proofs.Beneath.Along.{size}

-- Terms two by two. (A term too many, which no list of pairs has, stands in an equation too.)
abbrev pub paired : Terms → List Eqn
paired nil = []
paired (cons t nil) = (t ≐ node 0 nil) ∷ []
paired (cons t (cons u ts)) = (t ≐ u) ∷ paired ts

pub paired-sides : (l : List Eqn) → paired (sides l) ≡ l
paired-sides [] = refl
paired-sides ((t ≐ u) ∷ l) = ap (λ m. (t ≐ u) ∷ m) (paired-sides l)

pub sides-paired : (k : ℕ) (ts : Terms) → size ts ≡ 2 * k → sides (paired ts) ≡ ts
sides-paired k nil e = refl
sides-paired k (cons t nil) e = absurd (omega (arith, e))
sides-paired ℕ.zero (cons t (cons u ts)) e = absurd (omega (arith, e))
sides-paired (ℕ.suc k) (cons t (cons u ts)) e = ap (λ us. cons t (cons u us)) (sides-paired k ts (omega (arith, e)))

-- A place that is in no agent.
abbrev pub Flat : {s : Sort} → Place s → Type 0
Flat top = Unit {0}
Flat (within a c) = ⊥
Flat (head ts c) = Flat c
Flat (tail t c) = Flat c

pub flat-inside : {s : Sort} (c : Place s) → Flat c → Inside c → ⊥
flat-inside top f i = i
flat-inside (within a c) f i = f
flat-inside (head ts c) f i = flat-inside c f i
flat-inside (tail t c) f i = flat-inside c f i

-- The outermost agent around a place, where that agent is, and the place among its arguments.
pub record Spot {s : Sort} (c : Place s) : Type 0 where
  pub α : ℕ
  pub inner : Place s
  pub outer : Place one
  pub flat : Flat outer
  pub equal : (t : Tree s) → plug c t ≡ plug outer (node α (plug inner t))
  pub around : (z : ℕ) → count z (around_names inner) ≤ count z (around_names c)

pub spot : {s : Sort} (c : Place s) → Spot c ⊎ Flat c
spot top = inr tt
spot (within a c) = go (spot c)
  where
    go : Spot c ⊎ Flat c → Spot (within a c) ⊎ Flat (within a c)
    go (inl p) =
        inl
        (record {
          α = p.α;
          inner = within a p.inner;
          outer = p.outer;
          flat = p.flat;
          equal = λ t. p.equal (node a t);
          around = p.around;
        })
    go (inr f) =
        inl (record { α = a; inner = top; outer = c; flat = f; equal = λ t. refl; around = λ z. omega arith })
spot (head ts c) = go (spot c)
  where
    go : Spot c ⊎ Flat c → Spot (head ts c) ⊎ Flat (head ts c)
    go (inl p) =
        inl
        (record {
          α = p.α;
          inner = head ts p.inner;
          outer = p.outer;
          flat = p.flat;
          equal = λ t. p.equal (cons t ts);
          around =
              λ z. omega (
                arith,
                p.around z,
                sum-append (δ z) (names ts) (around_names p.inner),
                sum-append (δ z) (names ts) (around_names c),
              );
        })
    go (inr f) = inr f
spot (tail u c) = go (spot c)
  where
    go : Spot c ⊎ Flat c → Spot (tail u c) ⊎ Flat (tail u c)
    go (inl p) =
        inl
        (record {
          α = p.α;
          inner = tail u p.inner;
          outer = p.outer;
          flat = p.flat;
          equal = λ t. p.equal (cons u t);
          around =
              λ z. omega (
                arith,
                p.around z,
                sum-append (δ z) (names u) (around_names p.inner),
                sum-append (δ z) (names u) (around_names c),
              );
        })
    go (inr f) = inr f

-- The terms before a place in no agent are whole pairs, or whole pairs and a left side. So a term there is a side of
-- one equation, whatever term it is.
pub data Before (c : Place many) : Type 0 where
  even : (K : List Eqn) → ((ws : Terms) → paired (plug c ws) ≡ K ++ paired ws) → Before c
  odd : (K : List Eqn) (t : Term) → ((ws : Terms) → paired (plug c ws) ≡ K ++ paired (cons t ws)) → Before c

pub record SideAt (c : Place one) : Type 0 where
  pub fellow : Term
  pub others : List Eqn
  pub equation : (w : Term) → paired (plug c w) ∼ (w ≐ fellow) ∷ others

abbrev pub Stands : (s : Sort) → Place s → Type 0
Stands one c = SideAt c
Stands many c = Before c

after_term : (t : Term) (c : Place many) → Before c → Before (tail t c)
after_term t c (even K h) = odd K t (λ ws. h (cons t ws))
after_term t c (odd K u h) =
    even (K ++ ((u ≐ t) ∷ [])) (λ ws. h (cons t ws) ∙ sym (append_assoc K ((u ≐ t) ∷ []) (paired ws)))

at_term : (ts : Terms) (c : Place many) → Before c → SideAt (head ts c)
at_term nil c (even K h) =
    record {
      fellow = node 0 nil;
      others = K ++ [];
      equation = λ w. step (≈of (h (cons w nil))) (perm_shift Sides_equivalence K (w ≐ node 0 nil) []);
    }
at_term (cons u ts) c (even K h) =
    record {
      fellow = u;
      others = K ++ paired ts;
      equation = λ w. step (≈of (h (cons w (cons u ts)))) (perm_shift Sides_equivalence K (w ≐ u) (paired ts));
    }
at_term ts c (odd K u h) =
    record {
      fellow = u;
      others = K ++ paired ts;
      equation =
          λ w.
          step
          (≈of (h (cons w ts)))
          (step (perm_shift Sides_equivalence K (u ≐ w) (paired ts)) (keep Sides.turn (whole (K ++ paired ts))));
    }

pub stands : {s : Sort} (c : Place s) → Flat c → Stands s c
stands top f = even [] (λ ws. refl)
stands (within a c) f = absurd f
stands (head ts c) f = at_term ts c (stands c f)
stands (tail t c) f = after_term t c (stands c f)
