-- Collects in any order come to one interface, up to names: two Collects from one valid net are one or meet.
use Rattle.std.specs.Prelude.{◌≡◌, refl, List, [], ◌∷◌, map, ◌⊎◌, ℕ, ◌+◌, ◌<◌}
use Rattle.std.proofs.Common.{sym, ◌∙◌, ap, ap₂, inl, inr, arith}
use Rattle.std.proofs.Math.Decide.{ℕ_discrete}
use Rattle.calculus.specs.Terms.{Sort, Tree, var, Term, Eqn, ◌≐◌, Conf, names, eqs_names, δ, count, occurs, step, Sides, ◌∼◌, sub, sub_eqn, ren, if_eq, ◌⟦◌/◌⟧}
use Rattle.calculus.specs.Calculus.{Valid, Collect, Label, Com}
use Rattle.calculus.specs.Descent.{Steps, done, more, Normal}
use Rattle.calculus.specs.Nets.{◌≈◌, Renaming}
use Rattle.calculus.proofs.Beneath.Diamond.{Reach, Meet, Diamond}
use Rattle.calculus.proofs.Beneath.Descent.{meet_at, descent, at_end}
use Rattle.calculus.proofs.Beneath.Sub.{Matched, sides_inv, var_inj, back, whole, heads, sub-∼, sub-sub}
use Rattle.calculus.proofs.Beneath.Perm.{Moved}
use Rattle.calculus.proofs.Beneath.Count.{if_yes, if_no, δ-cases, δ_same, δ_other, sum-conf, sum-eqs, sum-eqn, sum-sub, sum_ext, sum_put, sub_ext, sub-fixed, sub-eqs-fixed}
use Rattle.calculus.proofs.Beneath.Occurs.{occurs-collect}
use Rattle.calculus.proofs.Beneath.Rename.{rename, injective, exchange, exchange_right, exchange_other, exchanging, ≈-alike, ≈-rename, ≈_sym, ≈-equivalence}
use Rattle.answers.specs.Answer.{answer}
use Rattle.answers.specs.Collected.{Collects, Collected, numbered, fresh}
use Rattle.answers.specs.Collected as Collected
use Rattle.answers.proofs.Beneath.Names.{if_eq-map, if_eq_to, read-rename}

-- A Collect with a label.
pub data Collecting : Conf → Label → Conf → Type 0 where
  col : {C D : Conf} → Collect C D → Collecting C Com D

before : {C D : Conf} (c : Collect C D) (y : ℕ)
    → occurs y C ≡ count y (names C.face) + (δ y c.x + count y (names c.t) + count y (eqs_names c.Δ))
before {C} c y = omega (arith, sum-conf (δ y) C, sum-eqs (δ y) c.before, sum-eqn (δ y) (var c.x) c.t c.Δ)

-- The name that a Collect takes is once in the interface.
once_in : {C D : Conf} → Valid C → (c : Collect C D) → count c.x (names C.face) ≡ 1
once_in v c = omega (arith, before c c.x, v c.x, δ_same c.x, c.inside)

kept : {C D : Conf} {l : Label} → Valid C → Collecting C l D → Valid D
kept v (col c) y = omega (arith, v y, occurs-collect v c y)

-- A renamed net has the same Collects.
δ-both : (π : Renaming) (x z : ℕ) → δ (π.to x) (π.to z) ≡ δ x z
δ-both π x z = elim (δ-cases x z) [
  | inl h ↦ ap (λ y. δ (π.to x) (π.to y)) (sym h.0) ∙ δ_same (π.to x) ∙ sym h.1
  | inr h ↦ δ_other (λ e. h.0 (injective π e)) ∙ sym h.1
]

count-both : (π : Renaming) (x : ℕ) {s : Sort} (u : Tree s) → count (π.to x) (names (sub (ren π.to) u)) ≡ count x (names u)
count-both π x u =
    sum-sub (δ (π.to x)) (ren π.to) u
    ∙ sum_ext (λ z. δ (π.to x) (π.to z) + 0) (δ x) (names u) (λ z k. omega (arith, δ-both π x z))

put_renamed : (π : Renaming) {s : Sort} (u : Tree s) (t : Term) (x : ℕ)
    → sub (ren π.to) (u ⟦ t / x ⟧) ≡ sub (ren π.to) u ⟦ sub (ren π.to) t / π.to x ⟧
put_renamed π u t x =
    sub-sub (ren π.to) (λ y. if_eq y x t (var y)) u
    ∙ sub_ext
    (λ y. sub (ren π.to) (if_eq y x t (var y)))
    (λ y. if_eq (π.to y) (π.to x) (sub (ren π.to) t) (var (π.to y)))
    u
    (λ y k.
    if_eq-map (sub (ren π.to)) y x t (var y) ∙ sym (if_eq_to π y x (sub (ren π.to) t) (var (π.to y))))
    ∙ sym (sub-sub (λ y. if_eq y (π.to x) (sub (ren π.to) t) (var y)) (ren π.to) u)

collect-along : {C C' D : Conf} (h : C ≈ C') → Collect C D → Collect C' (rename h.names_by.to D)
collect-along {C} {C'} h c =
    let π = h.names_by in
    let ρ = ren h.names_by.to in
    record {
      x = h.names_by.to c.x;
      t = sub ρ c.t;
      Δ = map (sub_eqn ρ) c.Δ;
      inside =
          omega (
            arith,
            c.inside,
            count-both π c.x C.face,
            ap (λ f. count (h.names_by.to c.x) (names f)) h.face,
          );
      before = step (back h.eqs) (sub-∼ ρ c.before);
      after = sub-∼ ρ c.after;
      face =
          ap (sub ρ) c.face
          ∙ put_renamed h.names_by C.face c.t c.x
          ∙ ap (λ f. f ⟦ sub ρ c.t / h.names_by.to c.x ⟧) h.face;
    }

compatible : {C C' D : Conf} {l : Label} → Valid C → C ≈ C' → Collecting C l D → Reach ◌≈◌ Collecting C' l D
compatible {D = D} v h (col c) =
    record {
      state = rename h.names_by.to D;
      made = col (collect-along h c);
      equal =
          ≈_sym (≈-rename h.names_by D (λ x k. h.free x (omega (arith, k, v x, occurs-collect v c x))));
    }

module _ {C D E : Conf} (v : Valid C) (c : Collect C D) (d : Collect C E) where
  abbrev X : ℕ
  X = c.x

  abbrev Y : ℕ
  Y = d.x

  -- One equation, by the same side.
  plain : X ≡ Y → c.t ≡ d.t → c.Δ ∼ d.Δ → D ≈ E
  plain e f p =
      ≈-alike
      (c.face ∙ ap₂ (λ t x. C.face ⟦ t / x ⟧) f e ∙ sym d.face)
      (step c.after (step p (back d.after)))

  -- One equation x = y, by either side: the results differ by an exchange of x and y.
  crossed : c.t ≡ var Y → d.t ≡ var X → c.Δ ∼ d.Δ → D ≈ E
  crossed tY tX p =
      record {
        names_by = exchanging X Y;
        face =
            ap (sub σ) (c.face ∙ ap (λ t. C.face ⟦ t / X ⟧) tY)
            ∙ sub-sub σ (λ z. if_eq z X (var Y) (var z)) C.face
            ∙ sub_ext
            (λ z. sub σ (if_eq z X (var Y) (var z)))
            (λ z. if_eq z Y (var X) (var z))
            C.face
            (λ z k. at z (ℕ_discrete z X) (ℕ_discrete z Y))
            ∙ sym (d.face ∙ ap (λ t. C.face ⟦ t / Y ⟧) tX);
        eqs =
            step
            (sub-∼ σ c.after)
            (step
            (≈of' (sub-eqs-fixed σ c.Δ (λ z k. ap var (exchange_other
            (λ e. omega (arith, k, v X, before c X, δ_same X, c.inside, ap (λ y. count y (eqs_names c.Δ)) e))
            (λ e. omega (arith, k, v Y, before c Y, y_in, d.inside, ap (λ y. count y (eqs_names c.Δ)) e))))))
            (step p (back d.after)));
        free = λ z k. exchange_other
            (λ e. omega (arith, v X, occurs-collect v c X, δ_same X, k, ap (λ y. occurs y D) e))
            (λ e. omega (arith, v Y, occurs-collect v c Y, before c Y, y_in, d.inside, k, ap (λ y. occurs y D) e));
      }
    where
      σ : ℕ → Term
      σ = ren (exchange X Y)

      ≈of' : {l m : List Eqn} → l ≡ m → l ∼ m
      ≈of' {l} e = rw (← e) (whole l)

      y_in : count Y (names c.t) ≡ 1
      y_in = ap (λ t. count Y (names t)) tY ∙ omega (arith, δ_same Y)

      at : (z : ℕ) → Dec (z ≡ X) → Dec (z ≡ Y) → sub σ (if_eq z X (var Y) (var z)) ≡ if_eq z Y (var X) (var z)
      at z (yes e) (yes f) =
          ap (sub σ) (if_yes (var Y) (var z) e) ∙ ap var (exchange_right X Y) ∙ sym (if_yes (var X) (var z) f)
      at z (yes e) (no g) =
          ap (sub σ) (if_yes (var Y) (var z) e) ∙ ap var (exchange_right X Y ∙ sym e) ∙ sym (if_no (var X) (var z) g)
      at z (no g) (yes f) =
          ap (sub σ) (if_no (var Y) (var z) g)
          ∙ ap var (ap (exchange X Y) f ∙ exchange_right X Y)
          ∙ sym (if_yes (var X) (var z) f)
      at z (no g) (no h) =
          ap (sub σ) (if_no (var Y) (var z) g) ∙ ap var (exchange_other g h) ∙ sym (if_no (var X) (var z) h)

  one_shared : Sides (var X ≐ c.t) (var Y ≐ d.t) → c.Δ ∼ d.Δ → D ≈ E
  one_shared s p = go (sides_inv s)
    where
      go : Matched (var X) c.t (var Y) d.t → D ≈ E
      go (inl e) = plain (var_inj e.0) e.1 p
      go (inr e) = crossed e.1 (sym e.0) p

  -- Two equations: each Collect can be followed by the other.
  none_shared : Moved Sides (var X ≐ c.t) (var Y ≐ d.t) c.Δ d.Δ → Meet ◌≈◌ Collecting D Com E Com
  none_shared m =
      meet_at
      ≈-equivalence
      (record { face = C.face ⟦ c.t / X ⟧ ⟦ d.t / Y ⟧; eqs = m.both })
      (col
      (record {
        x = Y;
        t = d.t;
        Δ = m.both;
        inside =
            omega (
              arith,
              ap (λ f. count Y (names f)) c.face,
              sum_put (δ Y) C.face c.t X (once_in v c),
              all Y,
              v Y,
              d.inside,
              δ_same Y,
            );
        before = step c.after m.left;
        after = whole m.both;
        face = ap (λ f. f ⟦ d.t / Y ⟧) (sym c.face);
      }))
      (col
      (record {
        x = X;
        t = c.t;
        Δ = m.both;
        inside =
            omega (
              arith,
              ap (λ f. count X (names f)) d.face,
              sum_put (δ X) C.face d.t Y (once_in v d),
              all X,
              v X,
              c.inside,
              δ_same X,
            );
        before = step d.after (back m.right);
        after = whole m.both;
        face = commute ∙ ap (λ f. f ⟦ c.t / X ⟧) (sym d.face);
      }))
    where
      all : (z : ℕ)
          → occurs z C ≡ count z (names C.face) + (δ z X + count z (names c.t) + (δ z Y + count z (names d.t) + count z (eqs_names m.both)))
      all z = omega (arith, before c z, sum-eqs (δ z) m.left, sum-eqn (δ z) (var Y) d.t m.both)

      x_not_y : X ≡ Y → ⊥
      x_not_y e = omega (arith, all X, v X, c.inside, δ_same X, ap (δ X) e)

      x-out : (z : ℕ) → 0 < count z (names d.t) → z ≡ X → ⊥
      x-out z k e = omega (arith, all X, v X, c.inside, δ_same X, k, ap (λ y. count y (names d.t)) e)

      y_out : (z : ℕ) → 0 < count z (names c.t) → z ≡ Y → ⊥
      y_out z k e = omega (arith, all Y, v Y, d.inside, δ_same Y, k, ap (λ y. count y (names c.t)) e)

      σ : ℕ → Term
      σ z = if_eq z X c.t (var z)

      τ : ℕ → Term
      τ z = if_eq z Y d.t (var z)

      at : (z : ℕ) → Dec (z ≡ X) → Dec (z ≡ Y) → sub τ (σ z) ≡ sub σ (τ z)
      at z (yes e) (yes f) = absurd (x_not_y (sym e ∙ f))
      at z (yes e) (no g) =
          ap (sub τ) (if_yes c.t (var z) e)
          ∙ sub-fixed τ c.t (λ y k. if_no d.t (var y) (y_out y k))
          ∙ sym (ap (sub σ) (if_no d.t (var z) g) ∙ if_yes c.t (var z) e)
      at z (no g) (yes f) =
          ap (sub τ) (if_no c.t (var z) g)
          ∙ if_yes d.t (var z) f
          ∙ sym (ap (sub σ) (if_yes d.t (var z) f) ∙ sub-fixed σ d.t (λ y k. if_no c.t (var y) (x-out y k)))
      at z (no g) (no h) =
          ap (sub τ) (if_no c.t (var z) g)
          ∙ if_no d.t (var z) h
          ∙ sym (ap (sub σ) (if_no d.t (var z) h) ∙ if_no c.t (var z) g)

      commute : C.face ⟦ c.t / X ⟧ ⟦ d.t / Y ⟧ ≡ C.face ⟦ d.t / Y ⟧ ⟦ c.t / X ⟧
      commute =
          sub-sub τ σ C.face
          ∙ sub_ext (λ z. sub τ (σ z)) (λ z. sub σ (τ z)) C.face (λ z k. at z (ℕ_discrete z X) (ℕ_discrete z Y))
          ∙ sym (sub-sub σ τ C.face)

  collects_meet : (D ≈ E) ⊎ Meet ◌≈◌ Collecting D Com E Com
  collects_meet = go (heads (step (back c.before) d.before))
    where
      go : (Sides (var X ≐ c.t) (var Y ≐ d.t) × (c.Δ ∼ d.Δ)) ⊎ Moved Sides (var X ≐ c.t) (var Y ≐ d.t) c.Δ d.Δ
          → (D ≈ E) ⊎ Meet ◌≈◌ Collecting D Com E Com
      go (inl h) = inl (one_shared h.0 h.1)
      go (inr m) = inr (none_shared m)

meets : {C D E : Conf} {l m : Label} → Valid C → Collecting C l D → Collecting C m E
    → ((l ≡ m) × (D ≈ E)) ⊎ Meet ◌≈◌ Collecting D l E m
meets v (col c) (col d) = elim (collects_meet v c d) [ inl e ↦ inl (refl, e) | inr q ↦ inr q ]

diamond : Diamond ◌≈◌ Collecting Valid
diamond = record { equivalence = ≈-equivalence; kept = kept; compatible = compatible; meets = meets }

-- Collects as labelled steps.
labels : {C D : Conf} → Collects C D → List Label
labels Collected.done = []
labels (Collected.more c w) = Com ∷ labels w

way : {C D : Conf} (w : Collects C D) → Steps Collecting C (labels w) D
unfolding labels
way Collected.done = done
way (Collected.more c w) = more (col c) (way w)

normal : {C : Conf} → ((D : Conf) → Collect C D → ⊥) → Normal Collecting C
normal h l D (col c) = h D c

-- Two ends of Collects from one valid net are one net.
pub one_end : {C D E : Conf} → Valid C → Collects C D → ((F : Conf) → Collect D F → ⊥)
    → Collects C E → ((F : Conf) → Collect E F → ⊥) → D ≈ E
one_end v w n w' n' = (at_end (descent diamond v (way w') (normal n') (way w)) (normal n)).1

-- Nets that are one have the same interface, numbered.
pub same_numbered : {D E : Conf} → D ≈ E → (numbered D.face fresh).shown ≡ (numbered E.face fresh).shown
same_numbered {D} h =
    sym (ap (λ r. r.shown) (read-rename h.names_by 0 D.face fresh))
    ∙ ap (λ f. (numbered f fresh).shown) h.face

pub any_end_printed : {C : Conf} → Valid C → (c : Collected C) → {D : Conf} → Collects C D
    → ((F : Conf) → Collect D F → ⊥) → (answer C).face ≡ (numbered D.face fresh).shown
any_end_printed v c w n = c.printed ∙ sym (same_numbered (one_end v w n c.way c.no_more))

-- Collects from there go on to an end.
pub goes_on : {C : Conf} → Valid C → (c : Collected C) → {D : Conf} → Collects C D
    → (E : Conf) × Collects D E × ((F : Conf) → Collect E F → ⊥)
goes_on v c w =
    let k = descent diamond v (way c.way) (normal c.no_more) (way w) in
    (k.end, unway k.way, λ F q. no_more (compatible (valid_on (valid_on v (way w)) k.way) k.equal (col q)))
  where
    unway : {A B : Conf} {M : List Label} → Steps Collecting A M B → Collects A B
    unway done = Collected.done
    unway (more (col q) u) = Collected.more q (unway u)

    valid_on : {A B : Conf} {M : List Label} → Valid A → Steps Collecting A M B → Valid B
    valid_on g done = g
    valid_on g (more s u) = valid_on (kept g s) u

    no_more : {F : Conf} {l : Label} → Reach ◌≈◌ Collecting c.end l F → ⊥
    no_more r = normal c.no_more _ r.state r.made
