-- An Interaction meets a Communication, and two Interactions from one configuration meet.
use Rattle.std.specs.Prelude.{◌≡◌, refl, List, [], ◌∷◌, ◌++◌, map, ◌⊎◌}
use Rattle.std.proofs.Common.{sym, ◌∙◌, ap, ap₂, subst, arith}
use Rattle.std.proofs.Math.Path.{path_j}
use Rattle.std.proofs.lemmas.List.{map-append}
use Rattle.std.proofs.Math.Logic.{inl, inr}
use Prim.Native.Nat.{ℕ, ◌+◌, ◌≤◌, ◌<◌}
use Rattle.calculus.specs.Terms.{var, node, Term, Terms, Eqn, ◌≐◌, Conf, names, eqs_names, all_names, δ, sum}
use Rattle.calculus.specs.Terms.{count, occurs, keep, swap, step, Sides, ◌∼◌, sub, sub_eqn, terms, ren}
use Rattle.calculus.specs.Calculus.{Valid, Rule, TwoSided, Proper, SamePair, Book, Sound}
use Rattle.calculus.specs.Calculus.{Communication, Interaction, Com, Int, Step, interaction}
use Rattle.calculus.specs.Nets.{◌≈◌}
use Rattle.calculus.proofs.Beneath.Diamond.{Equivalence, Meet}
use Rattle.calculus.proofs.Beneath.Perm.{Moved, perm_append_left, perm_append_right, perm_shift, perm_exchange}
use Rattle.calculus.proofs.Beneath.Sub.{Sides_equivalence, sides_inv, symbol, arguments, ≈of, back, on}
use Rattle.calculus.proofs.Beneath.Sub.{whole, heads, sub-∼, sub-eqs-sub, terms-map}
use Rattle.calculus.proofs.Beneath.Count.{δ-cases, sum-append, sum-conf, sub-eqs_ext}
use Rattle.calculus.proofs.Beneath.Count.{sub-fixed, sub-eqs-fixed, terms-agree}
use Rattle.calculus.proofs.Beneath.Rename.{≈_sym, ≈_trans, ≈-rename, ≈-equivalence, rename}
use Rattle.calculus.proofs.Beneath.Carry.{Carried, carry, above, count-above, below-above, find}
use Rattle.calculus.proofs.Beneath.Occurs.{occurs-communication, occurs-interaction}
use Rattle.calculus.proofs.Beneath.Occurs.{occurs-redex, sum_body, valid-kept}
use Rattle.calculus.proofs.Beneath.Compatible.{compatible, interaction_along, valid_same}
use Rattle.calculus.proofs.Beneath.Wiring.{eqn₁, eqn₂, communicate}
use Rattle.calculus.proofs.Beneath.Descent.{meet_at}

-- The equation that an Interaction takes away, and those that it puts.
abbrev pub redex : {r : Rule} {C D : Conf} → Interaction r C D → Eqn
redex {r} c = node r.left (terms c.σ r.xs) ≐ node r.right (terms c.σ r.ys)

abbrev pub put : {r : Rule} {C D : Conf} → Interaction r C D → List Eqn
put {r} c = map (sub_eqn c.σ) r.body

-- The same Interaction made elsewhere: where its equation waits and its names are still new.
pub interact : {B : Book} {i : ℕ} {r : Rule} → B i r
    → {C D : Conf} (c : Interaction r C D) {C' D' : Conf} {Γ : List Eqn}
    → ((z : ℕ) → 0 < count z r.new → occurs (c.name z) C' ≡ 0)
    → C'.eqs ∼ redex c ∷ Γ → D'.eqs ∼ put c ++ Γ → D'.face ≡ C'.face → Step B C' (Int i) D'
interact b c {Γ = Γ} f p q e =
    interaction
    b
    (record {
      σ = c.σ;
      name = c.name;
      chosen = c.chosen;
      choice = record { fresh = f; apart = c.choice.apart };
      Δ = Γ;
      before = p;
      after = q;
      face = e;
    })

-- An equation between two agents is none with a name.
not_name : {a b x : ℕ} {ts us : Terms} {t : Term} → Sides (node a ts ≐ node b us) (var x ≐ t) → ⊥
not_name s = elim (sides_inv s) [ inl h ↦ agent h.0 | inr h ↦ agent h.1 ]
  where
    IsName : Term → Type 0
    IsName (var x) = Unit {0}
    IsName (node a ts) = ⊥

    agent : {a x : ℕ} {ts : Terms} → ◌≡◌ {A = Term} (node a ts) (var x) → ⊥
    agent e = subst IsName (sym e) tt

module _ {B : Book} {i : ℕ} {r : Rule} {C D E : Conf} (b : B i r) (c : Interaction r C D) (d : Communication C E) where
  apart_from : {Ω : List Eqn} → c.Δ ∼ eqn₁ d ∷ eqn₂ d ∷ Ω → d.Δ ∼ redex c ∷ Ω → Meet ◌≈◌ (Step B) D (Int i) E Com
  apart_from {Ω} p q =
      meet_at
      ≈-equivalence
      (record { face = C.face; eqs = (d.t ≐ d.u) ∷ (put c ++ Ω) })
      (communicate
      d.x
      d.t
      d.u
      (step c.after (step (perm_append_left E' (put c) p) down))
      (whole _)
      (sym c.face))
      (interact
      b
      c
      (λ z k. omega (arith, occurs-communication d (c.name z), c.choice.fresh z k))
      (step d.after (step (on _ q) swap))
      (back (perm_shift E' (put c) (d.t ≐ d.u) Ω))
      (sym d.face))
    where
      E' : Equivalence Sides
      E' = Sides_equivalence

      down : put c ++ (eqn₁ d ∷ eqn₂ d ∷ Ω) ∼ eqn₁ d ∷ eqn₂ d ∷ (put c ++ Ω)
      down = step (perm_shift E' (put c) (eqn₁ d) (eqn₂ d ∷ Ω)) (on (eqn₁ d) (perm_shift E' (put c) (eqn₂ d) Ω))

  pub interaction-communication : Meet ◌≈◌ (Step B) D (Int i) E Com
  interaction-communication = elim (heads (step (back c.before) d.before)) [
    | inl h ↦ absurd (not_name h.0)
    | inr m ↦ elim (heads m.right) [
      | inl h ↦ absurd (not_name h.0)
      | inr n ↦ apart_from (step m.left (on (eqn₁ d) n.left)) (back n.right)
    ]
  ]

-- A term that stands for an argument has its names among those of the arguments.
terms_has : (σ : ℕ → Term) (xs : List ℕ) (z x : ℕ) → 0 < count z xs
    → count x (names (σ z)) ≤ count x (names (terms σ xs))
terms_has σ [] z x k = absurd (omega arith)
terms_has σ (y ∷ xs) z x k = elim (δ-cases z y) [
  | inl e ↦ omega (arith, parts, ap (λ w. count x (names (σ w))) e.0)
  | inr e ↦ omega (arith, parts, terms_has σ xs z x (omega (arith, e.1)))
]
  where
    parts : count x (names (terms σ (y ∷ xs))) ≡ count x (names (σ y)) + count x (names (terms σ xs))
    parts = sum-append (δ x) (names (σ y)) (names (terms σ xs))

positive : (n : ℕ) → (0 < n) ⊎ (n ≡ 0)
positive ℕ.zero = inr refl
positive (ℕ.suc n) = inl (omega arith)

-- Two Interactions by one rule on one equation, its sides in the same places: they differ by their new names alone.
module _ {r : Rule} {C D E : Conf} (p : Proper r) (c : Interaction r C D) (d : Interaction r C E) where
  aligned : terms c.σ r.xs ≡ terms d.σ r.xs → terms c.σ r.ys ≡ terms d.σ r.ys
      → c.Δ ∼ d.Δ → D ≈ E
  aligned ex ey q =
      record {
        names_by = m.by;
        free = λ x k. m.fixed x (omega (arith, occurs-interaction c p x));
        face =
            ap (sub ρ) c.face
            ∙ sub-fixed ρ C.face (λ x k. fixes x (omega (arith, occurs-redex c x)))
            ∙ sym d.face;
        eqs =
            step
            (sub-∼ ρ c.after)
            (step
            (≈of
            (map-append (sub_eqn ρ) (put c) c.Δ
            ∙ ap₂
            ◌++◌
            (sub-eqs-sub ρ c.σ r.body ∙ sub-eqs_ext (λ z. sub ρ (c.σ z)) d.σ r.body agree)
            (sub-eqs-fixed ρ c.Δ (λ x k. fixes x (omega (arith, occurs-redex c x))))))
            (step (perm_append_left Sides_equivalence (put d) q) (back d.after)));
      }
    where
      m : Carried r.new (all_names C) c.name d.name
      m = carry r.new c.choice d.choice

      ρ : ℕ → Term
      ρ = ren m.by.to

      fixes : (x : ℕ) → 0 < occurs x C → ρ x ≡ var x
      fixes x k = ap var (m.fixed x k)

      argument : (zs : List ℕ) → terms c.σ zs ≡ terms d.σ zs
          → ((x : ℕ) → count x (names (terms c.σ zs)) ≤ occurs x C)
          → (z : ℕ) → 0 < count z zs → sub ρ (c.σ z) ≡ d.σ z
      argument zs e h z k =
          sub-fixed ρ (c.σ z) (λ x j. fixes x (omega (arith, h x, terms_has c.σ zs z x k)))
          ∙ terms-agree c.σ d.σ zs e z k

      new : (z : ℕ) → 0 < count z r.new → sub ρ (c.σ z) ≡ d.σ z
      new z k = ap (sub ρ) (c.chosen z k) ∙ ap var (m.moved z k) ∙ sym (d.chosen z k)

      agree : (z : ℕ) → 0 < count z (eqs_names r.body) → sub ρ (c.σ z) ≡ d.σ z
      agree z k = go (positive (count z r.xs)) (positive (count z r.ys))
        where
          go : (0 < count z r.xs) ⊎ (count z r.xs ≡ 0) → (0 < count z r.ys) ⊎ (count z r.ys ≡ 0)
              → sub ρ (c.σ z) ≡ d.σ z
          go (inl h) _ = argument r.xs ex (λ x. omega (arith, occurs-redex c x)) z h
          go (inr h) (inl h') = argument r.ys ey (λ x. omega (arith, occurs-redex c x)) z h'
          go (inr h) (inr h') = new z (omega (arith, sum_body p (δ z)))

-- What stands for the names that a renaming puts for others.
across : {r : Rule} {C E : Conf} (d : Interaction r C E) (w : TwoSided r) (zs : List ℕ) {ys : List ℕ}
    → map w.by zs ≡ ys
    → terms (λ z. d.σ (w.by z)) zs ≡ terms d.σ ys
across d w zs e = terms-map d.σ w.by zs ∙ ap (terms d.σ) e

-- An Interaction by a rule that reads the same from both sides, read from the other side.
turned : {r : Rule} {C E : Conf} → r.left ≡ r.right → TwoSided r → Interaction r C E → Interaction r C E
turned {r} {C} {E} e w d =
    record {
      σ = λ z. d.σ (w.by z);
      name = λ z. d.name (w.by z);
      chosen = λ z k. d.chosen (w.by z) (w.new z k);
      choice =
          record {
            fresh = λ z k. d.choice.fresh (w.by z) (w.new z k);
            apart = λ y z j k f. w.apart y z j k (d.choice.apart (w.by y) (w.by z) (w.new y j) (w.new z k) f);
          };
      Δ = d.Δ;
      before =
          step
          d.before
          (step
          (keep Sides.turn (whole d.Δ))
          (≈of
          (ap
          (λ q. q ∷ d.Δ)
          (ap₂
          ◌≐◌
          (ap₂ node (sym e) (sym (across d w r.xs w.left)))
          (ap₂ node e (sym (across d w r.ys w.right)))))));
      after =
          step
          d.after
          (perm_append_right
          Sides_equivalence
          d.Δ
          (step (sub-∼ d.σ (back w.body)) (≈of (sub-eqs-sub d.σ (ren w.by) r.body))));
      face = d.face;
    }

-- Two Interactions by one rule on one equation.
same_rule : {r : Rule} {C D E : Conf} → Proper r → (c : Interaction r C D) (d : Interaction r C E)
    → Sides (redex c) (redex d) → c.Δ ∼ d.Δ → D ≈ E
unfolding turned
same_rule {r} p c d s q = elim (sides_inv s) [
  | inl e ↦ aligned p c d (ap arguments e.0) (ap arguments e.1) q
  | inr e ↦ let w = p.two_sided (ap symbol e.0) in
      aligned
      p
      c
      (turned (ap symbol e.0) w d)
      (ap arguments e.0 ∙ sym (across d w r.xs w.left))
      (ap arguments e.1 ∙ sym (across d w r.ys w.right))
      q
]

module _ {B : Book} (S : Sound B) where
  -- Two Interactions on one equation: they are by one rule.
  one_pair : {i j : ℕ} {r s : Rule} {C D E : Conf} → B i r → B j s → (c : Interaction r C D) (d : Interaction s C E)
      → Sides (redex c) (redex d) → c.Δ ∼ d.Δ → (i ≡ j) × (D ≈ E)
  one_pair {i} {j} {r} {s} {C} {D} {E} b b' c d h q = (one.0, all s one.1 d h q)
    where
      pair : SamePair r s
      pair = elim (sides_inv h) [
        | inl e ↦ inl (ap symbol e.0, ap symbol e.1)
        | inr e ↦ inr (ap symbol e.0, ap symbol e.1)
      ]

      one : (i ≡ j) × (r ≡ s)
      one = S.single i j r s b b' pair

      all : (s : Rule) → r ≡ s → (d : Interaction s C E) → Sides (redex c) (redex d) → c.Δ ∼ d.Δ → D ≈ E
      all s e =
          path_j
          (λ s e. (d : Interaction s C E) → Sides (redex c) (redex d) → c.Δ ∼ d.Δ → D ≈ E)
          (λ d h q. same_rule (S.proper i r b) c d h q)
          e

  -- Names that one Interaction chooses and another does not are still new after that other.
  still_new : {i : ℕ} {r s : Rule} {C D E : Conf} → B i r → (c : Interaction r C D) (d : Interaction s C E)
      → ((y z : ℕ) → 0 < count y r.new → 0 < count z s.new → c.name y ≡ d.name z → ⊥)
      → (z : ℕ) → 0 < count z s.new → occurs (d.name z) D ≡ 0
  still_new {i} {r} b c d apart z k =
      elim (positive (sum (λ w. δ (d.name z) (c.name w)) r.new)) [
        | inl h ↦ let f = find r.new c.name (d.name z) h in absurd (apart f.z z f.among k f.is)
        | inr h ↦ omega (arith, occurs-interaction c (S.proper i r b) (d.name z), d.choice.fresh z k, h)
      ]

  -- Two Interactions on two equations, with different new names.
  two_pairs : {i j : ℕ} {r s : Rule} {C D E : Conf} → B i r → B j s → (c : Interaction r C D) (d : Interaction s C E)
      → ((y z : ℕ) → 0 < count y r.new → 0 < count z s.new → c.name y ≡ d.name z → ⊥)
      → Moved Sides (redex c) (redex d) c.Δ d.Δ
      → Meet ◌≈◌ (Step B) D (Int i) E (Int j)
  two_pairs {C = C} b b' c d apart m =
      meet_at
      ≈-equivalence
      (record { face = C.face; eqs = put d ++ (put c ++ m.both) })
      (interact b' d (still_new b c d apart) (past c m.left) (whole _) (sym c.face))
      (interact
      b
      c
      (still_new b' d c (λ y z j k e. apart z y k j (sym e)))
      (past d (back m.right))
      (perm_exchange Sides_equivalence (put d) (put c) m.both)
      (sym d.face))
    where
      -- what waits after the first is put behind what it puts
      past : {r : Rule} {C D : Conf} (c : Interaction r C D) {e : Eqn} {l : List Eqn} → c.Δ ∼ e ∷ l
          → D.eqs ∼ e ∷ (put c ++ l)
      past c {e} {l} p =
          step
          c.after
          (step (perm_append_left Sides_equivalence (put c) p) (perm_shift Sides_equivalence (put c) e l))

  pub interactions-meet : {i j : ℕ} {r s : Rule} {C D E : Conf} → Valid C → B i r → B j s
      → Interaction r C D → Interaction s C E → ((i ≡ j) × (D ≈ E)) ⊎ Meet ◌≈◌ (Step B) D (Int i) E (Int j)
  unfolding interaction_along
  interactions-meet {i} {j} {r} {s} {C} {D} {E} v b b' c d =
      elim (heads (step (back c.before) d'.before)) [
        | inl h ↦ let k = one_pair b b' c d' h.0 h.1 in inl (k.0, ≈_trans k.1 E'≈E)
        | inr h ↦ let k = two_pairs b b' c d' apart h in
            let l = compatible S (valid_same (≈_sym E'≈E) (valid-kept S v (interaction b' d))) E'≈E k.second.made in
            inr
            (record {
              state = k.state;
              first = k.first;
              second = record { state = l.state; made = l.made; equal = ≈_trans l.equal k.second.equal };
            })
      ]
    where
      -- the second Interaction is first given new names that the first has not
      base : ℕ
      base = above (all_names C) + above (map c.name r.new)

      m : Carried s.new (all_names C) d.name (λ z. base + z)
      m =
          carry
          s.new
          d.choice
          (record { fresh = λ z k. count-above (all_names C) (base + z) (omega arith); apart = λ y z j k e. omega arith })

      ρ : ℕ → Term
      ρ = ren m.by.to

      unmoved : C ≈ C
      unmoved =
          record {
            names_by = m.by;
            free = λ x k. m.fixed x (omega arith);
            face = sub-fixed ρ C.face (λ x k. ap var (m.fixed x (omega (arith, sum-conf (δ x) C))));
            eqs = ≈of (sub-eqs-fixed ρ C.eqs (λ x k. ap var (m.fixed x (omega (arith, sum-conf (δ x) C)))));
          }

      E' : Conf
      E' = rename m.by.to E

      E'≈E : E' ≈ E
      E'≈E = ≈_sym (≈-rename m.by E (λ x k. m.fixed x (omega (arith, occurs-interaction d (S.proper j s b') x))))

      d' : Interaction s C E'
      d' = interaction_along unmoved d

      apart : (y z : ℕ) → 0 < count y r.new → 0 < count z s.new → c.name y ≡ m.by.to (d.name z) → ⊥
      apart y z k k' e = omega (arith, below-above c.name r.new y k, m.moved z k')
