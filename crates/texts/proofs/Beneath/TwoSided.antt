-- Number 10 exactly: a rule has it where it is one of a symbol with itself and does not read the same from both sides.
use Rattle.std.specs.Prelude.{suc, ◌≡◌, refl, Bool, true, false, cond, ◌&&◌, ◌||◌, ◌↔◌, ◌⊎◌, List, [], ◌∷◌, ◌++◌, length, eqb}
use Rattle.std.proofs.Math.Path.{sym, ap₂}
use Rattle.std.proofs.Common.{ap, subst, ◌∙◌, inr, arith}
use Rattle.std.proofs.Math.Bool.{or-true}
use Rattle.std.proofs.Math.Logic.{inl, ⊎_elim}
use mathlib.Core.List.Memᴰ
use Rattle.texts.specs.Bytes.{Word, any, same, among, index_of, In, Distinct}
use Rattle.texts.specs.Terms.{Term, term, nil, count}
use Rattle.texts.specs.Books.{Agent, Rule, Equation, Book, Record, is_agent, is_rule, declared, sides, lefts, rights, head_of, args_of, left_args, cells_of, new_names_of}
use Rattle.texts.specs.RuleText.{Wire, wire_of, same_wire, word_at, mirror, mirrored, one_sided, fault10}
use Rattle.texts.specs.Coded.{packed, symbol_of, arity_at, template}
use Rattle.texts.specs.Conditions.{OfRule, Argued, WellNamed, Across, here, there, Opposite, Paired, BothWays, TwoSided}
use Rattle.texts.proofs.Beneath.Tools.{never, both, same_refl, same_eq, any-true, any_in, all_true, true_all, in_among}
use Rattle.texts.proofs.Beneath.Places.{same_not, distinct_left, distinct_right}
use Rattle.texts.proofs.Beneath.Linear.{bare, bares, no_terms, line-bare}
use Rattle.texts.proofs.Beneath.Templates.{right_args}
use Rattle.texts.specs.RuleSound.{SoundRule}
use Rattle.texts.proofs.Beneath.Ranged.{first_arity, second-arity}
use Rattle.texts.proofs.Beneath.Mirror.{Arg, mirror_first, mirror-second, turns, back_is, into_is}
use Rattle.texts.proofs.Beneath.Selves.{wired, names-only}
use Rattle.texts.proofs.Beneath.BookSound.{Symmetric, symmetric_of, of_symmetric}

-- At the same place.
across-turn : {xs ys : List Word} {x y : Word} → Across xs ys x y → Across ys xs y x
across-turn here = here
across-turn (there a) = there (across-turn a)

across_in : {xs ys : List Word} {x y : Word} → Across xs ys x y → In x xs
across_in here = Memᴰ.head refl
across_in (there a) = Memᴰ.tail (across_in a)

across_at : {xs ys : List Word} {x y : Word} → Across xs ys x y → Distinct xs → word_at (index_of x xs) ys ≡ y
unfolding word_at index_of Distinct
across_at (here {x}) d = rw (same_refl x)
across_at (there {v} {w} {x} a) (n, d) = rw (same_not x v (λ e. n (rw e at (across_in a)))) (across_at a d)

at_across : (xs ys : List Word) (w : Word) → length xs ≡ length ys → among w xs ≡ true → Across xs ys w (word_at (index_of w xs) ys)
unfolding word_at index_of among any
at_across [] ys w e h = never h
at_across (v ∷ xs) [] w e h = absurd (omega arith)
at_across (v ∷ xs) (u ∷ ys) w e h = go (same w v) refl h (at_across xs ys w (omega arith))
  where
    go : (t : Bool) → same w v ≡ t → (t || among w xs) ≡ true → (among w xs ≡ true → Across xs ys w (word_at (index_of w xs) ys))
        → Across (v ∷ xs) (u ∷ ys) w (word_at (cond t 0 (suc (index_of w xs))) (u ∷ ys))
    go true z k ih = rw (same_eq w v z) here
    go false z k ih = there (ih k)

opposite_turn : (r : Rule) {x y : Word} → Opposite r x y → Opposite r y x
opposite_turn r (inl a) = inr (across-turn a)
opposite_turn r (inr a) = inl (across-turn a)

-- What stands opposite is what the test takes for it.
module _ (r : Rule) (different : Distinct (left_args r)) (even : length (args_of r.first) ≡ length (args_of r.second)) where
  abbrev other : Word → Word
  other w = mirror (args_of r.first) (args_of r.second) w

  opposite_other : {x y : Word} → Opposite r x y → other x ≡ y
  unfolding left_args
  opposite_other {x} (inl a) =
      mirror_first r different even x (in_among x _ (across_in a)) ∙ across_at a (distinct_left (args_of r.first) (args_of r.second) different)
  opposite_other {x} (inr a) =
      mirror-second r different even x (in_among x _ (across_in a)) ∙ across_at a (distinct_right (args_of r.first) (args_of r.second) different)

  other_opposite : (w : Word) → Arg r w → Opposite r w (other w)
  other_opposite w (inl h) = inl (rw (mirror_first r different even w h) (at_across (args_of r.first) (args_of r.second) w even h))
  other_opposite w (inr h) = inr (rw (mirror-second r different even w h) (at_across (args_of r.second) (args_of r.first) w (sym even) h))

-- Pairs.
paired-turn : (r : Rule) {x y : Word} → Paired r x y → Paired r y x
paired-turn r (inl m) = inr m
paired-turn r (inr m) = inl m

either : (t u : Bool) → (t || u) ≡ true → (t ≡ true) ⊎ (u ≡ true)
either true u h = inl refl
either false u h = inr h

wires_same : (u v : Wire) → same_wire u v ≡ true → ((v.one ≡ u.one) × (v.other ≡ u.other)) ⊎ ((v.one ≡ u.other) × (v.other ≡ u.one))
unfolding same_wire
wires_same u v h =
    ⊎_elim
    (λ k. let p = both (same u.one v.one) (same u.other v.other) k in inl (sym (same_eq _ _ p.0), sym (same_eq _ _ p.1)))
    (λ k. let p = both (same u.one v.other) (same u.other v.one) k in inr (sym (same_eq _ _ p.1), sym (same_eq _ _ p.0)))
    (either _ _ h)

-- A name stands alone.
bare-name : (ags : List Agent) (t : Term) → bare ags t ≡ true → declared ags (head_of t) ≡ false → t ≡ term (head_of t) nil
unfolding bare head_of
bare-name ags (term w ts) h k =
    let p = both (declared ags w || eqb (count ts) 0) (bares ags ts) h in
    ap (term w) (no_terms ts (rw k at p.0))

sides-bare : (ags : List Agent) (e : Equation) (es : List Equation) → In e es → bares ags (packed (sides es)) ≡ true
    → (bare ags e.left ≡ true) × (bare ags e.right ≡ true)
unfolding sides packed bare
sides-bare ags e [] m h = absurd (Memᴰ.not-nil m)
sides-bare ags e (d ∷ es) m h =
    let p = both (bare ags d.left) _ h in
    let q = both (bare ags d.right) _ p.1 in
    ⊎_elim (λ z. rw z (p.0, q.0)) (λ k. sides-bare ags e es k q.1) (Memᴰ.cases_cons m)

module _ (ags : List Agent) (r : Rule) (s : SoundRule ags r) (no_cells : cells_of ags (rights r) ≡ []) (no_new : new_names_of ags r ≡ [])
    (even : length (args_of r.first) ≡ length (args_of r.second)) where
  paired_of : (e : Equation) → In e r.right → Paired r (head_of e.left) (head_of e.right)
  unfolding rights
  paired_of e m =
      let n = names-only ags r s no_cells no_new e m in
      let b = sides-bare ags e r.right m (line-bare ags (rights r) (right_args ags r s)) in
      let z : e ≡ record { left = term (head_of e.left) nil; right = term (head_of e.right) nil } =
      equation_is e (bare-name ags e.left b.0 n.0) (bare-name ags e.right b.1 n.1) in
      inl (subst (λ (d : Equation). In d r.right) z m)
    where
      equation_is : (e : Equation) {s t : Term} → e.left ≡ s → e.right ≡ t → e ≡ record { left = s; right = t }
      equation_is e p q = ap₂ (λ (a b : Term). record { left = a; right = b }) p q

  -- the test sees that each pair goes to a pair
  module _ (h : turns r r.right ≡ true) (x y x' y' : Word) (a : Opposite r x x') (b : Opposite r y y') where
    goes : In (record { left = term x nil; right = term y nil }) r.right → Paired r x' y'
    unfolding mirrored wire_of head_of
    goes m =
        let e : Equation = record { left = term x nil; right = term y nil } in
        let d = any-true (λ d. same_wire (mirrored r (wire_of e)) (wire_of d)) r.right (all_true _ e r.right h m) in
        let p = paired_of d.0 d.1 in
        ⊎_elim
        (λ q. rw (q.0 ∙ opposite_other r s.named.distinct even a, q.1 ∙ opposite_other r s.named.distinct even b) at p)
        (λ q. paired-turn r (rw (q.0 ∙ opposite_other r s.named.distinct even b, q.1 ∙ opposite_other r s.named.distinct even a) at p))
        (wires_same (mirrored r (wire_of e)) (wire_of d.0) d.2)

  pairs_go : turns r r.right ≡ true → (x y x' y' : Word) → Opposite r x x' → Opposite r y y' → Paired r x y → Paired r x' y'
  pairs_go h x y x' y' a b (inl m) = goes h x y x' y' a b m
  pairs_go h x y x' y' a b (inr m) = paired-turn r (goes h y x y' x' b a m)

  -- and where each goes to one the test sees it
  abbrev across : Word → Word
  across w = other r s.named.distinct even w

  seen : (e : Equation) → Paired r (across (head_of e.left)) (across (head_of e.right))
      → any (λ d. same_wire (mirrored r (wire_of e)) (wire_of d)) r.right ≡ true
  unfolding same_wire mirrored wire_of head_of
  seen e (inl m) =
      any_in (λ d. same_wire (mirrored r (wire_of e)) (wire_of d)) _ r.right m
      (rw (same_refl (across (head_of e.left)), same_refl (across (head_of e.right))))
  seen e (inr m) =
      let x = across (head_of e.left) in
      let y = across (head_of e.right) in
      any_in (λ d. same_wire (mirrored r (wire_of e)) (wire_of d)) _ r.right m (rw (same_refl x, same_refl y) (or-true (same x y && same y x)))

  pairs-turn : ((x y x' y' : Word) → Opposite r x x' → Opposite r y y' → Paired r x y ↔ Paired r x' y') → turns r r.right ≡ true
  pairs-turn h =
      true_all _ r.right
      (λ e m. let w = wired ags r s no_cells no_new e m in
      let o = other_opposite r s.named.distinct even in
      seen e ((h _ _ _ _ (o (head_of e.left) w.0) (o (head_of e.right) w.1)).0 (paired_of e m)))

module _ (ags : List Agent) (r : Rule) (s : SoundRule ags r) (e : head_of r.first ≡ head_of r.second) where
  -- as many arguments on either side
  even : length (args_of r.first) ≡ length (args_of r.second)
  unfolding template
  even = first_arity ags r s ∙ (ap (λ (w : Word). arity_at ags (symbol_of ags w)) e ∙ sym (second-arity ags r s))

  both_ways : Symmetric ags r → BothWays ags r
  both_ways y =
      let w = wired ags r s y.no_cells y.no_new in
      let h : turns r r.right ≡ true = sym (back_is r s.named.distinct even r.right w) ∙ y.back in
      let go = pairs_go ags r s y.no_cells y.no_new even h in
      record {
        no_agents = y.no_cells;
        no_new = y.no_new;
        unchanged = λ x z x' z' a b. (go x z x' z' a b, go x' z' x z (opposite_turn r a) (opposite_turn r b));
      }

  symmetric : BothWays ags r → Symmetric ags r
  symmetric y =
      let w = wired ags r s y.no_agents y.no_new in
      let h = pairs-turn ags r s y.no_agents y.no_new even y.unchanged in
      record {
        no_cells = y.no_agents;
        no_new = y.no_new;
        into = into_is r s.named.distinct even r.right w ∙ h;
        back = back_is r s.named.distinct even r.right w ∙ h;
      }

pub fault10-exact : (b : Book) (r : Record) → OfRule (λ q. Argued b.agents (lefts q ++ rights q)) r → OfRule (WellNamed b.agents) r
    → (fault10 b r ≡ false) ↔ OfRule (TwoSided b.agents) r
unfolding OfRule fault10
fault10-exact b (is_agent a) h k = (λ p. tt, λ p. refl)
fault10-exact b (is_rule r) h k = (λ p e. both_ways b.agents r s e (symmetric_of b r p e), λ p. go p (same (head_of r.first) (head_of r.second)) refl)
  where
    s : SoundRule b.agents r
    s = record { arities = h; named = k }

    go : (head_of r.first ≡ head_of r.second → BothWays b.agents r)
        → (t : Bool) → same (head_of r.first) (head_of r.second) ≡ t → (t && one_sided b.agents r) ≡ false
    go p true z = let e = same_eq (head_of r.first) (head_of r.second) z in of_symmetric b.agents r (symmetric b.agents r s e (p e))
    go p false z = refl
