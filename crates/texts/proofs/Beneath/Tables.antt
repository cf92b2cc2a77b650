-- The machine's sound tables, with properly spelt and different symbols, are those that pass the test.
use Prim.Native.Nat.{ℕ, zero, suc, ◌<◌, ◌≤◌}
use Rattle.std.specs.Prelude.{◌≡◌, Bool, false, ◌&&◌, ◌||◌, ◌⊎◌, get_or, eqb, leb}
use Rattle.std.proofs.Math.Path.{refl, sym, subst}
use Rattle.std.proofs.Common.{ap, ◌∙◌, arith}
use Rattle.std.proofs.Math.Bool.{true, not}
use Rattle.std.proofs.Math.Logic.{inl, inr, ⊎_elim}
use mathlib.Core.List.Memᴰ
use mathlib.Core.List.{List, [], ◌∷◌, ◌++◌, map, map-append, append_assoc}
use Rattle.std.proofs.Math.Decide.{dec_lt}
use Rattle.std.proofs.Math.ListN.{length, length-append, length-map, get_or-append}
use Rattle.std.proofs.Math.Seq.{get_or-append_seam}
use borrow.Author.Tests.{eqb-true, eq-eqb, leb-true, le-leb, not-true}
use Rattle.parts.specs.Limits.{identifier_max, arity_max, symbols_max, rules_max}
use Rattle.calculus.specs.Calculus.{Rule, SamePair}
use Rattle.model.specs.Table.{Entry, arity, no_entry}
use Rattle.model.specs.Table as Model
use Rattle.model.specs.SoundTable.{SoundEntry}
use Rattle.model.specs.Sound as Machine
use Rattle.model.specs.SoundTable as SoundTable
use Rattle.texts.specs.Bytes.{Word, any, all, same, In, Distinct}
use Rattle.texts.specs.Terms.{symbol}
use Rattle.texts.specs.Books.{Agent, declared}
use Rattle.texts.specs.Coded.{Table, machine, arity_at}
use Rattle.texts.specs.TableTest.{agent_ok, test_agents, pair_test, test_template, test_templates, test_table}
use Rattle.texts.proofs.Beneath.Tools.{never, all_true, both, pair, none_of, neither, any_false, false-any, same_eq}
use Rattle.texts.proofs.Beneath.Agents.{symbols, agents-apart, ok_parts, few-args}
use Rattle.texts.proofs.Beneath.Entries.{rule, entry-sound, entry-tested}
use Rattle.texts.specs.Conditions.{SpeltAgents}

-- The arities of the machine's table.
pub arity_is : (ags : List Agent) (s : ℕ) → get_or (map (λ a. a.arity) ags) s 0 ≡ arity_at ags s
unfolding arity_at
arity_is [] s = refl
arity_is (a ∷ ags) zero = refl
arity_is (a ∷ ags) (suc s) = arity_is ags s

-- Agents: the test, and what it says.
declared_in : (seen : List Agent) (w : Word) → declared seen w ≡ true → In w (symbols seen)
unfolding declared any
declared_in [] w h = never h
declared_in (a ∷ seen) w h = go (same w a.symbol) refl h (declared_in seen w)
  where
    go : (t : Bool) → same w a.symbol ≡ t → (t || declared seen w) ≡ true → (declared seen w ≡ true → In w (symbols seen)) → In w (symbols (a ∷ seen))
    go true e k ih = Memᴰ.head (same_eq w a.symbol e)
    go false e k ih = Memᴰ.tail (ih k)

declared_not : (w : Word) (seen : List Agent) → ¬ In w (map (λ a. a.symbol) seen) → declared seen w ≡ false
unfolding declared
declared_not w seen h = go (declared seen w) refl
  where
    go : (t : Bool) → declared seen w ≡ t → t ≡ false
    go true e = absurd (h (declared_in seen w e))
    go false e = refl

tested-agents : (bs seen : List Agent) → ((a : Agent) → In a bs → agent_ok a ≡ true) → Distinct (symbols bs)
    → ((w : Word) → In w (symbols bs) → ¬ In w (symbols seen)) → test_agents seen bs ≡ true
unfolding test_agents Distinct
tested-agents [] seen h d k = refl
tested-agents (a ∷ bs) seen h (n, d) k =
    pair (agent_ok a && not (declared seen a.symbol)) _
    (pair (agent_ok a) _ (h a (Memᴰ.head refl)) (ap not (declared_not a.symbol seen (k a.symbol (Memᴰ.head refl)))))
    (tested-agents bs (seen ++ (a ∷ [])) (λ b m. h b (Memᴰ.tail m)) d
    (λ w m i. ⊎_elim (λ j. k w (Memᴰ.tail m) j)
    (λ j. ⊎_elim (λ e. n (Memᴰ.cast (sym e) m)) (λ o. absurd (Memᴰ.not-nil o)) (Memᴰ.cases_cons j))
    (Memᴰ.append_cases (symbols seen) (rw (map-append (λ c. c.symbol) seen (a ∷ [])) at i))))

agent_ok_lem : (a : Agent) → symbol a.symbol ≡ true → length a.symbol ≤ identifier_max → a.arity ≤ arity_max → agent_ok a ≡ true
unfolding agent_ok
agent_ok_lem a h k l =
    pair (symbol a.symbol && leb (length a.symbol) identifier_max) _ (pair (symbol a.symbol) _ h (le-leb _ _ k)) (le-leb _ _ l)

arity_at_lem : (ags : List Agent) (a : Agent) → In a ags → (s : ℕ) × (arity_at ags s ≡ a.arity)
unfolding arity_at
arity_at_lem [] a m = absurd (Memᴰ.not-nil m)
arity_at_lem (b ∷ ags) a m = ⊎_elim (λ e. (0, ap (λ c. c.arity) (sym e))) (λ k. let p = arity_at_lem ags a k in (suc p.0, p.1)) (Memᴰ.cases_cons m)

agents-spelt : (ags : List Agent) → test_agents [] ags ≡ true → SpeltAgents ags
agents-spelt ags h =
    let p = agents-apart ags [] h in
    record { spelt = λ a m. let q = ok_parts a (all_true agent_ok a ags p.0 m) in (q.0, q.1); different = p.1 }

spelt-agents : (ags : List Agent) → SpeltAgents ags → ((n : ℕ) → arity_at ags n ≤ arity_max) → test_agents [] ags ≡ true
spelt-agents ags s f =
    tested-agents ags [] (λ a m. let p = s.spelt a m in let q = arity_at_lem ags a m in agent_ok_lem a p.0 p.1 (subst (λ n. n ≤ arity_max) q.1 (f q.0)))
    s.different (λ w m i. Memᴰ.not-nil i)

-- Rules by their numbers.
in_place : (x : Entry) (xs : List Entry) → In x xs → (i : ℕ) × (i < length xs) × (get_or xs i no_entry ≡ x)
in_place x [] m = absurd (Memᴰ.not-nil m)
in_place x (y ∷ xs) m =
    ⊎_elim (λ e. (0, omega arith, sym e)) (λ k. let p = in_place x xs k in let l = p.1 in (suc p.0, omega (arith, l), p.2)) (Memᴰ.cases_cons m)

place_in : (xs : List Entry) (i : ℕ) → i < length xs → In (get_or xs i no_entry) xs
place_in [] i h = absurd (omega (arith, h))
place_in (x ∷ xs) zero h = Memᴰ.head refl
place_in (x ∷ xs) (suc i) h = Memᴰ.tail (place_in xs i (omega (arith, h)))

-- Two rules of one pair of symbols, whichever is which.
abbrev OnePair : Entry → Entry → Type 0
OnePair d e = ((d.left ≡ e.left) × (d.right ≡ e.right)) ⊎ ((d.left ≡ e.right) × (d.right ≡ e.left))

one_pair : (d e : Entry) → pair_test d.left d.right e ≡ false → ¬ OnePair d e
unfolding pair_test
one_pair d e h (inl p) = never (sym (neither (eqb d.left e.left && eqb d.right e.right) _ h).0 ∙ pair _ _ (eq-eqb _ _ p.0) (eq-eqb _ _ p.1))
one_pair d e h (inr p) = never (sym (neither (eqb d.left e.left && eqb d.right e.right) _ h).1 ∙ pair _ _ (eq-eqb _ _ p.0) (eq-eqb _ _ p.1))

pair_one : (d e : Entry) → ¬ OnePair d e → pair_test d.left d.right e ≡ false
unfolding pair_test
pair_one d e h =
    none_of (eqb d.left e.left && eqb d.right e.right) _ (go (eqb d.left e.left) (eqb d.right e.right) refl refl (λ p. h (inl p)))
    (go (eqb d.left e.right) (eqb d.right e.left) refl refl (λ p. h (inr p)))
  where
    go : {k l m n : ℕ} (t u : Bool) → eqb k l ≡ t → eqb m n ≡ u → ¬ ((k ≡ l) × (m ≡ n)) → (t && u) ≡ false
    go {k} {l} {m} {n} true true e f z = absurd (z (eqb-true k l e, eqb-true m n f))
    go true false e f z = refl
    go false u e f z = refl

module _ (ags : List Agent) where
  templates_each : (es seen : List Entry) → test_templates ags seen es ≡ true → all (test_template ags) es ≡ true
  unfolding test_templates all
  templates_each [] seen h = refl
  templates_each (e ∷ es) seen h =
      let p = both (test_template ags e && not (any (pair_test e.left e.right) seen)) _ h in
      pair (test_template ags e) _ (both (test_template ags e) _ p.0).0 (templates_each es (seen ++ (e ∷ [])) p.1)

  -- a rule is of another pair than those seen before it
  seen_apart : (es seen : List Entry) → test_templates ags seen es ≡ true → (d : Entry) → In d seen → (e : Entry) → In e es → ¬ OnePair e d
  unfolding test_templates
  seen_apart [] seen h d m e k = absurd (Memᴰ.not-nil k)
  seen_apart (f ∷ es) seen h d m e k =
      let p = both (test_template ags f && not (any (pair_test f.left f.right) seen)) _ h in
      let q = both (test_template ags f) (not (any (pair_test f.left f.right) seen)) p.0 in
      ⊎_elim (λ z. rw z (one_pair f d (any_false (pair_test f.left f.right) d seen (not-true _ q.1) m)))
      (λ j. seen_apart es (seen ++ (f ∷ [])) p.1 d (Memᴰ.append_left (f ∷ []) m) e j) (Memᴰ.cases_cons k)

  apart : (es seen : List Entry) → test_templates ags seen es ≡ true → (i j : ℕ) → i < j → j < length es → ¬ OnePair (get_or es j no_entry) (get_or es i no_entry)
  unfolding test_templates
  apart [] seen h i j l m = absurd (omega (arith, m))
  apart (e ∷ es) seen h i zero l m = absurd (omega (arith, l))
  apart (e ∷ es) seen h zero (suc j) l m =
      let p = both (test_template ags e && not (any (pair_test e.left e.right) seen)) _ h in
      seen_apart es (seen ++ (e ∷ [])) p.1 e (Memᴰ.append_right seen (Memᴰ.head refl)) (get_or es j no_entry) (place_in es j (omega (arith, m)))
  apart (e ∷ es) seen h (suc i) (suc j) l m =
      let p = both (test_template ags e && not (any (pair_test e.left e.right) seen)) _ h in
      apart es (seen ++ (e ∷ [])) p.1 i j (omega (arith, l)) (omega (arith, m))

  tested_templates : (es seen : List Entry) → ((e : Entry) → In e es → test_template ags e ≡ true)
      → ((i j : ℕ) → i < j → j < length (seen ++ es) → ¬ OnePair (get_or (seen ++ es) j no_entry) (get_or (seen ++ es) i no_entry))
      → test_templates ags seen es ≡ true
  unfolding test_templates
  tested_templates [] seen h k = refl
  tested_templates (e ∷ es) seen h k =
      pair (test_template ags e && not (any (pair_test e.left e.right) seen)) _
      (pair (test_template ags e) _ (h e (Memᴰ.head refl)) (ap not (false-any (pair_test e.left e.right) seen (λ d m. pair_one e d (before d m)))))
      (tested_templates es (seen ++ (e ∷ [])) (λ d m. h d (Memᴰ.tail m)) (rw (append_assoc seen (e ∷ []) es) k))
    where
      before : (d : Entry) → In d seen → ¬ OnePair e d
      before d m q =
          let p = in_place d seen m in
          let l = p.1 in
          let z = length-append seen (e ∷ es) in
          k p.0 (length seen) l (omega (arith, z))
          (subst (λ f. OnePair f (get_or (seen ++ (e ∷ es)) p.0 no_entry)) (sym (get_or-append_seam seen e es no_entry))
          (subst (OnePair e) (sym (get_or-append seen (e ∷ es) no_entry p.0 l ∙ p.2)) q))

-- The rules of the calculus, by number.
no_rule : Rule
no_rule = record { left = 0; right = 0; xs = []; ys = []; new = []; body = [] }

module _ (ags : List Agent) (few : (n : ℕ) → arity_at ags n ≤ arity_max) (T : Model.Table) (many : length T.arities ≡ length ags)
    (arities : (s : ℕ) → arity T s ≡ arity_at ags s) where
  rules : (es : List Entry) → all (test_template ags) es ≡ true → ℕ → Rule
  unfolding all
  rules [] h i = no_rule
  rules (e ∷ es) h zero = rule ags few T many arities e (both (test_template ags e) _ h).0
  rules (e ∷ es) h (suc i) = rules es (both (test_template ags e) _ h).1 i

  rules_sound : (es : List Entry) (h : all (test_template ags) es ≡ true) (i : ℕ) → i < length es → SoundEntry T (get_or es i no_entry) (rules es h i)
  unfolding all rules
  rules_sound [] h i l = absurd (omega (arith, l))
  rules_sound (e ∷ es) h zero l = entry-sound ags few T many arities e (both (test_template ags e) _ h).0
  rules_sound (e ∷ es) h (suc i) l = rules_sound es (both (test_template ags e) _ h).1 i (omega (arith, l))

module _ (t : Table) where
  abbrev ags : List Agent
  ags = t.agents

  lengths : (length (machine t).arities ≡ length ags) × ((s : ℕ) → arity (machine t) s ≡ arity_at ags s) × ((machine t).rules ≡ t.rules)
  unfolding machine
  lengths = (length-map ags (λ a. a.arity), arity_is ags, refl)

  pub test_machine : test_table t ≡ true → SpeltAgents ags × SoundTable.SoundTable (machine t)
  unfolding test_table machine
  test_machine h =
      let p = both _ (test_templates ags [] t.rules) h in
      let q = both _ (test_agents [] ags) p.0 in
      let s = both (leb (length ags) symbols_max) (leb (length t.rules) rules_max) q.0 in
      let each = templates_each ags t.rules [] p.1 in
      let few = few-args ags q.1 in
      let m = length-map ags (λ a. a.arity) in
      let sound = rules_sound ags (few-args ags q.1) (machine t) m (arity_is ags) t.rules each in (
        agents-spelt ags q.1,
        record {
          few_symbols = let l = leb-true (length ags) symbols_max s.0 in omega (arith, l, m);
          few_rules = leb-true (length t.rules) rules_max s.1;
          arities = λ n. subst (λ k. k ≤ arity_max) (sym (arity_is ags n)) (few-args ags q.1 n);
          rule = rules ags (few-args ags q.1) (machine t) m (arity_is ags) t.rules each;
          entries = sound;
          single = λ i j k l same. one i j k l (sound i k) (sound j l) same p.1;
        },
      )
    where
      one : (i j : ℕ) → i < length t.rules → j < length t.rules → {r u : Rule} → SoundEntry (machine t) (get_or t.rules i no_entry) r
          → SoundEntry (machine t) (get_or t.rules j no_entry) u → SamePair r u → test_templates ags [] t.rules ≡ true → i ≡ j
      one i j k l {r} {u} a b same g = by (dec_lt i j) (dec_lt j i)
        where
          turned : SamePair r u → OnePair (get_or t.rules i no_entry) (get_or t.rules j no_entry)
          turned (inl z) = inl (sym a.means.left ∙ (z.0 ∙ b.means.left), sym a.means.right ∙ (z.1 ∙ b.means.right))
          turned (inr z) = inr (sym a.means.left ∙ (z.0 ∙ b.means.right), sym a.means.right ∙ (z.1 ∙ b.means.left))

          back : OnePair (get_or t.rules i no_entry) (get_or t.rules j no_entry) → OnePair (get_or t.rules j no_entry) (get_or t.rules i no_entry)
          back (inl z) = inl (sym z.0, sym z.1)
          back (inr z) = inr (sym z.1, sym z.0)

          by : Dec (i < j) → Dec (j < i) → i ≡ j
          by (yes x) d = absurd (apart ags t.rules [] g i j x l (back (turned same)))
          by (no x) (yes y) = absurd (apart ags t.rules [] g j i y k (turned same))
          by (no x) (no y) = omega (arith, x, y)

  pub machine_test : SpeltAgents ags → SoundTable.SoundTable (machine t) → test_table t ≡ true
  unfolding test_table machine
  machine_test s m =
      let few : (n : ℕ) → arity_at ags n ≤ arity_max = λ n. subst (λ k. k ≤ arity_max) (arity_is ags n) (m.arities n) in
      let z = length-map ags (λ a. a.arity) in
      let w = m.few_symbols in
      pair _ _ (pair _ _ (pair _ _ (le-leb _ _ (let o : length ags ≤ symbols_max = omega (arith, w, z) in o)) (le-leb _ _ m.few_rules)) (spelt-agents ags s few))
      (tested_templates ags t.rules []
      (λ e i. let p = in_place e t.rules i in
      subst (λ f. test_template ags f ≡ true) p.2 (entry-tested ags few (machine t) z (arity_is ags) (get_or t.rules p.0 no_entry) (m.rule p.0) (m.entries p.0 p.1)))
      (λ i j k l same. apart_of i j k l same))
    where
      apart_of : (i j : ℕ) → i < j → j < length t.rules → ¬ OnePair (get_or t.rules j no_entry) (get_or t.rules i no_entry)
      apart_of i j k l same =
          let a = (m.entries i (omega (arith, k, l))).means in
          let b = (m.entries j l).means in
          let e : j ≡ i = m.single j i l (omega (arith, k, l)) (pairs a b same) in
          omega (arith, k, e)
        where
          pairs : Machine.Means (machine t) (get_or t.rules i no_entry) (m.rule i) → Machine.Means (machine t) (get_or t.rules j no_entry) (m.rule j)
              → OnePair (get_or t.rules j no_entry) (get_or t.rules i no_entry) → SamePair (m.rule j) (m.rule i)
          pairs a b (inl z) = inl (b.left ∙ (z.0 ∙ sym a.left), b.right ∙ (z.1 ∙ sym a.right))
          pairs a b (inr z) = inr (b.left ∙ (z.0 ∙ sym a.right), b.right ∙ (z.1 ∙ sym a.left))
