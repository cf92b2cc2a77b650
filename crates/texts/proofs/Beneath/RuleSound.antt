-- Numbers 7 and 8 exactly: a record has neither where it meets the conditions of document 01, and only there.
use Rattle.std.specs.Prelude.{ℕ, Bool, cond, ◌||◌, ◌↔◌, List, [], ◌∷◌, ◌++◌, eqb}
use Rattle.std.proofs.Math.Path.{◌≡◌, refl}
use Rattle.std.proofs.Common.{sym, ◌∙◌}
use Rattle.std.proofs.Math.Bool.{true, false, not}
use Rattle.std.proofs.Math.Logic.{⊎_elim}
use mathlib.Core.List.Memᴰ
use borrow.Author.Tests.{eqb-true, eq-eqb, not-false, not-true}
use Rattle.texts.specs.Bytes.{Word, any, all, among, times, In, Distinct}
use Rattle.texts.specs.Terms.{Term, nodes}
use Rattle.texts.specs.Books.{Agent, Rule, Book, Record, is_agent, is_rule, declared, takes, names_of, lefts, rights, head_of, args_of, left_args}
use Rattle.texts.specs.RuleText.{fault7, fault8, wrong_args, over_names, all_different, right_times, wrong_times}
use Rattle.texts.specs.NetText.{net_fault7}
use Rattle.texts.proofs.Beneath.Tools.{never, both, neither, pair, none_of, any_false, false-any, all_true, true_all, among_in, in_among}
use Rattle.texts.specs.Conditions.{OfRule, Argued, WellNamed}
use Rattle.texts.specs.RuleSound.{SoundRule}

-- 7, of some terms.
pub args-exact : (ags : List Agent) (ts : List Term) → (any (wrong_args ags) (nodes ts) ≡ false) ↔ Argued ags ts
unfolding wrong_args
args-exact ags ts = (
  λ h n m. eqb-true n.args (takes ags n.word) (not-false _ (any_false (wrong_args ags) n (nodes ts) h m)),
  λ k. false-any (wrong_args ags) (nodes ts) (λ n m. rw (eq-eqb n.args (takes ags n.word) (k n m))),
)

pub fault7-exact : (b : Book) (r : Record) → (fault7 b r ≡ false) ↔ OfRule (λ q. Argued b.agents (lefts q ++ rights q)) r
unfolding fault7 OfRule
fault7-exact b (is_agent a) = (λ h. tt, λ h. refl)
fault7-exact b (is_rule r) = args-exact b.agents (lefts r ++ rights r)

pub net_fault7-exact : (ags : List Agent) (ts : List Term) → (net_fault7 ags ts ≡ false) ↔ Argued ags ts
unfolding net_fault7
net_fault7-exact = args-exact

-- All different.
distinct_of : (ws : List Word) → all_different ws ≡ true → Distinct ws
unfolding all_different Distinct
distinct_of [] h = tt
distinct_of (w ∷ ws) h =
    let p = both (not (among w ws)) (all_different ws) h in
    (λ m. never (sym (not-true (among w ws) p.0) ∙ in_among w ws m), distinct_of ws p.1)

not_among : (w : Word) (ws : List Word) → ¬ In w ws → among w ws ≡ false
not_among w ws h = go (among w ws) refl
  where
    go : (t : Bool) → among w ws ≡ t → t ≡ false
    go true e = absurd (h (among_in w ws e))
    go false e = refl

pub of_distinct : (ws : List Word) → Distinct ws → all_different ws ≡ true
unfolding all_different Distinct
of_distinct [] d = refl
of_distinct (w ∷ ws) (n, d) = rw (not_among w ws n) (of_distinct ws d)

-- 8: what the test finds nothing wrong with is well named,
module _ (b : Book) (r : Rule) (no8 : fault8 b (is_rule r) ≡ false) where
  parts8 : (all (over_names b.agents) (lefts r) ≡ true) × (all_different (left_args r) ≡ true)
      × (any (wrong_times b.agents r) (left_args r ++ names_of b.agents (rights r)) ≡ false)
  unfolding fault8
  parts8 =
      let p = neither (not (all (over_names b.agents) (lefts r)) || not (all_different (left_args r))) _ no8 in
      let q = neither (not (all (over_names b.agents) (lefts r))) (not (all_different (left_args r))) p.0 in
      (not-false _ q.0, not-false _ q.1, p.1)

  parts_left : (over_names b.agents r.first ≡ true) × (over_names b.agents r.second ≡ true)
  unfolding all lefts
  parts_left =
      let p = both (over_names b.agents r.first) _ parts8.0 in
      (p.0, (both (over_names b.agents r.second) true p.1).0)

  times-are : (w : Word) → In w (left_args r ++ names_of b.agents (rights r)) → times w (names_of b.agents (rights r)) ≡ right_times r w
  unfolding wrong_times
  times-are w m =
      eqb-true _ _ (not-false _ (any_false (wrong_times b.agents r) w (left_args r ++ names_of b.agents (rights r)) parts8.2 m))

  arg_names : (w : Word) → In w (left_args r) → declared b.agents w ≡ false
  unfolding left_args over_names
  arg_names w m =
      let p = both (declared b.agents (head_of r.first)) _ parts_left.0 in
      let q = both (declared b.agents (head_of r.second)) _ parts_left.1 in
      let h : not (declared b.agents w) ≡ true = ⊎_elim
      (λ k. all_true (λ v. not (declared b.agents v)) w (args_of r.first) p.1 k)
      (λ k. all_true (λ v. not (declared b.agents v)) w (args_of r.second) q.1 k)
      (Memᴰ.append_cases (args_of r.first) m) in
      not-true (declared b.agents w) h

  times-once : (w : Word) → In w (left_args r) → times w (names_of b.agents (rights r)) ≡ 1
  unfolding right_times
  times-once w m = times-are w (Memᴰ.append_left _ m) ∙ rw (in_among w (left_args r) m)

  times-twice : (w : Word) → In w (names_of b.agents (rights r)) → ¬ In w (left_args r) → times w (names_of b.agents (rights r)) ≡ 2
  unfolding right_times
  times-twice w m k = times-are w (Memᴰ.append_right (left_args r) m) ∙ go (among w (left_args r)) refl
    where
      go : (t : Bool) → among w (left_args r) ≡ t → ◌≡◌ {A = ℕ} (cond t 1 2) 2
      go true e = absurd (k (among_in w (left_args r) e))
      go false e = refl

  well-named : WellNamed b.agents r
  unfolding over_names
  well-named = record {
    first_agent = (both (declared b.agents (head_of r.first)) _ parts_left.0).0;
    second_agent = (both (declared b.agents (head_of r.second)) _ parts_left.1).0;
    names = arg_names;
    distinct = distinct_of (left_args r) parts8.1;
    once = times-once;
    twice = times-twice;
  }

-- and in what is well named the test finds nothing wrong.
module _ (b : Book) (r : Rule) (s : WellNamed b.agents r) where
  over : (t : Term) → declared b.agents (head_of t) ≡ true → ((w : Word) → In w (args_of t) → In w (left_args r)) → over_names b.agents t ≡ true
  unfolding over_names
  over t h k = pair (declared b.agents (head_of t)) _ h (true_all _ (args_of t) (λ w m. rw (s.names w (k w m))))

  over-lefts : all (over_names b.agents) (lefts r) ≡ true
  unfolding all lefts left_args
  over-lefts =
      pair (over_names b.agents r.first) _ (over r.first s.first_agent (λ w m. Memᴰ.append_left (args_of r.second) m))
      (pair (over_names b.agents r.second) true (over r.second s.second_agent (λ w m. Memᴰ.append_right (args_of r.first) m)) refl)

  right_times_lem : (w : Word) → In w (left_args r ++ names_of b.agents (rights r)) → wrong_times b.agents r w ≡ false
  unfolding wrong_times right_times
  right_times_lem w m = go (among w (left_args r)) refl
    where
      go : (t : Bool) → among w (left_args r) ≡ t → not (eqb (times w (names_of b.agents (rights r))) (cond t 1 2)) ≡ false
      go true e = rw (eq-eqb _ 1 (s.once w (among_in w (left_args r) e)))
      go false e =
          let k : ¬ In w (left_args r) = λ j. never (sym e ∙ in_among w (left_args r) j) in
          rw (eq-eqb _ 2 (s.twice w (⊎_elim (λ j. absurd (k j)) (λ j. j) (Memᴰ.append_cases (left_args r) m)) k))

  no_fault8 : fault8 b (is_rule r) ≡ false
  unfolding fault8
  no_fault8 =
      none_of _ _
      (none_of (not (all (over_names b.agents) (lefts r))) (not (all_different (left_args r))) (rw over-lefts) (rw (of_distinct (left_args r) s.distinct)))
      (false-any (wrong_times b.agents r) (left_args r ++ names_of b.agents (rights r)) right_times_lem)

pub fault8-exact : (b : Book) (r : Record) → (fault8 b r ≡ false) ↔ OfRule (WellNamed b.agents) r
unfolding OfRule fault8
fault8-exact b (is_agent a) = (λ h. tt, λ h. refl)
fault8-exact b (is_rule r) = (well-named b r, no_fault8 b r)

pub faults_sound : (b : Book) (r : Rule) → fault7 b (is_rule r) ≡ false → fault8 b (is_rule r) ≡ false → SoundRule b.agents r
unfolding OfRule
faults_sound b r h k = record { arities = (fault7-exact b (is_rule r)).0 h; named = (fault8-exact b (is_rule r)).0 k }
