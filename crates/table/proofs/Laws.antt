-- What the readers of a lent table find.
use Rattle.std.specs.Prelude.{ℕ, suc, ◌+◌, ◌*◌, ◌-◌, ◌<◌, ◌≤◌, pred, ◌≡◌, List, length, get_or, take, drop, Option, Some, None, is_some, refl}
use Rattle.std.proofs.Common.{sym, ap, ◌∙◌, arith, length-drop}
use Rattle.std.proofs.Math.ListN.{length-take}
use Rattle.parts.specs.Limits.{identifier_max, symbols_max, rules_max, agent_size, rule_size, table_size}
use Rattle.parts.specs.Segments.{seg}
use Rattle.parts.specs.SegmentLaws.{seg_get}
use Rattle.model.specs.Table.{Found, none, straight, turned, find}
use Rattle.texts.specs.Books.{Agent}
use Rattle.texts.specs.Coded.{Table, arity_at}
use Rattle.texts.specs.Bytes.{any}
use Rattle.texts.specs.TableTest.{pair_test}
use Rattle.table.specs.Lists.{tab}
use Rattle.table.specs.Layout.{symbols_at, agents_at, pairs_at, rules_at, agent_row, rule_row, agent_of, agents_in, found_bytes, bytes_of}
use Rattle.table.specs.Rule.{matched}
use Rattle.table.specs.Laws.Lists.{length-tab}
use Rattle.table.specs.Laws.Finding.{is_found, found-any}
use Rattle.table.specs.Laws.Whole.{pair_at}
use Rattle.table.specs.declared.Match.{Match}
use Rattle.table.specs.declared.Match.TheVariants.{Straight, Turned}

pub agent_get : (w : List ℕ) (s j : ℕ) → j < agent_size → get_or w (agents_at + agent_size * s + j) 0 ≡ get_or (agent_row w s) j 0
agent_get w s j h = sym (seg_get (agents_at + agent_size * s) agent_size w j h)

pub rule_get : (w : List ℕ) (k j : ℕ) → j < rule_size → get_or w (rules_at + rule_size * k + j) 0 ≡ get_or (rule_row w k) j 0
rule_get w k j h = sym (seg_get (rules_at + rule_size * k) rule_size w j h)

arity-tab : (n : ℕ) (f : ℕ → Agent) (s : ℕ) → s < n → arity_at (tab n f) s ≡ (f s).arity
unfolding arity_at tab
arity-tab ℕ.zero f s h = absurd (omega arith)
arity-tab (ℕ.suc n) f ℕ.zero h = refl
arity-tab (ℕ.suc n) f (ℕ.suc s) h = arity-tab n (λ k. f (suc k)) s (omega arith)

arity-past : (n : ℕ) (f : ℕ → Agent) (s : ℕ) → n ≤ s → arity_at (tab n f) s ≡ 0
unfolding arity_at tab
arity-past ℕ.zero f s h = refl
arity-past (ℕ.suc n) f ℕ.zero h = absurd (omega arith)
arity-past (ℕ.suc n) f (ℕ.suc s) h = arity-past n (λ k. f (suc k)) s (omega arith)

pub arity_none : (w : List ℕ) (n s : ℕ) → n ≡ length (agents_in w) → n ≤ s → 0 ≡ arity_at (agents_in w) s
unfolding agents_in
arity_none w n s e h =
    sym (arity-past (get_or w symbols_at 0) (λ k. agent_of (agent_row w k)) s (omega (arith, e, length-tab (get_or w symbols_at 0) (λ k. agent_of (agent_row w k)))))

pub arity_is : (w : List ℕ) (n s b r : ℕ) → n ≡ length (agents_in w) → s < n → b ≡ get_or (agent_row w s) identifier_max 0 → r ≡ pred b
    → r ≡ arity_at (agents_in w) s
unfolding agents_in agent_of
arity_is w n s b r e h eb er =
    er ∙ (ap pred eb
    ∙ sym (arity-tab (get_or w symbols_at 0) (λ k. agent_of (agent_row w k)) s (omega (arith, e, length-tab (get_or w symbols_at 0) (λ k. agent_of (agent_row w k))))))

-- What the index of pairs says is what is found.
way_none : (f : Found) → get_or (found_bytes f) 1 0 ≡ 0 → None ≡ matched f
way_none none h = refl
way_none (straight i e) h = absurd (omega arith)
way_none (turned i e) h = absurd (omega arith)

way_straight : (f : Found) → get_or (found_bytes f) 1 0 ≡ 1 → Some (Straight (get_or (found_bytes f) 0 0)) ≡ matched f
way_straight none h = absurd (omega arith)
way_straight (straight i e) h = refl
way_straight (turned i e) h = absurd (omega arith)

way_turned : (f : Found) → (get_or (found_bytes f) 1 0 ≡ 0 → ⊥) → (get_or (found_bytes f) 1 0 ≡ 1 → ⊥) → Some (Turned (get_or (found_bytes f) 0 0)) ≡ matched f
way_turned none h k = absurd (h refl)
way_turned (straight i e) h k = absurd (k refl)
way_turned (turned i e) h k = refl

-- The three answers of a look-up.
module _ (w : List ℕ) (a b : ℕ) (ha : a < symbols_max) (hb : b < symbols_max) where
  abbrev pub At : ℕ → ℕ
  At j = get_or w (pairs_at + (2 * (symbols_max * a + b) + j)) 0

  pub found_none : At 1 ≡ 0 → (t : Table) → w ≡ bytes_of t → None ≡ matched (find t.rules 0 a b)
  found_none h t e =
      let q = pair_at t a b 1 ha hb (omega arith) in
      way_none (find t.rules 0 a b) (sym q ∙ rw e at h)

  pub found-straight : (n : ℕ) → n ≡ At 0 → At 1 ≡ 1 → (t : Table) → w ≡ bytes_of t → Some (Straight n) ≡ matched (find t.rules 0 a b)
  found-straight n m h t e =
      let p = pair_at t a b 0 ha hb (omega arith) in
      let q = pair_at t a b 1 ha hb (omega arith) in
      ap (λ v. Some (Straight v)) (m ∙ (ap (λ l. get_or l (pairs_at + (2 * (symbols_max * a + b) + 0)) 0) e ∙ p)) ∙ way_straight (find t.rules 0 a b) (sym q ∙ rw e at h)

  pub found-turned : (n : ℕ) → n ≡ At 0 → (At 1 ≡ 0 → ⊥) → (At 1 ≡ 1 → ⊥) → (t : Table) → w ≡ bytes_of t → Some (Turned n) ≡ matched (find t.rules 0 a b)
  found-turned n m h k t e =
      let p = pair_at t a b 0 ha hb (omega arith) in
      let q = pair_at t a b 1 ha hb (omega arith) in
      let v = ap (λ l. get_or l (pairs_at + (2 * (symbols_max * a + b) + 1)) 0) e in
      ap (λ v. Some (Turned v)) (m ∙ (ap (λ l. get_or l (pairs_at + (2 * (symbols_max * a + b) + 0)) 0) e ∙ p))
      ∙ way_turned (find t.rules 0 a b) (λ z. h (v ∙ (q ∙ z))) (λ z. k (v ∙ (q ∙ z)))

-- The row of a rule, cut out; n is the number of the rule in another width.
pub row_cut : (w : List ℕ) (k n : ℕ) → n ≡ k → length w ≡ table_size → k < rules_max
    → (take (rules_at + rule_size * n + rule_size - (rules_at + rule_size * n)) (drop (rules_at + rule_size * n) w) ≡ rule_row w k)
    × (length (take (rules_at + rule_size * n + rule_size - (rules_at + rule_size * n)) (drop (rules_at + rule_size * n) w)) ≡ rule_size)
unfolding seg
row_cut w k n e h q =
    let z : rules_at + rule_size * n + rule_size - (rules_at + rule_size * n) ≡ rule_size = omega arith in
    let r : take (rules_at + rule_size * n + rule_size - (rules_at + rule_size * n)) (drop (rules_at + rule_size * n) w) ≡ rule_row w k = rw z (ap (λ m. take rule_size (drop (rules_at + rule_size * m) w)) e) in
    (r, ap length r ∙ (length-take rule_size (drop (rules_at + rule_size * k) w) ∙ omega (arith, length-drop (rules_at + rule_size * k) w)))

-- A look-up says whether the pair has a rule.
found_is : (f : Found) → is_some (matched f) ≡ is_found f
found_is none = refl
found_is (straight i e) = refl
found_is (turned i e) = refl

pub has_found : (w : List ℕ) (a b : ℕ) (m : Option Match) → ((t : Table) → w ≡ bytes_of t → m ≡ matched (find t.rules 0 a b))
    → (t : Table) → w ≡ bytes_of t → is_some m ≡ any (pair_test a b) t.rules
has_found w a b m look t e = ap is_some (look t e) ∙ (found_is (find t.rules 0 a b) ∙ sym (found-any t.rules 0 a b))
