-- What the test of all rules finds, and of a whole table.
use Rattle.std.specs.Prelude.{ℕ, ◌+◌, ◌<◌, ◌≤◌, ◌≡◌, refl, Bool, true, false, not, ◌&&◌, List, [], ◌∷◌, ◌++◌, length, get_or, leb}
use Rattle.std.proofs.Common.{sym, ap, ◌∙◌, append-nil, append_assoc, arith, add-one, le-leb, leb-true}
use borrow.Author.Tests.{not-true}
use Rattle.parts.specs.Limits.{symbols_max, rules_max}
use Rattle.model.specs.Table.{Entry, none, find}
use Rattle.texts.specs.Bytes.{any}
use Rattle.texts.specs.Books.{Agent}
use Rattle.texts.specs.Coded.{Table, table_of}
use Rattle.texts.specs.TableTest.{test_agents, pair_test, test_template, test_templates, test_table}
use Rattle.texts.proofs.Beneath.Tools.{both, pair}
use Rattle.texts.proofs.Beneath.BookSound.{sound_table_lem}
use Rattle.texts.proofs.Beneath.Exact.{test_sound}
use Rattle.texts.proofs.Beneath.Clauses.{clauses_of}
use Rattle.table.specs.Lists.{tab, each}
use Rattle.table.specs.Layout.{agents_in, rules_in, rule_row, entry_of, entry_at, view, bytes_of, table_bytes}
use Rattle.table.specs.Put.{only_agents, with_rule}
use Rattle.table_test.specs.Whole.{rule_new, RulesWait}
use Rattle.table.specs.Given.{Given}
use Rattle.table.specs.Laws.Lists.{tab-snoc, length-tab}
use Rattle.table.specs.Laws.Finding.{found-any, none_found}
use Rattle.table.specs.Laws.Whole.{FitAgents, rules_in_lem, agents_back, tested-agents, tested-fits, view-bytes}
use Rattle.table.specs.Laws.Passing.{Passed, passed_none, passed_more, each-passed, each-false, and_assoc, and_true}

-- A rule after those that are written: r is its row.
pub rule_test : (w r : List ℕ) (rs : List Entry)
    → rule_new w r rs ≡ (test_template (agents_in w) (entry_of (agents_in w) r) && not (any (pair_test (get_or r 0 0) (get_or r 1 0)) rs))
unfolding rule_new
rule_test w r rs = refl

-- Both symbols of a rule that passes are declared.
declared-both : (w r : List ℕ) → test_template (agents_in w) (entry_of (agents_in w) r) ≡ true → (get_or r 0 0 < length (agents_in w)) × (get_or r 1 0 < length (agents_in w))
unfolding entry_of
declared-both w r h = let c = clauses_of (agents_in w) (entry_of (agents_in w) r) h in (c.left_symbol, c.right_symbol)

pub rule-symbols : (w r : List ℕ) (a : Bool) → FitAgents (agents_in w) → a ≡ test_template (agents_in w) (entry_of (agents_in w) r) → a ≡ true
    → (get_or r 0 0 < symbols_max) × (get_or r 1 0 < symbols_max)
rule-symbols w r a f ea e = let d = declared-both w r (sym ea ∙ e) in (omega (arith, d.0, f.few), omega (arith, d.1, f.few))

-- Each rule after those before it: the test at each number.
abbrev pub Ruled : List ℕ → ℕ → Bool
Ruled w k = rule_new w (rule_row w k) (tab k (entry_at w))

templates_snoc : (ags : List Agent) (seen es : List Entry) (e : Entry) → test_templates ags seen (es ++ (e ∷ []))
    ≡ (test_templates ags seen es && (test_template ags e && not (any (pair_test e.left e.right) (seen ++ es))))
unfolding test_templates
templates_snoc ags seen [] e = rw (append-nil seen) (and_true (test_template ags e && not (any (pair_test e.left e.right) seen)))
templates_snoc ags seen (d ∷ es) e =
    ap (λ t. test_template ags d && not (any (pair_test d.left d.right) seen) && t) (templates_snoc ags (seen ++ (d ∷ [])) es e ∙ rw (append_assoc seen (d ∷ []) es))
    ∙ sym (and_assoc (test_template ags d && not (any (pair_test d.left d.right) seen)) (test_templates ags (seen ++ (d ∷ [])) es)
    (test_template ags e && not (any (pair_test e.left e.right) (seen ++ (d ∷ es)))))

templates_each : (w : List ℕ) (n : ℕ) → test_templates (agents_in w) [] (tab n (entry_at w)) ≡ each n (Ruled w)
unfolding test_templates tab each rule_new entry_of
templates_each w ℕ.zero = refl
templates_each w (ℕ.suc n) =
    ap (test_templates (agents_in w) []) (tab-snoc n (entry_at w))
    ∙ (templates_snoc (agents_in w) [] (tab n (entry_at w)) (entry_at w n) ∙ ap (λ t. t && Ruled w n) (templates_each w n))

rules-are : (w : List ℕ) (n : ℕ) → n ≡ rules_in w → test_templates (agents_in w) [] (view w).rules ≡ each n (Ruled w)
unfolding view
rules-are w n e = templates_each w (rules_in w) ∙ ap (λ i. each i (Ruled w)) (sym e)

-- The first k rules have passed, and are written into the copy.
abbrev Part : List ℕ → ℕ → Table
Part w k = record { agents = agents_in w; rules = tab k (entry_at w) }

pub record Ruling (w o : List ℕ) (n k : ℕ) : Type 0 where
  pub passed : Passed (Ruled w) n k
  pub made : o ≡ bytes_of (record { agents = agents_in w; rules = tab k (entry_at w) })

pub ruling_none : (w o : List ℕ) (n : ℕ) → RulesWait w o → Ruling w o n 0
unfolding tab
ruling_none w o n f = record { passed = passed_none (Ruled w) n; made = f.copied }

no_truth : {A : Type 0} → false ≡ true → A
no_truth e = absurd (let z : ◌≡◌ {A = ℕ} 0 1 = cc in omega arith)

-- r is the row of the next rule, and b whether it passes.
module _ (w o₀ o r : List ℕ) (n k : ℕ) (f : RulesWait w o₀) (en : n ≡ rules_in w) (g : Ruling w o n k) (h : k < n) (er : r ≡ rule_row w k) (b : Bool)
    (eb : (t : Table) → o ≡ bytes_of t → b ≡ rule_new w r t.rules) where
  answer : b ≡ Ruled w k
  answer = eb (Part w k) g.made ∙ ap (λ l. rule_new w l (tab k (entry_at w))) er

  pub ruling_not : (p : List ℕ) → b ≡ false → (false ≡ test_templates (agents_in w) [] (view w).rules) × (false ≡ true → p ≡ bytes_of (view w))
  ruling_not p e = (sym (rules-are w n en ∙ each-false (Ruled w) n k h (sym answer ∙ e)), no_truth)

  module _ (e : b ≡ true) where
    passes : (test_template (agents_in w) (entry_of (agents_in w) r) ≡ true) × (not (any (pair_test (get_or r 0 0) (get_or r 1 0)) (tab k (entry_at w))) ≡ true)
    unfolding rule_new
    passes = both (test_template (agents_in w) (entry_of (agents_in w) r)) (not (any (pair_test (get_or r 0 0) (get_or r 1 0)) (tab k (entry_at w)))) (sym (eb (Part w k) g.made) ∙ e)

    fresh : find (tab k (entry_at w)) 0 (get_or r 0 0) (get_or r 1 0) ≡ none
    fresh = none_found (find (tab k (entry_at w)) 0 (get_or r 0 0) (get_or r 1 0)) (sym (found-any (tab k (entry_at w)) 0 (get_or r 0 0) (get_or r 1 0)) ∙ not-true _ passes.1)

    pub ruling_room : (length (agents_in o) ≤ symbols_max) × (rules_in o < rules_max) × (get_or r 0 0 < symbols_max) × (get_or r 1 0 < symbols_max)
    ruling_room =
        let a : length (agents_in o) ≡ length (agents_in w) = ap (λ l. length (agents_in l)) g.made ∙ ap length (agents_back (Part w k) f.fit) in
        let m : rules_in o ≡ k = ap rules_in g.made ∙ (rules_in_lem (Part w k) ∙ length-tab k (entry_at w)) in
        let s = rule-symbols w r true f.fit (sym passes.0) refl in
        (omega (arith, a, f.fit.few), omega (arith, m, h, en, f.few), s.0, s.1)

    pub ruling_more : (p : List ℕ)
        → ((t : Table) → o ≡ bytes_of t → FitAgents t.agents → find t.rules 0 (get_or r 0 0) (get_or r 1 0) ≡ none → p ≡ bytes_of (with_rule (entry_of t.agents r) t))
        → Ruling w p n (k + 1)
    ruling_more p put = record {
      passed = passed_more (Ruled w) n k g.passed h (sym answer ∙ e);
      made =
          put (Part w k) g.made f.fit fresh
          ∙ ap (λ l. bytes_of (record { agents = agents_in w; rules = l }))
          (ap (λ q. tab k (entry_at w) ++ (entry_of (agents_in w) q ∷ [])) er ∙ (sym (tab-snoc k (entry_at w)) ∙ ap (λ i. tab i (entry_at w)) (sym (add-one k))));
    }

pub ruling_end : (w o : List ℕ) (n k : ℕ) → n ≡ rules_in w → Ruling w o n k → n ≤ k
    → (true ≡ test_templates (agents_in w) [] (view w).rules) × (true ≡ true → o ≡ bytes_of (view w))
unfolding view
ruling_end w o n k en g h =
    let z : k ≡ rules_in w = omega (arith, g.passed.within) in
    (sym (rules-are w n en ∙ each-passed (Ruled w) n k g.passed h), λ e. g.made ∙ ap (λ i. bytes_of (record { agents = agents_in w; rules = tab i (entry_at w) })) z)

-- A table that a rule text gives passes, and its bytes are those of its view; and back.
given-tested : (w : List ℕ) → Given w → (test_table (view w) ≡ true) × (w ≡ bytes_of (view w))
unfolding table_bytes
given-tested w g =
    let t : test_table (table_of g.0) ≡ true = (test_sound (table_of g.0)).1 ((sound_table_lem (table_of g.0)).1 (g.0, g.1, refl)) in
    let v : view w ≡ table_of g.0 = ap view g.2 ∙ view-bytes (table_of g.0) (tested-fits (table_of g.0) t) in
    (ap test_table v ∙ t, g.2 ∙ ap bytes_of (sym v))

tested-given : (w : List ℕ) → test_table (view w) ≡ true → w ≡ bytes_of (view w) → Given w
unfolding table_bytes
tested-given w h e =
    let p = (sound_table_lem (view w)).0 ((test_sound (view w)).0 h) in
    (p.0, p.1, e ∙ ap bytes_of (sym p.2))

-- The parts of the test of a table.
parts : (w : List ℕ) → test_table (view w) ≡ true
    → (length (agents_in w) ≤ symbols_max) × (rules_in w ≤ rules_max) × (test_agents [] (agents_in w) ≡ true) × (test_templates (agents_in w) [] (view w).rules ≡ true)
unfolding test_table view
parts w h =
    let p = both _ (test_templates (agents_in w) [] (tab (rules_in w) (entry_at w))) h in
    let q = both _ (test_agents [] (agents_in w)) p.0 in
    let s = both (leb (length (agents_in w)) symbols_max) (leb (length (tab (rules_in w) (entry_at w))) rules_max) q.0 in
    (leb-true _ _ s.0, omega (arith, leb-true (length (tab (rules_in w) (entry_at w))) rules_max s.1, length-tab (rules_in w) (entry_at w)), q.1, p.1)

whole : (w : List ℕ) → length (agents_in w) ≤ symbols_max → rules_in w ≤ rules_max → test_agents [] (agents_in w) ≡ true
    → test_templates (agents_in w) [] (view w).rules ≡ true → test_table (view w) ≡ true
unfolding test_table view
whole w a b c d =
    pair (leb (length (agents_in w)) symbols_max && leb (length (tab (rules_in w) (entry_at w))) rules_max && test_agents [] (agents_in w)) (test_templates (agents_in w) [] (tab (rules_in w) (entry_at w)))
    (pair (leb (length (agents_in w)) symbols_max && leb (length (tab (rules_in w) (entry_at w))) rules_max) (test_agents [] (agents_in w))
    (pair (leb (length (agents_in w)) symbols_max) (leb (length (tab (rules_in w) (entry_at w))) rules_max) (le-leb _ _ a)
    (le-leb (length (tab (rules_in w) (entry_at w))) rules_max (omega (arith, length-tab (rules_in w) (entry_at w), b)))) c) d

abbrev pub Told : List ℕ → Bool → Type 0
Told w r = (r ≡ true → Given w) × (Given w → r ≡ true)

pub many-symbols : (w : List ℕ) (n m : ℕ) → m ≡ length (agents_in w) → n ≡ m → symbols_max < n → Told w false
many-symbols w n m em en h = (no_truth, λ g. absurd (let p = parts w (given-tested w g).0 in omega (arith, p.0)))

pub many-rules : (w : List ℕ) (n : ℕ) → n ≡ rules_in w → rules_max < n → Told w false
many-rules w n en h = (no_truth, λ g. absurd (let p = parts w (given-tested w g).0 in omega (arith, p.1)))

pub bad-agents : (w : List ℕ) (t : Bool) → t ≡ test_agents [] (agents_in w) → t ≡ false → Told w false
bad-agents w t et e = (no_truth, λ g. sym e ∙ (et ∙ (parts w (given-tested w g).0).2))

pub bad-rules : (w : List ℕ) (t : Bool) → t ≡ test_templates (agents_in w) [] (view w).rules → t ≡ false → Told w t
bad-rules w t et e = (λ h. no_truth (sym e ∙ h), λ g. et ∙ (parts w (given-tested w g).0).3)

pub all_told : (w o : List ℕ) (n m k : ℕ) (a b t : Bool) → m ≡ length (agents_in w) → n ≡ m → n ≤ symbols_max → k ≡ rules_in w → k ≤ rules_max
    → a ≡ test_agents [] (agents_in w) → a ≡ true → b ≡ test_templates (agents_in w) [] (view w).rules → b ≡ true → (b ≡ true → o ≡ bytes_of (view w))
    → (t ≡ true → w ≡ o) → (w ≡ o → t ≡ true) → Told w t
all_told w o n m k a b t em en hn ek hk ea ya eb yb made to from = (
  λ e. tested-given w (whole w (omega (arith, em, en, hn)) (omega (arith, ek, hk)) (sym ea ∙ ya) (sym eb ∙ yb)) (to e ∙ made yb),
  λ g. from ((given-tested w g).1 ∙ sym (made yb)),
)

pub ruling_below : (w o : List ℕ) (n k : ℕ) → RulesWait w o → n ≡ rules_in w → k < n → k < rules_max
ruling_below w o n k f en h = omega (arith, f.few)

-- What the calls of the whole test ask for; n is the count of symbols as it was read, m the same in another width, k the count of rules.
pub rules_wait : (w o : List ℕ) (n m k : ℕ) (a : Bool) → m ≡ length (agents_in w) → n ≡ m → n ≤ symbols_max → a ≡ test_agents [] (agents_in w) → a ≡ true
    → k ≡ rules_in w → k ≤ rules_max → o ≡ bytes_of (only_agents (agents_in w)) → RulesWait w o
rules_wait w o n m k a em en h ea e ek hk eo =
    record { fit = record { few = omega (arith, em, en, h); good = tested-agents [] (agents_in w) (sym ea ∙ e) }; few = omega (arith, ek, hk); copied = eo }
