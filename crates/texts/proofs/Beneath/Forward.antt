-- A sound table passes the test.
use Rattle.std.specs.Prelude.{suc, ◌+◌, ◌≤◌, ◌≡◌, Bool, ◌&&◌, ◌||◌, ltb}
use Rattle.std.proofs.Math.Path.{refl, sym, ap}
use Rattle.std.proofs.Common.{◌∙◌, arith}
use Rattle.std.proofs.Math.Bool.{true, false, not}
use mathlib.Core.List.Memᴰ
use mathlib.Core.List.{List, [], ◌∷◌, ◌++◌, map, map-append, append_assoc}
use Rattle.std.proofs.Math.ListN.{length}
use Rattle.std.proofs.lemmas.List.{length-map}
use Rattle.std.proofs.Math.Dec.{eqb}
use borrow.Author.Tests.{eqb-true, eq-eqb, le-leb, ltb-false}
use Rattle.parts.specs.Limits.{symbols_max, rules_max}
use Rattle.texts.specs.Bytes.{any, all, same, In}
use Rattle.texts.specs.Books.{Agent, Rule, Book, is_agent, is_rule, add, head_of, args_of, new_names_of}
use Rattle.texts.specs.RuleText.{big_record, big_book, fault5, fault9, same_pair}
use Rattle.texts.specs.Coded.{symbol_of, second_from, new_from, template, table_of, arity_at}
use Rattle.texts.proofs.Beneath.Tools.{pair, neither, same_eq}
use Rattle.texts.proofs.Beneath.BookSound.{good-sound, agent-good, rule-good}
use Rattle.texts.proofs.Beneath.Clauses.{to_standing, tested}
use Rattle.texts.proofs.Beneath.Agents.{agents-tested}
use Rattle.texts.proofs.Beneath.Templates.{template-cells, right_args}
use Rattle.texts.proofs.Beneath.TableSound.{rule-few, templates_sound}
use Rattle.texts.proofs.Beneath.PairTable.{symbol_same, pair-table}
use Rattle.texts.specs.TableTest.{pair_test, turns_to, is_two_sided, test_template, test_templates, test_table}
use Rattle.texts.proofs.Beneath.Ranged.{walk-passes, numbered-passes, codes_pass, first_arity, second-arity}
use Rattle.texts.proofs.Beneath.Selves.{codes_back}
use Rattle.texts.specs.Good.{GoodBook}

module _ (b : Book) (g : GoodBook b) where
  heads-are : (r : Rule) → ((template b.agents r).left ≡ symbol_of b.agents (head_of r.first)) × ((template b.agents r).right ≡ symbol_of b.agents (head_of r.second))
      × ((template b.agents r).fresh ≡ length (new_names_of b.agents r))
  unfolding template
  heads-are r = (refl, refl, refl)

  self_pass : (r : Rule) → In r b.rules → (not (eqb (template b.agents r).left (template b.agents r).right) || is_two_sided (template b.agents r)) ≡ true
  unfolding is_two_sided
  self_pass r m = go (eqb (template b.agents r).left (template b.agents r).right) refl
    where
      go : (t : Bool) → eqb (template b.agents r).left (template b.agents r).right ≡ t
          → (not t || (eqb (length (template b.agents r).cells) 0 && eqb (template b.agents r).fresh 0
          && all (λ e. any (turns_to e) (template b.agents r).body) (template b.agents r).body)) ≡ true
      go false e = refl
      go true e =
          let sb = good-sound b g in
          let s = sb.rules_sound r m in
          let z = heads-are r in
          let q' : (template b.agents r).left ≡ (template b.agents r).right = eqb-true (template b.agents r).left (template b.agents r).right e in
          let q : symbol_of b.agents (head_of r.first) ≡ symbol_of b.agents (head_of r.second) = sym z.0 ∙ (q' ∙ z.1) in
          let w : same (head_of r.first) (head_of r.second) ≡ true = sym (symbol_same b.agents (head_of r.first) (head_of r.second) s.named.first_agent s.named.second_agent) ∙ eq-eqb _ _ q in
          let y = sb.self_rules r m (same_eq _ _ w) in
          let even : length (args_of r.first) ≡ length (args_of r.second) = first_arity b.agents r s ∙ (ap (arity_at b.agents) q' ∙ sym (second-arity b.agents r s)) in
          pair (eqb (length (template b.agents r).cells) 0 && eqb (template b.agents r).fresh 0) _
          (pair (eqb (length (template b.agents r).cells) 0) _
          (eq-eqb _ _ (template-cells b.agents r (right_args b.agents r s) ∙ ap length y.no_cells))
          (eq-eqb _ _ (z.2 ∙ ap length y.no_new)))
          (codes_back b.agents r s y.no_cells y.no_new (rule-few b g r m) even ∙ y.back)

  template_pass : (r : Rule) → In r b.rules → test_template b.agents (template b.agents r) ≡ true
  template_pass r m =
      let s = (good-sound b g).rules_sound r m in
      let h = templates_sound b g r m in
      let few = rule-few b g r m in
      tested b.agents (template b.agents r)
      (record {
        left_symbol = h.left_symbol;
        right_symbol = h.right_symbol;
        few_equations = h.few_equations;
        few_cells = h.few_cells;
        few_names = h.few_names;
        cells_ok = h.cells_ok;
        codes_ok = codes_pass b.agents r s few;
        left_once = to_standing 1 _ 0 _ (λ i l. let z : 0 + i ≡ i = omega arith in rw z (h.left i l));
        right_once = to_standing 1 _ second_from _ h.right;
        new_twice = to_standing 2 _ new_from _ h.new;
        walked = walk-passes b.agents r s;
        in_order = numbered-passes b.agents r s few;
        self = self_pass r m;
      })

  pair_pass : (xs : List Rule) (r : Rule) → ((q : Rule) → In q xs → In q b.rules) → In r b.rules → any (same_pair r) xs ≡ false
      → not (any (pair_test (template b.agents r).left (template b.agents r).right) (map (template b.agents) xs)) ≡ true
  unfolding template
  pair_pass xs r h m k =
      let sb = good-sound b g in
      let s = sb.rules_sound r m in
      ap not (pair-table b.agents r xs s.named.first_agent s.named.second_agent (λ q n. sb.rules_sound q (h q n)) ∙ k)

  none_before : (xs : List Rule) (r : Rule) → fault9 (record { agents = b.agents; rules = xs }) (is_rule r) ≡ false → any (same_pair r) xs ≡ false
  unfolding fault9
  none_before xs r h = h

  templates_pass : (ys xs : List Rule) → b.rules ≡ xs ++ ys → test_templates b.agents (map (template b.agents) xs) (map (template b.agents) ys) ≡ true
  unfolding test_templates
  templates_pass [] xs e = refl
  templates_pass (r ∷ ys) xs e =
      let m : In r b.rules = rw e (Memᴰ.append_right xs (Memᴰ.head refl)) in
      let h = rule-good b g xs ys r e in
      let i : test_templates b.agents (map (template b.agents) (xs ++ (r ∷ []))) (map (template b.agents) ys) ≡ true = templates_pass ys (xs ++ (r ∷ [])) (e ∙ sym (append_assoc xs (r ∷ []) ys)) in
      pair _ _ (pair _ _ (template_pass r m) (pair_pass xs r (λ q n. rw e (Memᴰ.append_left (r ∷ ys) n)) m (none_before xs r h.no9)))
      (rw (map-append (template b.agents) xs (r ∷ [])) at i)

  -- the last record of a list, where there is one
  last_of : {A : Type 0} (x : A) (xs : List A) → (us : List A) × (y : A) × (x ∷ xs ≡ us ++ (y ∷ []))
  last_of x [] = ([], x, refl)
  last_of x (z ∷ zs) = let p = last_of z zs in (x ∷ p.0, p.1, ap (λ l. x ∷ l) p.2)

  agent-room : (xs : List Agent) (a : Agent) → fault5 (record { agents = xs; rules = [] }) (is_agent a) ≡ false → length (xs ++ (a ∷ [])) ≤ symbols_max
  unfolding fault5 big_book add
  agent-room xs a h =
      let p = neither (big_record xs (is_agent a)) _ h in
      ltb-false symbols_max (length (xs ++ (a ∷ []))) (neither (ltb symbols_max (length (xs ++ (a ∷ [])))) (ltb rules_max (length {A = Rule} [])) p.1).0

  rule-room : (xs : List Rule) (r : Rule) → fault5 (record { agents = b.agents; rules = xs }) (is_rule r) ≡ false → length (xs ++ (r ∷ [])) ≤ rules_max
  unfolding fault5 big_book add
  rule-room xs r h =
      let p = neither (big_record b.agents (is_rule r)) _ h in
      ltb-false rules_max (length (xs ++ (r ∷ []))) (neither (ltb symbols_max (length b.agents)) (ltb rules_max (length (xs ++ (r ∷ [])))) p.1).1

  last_agent : (xs : List Agent) → b.agents ≡ xs → length xs ≤ symbols_max
  last_agent [] e = omega arith
  last_agent (x ∷ xs) e =
      let p = last_of x xs in
      let z : suc (length xs) ≡ length (p.0 ++ (p.1 ∷ [])) = ap length p.2 in
      let y = agent-room p.0 p.1 (agent-good b g p.0 [] p.1 (e ∙ p.2)).no5 in
      omega (arith, z, y)

  last_rule : (xs : List Rule) → b.rules ≡ xs → length xs ≤ rules_max
  last_rule [] e = omega arith
  last_rule (x ∷ xs) e =
      let p = last_of x xs in
      let z : suc (length xs) ≡ length (p.0 ++ (p.1 ∷ [])) = ap length p.2 in
      let y = rule-room p.0 p.1 (rule-good b g p.0 [] p.1 (e ∙ p.2)).no5 in
      omega (arith, z, y)

  sizes_pass : (length b.agents ≤ symbols_max) × (length b.rules ≤ rules_max)
  sizes_pass = (last_agent b.agents refl, last_rule b.rules refl)

  pub table_pass : test_table (table_of b) ≡ true
  unfolding test_table table_of
  table_pass =
      pair _ _ (pair _ _ (pair _ _
      (le-leb _ _ sizes_pass.0)
      (le-leb (length (map (template b.agents) b.rules)) rules_max (rw (length-map b.rules (template b.agents)) sizes_pass.1)))
      (agents-tested b g))
      (templates_pass b.rules [] refl)
