-- The rule written out from a coded rule that passes the test has no fault.
use Rattle.std.specs.Prelude.{ℕ, ◌+◌, ◌<◌, ◌≤◌, ◌≡◌, Bool, ◌&&◌, ◌||◌, length}
use Rattle.std.proofs.Math.Path.{refl, sym, ap}
use Rattle.std.proofs.Common.{◌∙◌, inl, inr, ⊎_elim}
use Rattle.std.proofs.Math.Bool.{true, false, not}
use mathlib.Core.List.Memᴰ
use mathlib.Core.List.{List, [], ◌∷◌, ◌++◌, map}
use native.Mathlib.Omega.{arith}
use Rattle.std.proofs.Math.Dec.{eqb, ltb}
use borrow.Author.Tests.{eqb-true, le-ltb, eq-eqb}
use Rattle.parts.specs.Limits.{level_max, identifier_max, rule_equations_max, rule_cells_max, rule_names_max}
use Rattle.texts.specs.Bytes.{Word, times, any, all, same, among, In, Distinct}
use Rattle.texts.specs.Terms.{count, identifier, Node, nodes_in, nodes, worded, wordeds}
use Rattle.texts.specs.Books.{Agent, Rule, is_rule, declared, takes, lefts, rights, head_of, args_of, left_args, cells_of, names_of, new_names_of}
use Rattle.texts.specs.RuleText.{all_different, wrong_args, big_node, is_too_long, over_names, right_times, wrong_times, big_record, fault7, fault8, fault10, one_sided, within, mirrored, wire_of}
use Rattle.parts.specs.Sides.{name}
use Rattle.model.specs.Table.{Entry}
use Rattle.texts.specs.Coded.{symbol_of, second_from, new_from, rule_number, template, arity_at, unpaired}
use Rattle.texts.proofs.Beneath.Tools.{both, pair, none_of, false-any, all_true, any_append, same_eq, empty}
use Rattle.texts.proofs.Beneath.Linear.{takes-name}
use Rattle.texts.proofs.Beneath.Selves.{codes_back, into_back}
use Rattle.texts.specs.Templates.{Few}
use Rattle.texts.proofs.Beneath.Templates.{template-cells, template-count, cell_none, name-cell, name-name, tally_ext}
use Rattle.texts.proofs.Beneath.NetMeans.{nodes-append}
use Rattle.texts.specs.TableTest.{tally, all_codes, same_side, code_ok, standing, met, turns_to, is_two_sided, test_agents, test_template}
use Rattle.texts.proofs.Beneath.Clauses.{of_standing, Place, on_left, on_right, is_new, place}
use Rattle.texts.proofs.Beneath.Agents.{symbol_at}
use Rattle.texts.proofs.Beneath.Respelt.{word, word_same}
use Rattle.texts.proofs.Beneath.Renumbered.{row-length, row_in, row_none, row-distinct}
use Rattle.texts.proofs.Beneath.Backward.{clauses, few_left, small-code, good-sides, built, args_are, rights-are, met-names, heads-are, first_at, second_at, right_not, new_not, arg_code, arg_plain, arg_undeclared, new_count, code_of, template_back}
use Rattle.texts.proofs.Beneath.Backward as Back
use Rattle.texts.specs.Good.{Spelt}
use Rattle.texts.specs.RuleSound.{SoundRule}
use Rattle.texts.proofs.Beneath.RuleSound.{faults_sound, of_distinct}
use Rattle.texts.proofs.Beneath.BookSound.{of_symmetric}
use Rattle.texts.proofs.Beneath.TermLists.{unpack, unpack-length, bare_terms, bare-heads, named, met_all, among-append, nodes-unpack, worded-unpack, pairs-length, bare-any, bare-worded, two_any, distinct_append, map_in}

module _ (ags : List Agent) (t : Entry) (ha : test_agents [] ags ≡ true) (ht : test_template ags t ≡ true) where
  abbrev rule : Rule
  rule = Back.rule ags t ha ht

  abbrev xs : List Word
  xs = Back.xs ags t ha ht

  abbrev ys : List Word
  ys = Back.ys ags t ha ht

  rows : (length xs ≡ arity_at ags t.left) × (length ys ≡ arity_at ags t.right)
  rows = (row-length (arity_at ags t.left) 0, row-length (arity_at ags t.right) second_from)

  -- a test of all nodes
  all_nodes : (f : Node → Bool)
      → ((w : Word) (n : ℕ) → declared ags w ≡ true → length w ≤ identifier_max → takes ags w ≡ n → f (record { word = w; args = n; level = 1 }) ≡ false)
      → ((w : Word) → declared ags w ≡ false → length w ≤ identifier_max → f (record { word = w; args = 0; level = 2 }) ≡ false)
      → any f (nodes_in 1 (built ags t ha ht).terms) ≡ false → any f (nodes (lefts rule ++ rights rule)) ≡ false
  unfolding lefts Back.rule
  all_nodes f a b c =
      let x = symbol_at ags ha t.left (clauses ags t ha ht).left_symbol in
      let y = symbol_at ags ha t.right (clauses ags t ha ht).right_symbol in
      ap (any f) (nodes-append (lefts rule) (rights rule))
      ∙ (any_append f (nodes (lefts rule)) (nodes (rights rule))
      ∙ none_of (any f (nodes (lefts rule))) (any f (nodes (rights rule)))
      (two_any f x.0 y.0 (bare_terms xs) (bare_terms ys)
      (a x.0 (count (bare_terms xs)) x.1 x.4 (x.5 ∙ sym ((bare-heads xs).2 ∙ rows.0)))
      (a y.0 (count (bare_terms ys)) y.1 y.4 (y.5 ∙ sym ((bare-heads ys).2 ∙ rows.1)))
      (bare-any f 2 xs (λ w m. let q = arg_plain ags t ha ht w (inl m) in b w q.0 q.2))
      (bare-any f 2 ys (λ w m. let q = arg_plain ags t ha ht w (inr m) in b w q.0 q.2)))
      (ap (λ l. any f (nodes l)) (rights-are ags t ha ht) ∙ (ap (any f) (nodes-unpack (built ags t ha ht).terms) ∙ c)))

  wrong-agent : (w : Word) (n l : ℕ) → takes ags w ≡ n → wrong_args ags (record { word = w; args = n; level = l }) ≡ false
  unfolding wrong_args
  wrong-agent w n l h = rw (eq-eqb n (takes ags w) (sym h))

  big_node_lem : (w : Word) (n l : ℕ) → length w ≤ identifier_max → l ≤ level_max → big_node (record { word = w; args = n; level = l }) ≡ false
  unfolding big_node is_too_long
  big_node_lem w n l h k = none_of (ltb identifier_max (length w)) (ltb level_max l) (le-ltb identifier_max (length w) h) (le-ltb level_max l k)

  -- number 7
  right_arities : any (wrong_args ags) (nodes (lefts rule ++ rights rule)) ≡ false
  right_arities = all_nodes (wrong_args ags) (λ w n d h e. wrong-agent w n 1 e) (λ w d h. wrong-agent w 0 2 (takes-name ags w d)) ((built ags t ha ht).arities 1)

  -- number 5, of words and levels
  small-nodes : any big_node (nodes (lefts rule ++ rights rule)) ≡ false
  small-nodes =
      all_nodes big_node (λ w n d h e. big_node_lem w n 1 h (omega arith)) (λ w d h. big_node_lem w 0 2 h (omega arith))
      ((built ags t ha ht).small 1 (let z = (clauses ags t ha ht).few_cells in omega (arith, z)))

  -- number 4
  spelt_right : all worded (lefts rule ++ rights rule) ≡ true
  unfolding lefts Back.rule all worded
  spelt_right =
      let x = symbol_at ags ha t.left (clauses ags t ha ht).left_symbol in
      let y = symbol_at ags ha t.right (clauses ags t ha ht).right_symbol in
      pair (identifier x.0 && wordeds (bare_terms xs)) _ (pair (identifier x.0) _ x.3 (bare-worded xs (λ w m. (arg_plain ags t ha ht w (inl m)).1)))
      (pair (identifier y.0 && wordeds (bare_terms ys)) _ (pair (identifier y.0) _ y.3 (bare-worded ys (λ w m. (arg_plain ags t ha ht w (inr m)).1)))
      (ap (all worded) (rights-are ags t ha ht) ∙ worded-unpack (built ags t ha ht).terms (built ags t ha ht).spelt))

  right_ok : any (wrong_args ags) (nodes (rights rule)) ≡ false
  right_ok = ap (λ l. any (wrong_args ags) (nodes l)) (rights-are ags t ha ht) ∙ (ap (any (wrong_args ags)) (nodes-unpack (built ags t ha ht).terms) ∙ (built ags t ha ht).arities 1)

  equations-count : length rule.right ≡ length t.body
  unfolding Back.rule
  equations-count = pairs-length t.body (unpack (built ags t ha ht).terms) (unpack-length (built ags t ha ht).terms ∙ (built ags t ha ht).counted)

  -- number 5, of counts
  counts : (length rule.right ≤ rule_equations_max) × (length (cells_of ags (rights rule)) ≤ rule_cells_max) × (length (new_names_of ags rule) ≤ rule_names_max)
  counts =
      let e : length rule.right ≡ length t.body = equations-count in
      let c : length t.cells ≡ length (cells_of ags (rights rule)) = ap (λ u. length u.cells) (sym (template_back ags t ha ht)) ∙ template-cells ags rule right_ok in
      let x = (clauses ags t ha ht).few_equations in
      let y = (clauses ags t ha ht).few_cells in
      let z = (clauses ags t ha ht).few_names in
      let n = new_count ags t ha ht in
      (omega (arith, e, x), omega (arith, c, y), omega (arith, n, z))

  right_word : (w : Word) → In w (names_of ags (rights rule)) → (x : ℕ) × (code_ok ags t (name x) ≡ true) × (w ≡ word x)
  right_word w m =
      let p = map_in (met (unpaired t.body) t.cells) w (rw (met-names ags t ha ht) at m) in (
        p.0,
        all_true (named (code_ok ags t)) p.0 (met (unpaired t.body) t.cells) (met_all (code_ok ags t) t.cells (unpaired t.body) (good-sides ags t ha ht).0 (good-sides ags t ha ht).1) p.1,
        p.2,
      )

  times-word : (x : ℕ) → code_ok ags t (name x) ≡ true → times (word x) (names_of ags (rights rule)) ≡ tally (same_side (name x)) (all_codes t)
  unfolding times tally
  times-word x h =
      let e = template-count ags rule right_ok (same_side (name x)) in
      let z = cell_none (same_side (name x)) (length (cells_of ags (rights rule))) 0 (λ k l i. (name-cell x k).0) in
      let n : tally (λ w. same_side (name x) (name (rule_number ags rule w))) (names_of ags (rights rule)) ≡ tally (same (word x)) (names_of ags (rights rule)) =
      tally_ext (λ w. same_side (name x) (name (rule_number ags rule w))) (same (word x)) (names_of ags (rights rule))
      (λ w m. let q = right_word w m in
      ap (λ v. same_side (name x) (name (rule_number ags rule v))) q.2
      ∙ (ap (λ y. same_side (name x) (name y)) (code_of ags t ha ht q.0 q.1)
      ∙ (name-name x q.0 ∙ (sym (word_same x q.0 (small-code ags t ha ht x h) (small-code ags t ha ht q.0 q.1)) ∙ ap (same (word x)) (sym q.2))))) in
      let y : tally (same_side (name x)) (all_codes t) ≡ tally (same_side (name x)) (all_codes (template ags rule)) = ap (λ u. tally (same_side (name x)) (all_codes u)) (sym (template_back ags t ha ht)) in
      let k : tally (same (word x)) (names_of ags (rights rule)) ≡ tally (same_side (name x)) (all_codes t) = omega (arith, e, z, n, y) in
      k

  args_row : left_args rule ≡ xs ++ ys
  unfolding left_args
  args_row = rw ((args_are ags t ha ht).0, (args_are ags t ha ht).1)

  stood : (often k n : ℕ) → standing often (all_codes t) k n ≡ true → (i : ℕ) → i < n → tally (same_side (name (k + i))) (all_codes t) ≡ often
  stood often k n h i l = of_standing often (all_codes t) k n h i l

  times_of : (x : ℕ) → Place ags t x → tally (same_side (name x)) (all_codes t) ≡ right_times rule (word x)
  unfolding right_times
  times_of x (on_left l) =
      let z : 0 + x ≡ x = omega arith in
      rw (args_row, among-append (word x) xs ys, (first_at ags t ha ht x l).0) (rw z at (stood 1 0 (arity_at ags t.left) (clauses ags t ha ht).left_once x l))
  times_of x (on_right j e l) =
      rw e
      (rw (args_row, among-append (word (second_from + j)) xs ys, right_not ags t ha ht j l, (second_at ags t ha ht j l).0) (stood 1 second_from (arity_at ags t.right) (clauses ags t ha ht).right_once j l))
  times_of x (is_new k e l) =
      rw e (rw (args_row, among-append (word (new_from + k)) xs ys, (new_not ags t ha ht k l).0, (new_not ags t ha ht k l).1) (stood 2 new_from t.fresh (clauses ags t ha ht).new_twice k l))

  right_count : (x : ℕ) → code_ok ags t (name x) ≡ true → wrong_times ags rule (word x) ≡ false
  unfolding wrong_times
  right_count x h = ap not (eq-eqb (times (word x) (names_of ags (rights rule))) (right_times rule (word x)) (times-word x h ∙ times_of x (place ags t x h)))

  counted_right : any (wrong_times ags rule) (left_args rule ++ names_of ags (rights rule)) ≡ false
  counted_right = false-any (wrong_times ags rule) (left_args rule ++ names_of ags (rights rule))
      (λ w m. ⊎_elim (λ k. let q = arg_code ags t ha ht w (Memᴰ.append_cases xs (rw args_row at k)) in ap (wrong_times ags rule) q.2 ∙ right_count q.0 q.1)
      (λ k. let q = right_word w k in ap (wrong_times ags rule) q.2 ∙ right_count q.0 q.1) (Memᴰ.append_cases (left_args rule) m))

  args-distinct : Distinct (xs ++ ys)
  args-distinct =
      let x = (few_left ags t ha ht).0 in
      let y = (few_left ags t ha ht).1 in
      distinct_append xs ys (row-distinct (arity_at ags t.left) 0 (omega (arith, x))) (row-distinct (arity_at ags t.right) second_from (omega (arith, y)))
      (λ w m. let p = row_in (arity_at ags t.left) 0 w m in
      let l = p.2 in
      ap (λ v. among v ys) p.3 ∙ row_none (arity_at ags t.right) second_from p.0 (omega (arith, y)) (omega (arith, l, x)) (λ o. absurd (omega (arith, o, l, x))))

  to_all : (ws : List Word) → ((w : Word) → In w ws → declared ags w ≡ false) → all (λ w. not (declared ags w)) ws ≡ true
  unfolding all
  to_all [] h = refl
  to_all (w ∷ ws) h = rw (h w (Memᴰ.head refl)) (to_all ws (λ v m. h v (Memᴰ.tail m)))

  heads-declared : (declared ags (head_of rule.first) ≡ true) × (declared ags (head_of rule.second) ≡ true)
  unfolding head_of Back.rule
  heads-declared = ((symbol_at ags ha t.left (clauses ags t ha ht).left_symbol).1, (symbol_at ags ha t.right (clauses ags t ha ht).right_symbol).1)

  over_names_lem : all (over_names ags) (lefts rule) ≡ true
  unfolding lefts all over_names
  over_names_lem =
      let a : all (λ w. not (declared ags w)) (args_of rule.first) ≡ true = rw (args_are ags t ha ht).0 (to_all xs (λ w m. arg_undeclared ags t ha ht w (inl m))) in
      let b : all (λ w. not (declared ags w)) (args_of rule.second) ≡ true = rw (args_are ags t ha ht).1 (to_all ys (λ w m. arg_undeclared ags t ha ht w (inr m))) in
      pair (declared ags (head_of rule.first) && all (λ w. not (declared ags w)) (args_of rule.first)) _ (pair _ _ heads-declared.0 a)
      (pair (declared ags (head_of rule.second) && all (λ w. not (declared ags w)) (args_of rule.second)) true (pair _ _ heads-declared.1 b) refl)

  -- numbers 7 and 8
  pub no_7 : (qs : List Rule) → fault7 (record { agents = ags; rules = qs }) (is_rule rule) ≡ false
  unfolding fault7
  no_7 qs = right_arities

  pub no_8 : (qs : List Rule) → fault8 (record { agents = ags; rules = qs }) (is_rule rule) ≡ false
  unfolding fault8
  no_8 qs =
      none_of (not (all (over_names ags) (lefts rule)) || not (all_different (left_args rule))) (any (wrong_times ags rule) (left_args rule ++ names_of ags (rights rule)))
      (none_of (not (all (over_names ags) (lefts rule))) (not (all_different (left_args rule))) (ap not over_names_lem) (ap not (ap all_different args_row ∙ of_distinct (xs ++ ys) args-distinct)))
      counted_right

  pub sound-rule : SoundRule ags rule
  sound-rule = faults_sound (record { agents = ags; rules = [] }) rule (no_7 []) (no_8 [])

  -- number 5
  pub no_big : big_record ags (is_rule rule) ≡ false
  unfolding big_record
  no_big =
      none_of (any big_node (nodes (lefts rule ++ rights rule)) || ltb rule_equations_max (length rule.right) || ltb rule_cells_max (length (cells_of ags (rights rule)))) _
      (none_of (any big_node (nodes (lefts rule ++ rights rule)) || ltb rule_equations_max (length rule.right)) _
      (none_of (any big_node (nodes (lefts rule ++ rights rule))) _ small-nodes (le-ltb rule_equations_max (length rule.right) counts.0))
      (le-ltb rule_cells_max (length (cells_of ags (rights rule))) counts.1))
      (le-ltb rule_names_max (length (new_names_of ags rule)) counts.2)

  pub spelt : Spelt (is_rule rule)
  unfolding Spelt
  spelt = spelt_right

  few-args_of : Few rule
  few-args_of =
      let x = (few_left ags t ha ht).0 in
      let y = (few_left ags t ha ht).1 in
      record { first = rw (args_are ags t ha ht).0 (rw rows.0 x); second = rw (args_are ags t ha ht).1 (rw rows.1 y) }

  -- number 10
  self-parts : t.left ≡ t.right → (length t.cells ≡ 0) × (t.fresh ≡ 0) × (all (λ e. any (turns_to e) t.body) t.body ≡ true)
  unfolding is_two_sided
  self-parts e =
      let h : is_two_sided t ≡ true = rw (eq-eqb t.left t.right e) at (clauses ags t ha ht).self in
      let p = both (eqb (length t.cells) 0 && eqb t.fresh 0) _ h in
      let q = both (eqb (length t.cells) 0) (eqb t.fresh 0) p.0 in
      (eqb-true (length t.cells) 0 q.0, eqb-true t.fresh 0 q.1, p.1)

  two_sided : t.left ≡ t.right → one_sided ags rule ≡ false
  two_sided e =
      let p = self-parts e in
      let c : length t.cells ≡ length (cells_of ags (rights rule)) = ap (λ u. length u.cells) (sym (template_back ags t ha ht)) ∙ template-cells ags rule right_ok in
      let nc : cells_of ags (rights rule) ≡ [] = empty (cells_of ags (rights rule)) (sym c ∙ p.0) in
      let nn : new_names_of ags rule ≡ [] = empty (new_names_of ags rule) (new_count ags t ha ht ∙ p.1) in
      let even : length (args_of rule.first) ≡ length (args_of rule.second) =
      ap length (args_are ags t ha ht).0 ∙ (rows.0 ∙ (ap (arity_at ags) e ∙ (sym rows.1 ∙ sym (ap length (args_are ags t ha ht).1)))) in
      let b : within (map (mirrored rule) (map wire_of rule.right)) (map wire_of rule.right) ≡ true =
      sym (codes_back ags rule sound-rule nc nn few-args_of even) ∙ (ap (λ u. all (λ d. any (turns_to d) u.body) u.body) (template_back ags t ha ht) ∙ p.2) in
      of_symmetric ags rule (record { no_cells = nc; no_new = nn; into = into_back ags rule sound-rule nc nn few-args_of even ∙ b; back = b })

  pub no_10 : (qs : List Rule) → fault10 (record { agents = ags; rules = qs }) (is_rule rule) ≡ false
  unfolding fault10
  no_10 qs = go (same (head_of rule.first) (head_of rule.second)) refl
    where
      go : (u : Bool) → same (head_of rule.first) (head_of rule.second) ≡ u → (u && one_sided ags rule) ≡ false
      go true e = two_sided (sym (heads-are ags t ha ht).0 ∙ (ap (symbol_of ags) (same_eq (head_of rule.first) (head_of rule.second) e) ∙ (heads-are ags t ha ht).1))
      go false e = refl
