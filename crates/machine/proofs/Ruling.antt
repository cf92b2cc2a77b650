-- A rule of a table that passes its test can be read in place.
use Rattle.std.proofs.Common.{ℕ, ◌+◌, ◌*◌, ◌<◌, ◌≤◌, ◌≡◌, refl, ap, subst, Bool, true, false, cond, not, ◌&&◌, List, [], ◌∷◌, ◌++◌, arith, leb, ltb, length, get_or, ltb-true}
use Rattle.parts.specs.Limits.{arity_max, symbols_max, rules_max}
use Rattle.parts.specs.Sides.{Side, name, cell, Pair, ◌:=◌, side}
use Rattle.model.specs.Table.{Cell, Entry, no_cell, no_entry}
use Rattle.texts.specs.Books.{Agent}
use Rattle.texts.specs.Bytes.{all, any}
use Rattle.texts.specs.Coded.{Table, second_from, new_from, arity_at, unpaired}
use Rattle.texts.specs.TableTest.{test_agents, test_table, test_templates, test_template, pair_test, cell_ok, code_ok, args_all, all_codes}
use Rattle.texts.proofs.Beneath.Clauses.{Clauses, clauses_of}
use Rattle.texts.proofs.Beneath.Tools.{both, all_left, all_right}
use Rattle.table.specs.Layout.{view, rule_row, rules_in, agents_in, symbol_of, cell_of, equation_of, entry_of, entry_at}
use Rattle.table.specs.Lists.{tab}
use Rattle.table.specs.Laws.Lists.{length-tab, tab_at}
use Rattle.table.specs.Laws.Rows.{all_at, arity-small}
use Rattle.table.specs.Laws.Whole.{tested-fits}
use Rattle.firing.specs.Frames.{names_at}
use Rattle.firing.specs.Built.{Ruled, Inside, equations_of, cells_of, names_of, width_of, side_of, argument_of}

-- A test of all sides of some equations, or of all arguments of some cells, is one of each.
abbrev Each : (Side → Bool) → Pair → Type 0
Each p (s := t) = (p s ≡ true) × (p t ≡ true)

each-side : (p : Side → Bool) (ps : List Pair) (k : ℕ) (d : Pair) → all p (unpaired ps) ≡ true → k < length ps → Each p (get_or ps k d)
unfolding all unpaired
each-side p [] k d h q = absurd (omega arith)
each-side p ((s := t) ∷ ps) ℕ.zero d h q =
    let a = both (p s) (p t && all p (unpaired ps)) h in (a.0, (both (p t) (all p (unpaired ps)) a.1).0)
each-side p ((s := t) ∷ ps) (ℕ.suc k) d h q =
    let a = both (p s) (p t && all p (unpaired ps)) h in
    each-side p ps k d (both (p t) (all p (unpaired ps)) a.1).1 (omega arith)

each-cell : (p : Side → Bool) (cs : List Cell) (m : ℕ) → all p (args_all cs) ≡ true → m < length cs → all p (get_or cs m no_cell).args ≡ true
unfolding args_all
each-cell p [] m h q = absurd (omega arith)
each-cell p (c ∷ cs) ℕ.zero h q = all_left p c.args (args_all cs) h
each-cell p (c ∷ cs) (ℕ.suc m) h q = each-cell p cs m (all_right p c.args (args_all cs) h) (omega arith)

module _ (w : List ℕ) (i : ℕ) (ok : test_template (agents_in w) (entry_at w i) ≡ true) where
  c : Clauses (agents_in w) (entry_at w i)
  c = clauses_of (agents_in w) (entry_at w i) ok

  code_inside : (t : Side) → code_ok (agents_in w) (entry_at w i) t ≡ true → Inside w i t
  unfolding code_ok entry_of
  code_inside (name x) h =
      go (ltb x (arity_at (agents_in w) (entry_at w i).left)) (ltb x (second_from + arity_at (agents_in w) (entry_at w i).right)) (ltb x second_from) refl (ltb x new_from) refl h
    where
      go : (a b p : Bool) → ltb x second_from ≡ p → (q : Bool) → ltb x new_from ≡ q → cond p a (cond q b (ltb x (new_from + names_of w i))) ≡ true
          → x < names_at + names_of w i
      go a b true e q d k = omega (arith, ltb-true x second_from e)
      go a b false e true d k = omega (arith, ltb-true x new_from d)
      go a b false e false d k = ltb-true x (new_from + names_of w i) k
  code_inside (cell m) h =
      omega (arith, ltb-true m (length (tab (cells_of w i) (cell_of (agents_in w) (rule_row w i)))) h, length-tab (cells_of w i) (cell_of (agents_in w) (rule_row w i)))

  body-many : length (entry_at w i).body ≡ equations_of w i
  unfolding entry_of
  body-many = length-tab (equations_of w i) (equation_of (rule_row w i))

  cells-many : length (entry_at w i).cells ≡ cells_of w i
  unfolding entry_of
  cells-many = length-tab (cells_of w i) (cell_of (agents_in w) (rule_row w i))

  cell_is : (m : ℕ) → m < cells_of w i → get_or (entry_at w i).cells m no_cell ≡ cell_of (agents_in w) (rule_row w i) m
  unfolding entry_of
  cell_is m h = tab_at (cells_of w i) (cell_of (agents_in w) (rule_row w i)) m no_cell h

  sides-inside : (j : ℕ) → j < equations_of w i → Inside w i (side (side_of w i (2 * j))) × Inside w i (side (side_of w i (1 + 2 * j)))
  unfolding entry_of all_codes
  sides-inside j h =
      let p = code_ok (agents_in w) (entry_at w i) in
      let d : Pair = name 0 := name 0 in
      let e = each-side p (entry_at w i).body j d (all_left p (unpaired (entry_at w i).body) (args_all (entry_at w i).cells) c.codes_ok) (omega (arith, body-many)) in
      let f : Each p (equation_of (rule_row w i) j) = subst (Each p) (tab_at (equations_of w i) (equation_of (rule_row w i)) j d h) e in
      (code_inside (side (side_of w i (2 * j))) f.0, code_inside (side (side_of w i (1 + 2 * j))) f.1)

  arguments-inside : (m j : ℕ) → m < cells_of w i → j < width_of w i m → Inside w i (side (argument_of w i m j))
  unfolding all_codes cell_of
  arguments-inside m j h k =
      let p = code_ok (agents_in w) (entry_at w i) in
      let e = each-cell p (entry_at w i).cells m (all_right p (unpaired (entry_at w i).body) (args_all (entry_at w i).cells) c.codes_ok) (omega (arith, cells-many)) in
      let f : all p (cell_of (agents_in w) (rule_row w i) m).args ≡ true = subst (λ x. all p x.args ≡ true) (cell_is m h) e in
      let n : length (cell_of (agents_in w) (rule_row w i) m).args ≡ width_of w i m = length-tab (width_of w i m) (λ j. side (argument_of w i m j)) in
      let g = all_at p (cell_of (agents_in w) (rule_row w i) m).args j (name 0) f (omega (arith, n)) in
      code_inside
      (side (argument_of w i m j))
      (subst (λ x. p x ≡ true) (tab_at (width_of w i m) (λ j. side (argument_of w i m j)) j (name 0) k) g)

  symbols-small : length (agents_in w) ≤ symbols_max → (m : ℕ) → m < cells_of w i → symbol_of (rule_row w i) m < symbols_max
  unfolding cell_ok cell_of
  symbols-small few m h =
      let e = all_at (cell_ok (agents_in w)) (entry_at w i).cells m no_cell c.cells_ok (omega (arith, cells-many)) in
      let f : (get_or (entry_at w i).cells m no_cell).symbol < length (agents_in w) =
      ltb-true _ _ (both (ltb (get_or (entry_at w i).cells m no_cell).symbol (length (agents_in w))) _ e).0 in
      omega (arith, f, ap (λ x. x.symbol) (cell_is m h))

  readable : i < rules_max → length (agents_in w) ≤ symbols_max → ((s : ℕ) → arity_at (agents_in w) s ≤ arity_max) → Ruled w i
  unfolding entry_of
  readable number few narrow =
      record {
        number = number;
        agents = few;
        narrow = narrow;
        equations = omega (arith, c.few_equations, body-many);
        cells = omega (arith, c.few_cells, cells-many);
        names = c.few_names;
        symbols = symbols-small few;
        sides = sides-inside;
        arguments = arguments-inside;
      }

-- Each rule of the table passes its own test.
each-rule : (ags : List Agent) (seen es : List Entry) → test_templates ags seen es ≡ true → (k : ℕ) → k < length es
    → test_template ags (get_or es k no_entry) ≡ true
unfolding test_templates
each-rule ags seen [] h k q = absurd (omega arith)
each-rule ags seen (e ∷ es) h ℕ.zero q =
    let p = both (test_template ags e && not (any (pair_test e.left e.right) seen)) (test_templates ags (seen ++ (e ∷ [])) es) h in
    (both (test_template ags e) (not (any (pair_test e.left e.right) seen)) p.0).0
each-rule ags seen (e ∷ es) h (ℕ.suc k) q =
    let p = both (test_template ags e && not (any (pair_test e.left e.right) seen)) (test_templates ags (seen ++ (e ∷ [])) es) h in
    each-rule ags (seen ++ (e ∷ [])) es p.1 k (omega arith)

rules-tested : (t : Table) → test_table t ≡ true → test_templates t.agents [] t.rules ≡ true
unfolding test_table
rules-tested t h =
    (both
    ((leb (length t.agents) symbols_max && leb (length t.rules) rules_max) && test_agents [] t.agents)
    (test_templates t.agents [] t.rules)
    h).1

module _ (w : List ℕ) (ok : test_table (view w) ≡ true) where
  pub rules-many : length (view w).rules ≡ rules_in w
  unfolding view
  rules-many = length-tab (rules_in w) (entry_at w)

  pub rule_is : (i : ℕ) → i < length (view w).rules → get_or (view w).rules i no_entry ≡ entry_at w i
  unfolding view
  rule_is i h = tab_at (rules_in w) (entry_at w) i no_entry (omega (arith, length-tab (rules_in w) (entry_at w)))

  pub ruled : (i : ℕ) → i < length (view w).rules → Ruled w i
  unfolding view
  ruled i h =
      let f = tested-fits (view w) ok in
      let t : test_templates (agents_in w) [] (view w).rules ≡ true = rules-tested (view w) ok in
      let e : test_template (agents_in w) (entry_at w i) ≡ true = subst (λ x. test_template (agents_in w) x ≡ true) (rule_is i h) (each-rule (agents_in w) [] (view w).rules t i h) in
      readable w i e (omega (arith, f.few)) f.agents.few (λ s. arity-small (agents_in w) s f.agents.good)
