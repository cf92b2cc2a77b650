-- The clauses of the test of one rule, as facts.
use Rattle.std.specs.Prelude.{ℕ, zero, suc, ◌+◌, ◌-◌, ◌<◌, ◌≤◌, ◌≡◌, Bool, not, ◌||◌, List, length, eqb, leb}
use Rattle.std.proofs.Math.Path.{refl}
use Rattle.std.proofs.Math.Bool.{true, false, cond}
use Rattle.std.proofs.Common.{arith}
use Rattle.std.proofs.Math.Dec.{ltb}
use borrow.Author.Tests.{eqb-true, eqb-false, eq-eqb, leb-true, le-leb, ltb-true, ltb-false, lt-ltb, le-ltb}
use Rattle.parts.specs.Limits.{arity_max, rule_equations_max, rule_cells_max, rule_names_max}
use Rattle.parts.specs.Sides.{Side, name}
use Rattle.model.specs.Table.{Entry}
use Rattle.texts.specs.Bytes.{all}
use Rattle.texts.specs.Books.{Agent}
use Rattle.texts.specs.Coded.{second_from, new_from, arity_at, unpaired}
use Rattle.texts.specs.TableTest.{tally, cell_ok, all_codes, same_side, code_ok, standing, walk, met, numbered, is_two_sided, test_template}
use Rattle.texts.proofs.Beneath.Tools.{both, pair}

pub to_standing : (often : ℕ) (cs : List Side) (k n : ℕ) → ((i : ℕ) → i < n → tally (same_side (name (k + i))) cs ≡ often) → standing often cs k n ≡ true
unfolding standing
to_standing often cs k zero h = refl
to_standing often cs k (suc n) h = pair (standing often cs k n) _ (to_standing often cs k n (λ i l. h i (omega (arith, l)))) (eq-eqb _ _ (h n (omega arith)))

pub of_standing : (often : ℕ) (cs : List Side) (k n : ℕ) → standing often cs k n ≡ true → (i : ℕ) → i < n → tally (same_side (name (k + i))) cs ≡ often
unfolding standing
of_standing often cs k zero h i l = absurd (omega (arith, l))
of_standing often cs k (suc n) h i l =
    let p = both (standing often cs k n) _ h in go (eqb i n) refl (of_standing often cs k n p.0 i) (eqb-true _ _ p.1)
  where
    go : (u : Bool) → eqb i n ≡ u → (i < n → tally (same_side (name (k + i))) cs ≡ often) → tally (same_side (name (k + n))) cs ≡ often → tally (same_side (name (k + i))) cs ≡ often
    go true e ih z = let y : i ≡ n = eqb-true i n e in rw y z
    go false e ih z = let y : i ≡ n → ⊥ = eqb-false i n e in ih (omega (arith, l, y))

module _ (ags : List Agent) (t : Entry) where
  pub record Clauses : Type 0 where
    pub left_symbol : t.left < length ags
    pub right_symbol : t.right < length ags
    pub few_equations : length t.body ≤ rule_equations_max
    pub few_cells : length t.cells ≤ rule_cells_max
    pub few_names : t.fresh ≤ rule_names_max
    pub cells_ok : all (cell_ok ags) t.cells ≡ true
    pub codes_ok : all (code_ok ags t) (all_codes t) ≡ true
    pub left_once : standing 1 (all_codes t) 0 (arity_at ags t.left) ≡ true
    pub right_once : standing 1 (all_codes t) second_from (arity_at ags t.right) ≡ true
    pub new_twice : standing 2 (all_codes t) new_from t.fresh ≡ true
    pub walked : walk 0 (unpaired t.body) t.cells ≡ true
    pub in_order : numbered t.fresh 0 (met (unpaired t.body) t.cells) ≡ true
    pub self : (not (eqb t.left t.right) || is_two_sided t) ≡ true

  pub clauses_of : test_template ags t ≡ true → Clauses
  unfolding test_template
  clauses_of ht =
      let a = both _ (not (eqb t.left t.right) || is_two_sided t) ht in
      let b = both _ (numbered t.fresh 0 (met (unpaired t.body) t.cells)) a.0 in
      let c = both _ (walk 0 (unpaired t.body) t.cells) b.0 in
      let d = both _ (standing 2 (all_codes t) new_from t.fresh) c.0 in
      let e = both _ (standing 1 (all_codes t) second_from (arity_at ags t.right)) d.0 in
      let f = both _ (standing 1 (all_codes t) 0 (arity_at ags t.left)) e.0 in
      let g = both _ (all (code_ok ags t) (all_codes t)) f.0 in
      let h = both _ (all (cell_ok ags) t.cells) g.0 in
      let i = both _ (leb t.fresh rule_names_max) h.0 in
      let j = both _ (leb (length t.cells) rule_cells_max) i.0 in
      let k = both _ (leb (length t.body) rule_equations_max) j.0 in
      let l = both (ltb t.left (length ags)) (ltb t.right (length ags)) k.0 in
      record {
        left_symbol = ltb-true t.left (length ags) l.0;
        right_symbol = ltb-true t.right (length ags) l.1;
        few_equations = leb-true (length t.body) rule_equations_max k.1;
        few_cells = leb-true (length t.cells) rule_cells_max j.1;
        few_names = leb-true t.fresh rule_names_max i.1;
        cells_ok = h.1;
        codes_ok = g.1;
        left_once = f.1;
        right_once = e.1;
        new_twice = d.1;
        walked = c.1;
        in_order = b.1;
        self = a.1;
      }

  pub tested : Clauses → test_template ags t ≡ true
  unfolding test_template
  tested c =
      pair _ _ (pair _ _ (pair _ _ (pair _ _ (pair _ _ (pair _ _ (pair _ _ (pair _ _ (pair _ _ (pair _ _ (pair _ _ (pair _ _
      (lt-ltb _ _ c.left_symbol)
      (lt-ltb _ _ c.right_symbol))
      (le-leb _ _ c.few_equations))
      (le-leb _ _ c.few_cells))
      (le-leb _ _ c.few_names))
      c.cells_ok)
      c.codes_ok)
      c.left_once)
      c.right_once)
      c.new_twice)
      c.walked)
      c.in_order)
      c.self

-- A name in range is an argument of the left agent, of the right one, or new.
module _ (ags : List Agent) (t : Entry) where
  pub data Place (x : ℕ) : Type 0 where
    on_left : x < arity_at ags t.left → Place x
    on_right : (j : ℕ) → x ≡ second_from + j → j < arity_at ags t.right → Place x
    is_new : (k : ℕ) → x ≡ new_from + k → k < t.fresh → Place x

  pub place : (x : ℕ) → code_ok ags t (name x) ≡ true → Place x
  unfolding code_ok
  place x h = go (ltb x second_from) (ltb x new_from) refl refl h
    where
      go : (u v : Bool) → ltb x second_from ≡ u → ltb x new_from ≡ v
          → cond u (ltb x (arity_at ags t.left)) (cond v (ltb x (second_from + arity_at ags t.right)) (ltb x (new_from + t.fresh))) ≡ true → Place x
      go true v d e k = on_left (ltb-true x _ k)
      go false true d e k =
          let a = ltb-false x second_from d in
          let b = ltb-true x (second_from + arity_at ags t.right) k in
          on_right (x - second_from) (omega (arith, a)) (omega (arith, a, b))
      go false false d e k =
          let a = ltb-false x new_from e in
          let b = ltb-true x (new_from + t.fresh) k in
          is_new (x - new_from) (omega (arith, a)) (omega (arith, a, b))

  pub of_place : arity_at ags t.left ≤ arity_max → arity_at ags t.right ≤ arity_max → (x : ℕ) → Place x → code_ok ags t (name x) ≡ true
  unfolding code_ok
  of_place a b x (on_left l) = rw (lt-ltb x second_from (omega (arith, l, a))) (lt-ltb x (arity_at ags t.left) l)
  of_place a b x (on_right j e l) =
      rw (le-ltb x second_from (omega (arith, e)), lt-ltb x new_from (omega (arith, e, l, b))) (lt-ltb x (second_from + arity_at ags t.right) (omega (arith, e, l)))
  of_place a b x (is_new k e l) =
      rw (le-ltb x second_from (omega (arith, e)), le-ltb x new_from (omega (arith, e))) (lt-ltb x (new_from + t.fresh) (omega (arith, e, l)))
