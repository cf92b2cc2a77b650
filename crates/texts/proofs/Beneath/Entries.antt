-- A coded rule passes the test exactly if it is sound as the machine asks.
use Rattle.std.specs.Prelude.{ℕ, zero, suc, ◌+◌, ◌<◌, ◌≤◌, ◌≡◌, Bool, false, not, ◌&&◌, ◌||◌, get_or, ltb}
use Rattle.std.proofs.Math.Path.{refl, sym, ap, subst}
use Rattle.std.proofs.Common.{ap₂, ◌∙◌}
use Rattle.std.proofs.Math.Bool.{true}
use mathlib.Core.List.{List, [], ◌++◌, map}
use native.Mathlib.Omega.{arith}
use Rattle.std.proofs.Math.Decide.{dec_lt}
use Rattle.std.proofs.Math.ListN.{length}
use Rattle.std.proofs.Math.Dec.{eqb}
use borrow.Author.Tests.{eqb-true, eq-eqb, lt-ltb, ltb-true}
use Rattle.parts.specs.Limits.{arity_max}
use Rattle.calculus.specs.Terms.{◌∼◌, eqs_names, names, sub_eqn, ren, δ, count}
use Rattle.calculus.proofs.Beneath.Count.{sum_perm}
use Rattle.calculus.specs.Calculus.{Rule}
use Rattle.calculus.specs.Rules.{Level, exchange_lists, Plain}
use Rattle.calculus.proofs.Beneath.Rules.{plain-two_sided, reordered_of_counts}
use Rattle.parts.specs.Sides.{Side, name, cell}
use Rattle.model.specs.Table.{Cell, Entry, arity, no_cell}
use Rattle.model.specs.Table as Model
use Rattle.model.specs.State.{from}
use Rattle.model.specs.Sound.{first_new, InOrder}
use Rattle.model.specs.SoundTable.{SoundEntry}
use Rattle.model.proofs.Beneath.Froms.{from_in, from-count}
use Rattle.texts.specs.Bytes.{all, any, In}
use Rattle.texts.specs.Books.{Agent}
use Rattle.texts.specs.Coded.{second_from, new_from, arity_at, unpaired}
use Rattle.texts.specs.TableTest.{tally, cell_ok, args_all, all_codes, same_side, code_ok, walk, met, numbered, turns_to, is_two_sided, test_template}
use Rattle.texts.proofs.Beneath.Tools.{both, pair, all_true, true_all, empty}
use Rattle.texts.proofs.Beneath.Linear.{tally-append}
use Rattle.texts.proofs.Beneath.Clauses.{to_standing, of_standing, Clauses, clauses_of, tested, Place, on_left, on_right, is_new, place, of_place}
use Rattle.texts.proofs.Beneath.CellReading.{Read, walk-reads, walked, Equations, equations, Sidewise, sidewise, name-count, cell-count}
use Rattle.texts.proofs.Beneath.Wires.{pair_of, eqn_of, wires_of, level, unchanged}
use Rattle.texts.proofs.Beneath.Rows.{in_order, final, numbered_of, final-most, final-least, all_at, at_all, counted_in, in_counted}
use Rattle.texts.proofs.Beneath.Standing.{right_names, counts, Where, inside, outside, find, often, place-counts, out-counts, once, wired}

module _ (ags : List Agent) (few : (n : ℕ) → arity_at ags n ≤ arity_max) (T : Model.Table) (many : length T.arities ≡ length ags)
    (arities : (s : ℕ) → arity T s ≡ arity_at ags s) (e : Entry) where
  abbrev a : ℕ
  a = arity_at ags e.left

  abbrev b : ℕ
  b = arity_at ags e.right

  abbrev mem : ℕ → Cell
  mem m = get_or e.cells m no_cell

  held : (j : ℕ) → j < length e.cells → mem (0 + j) ≡ get_or e.cells j no_cell
  held j l = let z : 0 + j ≡ j = omega arith in rw z

  -- all sides, and those that the walk meets
  name_tally : walk 0 (unpaired e.body) e.cells ≡ true → (x : ℕ) → count x (met (unpaired e.body) e.cells) ≡ tally (same_side (name x)) (all_codes e)
  unfolding all_codes
  name_tally h x = name-count x e.cells 0 (unpaired e.body) h ∙ sym (tally-append (same_side (name x)) (unpaired e.body) (args_all e.cells))

  cell_tally : walk 0 (unpaired e.body) e.cells ≡ true → (c : ℕ) → count c (from 0 (length e.cells)) ≡ tally (same_side (cell c)) (all_codes e)
  unfolding all_codes
  cell_tally h c = cell-count c e.cells 0 (unpaired e.body) h ∙ sym (tally-append (same_side (cell c)) (unpaired e.body) (args_all e.cells))

  -- from the test
  module _ (ht : test_template ags e ≡ true) where
    abbrev c : Clauses ags e
    c = clauses_of ags e ht

    read : Read mem 0 (unpaired e.body) e.cells
    read = walk-reads mem e.cells 0 (unpaired e.body) c.walked held

    eqns : Equations mem e.body read.terms (from 0 (length e.cells))
    eqns = equations mem e.body read.reads

    -- the rule of the calculus
    pub rule : Rule
    rule = record {
      left = e.left;
      right = e.right;
      xs = from 0 a;
      ys = from second_from b;
      new = from new_from e.fresh;
      body = eqns.eqs;
    }

    met-names : eqs_names eqns.eqs ≡ met (unpaired e.body) e.cells
    met-names = eqns.same_names ∙ read.names_met

    tallies : (x : ℕ) (p : Place ags e x) → tally (same_side (name x)) (all_codes e) ≡ often ags few e p
    unfolding often
    tallies x (on_left l) = let z : 0 + x ≡ x = omega arith in rw z at (of_standing 1 (all_codes e) 0 a c.left_once x l)
    tallies x (on_right j z l) = rw z (of_standing 1 (all_codes e) second_from b c.right_once j l)
    tallies x (is_new k z l) = rw z (of_standing 2 (all_codes e) new_from e.fresh c.new_twice k l)

    not_there : (x : ℕ) → (Place ags e x → ⊥) → tally (same_side (name x)) (all_codes e) ≡ 0
    not_there x h = go (dec_lt 0 (tally (same_side (name x)) (all_codes e)))
      where
        go : Dec (0 < tally (same_side (name x)) (all_codes e)) → tally (same_side (name x)) (all_codes e) ≡ 0
        go (yes k) = absurd (h (place ags e x (all_true (code_ok ags e) (name x) (all_codes e) c.codes_ok (in_counted x (all_codes e) k))))
        go (no k) = omega (arith, k)

    linear : (x : ℕ) → count x (eqs_names eqns.eqs) ≡ count x (right_names ags few e)
    linear x = ap (count x) met-names ∙ (name_tally c.walked x ∙ go (find ags few e x))
      where
        go : Where ags few e x → tally (same_side (name x)) (all_codes e) ≡ count x (right_names ags few e)
        go (inside p) = tallies x p ∙ sym (place-counts ags few e x p).0
        go (outside h k l) =
            let z = out-counts ags few e x h k l in
            let u = z.0 in
            let v = z.1 in
            let w = z.2 in
            let q = counts ags few e x in
            not_there x none ∙ omega (arith, u, v, w, q)
          where
            none : Place ags e x → ⊥
            none (on_left i) = omega (arith, h, i)
            none (on_right j y i) = let o = k (omega (arith, y)) in omega (arith, o, y, i)
            none (is_new j y i) = let o = l (omega (arith, y)) in omega (arith, o, y, i)

    self : e.left ≡ e.right → (length e.cells ≡ 0) × (e.fresh ≡ 0) × (all (λ p. any (turns_to p) e.body) e.body ≡ true)
    unfolding is_two_sided
    self q =
        let h : is_two_sided e ≡ true = rw (eq-eqb e.left e.right q) at c.self in
        let p = both (eqb (length e.cells) 0 && eqb e.fresh 0) _ h in
        let r = both (eqb (length e.cells) 0) (eqb e.fresh 0) p.0 in
        (eqb-true (length e.cells) 0 r.0, eqb-true e.fresh 0 r.1, p.1)

    plain : e.left ≡ e.right → Plain rule
    unfolding rule
    plain q =
        let s = self q in
        let w = wires_of mem e.body eqns.eqs (from 0 (length e.cells)) eqns.reads (ap (from 0) s.0) in
        let u = wired ags few e eqns.eqs q s.1 linear w.0 w.2 in
        let t : all (λ p. any (turns_to p) (map pair_of w.0)) (map pair_of w.0) ≡ true = subst (λ l. all (λ p. any (turns_to p) l) l ≡ true) w.1 s.2 in
        let equal : a ≡ b = ap (arity_at ags) q in
        let p = (unchanged a (few e.left) w.0 u.0 u.1).0 t in
        record {
          level = subst (λ n. Level (from 0 a) (from second_from n)) equal (level a 0 second_from);
          none_new = ap (from new_from) s.1;
          unchanged = subst (λ n. map (sub_eqn (ren (exchange_lists (from 0 a) (from second_from n)))) eqns.eqs ∼ eqns.eqs) equal
              (subst (λ l. map (sub_eqn (ren (exchange_lists (from 0 a) (from second_from a)))) l ∼ l) (sym w.2) p);
        }

    pub entry-sound : SoundEntry T e rule
    unfolding rule cell_ok
    entry-sound = record {
      means = record {
        left = refl;
        right = refl;
        xs = ap (from 0) (sym (arities e.left));
        ys = ap (from second_from) (sym (arities e.right));
        new = refl;
        reads = eqns.reads;
        in_order = subst (InOrder 0) (sym met-names) (in_order e.fresh (met (unpaired e.body) e.cells) 0 c.in_order);
      };
      proper = record {
        different = once ags few e;
        linear = reordered_of_counts (eqs_names eqns.eqs) (right_names ags few e) linear;
        two_sided = λ q. plain-two_sided rule (once ags few e) (plain q);
      };
      left = rw many c.left_symbol;
      right = rw many c.right_symbol;
      cells = λ m l.
          let p = both (ltb (mem m).symbol (length ags)) (eqb (length (mem m).args) (arity_at ags (mem m).symbol)) (all_at (cell_ok ags) no_cell e.cells c.cells_ok m l) in
          record {
            symbol = rw many (ltb-true (mem m).symbol (length ags) p.0);
            args = eqb-true (length (mem m).args) (arity_at ags (mem m).symbol) p.1 ∙ sym (arities (mem m).symbol);
          };
      few_equations = c.few_equations;
      few_cells = c.few_cells;
      few_names = c.few_names;
      plain = λ q. (plain q, empty e.cells (self q).0);
    }

  -- and back
  module _ (r : Rule) (s : SoundEntry T e r) where
    abbrev sides : Sidewise mem e.body r.body (from 0 (length e.cells))
    sides = sidewise mem s.means.reads

    steps : (walk 0 (unpaired e.body) e.cells ≡ true) × (names sides.terms ≡ met (unpaired e.body) e.cells)
    steps = walked mem e.cells held (unpaired e.body) sides.terms sides.reads

    body-names : eqs_names r.body ≡ met (unpaired e.body) e.cells
    body-names = sym sides.same_names ∙ steps.1

    lists : r.xs ++ (r.ys ++ (r.new ++ r.new)) ≡ right_names ags few e
    lists =
        ap₂ ◌++◌ (s.means.xs ∙ ap (from 0) (arities e.left))
        (ap₂ ◌++◌ (s.means.ys ∙ ap (from second_from) (arities e.right)) (ap₂ ◌++◌ s.means.new s.means.new))

    body-counts : (x : ℕ) → count x (eqs_names r.body) ≡ count x (right_names ags few e)
    body-counts x = sum_perm (δ x) s.proper.linear ∙ ap (count x) lists

    side-counts : (x : ℕ) → tally (same_side (name x)) (all_codes e) ≡ count x (right_names ags few e)
    side-counts x = sym (name_tally steps.0 x) ∙ (ap (count x) (sym body-names) ∙ body-counts x)

    placed : (x : ℕ) → 0 < count x (right_names ags few e) → Place ags e x
    placed x k = go (find ags few e x)
      where
        go : Where ags few e x → Place ags e x
        go (inside p) = p
        go (outside h i l) =
            let z = out-counts ags few e x h i l in
            let u = z.0 in
            let v = z.1 in
            let w = z.2 in
            let q = counts ags few e x in
            absurd (omega (arith, k, q, u, v, w))

    side_ok : (d : Side) → In d (all_codes e) → code_ok ags e d ≡ true
    unfolding code_ok
    side_ok (name x) m =
        let k = counted_in (name x) (all_codes e) m in
        let z = side-counts x in
        of_place ags e (few e.left) (few e.right) x (placed x (omega (arith, k, z)))
    side_ok (cell d) m =
        let k = counted_in (cell d) (all_codes e) m in
        let z = cell_tally steps.0 d in
        let w = from-count 0 (length e.cells) d (omega (arith, k, z)) in
        let l = w.1 in
        lt-ltb d (length e.cells) (omega (arith, l))

    at_place : (x : ℕ) (p : Place ags e x) → tally (same_side (name x)) (all_codes e) ≡ often ags few e p
    at_place x p = side-counts x ∙ (place-counts ags few e x p).0

    cell_is : (m : ℕ) → m < length e.cells → cell_ok ags (mem m) ≡ true
    unfolding cell_ok
    cell_is m l =
        let d = s.cells m l in
        pair (ltb (mem m).symbol (length ags)) _ (lt-ltb (mem m).symbol (length ags) (rw (← many) d.symbol)) (eq-eqb _ _ (d.args ∙ arities (mem m).symbol))

    -- as many new names as are met
    all_met : final 0 (eqs_names r.body) ≡ e.fresh
    all_met = go e.fresh refl
      where
        upper : final 0 (eqs_names r.body) ≤ e.fresh
        upper =
            final-most e.fresh (eqs_names r.body) 0 (omega arith)
            (λ x k. at x (let z = body-counts x in placed x (omega (arith, k, z))))
          where
            at : (x : ℕ) → Place ags e x → x < first_new + e.fresh
            at x (on_left l) = let f = few e.left in omega (arith, l, f)
            at x (on_right j z l) = let f = few e.right in omega (arith, z, l, f)
            at x (is_new k z l) = omega (arith, z, l)

        go : (n : ℕ) → e.fresh ≡ n → final 0 (eqs_names r.body) ≡ e.fresh
        go zero h = let u = upper in omega (arith, u, h)
        go (suc n) h =
            let u = upper in
            let z = body-counts (new_from + n) in
            let q = counts ags few e (new_from + n) in
            let i = from_in e.fresh new_from (new_from + n) (omega arith) (omega (arith, h)) in
            let l = (final-least (eqs_names r.body) 0).1 (new_from + n) (omega (arith, z, q, i)) in
            omega (arith, u, h, l)

    order : numbered e.fresh 0 (met (unpaired e.body) e.cells) ≡ true
    order = subst (λ l. numbered e.fresh 0 l ≡ true) body-names (subst (λ n. numbered n 0 (eqs_names r.body) ≡ true) all_met (numbered_of (eqs_names r.body) 0 s.means.in_order))

    no_fresh : r.new ≡ [] → e.fresh ≡ 0
    no_fresh h = go e.fresh (sym s.means.new ∙ h)
      where
        go : (n : ℕ) → from new_from n ≡ [] → n ≡ 0
        go zero h = refl
        go (suc n) h = absurd (omega (arith, ap length h))

    two_sided : e.left ≡ e.right → is_two_sided e ≡ true
    unfolding is_two_sided
    two_sided q =
        let p = s.plain q in
        let n = no_fresh p.0.none_new in
        let z : length e.cells ≡ 0 = ap length p.1 in
        let w = wires_of mem e.body r.body (from 0 (length e.cells)) s.means.reads (ap (from 0) z) in
        let u = wired ags few e r.body q n body-counts w.0 w.2 in
        let x : r.xs ≡ from 0 a = s.means.xs ∙ ap (from 0) (arities e.left) in
        let y : r.ys ≡ from second_from a = s.means.ys ∙ ap (from second_from) (arities e.right ∙ ap (arity_at ags) (sym q)) in
        let k : map (sub_eqn (ren (exchange_lists (from 0 a) (from second_from a)))) (map eqn_of w.0) ∼ map eqn_of w.0 =
        subst (λ l. map (sub_eqn (ren (exchange_lists (from 0 a) (from second_from a)))) l ∼ l) w.2
        (subst (λ l. map (sub_eqn (ren (exchange_lists l (from second_from a)))) r.body ∼ r.body) x
        (subst (λ l. map (sub_eqn (ren (exchange_lists r.xs l))) r.body ∼ r.body) y p.0.unchanged)) in
        let t = (unchanged a (few e.left) w.0 u.0 u.1).1 k in
        pair _ _ (pair _ _ (eq-eqb (length e.cells) 0 z) (eq-eqb e.fresh 0 n)) (subst (λ l. all (λ p. any (turns_to p) l) l ≡ true) (sym w.1) t)

    self_test : (not (eqb e.left e.right) || is_two_sided e) ≡ true
    self_test = go (eqb e.left e.right) refl
      where
        go : (t : Bool) → eqb e.left e.right ≡ t → (not t || is_two_sided e) ≡ true
        go true h = two_sided (eqb-true e.left e.right h)
        go false h = refl

    pub entry-tested : test_template ags e ≡ true
    unfolding often
    entry-tested = tested ags e
        (record {
          left_symbol = rw (← many) s.left;
          right_symbol = rw (← many) s.right;
          few_equations = s.few_equations;
          few_cells = s.few_cells;
          few_names = s.few_names;
          cells_ok = at_all (cell_ok ags) no_cell e.cells cell_is;
          codes_ok = true_all (code_ok ags e) (all_codes e) side_ok;
          left_once = to_standing 1 (all_codes e) 0 a (λ i l. let z : 0 + i ≡ i = omega arith in at_place (0 + i) (on_left (omega (arith, l))));
          right_once = to_standing 1 (all_codes e) second_from b (λ j l. at_place (second_from + j) (on_right j refl l));
          new_twice = to_standing 2 (all_codes e) new_from e.fresh (λ k l. at_place (new_from + k) (is_new k refl l));
          walked = steps.0;
          in_order = order;
          self = self_test;
        })
