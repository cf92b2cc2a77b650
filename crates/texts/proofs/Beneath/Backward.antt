-- A coded rule that passes the test is written out again as a rule, and is the template of that rule.
use Rattle.std.specs.Prelude.{ℕ, ◌+◌, ◌-◌, ◌<◌, ◌≤◌, ◌≡◌, ◌||◌, ◌⊎◌, length, eqb, ltb}
use Rattle.std.proofs.Math.Path.{refl, sym, ap}
use Rattle.std.proofs.Common.{◌∙◌, inl, inr, arith}
use Rattle.std.proofs.Math.Bool.{Bool, true, false, not}
use mathlib.Core.List.{List, [], ◌∷◌, ◌++◌, map, append-nil}
use borrow.Author.Tests.{eqb-true, le-leb, lt-leb, ltb-true}
use Rattle.parts.specs.Limits.{identifier_max, arity_max, rule_names_max}
use Rattle.texts.specs.Bytes.{Word, all, keep, among, index_of, In}
use Rattle.texts.specs.Terms.{term, identifier}
use Rattle.texts.specs.Books.{Agent, Rule, declared, takes, pairs, lefts, rights, head_of, args_of, names_of, new_names_of}
use Rattle.parts.specs.Sides.{name}
use Rattle.model.specs.Table.{Cell, Entry}
use Rattle.texts.specs.Coded.{symbol_of, packed, second_from, new_from, rule_number, template, arity_at, unpaired}
use Rattle.texts.proofs.Beneath.Tools.{both, all_left, all_right, keep_append}
use Rattle.texts.specs.Linear.{words, words_in}
use Rattle.texts.proofs.Beneath.Linear.{words_all}
use Rattle.texts.specs.TableTest.{cell_ok, args_all, all_codes, code_ok, met, test_agents, test_template}
use Rattle.texts.proofs.Beneath.Clauses.{Clauses, clauses_of, Place, on_left, on_right, is_new, place, of_place}
use Rattle.texts.proofs.Beneath.Agents.{spelt-symbols, few-args, symbol_at}
use Rattle.texts.proofs.Beneath.Respelt.{most, word, word-plain, word_undeclared}
use Rattle.texts.proofs.Beneath.Renumbered.{row, news, row-length, row_in, row_index, row_none, new_row}
use Rattle.texts.proofs.Beneath.Rebuilding.{Undoes, Rebuilt, rebuild}
use Rattle.texts.proofs.Beneath.Places.{keep-every}
use Rattle.texts.proofs.Beneath.TermLists.{unpack, packed_back, unpack-length, sides-pairs, twos-unpaired, bare_terms, bare-heads, named, met_all, among-append}

module _ (ags : List Agent) (t : Entry) (ha : test_agents [] ags ≡ true) (ht : test_template ags t ≡ true) where
  abbrev pub clauses : Clauses ags t
  clauses = clauses_of ags t ht

  pub few_left : (arity_at ags t.left ≤ arity_max) × (arity_at ags t.right ≤ arity_max) × (t.fresh ≤ rule_names_max)
  few_left = (few-args ags ha t.left, few-args ags ha t.right, clauses.few_names)

  pub small-code : (x : ℕ) → code_ok ags t (name x) ≡ true → x < most
  small-code x h = go (place ags t x h)
    where
      go : Place ags t x → x < most
      go (on_left l) = let y = few_left.0 in omega (arith, l, y)
      go (on_right j e l) = let y = few_left.1 in omega (arith, e, l, y)
      go (is_new k e l) = let y = few_left.2 in omega (arith, e, l, y)

  pub plain : (x : ℕ) → code_ok ags t (name x) ≡ true → (declared ags (word x) ≡ false) × (identifier (word x) ≡ true) × (length (word x) ≤ identifier_max)
  plain x h =
      let p = word-plain x (small-code x h) in
      let z = p.1 in
      (word_undeclared ags x (spelt-symbols ags ha), p.0, omega (arith, z))

  pub agent : (d : Cell) → cell_ok ags d ≡ true
      → (w : Word) × (declared ags w ≡ true) × (symbol_of ags w ≡ d.symbol) × (identifier w ≡ true) × (length w ≤ identifier_max) × (takes ags w ≡ length d.args)
  unfolding cell_ok
  agent d h =
      let p = both (ltb d.symbol (length ags)) (eqb (length d.args) (arity_at ags d.symbol)) h in
      let q = symbol_at ags ha d.symbol (ltb-true d.symbol (length ags) p.0) in
      (q.0, q.1, q.2, q.3, q.4, q.5 ∙ sym (eqb-true (length d.args) (arity_at ags d.symbol) p.1))

  pub good-sides : (all (code_ok ags t) (unpaired t.body) ≡ true) × (all (code_ok ags t) (args_all t.cells) ≡ true)
  unfolding all_codes
  good-sides = (
    all_left (code_ok ags t) (unpaired t.body) (args_all t.cells) clauses.codes_ok,
    all_right (code_ok ags t) (unpaired t.body) (args_all t.cells) clauses.codes_ok,
  )

  pub built : Rebuilt ags word (code_ok ags t) plain agent 0 (unpaired t.body) t.cells
  built = rebuild ags word (code_ok ags t) plain agent t.cells 0 (unpaired t.body) clauses.walked good-sides.0 clauses.cells_ok good-sides.1

  abbrev pub xs : List Word
  xs = row 0 (arity_at ags t.left)

  abbrev pub ys : List Word
  ys = row second_from (arity_at ags t.right)

  -- the rule
  unfoldable pub rule : Rule
  rule = record {
    first = term (symbol_at ags ha t.left clauses.left_symbol).0 (bare_terms xs);
    second = term (symbol_at ags ha t.right clauses.right_symbol).0 (bare_terms ys);
    right = pairs (unpack built.terms);
  }

  pub args_are : (args_of rule.first ≡ xs) × (args_of rule.second ≡ ys)
  unfolding args_of rule
  args_are = ((bare-heads xs).0, (bare-heads ys).0)

  pub rights-are : rights rule ≡ unpack built.terms
  unfolding rights rule
  rights-are = sides-pairs t.body (unpack built.terms) (unpack-length built.terms ∙ built.counted)

  right_packed : packed (rights rule) ≡ built.terms
  right_packed = ap packed rights-are ∙ packed_back built.terms

  pub met-names : names_of ags (rights rule) ≡ map word (met (unpaired t.body) t.cells)
  unfolding names_of
  met-names = rw (words_all (rights rule), right_packed) built.names

  -- what remains: the coding of the rule undoes the spelling
  abbrev Coding : Type 0
  Coding = Undoes ags word (code_ok ags t) plain agent (rule_number ags rule)

  -- the template of the rule is the given one
  pub heads-are : (symbol_of ags (head_of rule.first) ≡ t.left) × (symbol_of ags (head_of rule.second) ≡ t.right)
  unfolding head_of rule
  heads-are = ((symbol_at ags ha t.left clauses.left_symbol).2, (symbol_at ags ha t.right clauses.right_symbol).2)

  template_is : Coding → length (new_names_of ags rule) ≡ t.fresh → template ags rule ≡ t
  unfolding template
  template_is u n =
      rw (heads-are.0, heads-are.1, n, right_packed, built.celled (rule_number ags rule) u, built.coded (rule_number ags rule) u, twos-unpaired t.body)

  pub first_at : (i : ℕ) → i < arity_at ags t.left → (among (word i) xs ≡ true) × (index_of (word i) xs ≡ i)
  first_at i h =
      let y = few_left.0 in
      let z : 0 + i ≡ i = omega arith in
      rw z at (row_index (arity_at ags t.left) 0 i (omega (arith, y)) h)

  pub second_at : (j : ℕ) → j < arity_at ags t.right → (among (word (second_from + j)) ys ≡ true) × (index_of (word (second_from + j)) ys ≡ j)
  second_at j h = let y = few_left.1 in row_index (arity_at ags t.right) second_from j (omega (arith, y)) h

  pub right_not : (j : ℕ) → j < arity_at ags t.right → among (word (second_from + j)) xs ≡ false
  right_not j h =
      let x = few_left.0 in
      let y = few_left.1 in
      row_none (arity_at ags t.left) 0 (second_from + j) (omega (arith, x)) (omega (arith, h, y)) (λ o. omega (arith, x))

  pub new_not : (k : ℕ) → k < t.fresh → (among (word (new_from + k)) xs ≡ false) × (among (word (new_from + k)) ys ≡ false)
  new_not k h =
      let x = few_left.0 in
      let y = few_left.1 in
      let z = few_left.2 in (
        row_none (arity_at ags t.left) 0 (new_from + k) (omega (arith, x)) (omega (arith, h, z)) (λ o. omega (arith, x)),
        row_none (arity_at ags t.right) second_from (new_from + k) (omega (arith, y)) (omega (arith, h, z)) (λ o. omega (arith, y)),
      )

  -- The arguments are names in range.
  pub arg_code : (w : Word) → In w xs ⊎ In w ys → (x : ℕ) × (code_ok ags t (name x) ≡ true) × (w ≡ word x)
  arg_code w (inl m) =
      let p = row_in (arity_at ags t.left) 0 w m in
      let l = p.2 in
      (p.0, of_place ags t few_left.0 few_left.1 p.0 (on_left (omega (arith, l))), p.3)
  arg_code w (inr m) =
      let p = row_in (arity_at ags t.right) second_from w m in
      let k = p.1 in
      let l = p.2 in
      (p.0, of_place ags t few_left.0 few_left.1 p.0 (on_right (p.0 - second_from) (omega (arith, k)) (omega (arith, k, l))), p.3)

  pub arg_plain : (w : Word) → In w xs ⊎ In w ys → (declared ags w ≡ false) × (identifier w ≡ true) × (length w ≤ identifier_max)
  arg_plain w m = let p = arg_code w m in rw p.2 (plain p.0 p.1)

  pub arg_undeclared : (w : Word) → In w xs ⊎ In w ys → declared ags w ≡ false
  arg_undeclared w m = (arg_plain w m).0

  drop-agent : (s : Word) (ws : List Word) → declared ags s ≡ true → keep (λ w. not (declared ags w)) (s ∷ ws) ≡ keep (λ w. not (declared ags w)) ws
  unfolding keep
  drop-agent s ws h = rw h

  keep_none : keep (λ w. not (declared ags w)) [] ≡ []
  unfolding keep
  keep_none = refl

  left_words : words_in (packed (lefts rule)) ≡ ((symbol_at ags ha t.left clauses.left_symbol).0 ∷ xs) ++ (((symbol_at ags ha t.right clauses.right_symbol).0 ∷ ys) ++ [])
  unfolding packed lefts words rule
  left_words = rw ((bare-heads xs).1, (bare-heads ys).1)

  left_names : names_of ags (lefts rule) ≡ xs ++ (ys ++ [])
  unfolding names_of
  left_names =
      let p : Word → Bool = λ w. not (declared ags w) in
      let a = symbol_at ags ha t.left clauses.left_symbol in
      let b = symbol_at ags ha t.right clauses.right_symbol in
      rw (
        words_all (lefts rule),
        left_words,
        keep_append (λ w. not (declared ags w)) (a.0 ∷ xs) ((b.0 ∷ ys) ++ []),
        keep_append (λ w. not (declared ags w)) (b.0 ∷ ys) [],
        drop-agent a.0 xs a.1,
        drop-agent b.0 ys b.1,
        keep-every (λ w. not (declared ags w)) xs (λ w m. ap not (arg_undeclared w (inl m))),
        keep-every (λ w. not (declared ags w)) ys (λ w m. ap not (arg_undeclared w (inr m))),
        keep_none,
      )

  among_left : (w : Word) → among w (names_of ags (lefts rule)) ≡ (among w xs || among w ys)
  among_left w = rw (left_names, append-nil ys) (among-append w xs ys)

  keep_new : (is : List ℕ) → all (named (code_ok ags t)) is ≡ true → keep (λ w. not (among w (names_of ags (lefts rule)))) (map word is) ≡ map word (news is)
  unfolding all keep
  keep_new [] h = refl
  keep_new (x ∷ is) h =
      let p = both (code_ok ags t (name x)) (all (named (code_ok ags t)) is) h in go (place ags t x p.0) (keep_new is p.1)
    where
      go : Place ags t x → keep (λ w. not (among w (names_of ags (lefts rule)))) (map word is) ≡ map word (news is)
          → keep (λ w. not (among w (names_of ags (lefts rule)))) (map word (x ∷ is)) ≡ map word (news (x ∷ is))
      go (on_left l) ih =
          let y = few_left.0 in
          let z : among (word x) (names_of ags (lefts rule)) ≡ true = among_left (word x) ∙ rw (first_at x l).0 in
          rw (z, lt-leb new_from x (omega (arith, l, y))) ih
      go (on_right j e l) ih =
          let y = few_left.1 in
          let z : among (word x) (names_of ags (lefts rule)) ≡ true = rw e (among_left (word (second_from + j)) ∙ rw (right_not j l, (second_at j l).0)) in
          rw (z, lt-leb new_from x (omega (arith, e, l, y))) ih
      go (is_new k e l) ih =
          let z : among (word x) (names_of ags (lefts rule)) ≡ false = rw e (among_left (word (new_from + k)) ∙ rw ((new_not k l).0, (new_not k l).1)) in
          rw (z, le-leb new_from x (omega (arith, e))) (ap (λ l. word x ∷ l) ih)

  new_names : new_names_of ags rule ≡ row new_from t.fresh
  unfolding new_names_of
  new_names =
      let z = few_left.2 in
      rw (met-names, keep_new (met (unpaired t.body) t.cells) (met_all (code_ok ags t) t.cells (unpaired t.body) good-sides.0 good-sides.1))
      (new_row t.fresh (omega (arith, z)) (met (unpaired t.body) t.cells) clauses.in_order)

  pub new_count : length (new_names_of ags rule) ≡ t.fresh
  new_count = ap length new_names ∙ row-length t.fresh new_from

  pub code_of : (x : ℕ) → code_ok ags t (name x) ≡ true → rule_number ags rule (word x) ≡ x
  unfolding rule_number
  code_of x h = go (place ags t x h)
    where
      go : Place ags t x → rule_number ags rule (word x) ≡ x
      go (on_left l) = let p = first_at x l in rw (args_are.0, p.0, p.1)
      go (on_right j e l) = rw e (let p = second_at j l in rw (args_are.0, args_are.1, right_not j l, p.0, p.1))
      go (is_new k e l) =
          let z = few_left.2 in
          let p = row_index t.fresh new_from k (omega (arith, z)) l in
          rw e (rw (args_are.0, args_are.1, (new_not k l).0, (new_not k l).1, new_names, p.1))

  coding : Coding
  coding = record { undone = code_of }

  -- the template of the rebuilt rule is the given one
  pub template_back : template ags rule ≡ t
  template_back = template_is coding new_count
