-- Each way out of the tests of a rule's line.
use Prim.Native.Nat.{ℕ, ◌+◌, ◌*◌, ◌≤◌, ◌<◌}
use mathlib.Core.Path.{◌≡◌, sym, ap, subst, ◌∙◌}
use mathlib.Core.Bool.{Bool, true, false, not}
use mathlib.Core.List.{List, [], ◌∷◌, ◌++◌}
use mathlib.Core.Option.{some}
use native.Mathlib.Omega.{arith}
use lib.ListN.{length, get_or, take, drop}
use lib.Dec.{eqb, ltb, leb}
use borrow.Author.Tests.{lt-ltb, le-ltb}
use Rattle.parts.specs.Limits.{symbols_max, rules_max, rule_equations_max, rule_cells_max, rule_names_max}
use Rattle.texts.specs.Bytes.{Word, any, keep, different, fields}
use Rattle.texts.specs.Terms.{Term, nodes}
use Rattle.texts.specs.Books.{Agent, Book, Rule, is_rule, declared, cells_of, head_of, lefts, rights, new_names_of}
use Rattle.texts.specs.RuleText.{big_node, wrong_args, over_names, terms_of, fault5, fault7, fault8}
use Rattle.texts.specs.Reader.{term_of}
use Rattle.scan.specs.Cutting.{field_start}
use Rattle.scan.specs.Words.{words_in}
use Rattle.terms.specs.Agents.{agents_of}
use Rattle.rule_tests.specs.Fields.{Fields}
use Rattle.rule_tests.specs.Words.{new_word, wrong_word, right_big}
use Rattle.rule_tests.specs.Laws.Parts.{all_terms, words-whole, words_left, words_right, first_field, second-field, field-words}
use Rattle.rule_tests.specs.Laws.Five.{fields-count, new_by-words, five-nodes, five_right, five-book}
use Rattle.rule_tests.specs.Laws.Lefts.{over_names_lem, head_first, sides_right}
use Rattle.rule_tests.specs.Laws.Apart.{seven-apart}
use Rattle.rule_tests.specs.Laws.Eight.{eight-words, eight_first, eight-second}

pub left_is : (l v : List ℕ) (n : ℕ) → n ≡ field_start l 2 → v ≡ take n (drop 0 l) → v ≡ take (field_start l 2) l
left_is l v n e q = q ∙ ap (λ m. take m l) e

-- The sizes of the right side.
module _ (l : List ℕ) (m : ℕ) (em : m ≡ length (fields l)) where
  pub right_fields : (a : List ℕ) → 2 + 2 * rule_equations_max < m → (b : Book) (r : Rule) → agents_of a ≡ b.agents → Fields l r → true ≡ right_big b.agents r
  unfolding right_big
  right_fields a h b r ea f = sym (rw (lt-ltb rule_equations_max (length r.right) (omega (arith, h, em, fields-count l r f))))

  module _ (few : m ≤ 2 + 2 * rule_equations_max) (a right : List ℕ) (er : right ≡ drop (field_start l 2) l) (c : ℕ) (ec : c ≡ length (keep (declared (agents_of a)) (words_in right))) where
    cells_are : (b : Book) (r : Rule) → agents_of a ≡ b.agents → Fields l r → c ≡ length (cells_of b.agents (rights r))
    unfolding cells_of
    cells_are b r ea f = ec ∙ rw (ea, er, words_right l r f)

    few-are : (r : Rule) → Fields l r → ltb rule_equations_max (length r.right) ≡ false
    few-are r f = le-ltb rule_equations_max (length r.right) (omega (arith, few, em, fields-count l r f))

    pub right_cells : rule_cells_max < c → (b : Book) (r : Rule) → agents_of a ≡ b.agents → Fields l r → ltb rule_cells_max c ≡ right_big b.agents r
    unfolding right_big
    right_cells h b r ea f =
        lt-ltb rule_cells_max c h
        ∙ sym (rw (few-are r f, lt-ltb rule_cells_max (length (cells_of b.agents (rights r))) (omega (arith, h, cells_are b r ea f))))

    pub right_names : c ≤ rule_cells_max → (left : List ℕ) → left ≡ take (field_start l 2) l
        → (n : ℕ) → n ≡ length (different (keep (new_word (agents_of a) (words_in left)) (words_in right)))
        → (b : Book) (r : Rule) → agents_of a ≡ b.agents → Fields l r → ltb rule_names_max n ≡ right_big b.agents r
    unfolding right_big
    right_names h left el n en b r ea f =
        let z : n ≡ length (new_names_of b.agents r) = en ∙ rw (ea, el, er, words_left l r f, words_right l r f, ← new_by-words b.agents r) in
        sym (rw (few-are r f, le-ltb rule_cells_max (length (cells_of b.agents (rights r))) (omega (arith, h, cells_are b r ea f)), z))

-- Number 5.
module _ (l a : List ℕ) (k : ℕ) (o : Bool) (eo : (ts : List Term) → terms_of (drop 0 (fields l)) ≡ some ts → o ≡ any big_node (nodes ts)) where
  nodes-are : (r : Rule) → Fields l r → o ≡ any big_node (nodes (lefts r ++ rights r))
  nodes-are r f = eo (lefts r ++ rights r) (all_terms l r f)

  pub big-nodes : o ≡ true → (b : Book) (r : Rule) → agents_of a ≡ b.agents → length b.agents ≤ symbols_max → k ≡ length b.rules → Fields l r → true ≡ fault5 b (is_rule r)
  big-nodes h b r ea few ek f = five-nodes b r (sym (nodes-are r f) ∙ h)

  module _ (h : o ≡ false) (t : Bool) (et : (b : Book) (r : Rule) → agents_of a ≡ b.agents → Fields l r → t ≡ right_big b.agents r) where
    pub big_right : t ≡ true → (b : Book) (r : Rule) → agents_of a ≡ b.agents → length b.agents ≤ symbols_max → k ≡ length b.rules → Fields l r → t ≡ fault5 b (is_rule r)
    big_right j b r ea few ek f = j ∙ five_right b r (sym (nodes-are r f) ∙ h) (sym (et b r ea f) ∙ j)

    pub big_book : t ≡ false → (m : ℕ) → m ≡ k → (b : Book) (r : Rule) → agents_of a ≡ b.agents → length b.agents ≤ symbols_max → k ≡ length b.rules → Fields l r
        → leb rules_max m ≡ fault5 b (is_rule r)
    big_book j m em b r ea few ek f = ap (leb rules_max) (em ∙ ek) ∙ five-book b r (sym (nodes-are r f) ∙ h) (sym (et b r ea f) ∙ j) few

-- An agent over names.
module _ (f : List ℕ) (ags : List Agent) (v : List ℕ) (ev : (w : Word) (ws : List Word) → 0 ≤ length f → words_in (drop 0 f) ≡ w ∷ ws → v ≡ w)
    (d : Bool) (ed : d ≡ declared ags v) where
  head_is : (t : Term) → term_of f ≡ some t → v ≡ head_of t
  head_is t e = let p = head_first ags t in ev (head_of t) p.0 (omega arith) (field-words f t e ∙ p.1)

  pub over_one : d ≡ true → (c : ℕ) → c ≡ length (keep (declared ags) (words_in f))
      → (t : Term) → term_of f ≡ some t → any (wrong_args ags) (nodes (t ∷ [])) ≡ false → eqb c 1 ≡ over_names ags t
  over_one h c ec t e q =
      sym (over_names_lem ags t q ∙ rw (← head_is t e, ← ed, h, ec, field-words f t e))

  pub over_none : d ≡ false → (t : Term) → term_of f ≡ some t → any (wrong_args ags) (nodes (t ∷ [])) ≡ false → d ≡ over_names ags t
  over_none h t e q = h ∙ sym (over_names_lem ags t q ∙ rw (← head_is t e, ← ed, h))

-- Number 8.
module _ (l a g : List ℕ) (eg : g ≡ get_or (fields l) 0 []) (t : Bool)
    (et : (s : Term) → term_of g ≡ some s → any (wrong_args (agents_of a)) (nodes (s ∷ [])) ≡ false → t ≡ over_names (agents_of a) s) where
  first_over : (b : Book) (r : Rule) → agents_of a ≡ b.agents → Fields l r → fault7 b (is_rule r) ≡ false → t ≡ over_names b.agents r.first
  first_over b r ea f h =
      subst (λ ags. t ≡ over_names ags r.first) ea
      (et r.first (rw (eg, first_field l r f) f.one)
      (subst (λ ags. any (wrong_args ags) (nodes (r.first ∷ [])) ≡ false) (sym ea) (sides_right b.agents r (seven-apart b r h).0).0))

  pub ill_first : t ≡ false → (b : Book) (r : Rule) → agents_of a ≡ b.agents → Fields l r → fault7 b (is_rule r) ≡ false → true ≡ fault8 b (is_rule r)
  ill_first e b r ea f h = eight_first b r (sym (first_over b r ea f h) ∙ e)

  module _ (e : t ≡ true) (k : List ℕ) (ek : k ≡ get_or (fields l) 1 []) (u : Bool)
      (eu : (s : Term) → term_of k ≡ some s → any (wrong_args (agents_of a)) (nodes (s ∷ [])) ≡ false → u ≡ over_names (agents_of a) s) where
    second-over : (b : Book) (r : Rule) → agents_of a ≡ b.agents → Fields l r → fault7 b (is_rule r) ≡ false → u ≡ over_names b.agents r.second
    second-over b r ea f h =
        subst (λ ags. u ≡ over_names ags r.second) ea
        (eu r.second (rw (ek, second-field l r f) f.two)
        (subst (λ ags. any (wrong_args ags) (nodes (r.second ∷ [])) ≡ false) (sym ea) (sides_right b.agents r (seven-apart b r h).0).1))

    pub ill_second : u ≡ false → (b : Book) (r : Rule) → agents_of a ≡ b.agents → Fields l r → fault7 b (is_rule r) ≡ false → not u ≡ fault8 b (is_rule r)
    ill_second j b r ea f h = ap not j ∙ eight-second b r (sym (first_over b r ea f h) ∙ e) (sym (second-over b r ea f h) ∙ j)

    pub ill_words : u ≡ true → (left right : List ℕ) → left ≡ take (field_start l 2) l → right ≡ drop (field_start l 2) l
        → (x : Bool) → x ≡ any (wrong_word (agents_of a) (words_in left) (words_in right)) (words_in l)
        → (b : Book) (r : Rule) → agents_of a ≡ b.agents → Fields l r → fault7 b (is_rule r) ≡ false → x ≡ fault8 b (is_rule r)
    ill_words j left right el er x ex b r ea f h =
        ex
        ∙ (rw (ea, el, er, words_left l r f, words_right l r f, words-whole l r f)
        (eight-words b r (sym (first_over b r ea f h) ∙ e) (sym (second-over b r ea f h) ∙ j) (seven-apart b r h).0))
