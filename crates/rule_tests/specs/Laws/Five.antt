-- Number 5 of a rule by its clauses.
use Rattle.std.specs.Prelude.{ℕ, suc, ◌+◌, ◌*◌, ◌<◌, ◌≤◌, ◌≡◌, Bool, not, ◌&&◌, ◌||◌, List, [], ◌∷◌, ◌++◌, length}
use Rattle.std.proofs.Math.Path.{refl, sym}
use Rattle.std.proofs.Common.{ap, ◌∙◌, arith}
use Rattle.std.proofs.Math.Bool.{true, false}
use Rattle.std.proofs.Math.Option.{none, some}
use Rattle.std.proofs.Math.ListN.{length-append}
use Rattle.std.proofs.Math.Dec.{ltb, leb}
use borrow.Author.Tests.{lt-ltb, le-ltb, leb-true, leb-false, ltb-false}
use Rattle.parts.specs.Limits.{symbols_max, rules_max, rule_equations_max, rule_cells_max, rule_names_max}
use Rattle.texts.specs.Bytes.{Word, any, keep, among, different, fields}
use Rattle.texts.specs.Terms.{Term, nodes, words_of}
use Rattle.texts.specs.Books.{Agent, Equation, Rule, Book, is_rule, add, declared, cells_of, names_of, sides, lefts, rights, new_names_of}
use Rattle.texts.specs.Answers.{◌>>=◌}
use Rattle.texts.specs.RuleText.{big_node, big_record, big_book, fault5, terms_of}
use Rattle.texts.specs.Reader.{term_of}
use Rattle.texts.proofs.Beneath.Tools.{found, neither}
use Rattle.texts.proofs.Beneath.Places.{keep-keep, keep_in, in_keep}
use Rattle.texts.proofs.Beneath.Tools.{among_in, in_among}
use Rattle.rule_tests.specs.Fields.{Fields}
use Rattle.rule_tests.specs.Words.{new_word, right_big}

some_is : {A : Type 0} {x y : A} → some x ≡ some y → x ≡ y
some_is {A} {x} {y} e = ap (λ o. elim o [ none ↦ x | some z ↦ z ]) e

pub terms-length : (fs : List Word) (ts : List Term) → terms_of fs ≡ some ts → length fs ≡ length ts
unfolding terms_of
terms-length [] ts h = ap length (some_is h)
terms-length (f ∷ fs) ts h =
    let p = found (term_of f) (λ t. terms_of fs >>= λ us. some (t ∷ us)) h in
    let q = found (terms_of fs) (λ us. some (p.0 ∷ us)) p.2 in
    ap suc (terms-length fs q.0 q.1) ∙ ap length (some_is q.2)

pub sides-length : (es : List Equation) → length (sides es) ≡ 2 * length es
unfolding sides
sides-length [] = omega arith
sides-length (e ∷ es) = omega (arith, sides-length es)

-- The fields of a rule: two, and two for each equation.
pub fields-count : (l : List ℕ) (r : Rule) → Fields l r → length (fields l) ≡ 2 + 2 * length r.right
unfolding rights
fields-count l r f = ap length f.are ∙ omega (arith, terms-length f.right (rights r) f.terms, sides-length r.right)

-- New names by words.
pub new_by-words : (ags : List Agent) (r : Rule) → different (keep (new_word ags (words_of (nodes (lefts r)))) (words_of (nodes (rights r)))) ≡ new_names_of ags r
unfolding new_names_of names_of new_word
new_by-words ags r =
    ap different
    (sym (keep-keep (λ w. not (among w (keep (λ v. not (declared ags v)) (words_of (nodes (lefts r)))))) (λ w. not (declared ags w))
    (λ w. not (declared ags w) && not (among w (words_of (nodes (lefts r))))) (words_of (nodes (rights r))) (λ w m. same_test w)))
  where
    L : List Word
    L = words_of (nodes (lefts r))

    same_test : (w : Word)
        → (not (declared ags w) && not (among w (keep (λ v. not (declared ags v)) (words_of (nodes (lefts r))))))
        ≡ (not (declared ags w) && not (among w (words_of (nodes (lefts r)))))
    same_test w = go (not (declared ags w)) refl
      where
        iff : (t u : Bool) → (t ≡ true → u ≡ true) → (u ≡ true → t ≡ true) → t ≡ u
        iff true true h k = refl
        iff true false h k = sym (h refl)
        iff false true h k = k refl
        iff false false h k = refl

        go : (d : Bool) → not (declared ags w) ≡ d
            → (d && not (among w (keep (λ v. not (declared ags v)) (words_of (nodes (lefts r)))))) ≡ (d && not (among w (words_of (nodes (lefts r)))))
        go false e = refl
        go true e =
            ap not
            (iff (among w (keep (λ v. not (declared ags v)) (words_of (nodes (lefts r))))) (among w (words_of (nodes (lefts r))))
            (λ h. in_among w _ (keep_in (λ v. not (declared ags v)) w (words_of (nodes (lefts r))) (among_in w _ h)).0)
            (λ h. in_among w _ (in_keep (λ v. not (declared ags v)) w (words_of (nodes (lefts r))) (among_in w _ h) e)))

module _ (b : Book) (r : Rule) where
  record_parts : big_record b.agents (is_rule r) ≡ (any big_node (nodes (lefts r ++ rights r)) || right_big b.agents r)
  unfolding big_record right_big
  record_parts = go (any big_node (nodes (lefts r ++ rights r))) (ltb rule_equations_max (length r.right)) (ltb rule_cells_max (length (cells_of b.agents (rights r))))
    where
      go : (t u v : Bool)
          → (t || u || v || ltb rule_names_max (length (new_names_of b.agents r))) ≡ (t || (u || (v || ltb rule_names_max (length (new_names_of b.agents r)))))
      go true u v = refl
      go false true v = refl
      go false false v = refl

  pub five-nodes : any big_node (nodes (lefts r ++ rights r)) ≡ true → true ≡ fault5 b (is_rule r)
  unfolding fault5
  five-nodes h = sym (rw (record_parts, h))

  pub five_right : any big_node (nodes (lefts r ++ rights r)) ≡ false → right_big b.agents r ≡ true → true ≡ fault5 b (is_rule r)
  unfolding fault5
  five_right h k = sym (rw (record_parts, h, k))

  pub five-book : any big_node (nodes (lefts r ++ rights r)) ≡ false → right_big b.agents r ≡ false → length b.agents ≤ symbols_max
      → leb rules_max (length b.rules) ≡ fault5 b (is_rule r)
  unfolding fault5 big_book add
  five-book h k few = sym (rw (record_parts, h, k, le-ltb symbols_max (length b.agents) few) (go (leb rules_max (length b.rules)) refl))
    where
      go : (t : Bool) → leb rules_max (length b.rules) ≡ t → ltb rules_max (length (b.rules ++ (r ∷ []))) ≡ t
      go true e = lt-ltb rules_max (length (b.rules ++ (r ∷ []))) (omega (arith, leb-true rules_max (length b.rules) e, length-append b.rules (r ∷ [])))
      go false e = le-ltb rules_max (length (b.rules ++ (r ∷ []))) (omega (arith, leb-false rules_max (length b.rules) e, length-append b.rules (r ∷ [])))

  -- The sizes that a rule without the fault has.
  pub five_none : fault5 b (is_rule r) ≡ false
      → (any big_node (nodes (lefts r ++ rights r)) ≡ false) × (length r.right ≤ rule_equations_max)
      × (length (cells_of b.agents (rights r)) ≤ rule_cells_max) × (length (new_names_of b.agents r) ≤ rule_names_max) × (length b.rules < rules_max)
  unfolding fault5 right_big big_book add
  five_none h =
      let p = neither (big_record b.agents (is_rule r)) _ h in
      let q = neither (any big_node (nodes (lefts r ++ rights r))) _ (sym record_parts ∙ p.0) in
      let u = neither (ltb rule_equations_max (length r.right)) _ q.1 in
      let v = neither (ltb rule_cells_max (length (cells_of b.agents (rights r)))) _ u.1 in
      let w = neither (ltb symbols_max (length b.agents)) (ltb rules_max (length (b.rules ++ (r ∷ [])))) p.1 in (
        q.0,
        ltb-false rule_equations_max (length r.right) u.0,
        ltb-false rule_cells_max (length (cells_of b.agents (rights r))) v.0,
        ltb-false rule_names_max (length (new_names_of b.agents r)) v.1,
        omega (arith, ltb-false rules_max (length (b.rules ++ (r ∷ []))) w.1, length-append b.rules (r ∷ [])),
      )
