-- The coded form of a good rule: its sides are in range, it passes the walk, and its new names are numbered as they are met.
use Rattle.std.specs.Prelude.{ℕ, ◌+◌, ◌<◌, ◌≡◌, Bool, ◌||◌, length, eqb}
use Rattle.std.proofs.Math.Path.{refl, sym, ap}
use Rattle.std.proofs.Common.{◌∙◌, arith}
use Rattle.std.proofs.Math.Bool.{true, false, cond, not}
use Rattle.std.proofs.Math.Logic.{⊎_elim}
use mathlib.Core.List.Memᴰ
use mathlib.Core.List.{List, [], ◌∷◌, ◌++◌, append-nil, map}
use borrow.Author.Tests.{eq-eqb, lt-ltb, le-ltb, not-true}
use Rattle.texts.specs.Bytes.{Word, any, all, keep, among, different, index_of, In}
use Rattle.texts.specs.Terms.{Term, Terms, term, nil, cons, count, nodes_at, nodes, words_of}
use Rattle.texts.specs.Books.{Agent, Rule, declared, takes, sides, lefts, rights, head_of, heads, args_of, left_args, cells_of, names_of, new_names_of}
use Rattle.texts.specs.RuleText.{wrong_args}
use Rattle.parts.specs.Sides.{name, cell}
use Rattle.texts.specs.Coded.{packed, codes, cells_from, second_from, new_from, rule_number, template, arity_at, unpaired}
use Rattle.texts.proofs.Beneath.Tools.{never, both, among_in, in_among, false-any}
use Rattle.texts.proofs.Beneath.NetMeans.{nodes-append}
use Rattle.texts.specs.Linear.{words, words_in}
use Rattle.texts.proofs.Beneath.Linear.{words_all, bare, bares, line-bare, no_terms}
use Rattle.texts.proofs.Beneath.Places.{index_less, keep_in, in_keep, in_different}
use Rattle.texts.specs.Templates.{Few}
use Rattle.texts.proofs.Beneath.Templates.{unpaired-twos, codes-even, template-count, template-cells, tally_ext, tally_none, cell_none, right_args}
use Rattle.texts.proofs.Beneath.TableSound.{head-arity}
use Rattle.texts.specs.TableTest.{all_codes, code_ok, walk, met, void, ahead, onward, numbered}
use Rattle.texts.proofs.Beneath.SideWalk.{walk-terms, met-terms}
use Rattle.texts.proofs.Beneath.Numbering.{numbered_all, tally-zero}
use Rattle.texts.specs.RuleSound.{SoundRule}

walk-nil : (m : ℕ) → walk m [] [] ≡ true
unfolding walk onward void
walk-nil m = refl

met-nil : met [] [] ≡ []
unfolding met ahead
met-nil = refl

-- The names of the left fields are the left arguments.
heads-words : (ags : List Agent) (ts : Terms) → bares ags ts ≡ true → ((w : Word) → In w (heads ts) → declared ags w ≡ false) → words_in ts ≡ heads ts
unfolding bare words heads head_of
heads-words ags nil h k = refl
heads-words ags (cons (term v us) ts) h k =
    let p = both (bare ags (term v us)) (bares ags ts) h in
    let q = both (declared ags v || eqb (count us) 0) (bares ags us) p.0 in
    let z : us ≡ nil = no_terms us (rw (k v (Memᴰ.head refl)) at q.0) in
    rw (z, heads-words ags ts p.1 (λ w m. k w (Memᴰ.tail m)))

term_words : (ags : List Agent) (t : Term) (w : Word) → bare ags t ≡ true → declared ags (head_of t) ≡ true → ((v : Word) → In v (args_of t) → declared ags v ≡ false)
    → In w (words t) → declared ags w ≡ false → In w (args_of t)
unfolding bare words head_of args_of
term_words ags (term v ts) w h d k m n =
    let q = both (declared ags v || eqb (count ts) 0) (bares ags ts) h in
    ⊎_elim (λ e. never (sym n ∙ (ap (declared ags) e ∙ d))) (λ j. rw (heads-words ags ts q.1 k) at j) (Memᴰ.cases_cons m)

words-term : (ags : List Agent) (t : Term) (w : Word) → bare ags t ≡ true → ((v : Word) → In v (args_of t) → declared ags v ≡ false) → In w (args_of t) → In w (words t)
unfolding bare words args_of
words-term ags (term v ts) w h k m =
    let q = both (declared ags v || eqb (count ts) 0) (bares ags ts) h in
    Memᴰ.tail {xs = words_in ts} (rw (heads-words ags ts q.1 k) m)

keep_all : (ws : List Word) → keep (λ x. not (among x [])) ws ≡ ws
unfolding keep among any
keep_all [] = refl
keep_all (w ∷ ws) = rw (keep_all ws)

module _ (ags : List Agent) (r : Rule) (s : SoundRule ags r) where
  abbrev xs : List Word
  xs = args_of r.first

  abbrev ys : List Word
  ys = args_of r.second

  left_bare : (bare ags r.first ≡ true) × (bare ags r.second ≡ true)
  unfolding lefts packed bare wrong_args
  left_bare =
      let h : bares ags (packed (lefts r)) ≡ true = line-bare ags (lefts r) (false-any (wrong_args ags) (nodes (lefts r))
      (λ n m. rw (eq-eqb n.args (takes ags n.word) (s.arities n (rw (nodes-append (lefts r) (rights r)) (Memᴰ.append_left (nodes (rights r)) m)))))) in
      let p = both (bare ags r.first) _ h in
      (p.0, (both (bare ags r.second) true p.1).0)

  pub left_names : (w : Word) → In w (names_of ags (lefts r)) → In w (left_args r)
  unfolding names_of lefts left_args packed words
  left_names w m =
      let p = keep_in (λ v. not (declared ags v)) w (words_of (nodes (r.first ∷ r.second ∷ []))) m in
      let n : declared ags w ≡ false = not-true _ p.1 in
      let k : In w (words r.first ++ (words r.second ++ [])) = rw (words_all (r.first ∷ r.second ∷ [])) at p.0 in
      ⊎_elim (λ j. Memᴰ.append_left ys (term_words ags r.first w left_bare.0 s.named.first_agent (λ v i. s.named.names v (Memᴰ.append_left ys i)) j n))
      (λ j. Memᴰ.append_right xs (term_words ags r.second w left_bare.1 s.named.second_agent (λ v i. s.named.names v (Memᴰ.append_right xs i))
      (rw (append-nil (words r.second)) at j) n))
      (Memᴰ.append_cases (words r.first) k)

  -- a name on the right is a left argument, or new
  pub right_name : (w : Word) → In w (names_of ags (rights r)) → among w xs ≡ false → among w ys ≡ false → among w (new_names_of ags r) ≡ true
  unfolding new_names_of left_args
  right_name w m a b =
      in_among w _ (in_different w _ (in_keep (λ v. not (among v (names_of ags (lefts r)))) w (names_of ags (rights r)) m (go (among w (names_of ags (lefts r))) refl)))
    where
      go : (t : Bool) → among w (names_of ags (lefts r)) ≡ t → not t ≡ true
      go true e =
          ⊎_elim (λ j. never (sym a ∙ in_among w xs j)) (λ j. never (sym b ∙ in_among w ys j))
          (Memᴰ.append_cases xs (left_names w (among_in w (names_of ags (lefts r)) e)))
      go false e = refl

  right_bare : bares ags (packed (rights r)) ≡ true
  right_bare = line-bare ags (rights r) (right_args ags r s)

  sides-codes : unpaired (template ags r).body ≡ codes ags (rule_number ags r) 0 (packed (rights r))
  unfolding template rights
  sides-codes = unpaired-twos (codes ags (rule_number ags r) 0 (packed (sides r.right))) (codes-even ags (rule_number ags r) r.right 0)

  cells_are : (template ags r).cells ≡ cells_from ags (rule_number ags r) 0 (packed (rights r))
  unfolding template
  cells_are = refl

  pub walk-passes : walk 0 (unpaired (template ags r).body) (template ags r).cells ≡ true
  walk-passes =
      rw (sides-codes, cells_are)
      (sym (rw (append-nil (codes ags (rule_number ags r) 0 (packed (rights r))), append-nil (cells_from ags (rule_number ags r) 0 (packed (rights r)))) at
      (sym (walk-terms ags (rule_number ags r) (packed (rights r)) 0 [] [] right_bare))) ∙ walk-nil _)

  pub met_is : met (unpaired (template ags r).body) (template ags r).cells ≡ map (rule_number ags r) (names_of ags (rights r))
  unfolding names_of
  met_is =
      rw (sides-codes, cells_are, words_all (rights r))
      (sym (rw (append-nil (codes ags (rule_number ags r) 0 (packed (rights r))), append-nil (cells_from ags (rule_number ags r) 0 (packed (rights r)))) at
      (sym (met-terms ags (rule_number ags r) (packed (rights r)) 0 [] [] right_bare))) ∙ rw met-nil (append-nil _))

  old_code : Few r → (w : Word) → among w (names_of ags (lefts r)) ≡ true → rule_number ags r w < new_from
  unfolding rule_number left_args
  old_code few w h = go (among w xs) (among w ys) refl refl
    where
      go : (t u : Bool) → among w xs ≡ t → among w ys ≡ u → cond t (index_of w xs) (cond u (second_from + index_of w ys) (new_from + index_of w (new_names_of ags r))) < new_from
      go true u a b = let l = index_less w xs a in omega (arith, l, few.first)
      go false true a b = let l = index_less w ys b in omega (arith, l, few.second)
      go false false a b =
          ⊎_elim (λ j. never (sym a ∙ in_among w xs j)) (λ j. never (sym b ∙ in_among w ys j))
          (Memᴰ.append_cases xs (left_names w (among_in w (names_of ags (lefts r)) h)))

  pub names_left : (w : Word) → In w (left_args r) → In w (names_of ags (lefts r))
  unfolding names_of lefts left_args packed words
  names_left w m =
      in_keep (λ v. not (declared ags v)) w (words_of (nodes (r.first ∷ r.second ∷ [])))
      (rw (words_all (r.first ∷ r.second ∷ []))
      (⊎_elim (λ j. Memᴰ.append_left (words r.second ++ []) (words-term ags r.first w left_bare.0 (λ v i. s.named.names v (Memᴰ.append_left ys i)) j))
      (λ j. Memᴰ.append_right (words r.first) (Memᴰ.append_left [] (words-term ags r.second w left_bare.1 (λ v i. s.named.names v (Memᴰ.append_right xs i)) j)))
      (Memᴰ.append_cases xs m)))
      (rw (s.named.names w m))

  new_code : (w : Word) → among w (names_of ags (lefts r)) ≡ false → rule_number ags r w ≡ new_from + index_of w (new_names_of ags r)
  unfolding rule_number left_args
  new_code w h = go (among w xs) (among w ys) refl refl
    where
      go : (t u : Bool) → among w xs ≡ t → among w ys ≡ u
          → cond t (index_of w xs) (cond u (second_from + index_of w ys) (new_from + index_of w (new_names_of ags r))) ≡ new_from + index_of w (new_names_of ags r)
      go true u a b = never (sym h ∙ in_among w _ (names_left w (Memᴰ.append_left ys (among_in w xs a))))
      go false true a b = never (sym h ∙ in_among w _ (names_left w (Memᴰ.append_right xs (among_in w ys b))))
      go false false a b = refl

  names-are : (template ags r).fresh ≡ length (new_names_of ags r)
  unfolding template
  names-are = refl

  first_news : new_names_of ags r ≡ [] ++ keep (λ x. not (among x [])) (different (keep (λ x. not (among x (names_of ags (lefts r)))) (names_of ags (rights r))))
  unfolding new_names_of
  first_news = sym (keep_all _)

  pub numbered-passes : Few r → numbered (template ags r).fresh 0 (met (unpaired (template ags r).body) (template ags r).cells) ≡ true
  numbered-passes few =
      rw (met_is, names-are)
      (numbered_all (new_names_of ags r) (λ x. among x (names_of ags (lefts r))) (rule_number ags r) (names_of ags (rights r)) [] first_news (λ w m h. old_code few w h) (λ w m h. new_code w h))

  pub first_arity : length xs ≡ arity_at ags (template ags r).left
  unfolding template lefts nodes
  first_arity = (head-arity ags r.first _ s.arities s.named.first_agent).1

  pub second-arity : length ys ≡ arity_at ags (template ags r).right
  unfolding template lefts nodes
  second-arity = (head-arity ags r.second _ (λ n m. s.arities n (Memᴰ.append_right (nodes_at 1 r.first) m)) s.named.second_agent).1

  module _ (few : Few r) (x : ℕ) where
    code_left : x < arity_at ags (template ags r).left → code_ok ags (template ags r) (name x) ≡ true
    unfolding code_ok
    code_left h = rw (lt-ltb x second_from (omega (arith, h, few.first, first_arity)), lt-ltb x _ h)

    code_right : x < arity_at ags (template ags r).right → code_ok ags (template ags r) (name (second_from + x)) ≡ true
    unfolding code_ok
    code_right h =
        rw (
          le-ltb (second_from + x) second_from (omega arith),
          lt-ltb (second_from + x) new_from (omega (arith, h, few.second, second-arity)),
        )
        (lt-ltb (second_from + x) _ (omega (arith, h)))

    code_new : x < (template ags r).fresh → code_ok ags (template ags r) (name (new_from + x)) ≡ true
    unfolding code_ok
    code_new h =
        rw (le-ltb (new_from + x) second_from (omega arith), le-ltb (new_from + x) new_from (omega arith)) (lt-ltb (new_from + x) _ (omega (arith, h)))

  code-cell : (c : ℕ) → c < length (template ags r).cells → code_ok ags (template ags r) (cell c) ≡ true
  unfolding code_ok
  code-cell c h = lt-ltb c _ h

  code_ok_lem : Few r → (w : Word) → In w (names_of ags (rights r)) → not (code_ok ags (template ags r) (name (rule_number ags r w))) ≡ false
  unfolding rule_number
  code_ok_lem few w m = go (among w xs) (among w ys) refl refl
    where
      go : (t u : Bool) → among w xs ≡ t → among w ys ≡ u
          → not (code_ok ags (template ags r) (name (cond t (index_of w xs) (cond u (second_from + index_of w ys) (new_from + index_of w (new_names_of ags r)))))) ≡ false
      go true u a b = ap not (code_left few (index_of w xs) (rw (← first_arity) (index_less w xs a)))
      go false true a b = ap not (code_right few (index_of w ys) (rw (← second-arity) (index_less w ys b)))
      go false false a b = ap not (code_new few (index_of w (new_names_of ags r)) (rw names-are (index_less w (new_names_of ags r) (right_name w m a b))))

  pub codes_pass : Few r → all (code_ok ags (template ags r)) (all_codes (template ags r)) ≡ true
  codes_pass few =
      tally-zero (code_ok ags (template ags r)) (all_codes (template ags r))
      (template-count ags r (right_args ags r s) (λ c. not (code_ok ags (template ags r) c))
      ∙ rw (
        tally_ext (λ w. not (code_ok ags (template ags r) (name (rule_number ags r w)))) (λ w. false) (names_of ags (rights r)) (code_ok_lem few),
        tally_none (λ w. false) (names_of ags (rights r)) (λ w. refl),
        cell_none (λ c. not (code_ok ags (template ags r) c)) (length (cells_of ags (rights r))) 0
            (λ k i l. ap not (code-cell k (rw (template-cells ags r (right_args ags r s)) (omega (arith, l))))),
      ))
