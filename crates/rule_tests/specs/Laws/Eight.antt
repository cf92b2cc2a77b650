-- Number 8 by words, where number 7 is not given and both left fields are agents over names.
use Rattle.std.specs.Prelude.{ℕ, ◌≡◌, Bool, cond, ◌&&◌, ◌||◌, ◌⊎◌, List, ◌++◌}
use Rattle.std.proofs.Math.Path.{refl, sym}
use Rattle.std.proofs.Common.{ap, subst, ◌∙◌, inl, inr, ⊎_elim, arith}
use Rattle.std.proofs.Math.Bool.{true, false, not}
use mathlib.Core.List.Memᴰ
use Rattle.std.proofs.Math.Dec.{eqb}
use borrow.Author.Tests.{eqb-true, eq-eqb, not-false}
use Rattle.texts.specs.Bytes.{Word, any, all, keep, among, times, In, Distinct}
use Rattle.texts.specs.Terms.{nodes, words_of}
use Rattle.texts.specs.Books.{Agent, Book, Rule, is_rule, declared, left_args, lefts, rights, names_of}
use Rattle.texts.specs.RuleText.{wrong_args, over_names, all_different, right_times, wrong_times, fault8}
use Rattle.texts.proofs.Beneath.Tools.{never, never', both, neither, none_of, any_false, false-any, among_in, in_among}
use Rattle.texts.proofs.Beneath.Places.{keep_in, in_keep}
use Rattle.texts.proofs.Beneath.Linear.{words_append}
use Rattle.rule_tests.specs.Words.{wrong_word}
use Rattle.rule_tests.specs.Laws.Lefts.{left_args_lem}
use Rattle.rule_tests.specs.Laws.Times.{times_in, times-out, times-kept, distinct-once, once-different, different-distinct}
use Rattle.rule_tests.specs.Laws.Apart.{nodes-apart}

bool_iff : (t u : Bool) → (t ≡ false → u ≡ false) → (u ≡ false → t ≡ false) → t ≡ u
bool_iff true true h k = refl
bool_iff true false h k = never' (k refl)
bool_iff false true h k = never' (h refl)
bool_iff false false h k = refl

-- What `wrong_word` asks of two counts.
rightly : (m n : ℕ) → cond (eqb m 0) (eqb n 2) (eqb m 1 && eqb n 1) ≡ true → ((m ≡ 0) × (n ≡ 2)) ⊎ ((m ≡ 1) × (n ≡ 1))
rightly m n h = go (eqb m 0) refl h
  where
    go : (t : Bool) → eqb m 0 ≡ t → cond t (eqb n 2) (eqb m 1 && eqb n 1) ≡ true → ((m ≡ 0) × (n ≡ 2)) ⊎ ((m ≡ 1) × (n ≡ 1))
    go true e k = inl (eqb-true m 0 e, eqb-true n 2 k)
    go false e k = let p = both (eqb m 1) (eqb n 1) k in inr (eqb-true m 1 p.0, eqb-true n 1 p.1)

right_two : (m n : ℕ) → m ≡ 0 → n ≡ 2 → cond (eqb m 0) (eqb n 2) (eqb m 1 && eqb n 1) ≡ true
right_two m n p q = rw (p, q)

right_one : (m n : ℕ) → m ≡ 1 → n ≡ 1 → cond (eqb m 0) (eqb n 2) (eqb m 1 && eqb n 1) ≡ true
right_one m n p q = rw (p, q)

module _ (b : Book) (r : Rule) (one : over_names b.agents r.first ≡ true) (two : over_names b.agents r.second ≡ true)
    (no7 : any (wrong_args b.agents) (nodes (lefts r)) ≡ false) where
  abbrev ags : List Agent
  ags = b.agents

  abbrev named : Word → Bool
  named w = not (declared ags w)

  abbrev L : List Word
  L = words_of (nodes (lefts r))

  abbrev R : List Word
  R = words_of (nodes (rights r))

  abbrev ns : List Word
  ns = names_of ags (rights r)

  args_of : keep named L ≡ left_args r
  args_of = left_args_lem ags r no7 one two

  left_times : (w : Word) → named w ≡ true → times w L ≡ times w (left_args r)
  left_times w h = sym (times-kept named w L h) ∙ ap (times w) args_of

  right_times_lem : (w : Word) → named w ≡ true → times w R ≡ times w ns
  unfolding names_of
  right_times_lem w h = sym (times-kept named w R h)

  in_left : (w : Word) → In w (left_args r) → In w L × (named w ≡ true)
  in_left w m = keep_in named w L (subst (λ vs. In w vs) (sym args_of) m)

  in_right : (w : Word) → In w ns → In w R × (named w ≡ true)
  unfolding names_of
  in_right w m = keep_in named w R m

  right_in : (w : Word) → In w R → named w ≡ true → In w ns
  unfolding names_of
  right_in w m h = in_keep named w R m h

  left_in : (w : Word) → In w L → named w ≡ true → In w (left_args r)
  left_in w m h = subst (λ vs. In w vs) args_of (in_keep named w L m h)

  counts : (w : Word) → named w ≡ true → wrong_word ags L R w ≡ false
      → ((times w L ≡ 0) × (times w R ≡ 2)) ⊎ ((times w L ≡ 1) × (times w R ≡ 1))
  unfolding wrong_word
  counts w h k = rightly (times w L) (times w R) (not-false _ (right_of _ _ h k))
    where
      right_of : (t u : Bool) → t ≡ true → (t && u) ≡ false → u ≡ false
      right_of true u p q = q
      right_of false u p q = never p

  fine-word : (w : Word) → (named w ≡ true → cond (eqb (times w L) 0) (eqb (times w R) 2) (eqb (times w L) 1 && eqb (times w R) 1) ≡ true) → wrong_word ags L R w ≡ false
  unfolding wrong_word
  fine-word w h = go (named w) refl
    where
      go : (t : Bool) → named w ≡ t → (t && not (cond (eqb (times w L) 0) (eqb (times w R) 2) (eqb (times w L) 1 && eqb (times w R) 1))) ≡ false
      go true e = rw (h e)
      go false e = refl

  fine-times : (w : Word) → times w ns ≡ right_times r w → wrong_times ags r w ≡ false
  unfolding wrong_times
  fine-times w e = rw (eq-eqb (times w ns) (right_times r w) e)

  times-fine : (w : Word) → wrong_times ags r w ≡ false → times w ns ≡ right_times r w
  unfolding wrong_times
  times-fine w e = eqb-true _ _ (not-false _ e)

  expected : (w : Word) (t : Bool) → among w (left_args r) ≡ t → right_times r w ≡ cond t 1 2
  unfolding right_times
  expected w t e = rw e

  module _ (h : any (wrong_word ags L R) (L ++ R) ≡ false) where
    told : (w : Word) → In w (L ++ R) → wrong_word ags L R w ≡ false
    told w m = any_false (wrong_word ags L R) w (L ++ R) h m

    left_told : (w : Word) → In w (left_args r) → (times w (left_args r) ≡ 1) × (times w ns ≡ 1)
    left_told w m =
        let p = in_left w m in
        ⊎_elim (λ q. absurd (omega (arith, times_in w L p.0, q.0)))
        (λ q. (sym (left_times w p.1) ∙ q.0, sym (right_times_lem w p.1) ∙ q.1))
        (counts w p.1 (told w (Memᴰ.append_left R p.0)))

    right_told : (w : Word) → In w ns → among w (left_args r) ≡ false → times w ns ≡ 2
    right_told w m e =
        let p = in_right w m in
        ⊎_elim (λ q. sym (right_times_lem w p.1) ∙ q.1)
        (λ q. absurd (omega (arith, q.0, left_times w p.1, times-out w (left_args r) e)))
        (counts w p.1 (told w (Memᴰ.append_right L p.0)))

    all_fine : (w : Word) → In w (left_args r ++ ns) → wrong_times ags r w ≡ false
    all_fine w m = go (among w (left_args r)) refl
      where
        go : (t : Bool) → among w (left_args r) ≡ t → wrong_times ags r w ≡ false
        go true e = fine-times w ((left_told w (among_in w (left_args r) e)).1 ∙ sym (expected w true e))
        go false e =
            fine-times w
            (⊎_elim (λ k. never (sym e ∙ in_among w (left_args r) k)) (λ k. right_told w k e) (Memᴰ.append_cases (left_args r) m) ∙ sym (expected w false e))

    words-fine : (not (all_different (left_args r)) || any (wrong_times ags r) (left_args r ++ ns)) ≡ false
    words-fine = none_of _ _ (ap not (once-different (left_args r) (λ w m. (left_told w m).0))) (false-any (wrong_times ags r) (left_args r ++ ns) all_fine)

  module _ (h : (not (all_different (left_args r)) || any (wrong_times ags r) (left_args r ++ ns)) ≡ false) where
    halves : (not (all_different (left_args r)) ≡ false) × (any (wrong_times ags r) (left_args r ++ ns) ≡ false)
    halves = neither (not (all_different (left_args r))) (any (wrong_times ags r) (left_args r ++ ns)) h

    apart : Distinct (left_args r)
    apart = different-distinct (left_args r) (not-false _ halves.0)

    times-told : (w : Word) → In w (left_args r ++ ns) → times w ns ≡ right_times r w
    times-told w m = times-fine w (any_false (wrong_times ags r) w (left_args r ++ ns) halves.1 m)

    word-fine : (w : Word) → In w (L ++ R) → wrong_word ags L R w ≡ false
    word-fine w m = fine-word w (λ n. go n (among w (left_args r)) refl)
      where
        go : named w ≡ true → (t : Bool) → among w (left_args r) ≡ t → cond (eqb (times w L) 0) (eqb (times w R) 2) (eqb (times w L) 1 && eqb (times w R) 1) ≡ true
        go n true e =
            let k : In w (left_args r) = among_in w (left_args r) e in
            right_one (times w L) (times w R) (left_times w n ∙ distinct-once (left_args r) w apart k)
            (right_times_lem w n ∙ (times-told w (Memᴰ.append_left ns k) ∙ expected w true e))
        go n false e =
            let k : In w ns = ⊎_elim (λ j. never (sym e ∙ in_among w (left_args r) (left_in w j n))) (λ j. right_in w j n) (Memᴰ.append_cases L m) in
            right_two (times w L) (times w R) (left_times w n ∙ times-out w (left_args r) e)
            (right_times_lem w n ∙ (times-told w (Memᴰ.append_right (left_args r) k) ∙ expected w false e))

    fine-words : any (wrong_word ags L R) (L ++ R) ≡ false
    fine-words = false-any (wrong_word ags L R) (L ++ R) word-fine

  pub eight-words : any (wrong_word ags L R) (words_of (nodes (lefts r ++ rights r))) ≡ fault8 b (is_rule r)
  unfolding fault8 all lefts
  eight-words =
      rw (nodes-apart (lefts r) (rights r), words_append (nodes (lefts r)) (nodes (rights r)), one, two)
      (bool_iff _ _ words-fine fine-words)

-- Where a left field is none, the number is given.
pub eight_first : (b : Book) (r : Rule) → over_names b.agents r.first ≡ false → true ≡ fault8 b (is_rule r)
unfolding fault8 all lefts
eight_first b r h = rw h

pub eight-second : (b : Book) (r : Rule) → over_names b.agents r.first ≡ true → over_names b.agents r.second ≡ false → true ≡ fault8 b (is_rule r)
unfolding fault8 all lefts
eight-second b r h k = rw (h, k)
