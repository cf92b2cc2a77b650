-- The coded form of a good rule: each left argument once, each new name twice, each cell once.
use Rattle.std.specs.Prelude.{ℕ, zero, suc, ◌+◌, ◌<◌, ◌≤◌, ◌≡◌, Bool, cond, ◌≢◌, length}
use Rattle.std.proofs.Math.Path.{refl, sym}
use Rattle.std.proofs.Common.{◌∙◌, ⊎_elim, arith}
use Rattle.std.proofs.Math.Bool.{true, false, not}
use mathlib.Core.List.Memᴰ
use mathlib.Core.List.{List, [], ◌∷◌, ◌++◌}
use Rattle.std.proofs.Math.Dec.{eqb}
use borrow.Author.Tests.{eqb-true, eqb-false, eq-eqb, ne_eqb, not-true}
use Rattle.parts.specs.Sides.{Side, name, cell}
use Rattle.texts.specs.Bytes.{Word, any, keep, same, among, times, index_of, In, Distinct}
use Rattle.texts.specs.Terms.{Term, Terms, term, nil, cons, nodes, words_of}
use Rattle.texts.specs.Books.{Agent, Equation, Rule, declared, takes, sides, lefts, rights, head_of, heads, args_of, left_args, cells_of, names_of, new_names_of}
use Rattle.texts.specs.RuleText.{even, wrong_args, word_at}
use Rattle.texts.specs.Coded.{twos, packed, codes, cells_from, second_from, new_from, rule_number, template, unpaired}
use Rattle.texts.specs.TableTest.{args_all, all_codes, same_side, tally}
use Rattle.texts.proofs.Beneath.Tools.{never, false-any, among_in}
use Rattle.texts.proofs.Beneath.Places.{at_in, not_at, not_in, index_all, index_less, distinct_left, distinct_right, distinct_apart, keep_in, in_keep, different_in, different-distinct}
use Rattle.texts.specs.Linear.{words, words_in, one}
use Rattle.texts.proofs.Beneath.Linear.{words_all, tally-cons, tally-append, cell_tally, code-count, cell-count}
use Rattle.texts.proofs.Beneath.NetMeans.{nodes-append}
use Rattle.texts.specs.RuleSound.{SoundRule}
use Rattle.texts.specs.Templates.{Few}

pub unpaired-twos : (cs : List Side) → even cs ≡ true → unpaired (twos cs) ≡ cs
unfolding unpaired twos even
unpaired-twos [] h = refl
unpaired-twos (c ∷ []) h = never h
unpaired-twos (c ∷ d ∷ cs) h = rw (unpaired-twos cs h)

pub codes-even : (ags : List Agent) (number : Word → ℕ) (es : List Equation) (m : ℕ) → even (codes ags number m (packed (sides es))) ≡ true
unfolding codes packed sides even
codes-even ags number [] m = refl
codes-even ags number (e ∷ es) m = codes-even ags number es _

module _ (ags : List Agent) (r : Rule) (ok : any (wrong_args ags) (nodes (rights r)) ≡ false) where
  pub template-count : (p : Side → Bool)
      → tally p (all_codes (template ags r)) ≡ tally (λ w. p (name (rule_number ags r w))) (names_of ags (rights r)) + cell_tally p 0 (length (cells_of ags (rights r)))
  unfolding all_codes template rights
  template-count p =
      rw (
        unpaired-twos (codes ags (rule_number ags r) 0 (packed (sides r.right))) (codes-even ags (rule_number ags r) r.right 0),
        tally-append p (codes ags (rule_number ags r) 0 (packed (sides r.right))) (args_all (cells_from ags (rule_number ags r) 0 (packed (sides r.right)))),
      )
      (code-count ags (rule_number ags r) p (sides r.right) 0 ok)

  pub template-cells : length (template ags r).cells ≡ length (cells_of ags (rights r))
  unfolding template
  template-cells = cell-count ags (rule_number ags r) (rights r) 0 ok

module _ {A : Type 0} where
  tally-nil : (p : A → Bool) → tally p [] ≡ 0
  unfolding tally keep
  tally-nil p = refl

  pub tally_ext : (p q : A → Bool) (xs : List A) → ((x : A) → In x xs → p x ≡ q x) → tally p xs ≡ tally q xs
  tally_ext p q [] h = tally-nil p ∙ sym (tally-nil q)
  tally_ext p q (x ∷ xs) h =
      rw (tally-cons p x xs, tally-cons q x xs, h x (Memᴰ.head refl), tally_ext p q xs (λ y m. h y (Memᴰ.tail m)))

  pub tally_none : (p : A → Bool) (xs : List A) → ((x : A) → p x ≡ false) → tally p xs ≡ 0
  unfolding tally keep
  tally_none p [] h = refl
  tally_none p (x ∷ xs) h = rw (h x) (tally_none p xs h)

module _ (p : Side → Bool) where
  cell-zero : (m : ℕ) → cell_tally p m 0 ≡ 0
  unfolding cell_tally
  cell-zero m = refl

  pub cell-suc : (m n : ℕ) → cell_tally p m (suc n) ≡ one (p (cell m)) + cell_tally p (suc m) n
  unfolding cell_tally
  cell-suc m n = refl

  pub cell_none : (n m : ℕ) → ((k : ℕ) → m ≤ k → k < m + n → p (cell k) ≡ false) → cell_tally p m n ≡ 0
  cell_none zero m h = cell-zero m
  cell_none (suc n) m h = rw (cell-suc m n, h m (omega arith) (omega arith), cell_none n (suc m) (λ k l j. h k (omega arith) (omega arith))) (omega arith)

cell-past : (n m k : ℕ) → k < m → cell_tally (same_side (cell k)) m n ≡ 0
unfolding same_side
cell-past n m k h = cell_none (same_side (cell k)) n m (λ j l i. ne_eqb k j (λ z. omega arith))

pub cell_one : (n m k : ℕ) → m ≤ k → k < m + n → cell_tally (same_side (cell k)) m n ≡ 1
unfolding same_side
cell_one zero m k h l = absurd (omega arith)
cell_one (suc n) m k h l = rw (cell-suc (same_side (cell k)) m n) (go (eqb k m) refl (cell_one n (suc m) k))
  where
    go : (t : Bool) → eqb k m ≡ t → (suc m ≤ k → k < suc m + n → cell_tally (same_side (cell k)) (suc m) n ≡ 1)
        → one (same_side (cell k) (cell m)) + cell_tally (same_side (cell k)) (suc m) n ≡ 1
    go true e ih =
        let z : k ≡ m = eqb-true k m e in rw (e, cell-past n (suc m) k (omega arith)) (omega arith)
    go false e ih =
        let z : k ≢ m = eqb-false k m e in rw (e, ih (omega arith) (omega arith)) (omega arith)

-- A name is no cell.
pub name-cell : (x k : ℕ) → (same_side (name x) (cell k) ≡ false) × (same_side (cell k) (name x) ≡ false)
unfolding same_side
name-cell x k = (refl, refl)

pub name-name : (x y : ℕ) → same_side (name x) (name y) ≡ eqb x y
unfolding same_side
name-name x y = refl

pub eqb_shift : (k i j : ℕ) → eqb (k + i) (k + j) ≡ eqb i j
eqb_shift k i j = go (eqb i j) refl
  where
    go : (t : Bool) → eqb i j ≡ t → eqb (k + i) (k + j) ≡ t
    go true e = let z : i ≡ j = eqb-true i j e in eq-eqb (k + i) (k + j) (omega (arith, z))
    go false e = let z : i ≢ j = eqb-false i j e in ne_eqb (k + i) (k + j) (λ y. z (omega (arith, y)))

heads-words : (ts : Terms) (w : Word) → In w (heads ts) → In w (words_in ts)
unfolding heads words head_of
heads-words nil w m = m
heads-words (cons (term v us) ts) w m =
    ⊎_elim (λ e. Memᴰ.head e) (λ k. Memᴰ.tail (Memᴰ.append_right (words_in us) (heads-words ts w k))) (Memᴰ.cases_cons m)

args-words : (t : Term) (w : Word) → In w (args_of t) → In w (words t)
unfolding args_of words
args-words (term v ts) w m = Memᴰ.tail (heads-words ts w m)

new_distinct : (ags : List Agent) (r : Rule) → Distinct (new_names_of ags r)
unfolding new_names_of
new_distinct ags r = different-distinct _

-- Argument counts on the right.
pub right_args : (ags : List Agent) (r : Rule) → SoundRule ags r → any (wrong_args ags) (nodes (rights r)) ≡ false
unfolding wrong_args
right_args ags r s =
    false-any (wrong_args ags) (nodes (rights r))
    (λ n m. rw (eq-eqb n.args (takes ags n.word) (s.arities n (rw (nodes-append (lefts r) (rights r)) (Memᴰ.append_right (nodes (lefts r)) m)))))

two_words : (s t : Term) (w : Word) → In w (args_of s ++ args_of t) → In w (words_in (packed (s ∷ t ∷ [])))
unfolding packed words
two_words s t w k =
    ⊎_elim (λ j. Memᴰ.append_left (words t ++ []) (args-words s w j)) (λ j. Memᴰ.append_right (words s) (Memᴰ.append_left [] (args-words t w j)))
    (Memᴰ.append_cases (args_of s) k)

left_words : (ags : List Agent) (r : Rule) (w : Word) → In w (left_args r) → declared ags w ≡ false → In w (names_of ags (lefts r))
unfolding left_args names_of lefts
left_words ags r w m h =
    in_keep (λ v. not (declared ags v)) w (words_of (nodes (r.first ∷ r.second ∷ [])))
    (rw (words_all (r.first ∷ r.second ∷ [])) (two_words r.first r.second w m)) (rw h)

module _ (ags : List Agent) (r : Rule) (s : SoundRule ags r) (few : Few r) where
  abbrev xs : List Word
  xs = args_of r.first

  abbrev ys : List Word
  ys = args_of r.second

  abbrev ns : List Word
  ns = new_names_of ags r

  apart : Distinct (xs ++ ys)
  unfolding left_args
  apart = s.named.distinct

  pub left_code : (i : ℕ) (w : Word) → i < length xs → eqb i (rule_number ags r w) ≡ same (word_at i xs) w
  unfolding rule_number
  left_code i w h = go (among w xs) (among w ys) refl
    where
      go : (t u : Bool) → among w xs ≡ t → eqb i (cond t (index_of w xs) (cond u (second_from + index_of w ys) (new_from + index_of w ns))) ≡ same (word_at i xs) w
      go true u e = index_all xs i w h (distinct_left xs ys apart)
      go false true e = ne_eqb i _ (λ z. omega (arith, z, h, few.first)) ∙ sym (not_at i xs w h (not_in w xs e))
      go false false e = ne_eqb i _ (λ z. omega (arith, z, h, few.first)) ∙ sym (not_at i xs w h (not_in w xs e))

  pub right_code : (j : ℕ) (w : Word) → j < length ys → eqb (second_from + j) (rule_number ags r w) ≡ same (word_at j ys) w
  unfolding rule_number
  right_code j w h = go (among w xs) (among w ys) refl refl
    where
      go : (t u : Bool) → among w xs ≡ t → among w ys ≡ u
          → eqb (second_from + j) (cond t (index_of w xs) (cond u (second_from + index_of w ys) (new_from + index_of w ns))) ≡ same (word_at j ys) w
      go true u e f =
          let l = index_less w xs e in
          ne_eqb (second_from + j) _ (λ z. omega (arith, z, l, few.first)) ∙ sym (not_at j ys w h (distinct_apart xs ys w apart (among_in w xs e)))
      go false true e f = eqb_shift second_from j (index_of w ys) ∙ index_all ys j w h (distinct_right xs ys apart)
      go false false e f = ne_eqb (second_from + j) _ (λ z. omega (arith, z, h, few.second)) ∙ sym (not_at j ys w h (not_in w ys f))

  pub new_apart : (w : Word) → In w ns → In w (names_of ags (rights r)) × (¬ In w (left_args r))
  unfolding new_names_of
  new_apart w m =
      let p = keep_in (λ v. not (among v (names_of ags (lefts r)))) w (names_of ags (rights r)) (different_in w _ m) in
      (p.0, λ k. not_in w (names_of ags (lefts r)) (not-true _ p.1) (left_words ags r w k (s.named.names w k)))

  pub new_code : (k : ℕ) (w : Word) → k < length ns → eqb (new_from + k) (rule_number ags r w) ≡ same (word_at k ns) w
  unfolding rule_number left_args
  new_code k w h = go (among w xs) (among w ys) refl refl
    where
      go : (t u : Bool) → among w xs ≡ t → among w ys ≡ u
          → eqb (new_from + k) (cond t (index_of w xs) (cond u (second_from + index_of w ys) (new_from + index_of w ns))) ≡ same (word_at k ns) w
      go true u e f =
          let l = index_less w xs e in
          ne_eqb (new_from + k) _ (λ z. omega (arith, z, l, few.first)) ∙ sym (not_at k ns w h (λ m. (new_apart w m).1 (Memᴰ.append_left ys (among_in w xs e))))
      go false true e f =
          let l = index_less w ys f in
          ne_eqb (new_from + k) _ (λ z. omega (arith, z, l, few.second)) ∙ sym (not_at k ns w h (λ m. (new_apart w m).1 (Memᴰ.append_right xs (among_in w ys f))))
      go false false e f = eqb_shift new_from k (index_of w ns) ∙ index_all ns k w h (new_distinct ags r)

  ok : any (wrong_args ags) (nodes (rights r)) ≡ false
  ok = right_args ags r s

  counted : (x : ℕ) (v : Word) → ((w : Word) → eqb x (rule_number ags r w) ≡ same v w)
      → tally (same_side (name x)) (all_codes (template ags r)) ≡ times v (names_of ags (rights r))
  unfolding times tally
  counted x v h =
      template-count ags r ok (same_side (name x))
      ∙ rw (
        cell_none (same_side (name x)) (length (cells_of ags (rights r))) 0 (λ n l j. (name-cell x n).0),
        tally_ext (λ w. same_side (name x) (name (rule_number ags r w))) (same v) (names_of ags (rights r)) (λ w m. name-name x _ ∙ h w),
      ) (omega arith)

  -- Each left argument stands once, each new name twice, each cell once.
  pub left_once : (i : ℕ) → i < length xs → tally (same_side (name i)) (all_codes (template ags r)) ≡ 1
  unfolding left_args
  left_once i h = counted i (word_at i xs) (λ w. left_code i w h) ∙ s.named.once (word_at i xs) (Memᴰ.append_left ys (at_in i xs h))

  pub right_once : (j : ℕ) → j < length ys → tally (same_side (name (second_from + j))) (all_codes (template ags r)) ≡ 1
  unfolding left_args
  right_once j h = counted (second_from + j) (word_at j ys) (λ w. right_code j w h) ∙ s.named.once (word_at j ys) (Memᴰ.append_right xs (at_in j ys h))

  pub new_twice : (k : ℕ) → k < length ns → tally (same_side (name (new_from + k))) (all_codes (template ags r)) ≡ 2
  new_twice k h =
      let p = new_apart (word_at k ns) (at_in k ns h) in
      counted (new_from + k) (word_at k ns) (λ w. new_code k w h) ∙ s.named.twice (word_at k ns) p.0 p.1

  pub cell-once : (k : ℕ) → k < length (template ags r).cells → tally (same_side (cell k)) (all_codes (template ags r)) ≡ 1
  cell-once k h =
      template-count ags r ok (same_side (cell k))
      ∙ rw (
        tally_none (λ w. same_side (cell k) (name (rule_number ags r w))) (names_of ags (rights r)) (λ w. (name-cell (rule_number ags r w) k).1),
        cell_one (length (cells_of ags (rights r))) 0 k (omega arith) (omega (arith, template-cells ags r ok)),
      ) (omega arith)
