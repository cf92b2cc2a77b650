-- The numbers of the names of a rule on a sheet that begins with the places of the left arguments.
use Rattle.std.specs.Prelude.{ℕ, ◌+◌, ◌≤◌, ◌≡◌, Bool, cond, length, get_or, replicate}
use Rattle.std.proofs.Math.Path.{refl, sym, ap}
use Rattle.std.proofs.Common.{ap₂, ◌∙◌, ⊎_elim, arith}
use Rattle.std.proofs.Math.Bool.{true, false, not, ◌||◌}
use mathlib.Core.List.Memᴰ
use mathlib.Core.List.{List, [], ◌∷◌, ◌++◌, append_assoc}
use Rattle.parts.specs.Limits.{arity_max}
use Rattle.texts.specs.Bytes.{Word, any, all, same, among, index_of, different, In}
use Rattle.texts.specs.Terms.{Term, Terms, term, nil, cons, identifier, worded, wordeds, nodes, words_of}
use Rattle.texts.specs.Books.{Agent, Rule, declared, args_of, left_args, lefts, rights, names_of, new_names_of}
use Rattle.texts.specs.Coded.{packed, second_from, new_from, rule_number}
use Rattle.texts.specs.RuleSound.{SoundRule}
use Rattle.texts.proofs.Beneath.Tools.{never, both, neither, among_in, in_among}
use Rattle.texts.proofs.Beneath.Places.{index_left, keep_in}
use Rattle.texts.proofs.Beneath.TermLists.{among-append}
use Rattle.texts.specs.Linear.{words, words_in}
use Rattle.texts.proofs.Beneath.Linear.{words_all}
use Rattle.texts.specs.Templates.{Few}
use Rattle.texts.proofs.Beneath.Ranged.{left_names, names_left}
use Rattle.table.specs.Lists.{tab}
use Rattle.table.specs.Laws.Lists.{length-tab}
use Rattle.terms.specs.Meaning.{grown}
use Rattle.rule_sheet.specs.Lefts.{firsts, places}
use Rattle.rule_sheet.specs.Laws.Grown.{grown_new, keep_same}

-- Words of well-spelt terms are not empty.
unfoldable pub Full : Word → Type 0
Full w = same w [] ≡ false

full : (w : Word) → identifier w ≡ true → Full w
unfolding identifier same Full
full [] h = never h
full (b ∷ w) h = refl

mutual
  unfolding words worded

  word-full : (t : Term) → worded t ≡ true → (w : Word) → In w (words t) → Full w
  word-full (term v ts) h w m =
      let p = both (identifier v) (wordeds ts) h in
      ⊎_elim (λ e. rw e (full v p.0)) (λ k. words-full ts p.1 w k) (Memᴰ.cases_cons m)

  words-full : (ts : Terms) → wordeds ts ≡ true → (w : Word) → In w (words_in ts) → Full w
  words-full nil h w m = absurd (Memᴰ.not-nil m)
  words-full (cons t ts) h w m =
      let p = both (worded t) (wordeds ts) h in
      ⊎_elim (λ k. word-full t p.0 w k) (λ k. words-full ts p.1 w k) (Memᴰ.append_cases (words t) m)

wordeds_all : (ts : List Term) → all worded ts ≡ true → wordeds (packed ts) ≡ true
unfolding packed worded all
wordeds_all [] h = refl
wordeds_all (t ∷ ts) h = let p = both (worded t) (all worded ts) h in rw p.0 (wordeds_all ts p.1)

pub names-full : (ags : List Agent) (ts : List Term) → all worded ts ≡ true → (w : Word) → In w (names_of ags ts) → Full w
unfolding names_of
names-full ags ts h w m =
    words-full (packed ts) (wordeds_all ts h) w (rw (words_all ts) at (keep_in (λ v. not (declared ags v)) w (words_of (nodes ts)) m).0)

-- The places of some words: the words, and free places.
free-places : (n : ℕ) → firsts n [] ≡ replicate n []
unfolding firsts tab
free-places ℕ.zero = refl
free-places (ℕ.suc n) = ap (λ (l : List Word). [] ∷ l) (free-places n)

places-are : (n : ℕ) (ws : List Word) → length ws ≤ n → (k : ℕ) × (firsts n ws ≡ ws ++ replicate k [])
unfolding firsts tab
places-are n [] h = (n, free-places n)
places-are ℕ.zero (w ∷ ws) h = absurd (omega arith)
places-are (ℕ.suc n) (w ∷ ws) h = let p = places-are n ws (omega arith) in (p.0, ap (λ (l : List Word). w ∷ l) p.1)

among-free : (w : Word) (k : ℕ) → Full w → among w (replicate k []) ≡ false
unfolding among any Full
among-free w ℕ.zero h = refl
among-free w (ℕ.suc k) h = rw h (among-free w k h)

or_no : (t : Bool) → (t || false) ≡ t
or_no true = refl
or_no false = refl

pub among-places : (w : Word) (ws : List Word) → Full w → length ws ≤ arity_max → among w (places ws) ≡ among w ws
among-places w ws h l =
    let p = places-are arity_max ws l in
    ap (among w) p.1 ∙ (among-append w ws (replicate p.0 []) ∙ (ap (λ t. among w ws || t) (among-free w p.0 h) ∙ or_no (among w ws)))

index_places : (w : Word) (ws : List Word) → length ws ≤ arity_max → among w ws ≡ true → index_of w (places ws) ≡ index_of w ws
index_places w ws l h = let p = places-are arity_max ws l in ap (index_of w) p.1 ∙ index_left w ws (replicate p.0 []) h

pub places-long : (ws : List Word) → length (places ws) ≡ arity_max
unfolding firsts
places-long ws = length-tab arity_max (λ k. get_or ws k [])

index_right : (w : Word) (us vs : List Word) → among w us ≡ false → index_of w (us ++ vs) ≡ length us + index_of w vs
unfolding among any index_of
index_right w [] vs h = omega arith
index_right w (u ∷ us) vs h =
    let p = neither (same w u) (any (same w) us) h in
    rw p.0 (omega (arith, index_right w us vs p.1))

module _ (ags : List Agent) (r : Rule) (s : SoundRule ags r) (few : Few r) (spelt : all worded (rights r) ≡ true) where
  abbrev xs : List Word
  xs = args_of r.first

  abbrev ys : List Word
  ys = args_of r.second

  abbrev ns : List Word
  ns = new_names_of ags r

  -- The names that stand on the sheet before the right side is read.
  abbrev pub begun : List Word
  begun = places (args_of r.first) ++ places (args_of r.second)

  old_is : (w : Word) → In w (names_of ags (rights r)) → not (among w begun) ≡ not (among w (names_of ags (lefts r)))
  unfolding left_args
  old_is w m =
      let f = names-full ags (rights r) spelt w m in
      ap not (among-append w (places xs) (places ys)
      ∙ (ap₂ ◌||◌ (among-places w xs f few.first) (among-places w ys f few.second)
      ∙ (sym (among-append w xs ys)
      ∙ iff (among w (xs ++ ys)) (among w (names_of ags (lefts r)))
      (λ h. in_among w (names_of ags (lefts r)) (names_left ags r s w (among_in w (xs ++ ys) h)))
      (λ h. in_among w (xs ++ ys) (left_names ags r s w (among_in w (names_of ags (lefts r)) h))))))
    where
      iff : (t u : Bool) → (t ≡ true → u ≡ true) → (u ≡ true → t ≡ true) → t ≡ u
      iff true true h k = refl
      iff true false h k = sym (h refl)
      iff false true h k = k refl
      iff false false h k = refl

  -- Behind them stand the new names.
  pub grown-are : grown begun (names_of ags (rights r)) ≡ begun ++ new_names_of ags r
  unfolding new_names_of
  grown-are =
      grown_new begun (names_of ags (rights r))
      ∙ ap (λ (l : List Word). begun ++ different l)
      (keep_same (λ w. not (among w begun)) (λ w. not (among w (names_of ags (lefts r)))) (names_of ags (rights r)) old_is)

  -- A name's place there is its number.
  pub number_is : (w : Word) → In w (names_of ags (rights r)) → index_of w (begun ++ new_names_of ags r) ≡ rule_number ags r w
  unfolding rule_number
  number_is w m = go (among w xs) (among w ys) refl refl
    where
      f : Full w
      f = names-full ags (rights r) spelt w m

      go : (t u : Bool) → among w xs ≡ t → among w ys ≡ u
          → index_of w (begun ++ new_names_of ags r) ≡ cond t (index_of w xs) (cond u (second_from + index_of w ys) (new_from + index_of w (new_names_of ags r)))
      go true u a b =
          ap (index_of w) (append_assoc (places xs) (places ys) ns)
          ∙ (index_left w (places xs) (places ys ++ ns) (among-places w xs f few.first ∙ a) ∙ index_places w xs few.first a)
      go false true a b =
          ap (index_of w) (append_assoc (places xs) (places ys) ns)
          ∙ (index_right w (places xs) (places ys ++ ns) (among-places w xs f few.first ∙ a)
          ∙ ap₂ ◌+◌ (places-long xs) (index_left w (places ys) ns (among-places w ys f few.second ∙ b) ∙ index_places w ys few.second b))
      go false false a b =
          ap (index_of w) (append_assoc (places xs) (places ys) ns)
          ∙ (index_right w (places xs) (places ys ++ ns) (among-places w xs f few.first ∙ a)
          ∙ omega (arith, places-long xs, places-long ys, index_right w (places ys) ns (among-places w ys f few.second ∙ b)))
