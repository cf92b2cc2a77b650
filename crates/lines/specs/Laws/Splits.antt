-- The fields and the words of a part are the pieces that it splits into: between the tabs, and between the bytes of no word.
use Rattle.std.specs.Prelude.{ℕ, suc, ◌≡◌, refl, Bool, true, false, cond, not, ◌&&◌, ◌||◌, List, [], ◌∷◌, ◌++◌, map, length, eqb, filter}
use Rattle.std.specs.List.{slice_split, onto_first, list_any}
use Rattle.std.proofs.Common.{sym, ap, ◌∙◌, append-nil, arith, eqb-true}
use Rattle.std.proofs.Math.Seq.{append_snoc}
use Rattle.texts.specs.Bytes.{Word, any, keep, fields, on_field, word_byte}
use Rattle.texts.specs.Walk.{Met, depth, met, walk}
use Rattle.scan.specs.Words.{words_in}

pub any_list : {A : Type 0} (p : A → Bool) (xs : List A) → list_any p xs ≡ any p xs
unfolding any
any_list p [] = refl
any_list p (x ∷ xs) = rw (any_list p xs) refl

-- a byte that is a tab
abbrev pub tab : ℕ → Bool
tab b = eqb b 9

onto_field : (b : ℕ) (l : List ℕ) → onto_first b (slice_split tab l) ≡ on_field b (slice_split tab l)
unfolding on_field
onto_field b [] = refl
onto_field b (c ∷ s) = go (eqb c 9) (slice_split tab s)
  where
    go : (t : Bool) (ps : List Word) → onto_first b (cond t ([] ∷ ps) (onto_first c ps)) ≡ on_field b (cond t ([] ∷ ps) (onto_first c ps))
    go true ps = refl
    go false [] = refl
    go false (p ∷ ps) = refl

pub fields_split : (l : List ℕ) → slice_split tab l ≡ fields l
unfolding fields
fields_split [] = refl
fields_split (b ∷ bs) = rw (← fields_split bs, ← onto_field b bs) refl

pub any_field : (p : Word → Bool) (l : List ℕ) {r : Bool} → r ≡ list_any p (slice_split tab l) → r ≡ any p (fields l)
any_field p l e = e ∙ (any_list p (slice_split tab l) ∙ ap (any p) (fields_split l))

-- a byte of no word, and a piece that is a word
abbrev pub gap : ℕ → Bool
gap b = not (word_byte b)

abbrev pub full : Word → Bool
full w = not (eqb (length w) 0)

full_some : (b : ℕ) (w : Word) → full (b ∷ w) ≡ true
full_some b w = go (eqb (length (b ∷ w)) 0) refl
  where
    go : (t : Bool) → eqb (length (b ∷ w)) 0 ≡ t → not t ≡ true
    go true e = absurd (let z : suc (length w) ≡ 0 = eqb-true (length (b ∷ w)) 0 e in omega arith)
    go false e = refl

-- a word that is begun goes on in the first piece
begun : Word → List Word → List Word
begun w [] = w ∷ []
begun w (p ∷ ps) = (w ++ p) ∷ ps

begun_more : (w : Word) (b : ℕ) (ps : List Word) → begun w (onto_first b ps) ≡ begun (w ++ (b ∷ [])) ps
unfolding begun
begun_more w b [] = refl
begun_more w b (p ∷ ps) = rw append_snoc

begun_none : (l : List ℕ) → begun [] (slice_split gap l) ≡ slice_split gap l
unfolding begun
begun_none [] = refl
begun_none (b ∷ s) = go (gap b) (slice_split gap s)
  where
    go : (t : Bool) (ps : List Word) → begun [] (cond t ([] ∷ ps) (onto_first b ps)) ≡ cond t ([] ∷ ps) (onto_first b ps)
    go true ps = refl
    go false [] = refl
    go false (p ∷ ps) = refl

abbrev word_of : Met → Word
word_of m = m.word

ended : (w : Word) (d : ℕ) (ms : List Met) → map word_of (met w d ++ ms) ≡ filter full (w ∷ []) ++ map word_of ms
unfolding met
ended [] d ms = refl
ended (b ∷ w) d ms = rw (full_some b w) refl

full_more : (w : Word) (ps : List Word) → filter full (w ∷ []) ++ filter full ps ≡ filter full (w ∷ ps)
full_more [] ps = refl
full_more (b ∷ w) ps = rw (full_some b w) refl

walk_split : (l : List ℕ) (d : ℕ) (w : Word) → filter full (begun w (slice_split gap l)) ≡ map word_of (walk d w l)
unfolding walk met begun
walk_split [] d [] = refl
walk_split [] d (b ∷ w) =
    let e : (b ∷ w) ++ [] ≡ b ∷ w = rw append-nil refl in
    ap (λ v. filter full (v ∷ [])) e ∙ rw (full_some b w) refl
walk_split (b ∷ s) d w = go (word_byte b) (walk_split s d (w ++ (b ∷ []))) (walk_split s (depth d b) [])
  where
    go : (t : Bool) → filter full (begun (w ++ (b ∷ [])) (slice_split gap s)) ≡ map word_of (walk d (w ++ (b ∷ [])) s)
        → filter full (begun [] (slice_split gap s)) ≡ map word_of (walk (depth d b) [] s)
        → filter full (begun w (cond (not t) ([] ∷ slice_split gap s) (onto_first b (slice_split gap s))))
        ≡ map word_of (cond t (walk d (w ++ (b ∷ [])) s) (met w d ++ walk (depth d b) [] s))
    go true p q = rw (begun_more w b (slice_split gap s)) p
    go false p q =
        rw (append-nil) (sym (full_more w (slice_split gap s)))
        ∙ (ap (λ v. filter full (w ∷ []) ++ v) (sym (ap (filter full) (begun_none s)) ∙ q) ∙ sym (ended w d (walk (depth d b) [] s)))

pub words_split : (l : List ℕ) → filter full (slice_split gap l) ≡ words_in l
unfolding words_in
words_split l = sym (ap (filter full) (begun_none l)) ∙ walk_split l 0 []

keep_filter : (p q : Word → Bool) (ws : List Word) → filter (λ w. q w && p w) ws ≡ keep p (filter q ws)
unfolding keep
keep_filter p q [] = refl
keep_filter p q (w ∷ ws) = go (q w) (p w) (keep_filter p q ws)
  where
    go : (s t : Bool) → filter (λ w. q w && p w) ws ≡ keep p (filter q ws)
        → cond (s && p w) (w ∷ filter (λ w. q w && p w) ws) (filter (λ w. q w && p w) ws) ≡ keep p (cond s (w ∷ filter q ws) (filter q ws))
    go true t ih = rw ih refl
    go false t ih = ih

any_filter : (p q : Word → Bool) (ws : List Word) → list_any (λ w. q w && p w) ws ≡ any p (filter q ws)
unfolding any
any_filter p q [] = refl
any_filter p q (w ∷ ws) = go (q w) (any_filter p q ws)
  where
    go : (s : Bool) → list_any (λ w. q w && p w) ws ≡ any p (filter q ws)
        → (s && p w || list_any (λ w. q w && p w) ws) ≡ any p (cond s (w ∷ filter q ws) (filter q ws))
    go true ih = rw ih refl
    go false ih = ih

-- how many words pass a test, and whether one does
pub count_words : (p : Word → Bool) (l : List ℕ) {n : ℕ} → n ≡ length (filter (λ w. full w && p w) (slice_split gap l)) → n ≡ length (keep p (words_in l))
count_words p l e = e ∙ ap length (keep_filter p full (slice_split gap l) ∙ ap (keep p) (words_split l))

pub any_word : (p : Word → Bool) (l : List ℕ) {r : Bool} → r ≡ list_any (λ w. full w && p w) (slice_split gap l) → r ≡ any p (words_in l)
any_word p l e = e ∙ (any_filter p full (slice_split gap l) ∙ ap (any p) (words_split l))
