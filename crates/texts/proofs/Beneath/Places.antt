-- Words by their places in a list, kept words and different words.
use Rattle.std.specs.Prelude.{ℕ, zero, suc, ◌<◌, ◌≡◌, Bool, cond, not, ◌&&◌, ◌||◌, ◌⊎◌, length, eqb}
use Rattle.std.proofs.Math.Path.{refl, ap}
use Rattle.std.proofs.Common.{sym, ◌∙◌, inl, inr, arith, eqb-true, ne_eqb}
use Rattle.std.proofs.Math.Bool.{true, false}
use Rattle.std.proofs.Math.Logic.{⊎_elim}
use mathlib.Core.List.Memᴰ
use mathlib.Core.List.{List, [], ◌∷◌, ◌++◌}
use Rattle.std.proofs.Math.Dec.{eqb-zero-suc, eqb-suc-zero, eqb-suc-suc}
use Rattle.texts.specs.Bytes.{Word, any, keep, same, among, different, index_of, In, Distinct}
use Rattle.texts.specs.RuleText.{word_at}
use Rattle.texts.proofs.Beneath.Tools.{never, neither, same_refl, same_eq, among_in, in_among}

pub same_turn : (v w : Word) → same v w ≡ same w v
same_turn v w = go (same v w) (same w v) refl refl
  where
    go : (t u : Bool) → same v w ≡ t → same w v ≡ u → t ≡ u
    go true true e f = refl
    go false false e f = refl
    go true false e f = sym (never (sym f ∙ rw (same_eq v w e) (same_refl w)))
    go false true e f = never (sym e ∙ rw (same_eq w v f) (same_refl v))

pub same_not : (v w : Word) → (v ≡ w → ⊥) → same v w ≡ false
same_not v w h = go (same v w) refl
  where
    go : (t : Bool) → same v w ≡ t → t ≡ false
    go true e = absurd (h (same_eq v w e))
    go false e = refl

pub at_in : (i : ℕ) (xs : List Word) → i < length xs → In (word_at i xs) xs
unfolding word_at
at_in i [] h = absurd (omega arith)
at_in zero (x ∷ xs) h = Memᴰ.head refl
at_in (suc i) (x ∷ xs) h = Memᴰ.tail (at_in i xs (omega arith))

pub not_at : (i : ℕ) (xs : List Word) (w : Word) → i < length xs → ¬ In w xs → same (word_at i xs) w ≡ false
not_at i xs w h n = same_not (word_at i xs) w (λ e. n (Memᴰ.cast (sym e) (at_in i xs h)))

pub index_at : (xs : List Word) (i : ℕ) (w : Word) → i < length xs → Distinct xs → among w xs ≡ true → eqb i (index_of w xs) ≡ same (word_at i xs) w
unfolding word_at index_of Distinct
index_at [] i w h d a = absurd (omega arith)
index_at (x ∷ xs) i w h (n, d) a = go i h (same w x) refl (index_at xs)
  where
    rest : (t : Bool) → same w x ≡ t → t ≡ false → among w xs ≡ true
    rest t e f = ⊎_elim (λ k. never (sym (e ∙ f) ∙ rw k (same_refl x))) (λ k. in_among w xs k) (Memᴰ.cases_cons (among_in w (x ∷ xs) a))

    go : (i : ℕ) → i < suc (length xs) → (t : Bool) → same w x ≡ t
        → ((i : ℕ) (w : Word) → i < length xs → Distinct xs → among w xs ≡ true → eqb i (index_of w xs) ≡ same (word_at i xs) w)
        → eqb i (cond t 0 (suc (index_of w xs))) ≡ same (word_at i (x ∷ xs)) w
    go zero l true e ih = let z : w ≡ x = same_eq w x e in sym (rw z (same_refl x))
    go (suc i) l true e ih =
        let z : w ≡ x = same_eq w x e in
        eqb-suc-zero i ∙ sym (not_at i xs w (omega arith) (λ m. n (Memᴰ.cast (sym z) m)))
    go zero l false e ih = eqb-zero-suc (index_of w xs) ∙ sym (same_not x w (λ z. never (sym e ∙ rw z (same_refl w))))
    go (suc i) l false e ih = eqb-suc-suc i (index_of w xs) ∙ ih i w (omega arith) d (rest false e refl)

pub not_in : (w : Word) (xs : List Word) → among w xs ≡ false → ¬ In w xs
not_in w xs h m = never (sym h ∙ in_among w xs m)

pub index_none : (w : Word) (xs : List Word) → among w xs ≡ false → index_of w xs ≡ length xs
unfolding index_of among any
index_none w [] h = refl
index_none w (x ∷ xs) h = let p = neither (same w x) (any (same w) xs) h in rw (p.0, index_none w xs p.1)

pub index_all : (xs : List Word) (i : ℕ) (w : Word) → i < length xs → Distinct xs → eqb i (index_of w xs) ≡ same (word_at i xs) w
index_all xs i w h d = go (among w xs) refl
  where
    go : (t : Bool) → among w xs ≡ t → eqb i (index_of w xs) ≡ same (word_at i xs) w
    go true e = index_at xs i w h d e
    go false e = rw (index_none w xs e) (ne_eqb i (length xs) (λ z. omega arith) ∙ sym (not_at i xs w h (not_in w xs e)))

pub distinct_left : (xs ys : List Word) → Distinct (xs ++ ys) → Distinct xs
unfolding Distinct
distinct_left [] ys d = tt
distinct_left (x ∷ xs) ys (n, d) = (λ m. n (Memᴰ.append_left ys m), distinct_left xs ys d)

pub distinct_right : (xs ys : List Word) → Distinct (xs ++ ys) → Distinct ys
unfolding Distinct
distinct_right [] ys d = d
distinct_right (x ∷ xs) ys (n, d) = distinct_right xs ys d

pub distinct_apart : (xs ys : List Word) (w : Word) → Distinct (xs ++ ys) → In w xs → ¬ In w ys
unfolding Distinct
distinct_apart [] ys w d m k = absurd (Memᴰ.not-nil m)
distinct_apart (x ∷ xs) ys w (n, d) m k =
    ⊎_elim (λ e. n (Memᴰ.append_right xs (Memᴰ.cast (sym e) k))) (λ j. distinct_apart xs ys w d j k) (Memᴰ.cases_cons m)

-- Kept and different words.
module _ (f : Word → Bool) where
  pub keep_in : (w : Word) (ws : List Word) → In w (keep f ws) → In w ws × (f w ≡ true)
  unfolding keep
  keep_in w [] m = absurd (Memᴰ.not-nil m)
  keep_in w (v ∷ vs) m = go (f v) refl m (keep_in w vs)
    where
      go : (t : Bool) → f v ≡ t → In w (cond t (v ∷ keep f vs) (keep f vs)) → (In w (keep f vs) → In w vs × (f w ≡ true)) → In w (v ∷ vs) × (f w ≡ true)
      go true e k ih = ⊎_elim (λ z. (Memᴰ.head z, ap f z ∙ e)) (λ j. let p = ih j in (Memᴰ.tail p.0, p.1)) (Memᴰ.cases_cons k)
      go false e k ih = let p = ih k in (Memᴰ.tail p.0, p.1)

  pub in_keep : (w : Word) (ws : List Word) → In w ws → f w ≡ true → In w (keep f ws)
  unfolding keep
  in_keep w [] m h = absurd (Memᴰ.not-nil m)
  in_keep w (v ∷ vs) m h = go (f v) refl (Memᴰ.cases_cons m) (λ k. in_keep w vs k h)
    where
      go : (t : Bool) → f v ≡ t → (w ≡ v) ⊎ In w vs → (In w vs → In w (keep f vs)) → In w (cond t (v ∷ keep f vs) (keep f vs))
      go true e (inl z) ih = Memᴰ.head z
      go true e (inr k) ih = Memᴰ.tail (ih k)
      go false e (inl z) ih = never (sym e ∙ (ap f (sym z) ∙ h))
      go false e (inr k) ih = ih k

  pub keep-distinct : (ws : List Word) → Distinct ws → Distinct (keep f ws)
  unfolding keep Distinct
  keep-distinct [] d = tt
  keep-distinct (w ∷ ws) (n, d) = go (f w) (keep-distinct ws d)
    where
      go : (t : Bool) → Distinct (keep f ws) → Distinct (cond t (w ∷ keep f ws) (keep f ws))
      go true ih = (λ m. n (keep_in w ws m).0, ih)
      go false ih = ih

pub different_in : (w : Word) (ws : List Word) → In w (different ws) → In w ws
unfolding different
different_in w [] m = m
different_in w (v ∷ vs) m =
    ⊎_elim (λ e. Memᴰ.head e) (λ k. Memᴰ.tail (different_in w vs (keep_in (λ u. not (same v u)) w (different vs) k).0)) (Memᴰ.cases_cons m)

pub different-distinct : (ws : List Word) → Distinct (different ws)
unfolding different Distinct
different-distinct [] = tt
different-distinct (v ∷ vs) =
    (λ m. never (sym (ap not (same_refl v)) ∙ (keep_in (λ u. not (same v u)) v (different vs) m).1), keep-distinct (λ u. not (same v u)) (different vs) (different-distinct vs))

pub index_less : (w : Word) (xs : List Word) → among w xs ≡ true → index_of w xs < length xs
unfolding index_of among any
index_less w [] h = never h
index_less w (x ∷ xs) h = go (same w x) h (index_less w xs)
  where
    go : (t : Bool) → (t || among w xs) ≡ true → (among w xs ≡ true → index_of w xs < length xs) → cond t 0 (suc (index_of w xs)) < suc (length xs)
    go true k ih = omega arith
    go false k ih = let z = ih k in omega (arith, z)

-- In the first part.
pub index_left : (w : Word) (xs ys : List Word) → among w xs ≡ true → index_of w (xs ++ ys) ≡ index_of w xs
unfolding index_of among any
index_left w [] ys h = never h
index_left w (x ∷ xs) ys h = go (same w x) h (index_left w xs ys)
  where
    go : (t : Bool) → (t || among w xs) ≡ true → (among w xs ≡ true → index_of w (xs ++ ys) ≡ index_of w xs)
        → cond t 0 (suc (index_of w (xs ++ ys))) ≡ cond t 0 (suc (index_of w xs))
    go true k ih = refl
    go false k ih = rw (ih k)

-- At the end of the first part.
pub index_next : (w : Word) (xs ys : List Word) → among w xs ≡ false → index_of w (xs ++ (w ∷ ys)) ≡ length xs
unfolding index_of among any
index_next w [] ys h = rw (same_refl w)
index_next w (x ∷ xs) ys h = let p = neither (same w x) (among w xs) h in rw (p.0, index_next w xs ys p.1)

pub word_index : (w : Word) (xs : List Word) → among w xs ≡ true → word_at (index_of w xs) xs ≡ w
unfolding word_at index_of among any
word_index w [] h = never h
word_index w (x ∷ xs) h = go (same w x) refl h (word_index w xs)
  where
    go : (t : Bool) → same w x ≡ t → (t || among w xs) ≡ true → (among w xs ≡ true → word_at (index_of w xs) xs ≡ w) → word_at (cond t 0 (suc (index_of w xs))) (x ∷ xs) ≡ w
    go true e k ih = sym (same_eq w x e)
    go false e k ih = ih k

pub index_word : (i : ℕ) (xs : List Word) → i < length xs → Distinct xs → index_of (word_at i xs) xs ≡ i
index_word i xs h d = sym (eqb-true i (index_of (word_at i xs) xs) (index_all xs i (word_at i xs) h d ∙ same_refl (word_at i xs)))

pub in_different : (w : Word) (ws : List Word) → In w ws → In w (different ws)
unfolding different
in_different w [] m = m
in_different w (v ∷ vs) m = go (same v w) refl (Memᴰ.cases_cons m) (in_different w vs)
  where
    go : (t : Bool) → same v w ≡ t → (w ≡ v) ⊎ In w vs → (In w vs → In w (different vs)) → In w (v ∷ keep (λ u. not (same v u)) (different vs))
    go true e k ih = Memᴰ.head (sym (same_eq v w e))
    go false e (inl z) ih = Memᴰ.head z
    go false e (inr k) ih = Memᴰ.tail (in_keep (λ u. not (same v u)) w (different vs) (ih k) (rw e))

pub keep-keep : (f g h : Word → Bool) (xs : List Word) → ((x : Word) → In x xs → (g x && f x) ≡ h x) → keep f (keep g xs) ≡ keep h xs
unfolding keep
keep-keep f g h [] e = refl
keep-keep f g h (x ∷ xs) e = go (g x) (f x) (h x) refl (e x (Memᴰ.head refl)) (keep-keep f g h xs (λ y m. e y (Memᴰ.tail m)))
  where
    go : (t u v : Bool) → f x ≡ u → (t && u) ≡ v → keep f (keep g xs) ≡ keep h xs → keep f (cond t (x ∷ keep g xs) (keep g xs)) ≡ cond v (x ∷ keep h xs) (keep h xs)
    go true true true a b ih = rw (a, ih)
    go true false false a b ih = rw (a, ih)
    go false u false a b ih = ih
    go true true false a b ih = never (sym b)
    go true false true a b ih = never b
    go false u true a b ih = never b

pub keep-every : (f : Word → Bool) (xs : List Word) → ((x : Word) → In x xs → f x ≡ true) → keep f xs ≡ xs
unfolding keep
keep-every f [] h = refl
keep-every f (x ∷ xs) h = rw (h x (Memᴰ.head refl), keep-every f xs (λ y m. h y (Memᴰ.tail m)))
