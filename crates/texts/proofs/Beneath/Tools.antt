-- Small laws of tests, used by the theorems.
use Rattle.std.specs.Prelude.{ℕ, ◌⊎◌, Bool, ◌&&◌, ◌||◌, length, eqb}
use Rattle.std.proofs.Math.Path.{◌≡◌, refl, ap}
use Rattle.std.proofs.Common.{sym, ◌∙◌, inl, inr, arith, eqb-true, eq-eqb}
use Rattle.std.proofs.Math.Logic.{⊎_elim}
use Rattle.std.proofs.Math.Bool.{true, false, cond, not, or_assoc, or-true}
use mathlib.Core.List.Memᴰ
use mathlib.Core.List.{List, [], ◌∷◌, ◌++◌}
use Rattle.std.proofs.Math.Option.{Option, none, some}
use Rattle.texts.specs.Bytes.{Word, any, all, keep, In, same, among}
use Rattle.texts.specs.Answers.{◌>>=◌}

pub never : {A : Type 0} → false ≡ true → A
never h = absurd (let z : ◌≡◌ {A = ℕ} 0 1 = cc in omega arith)

pub never' : {A : Type 0} → true ≡ false → A
never' h = never (sym h)

pub both : (t u : Bool) → (t && u) ≡ true → (t ≡ true) × (u ≡ true)
both true u h = (refl, h)
both false u h = never h

pub pair : (t u : Bool) → t ≡ true → u ≡ true → (t && u) ≡ true
pair t u h k = rw (h, k)

pub neither : (t u : Bool) → (t || u) ≡ false → (t ≡ false) × (u ≡ false)
neither true u h = never' h
neither false u h = (refl, h)

pub none_of : (t u : Bool) → t ≡ false → u ≡ false → (t || u) ≡ false
none_of t u h k = rw (h, k)

-- A test picks one of two.
pub pick : {A : Type 0} (P : A → Type 0) (t : Bool) {x y : A} → (t ≡ true → P x) → (t ≡ false → P y) → P (cond t x y)
pick P true h k = h refl
pick P false h k = k refl

module _ {A : Type 0} where
  pub all_append : (f : A → Bool) (xs ys : List A) → all f xs ≡ true → all f ys ≡ true → all f (xs ++ ys) ≡ true
  unfolding all
  all_append f [] ys h k = k
  all_append f (x ∷ xs) ys h k = let p = both (f x) (all f xs) h in rw p.0 (all_append f xs ys p.1 k)

  pub all_left : (f : A → Bool) (xs ys : List A) → all f (xs ++ ys) ≡ true → all f xs ≡ true
  unfolding all
  all_left f [] ys h = refl
  all_left f (x ∷ xs) ys h = let p = both (f x) (all f (xs ++ ys)) h in rw p.0 (all_left f xs ys p.1)

  pub all_right : (f : A → Bool) (xs ys : List A) → all f (xs ++ ys) ≡ true → all f ys ≡ true
  unfolding all
  all_right f [] ys h = h
  all_right f (x ∷ xs) ys h = all_right f xs ys (both (f x) (all f (xs ++ ys)) h).1

  pub all_mono : (f g : A → Bool) → ((x : A) → f x ≡ true → g x ≡ true) → (xs : List A) → all f xs ≡ true → all g xs ≡ true
  unfolding all
  all_mono f g fg [] h = refl
  all_mono f g fg (x ∷ xs) h = let p = both (f x) (all f xs) h in rw (fg x p.0) (all_mono f g fg xs p.1)

  -- no element passes
  pub any_none : (f : A → Bool) (xs : List A) → all (λ x. not (f x)) xs ≡ true → any f xs ≡ false
  unfolding all any
  any_none f [] h = refl
  any_none f (x ∷ xs) h = go (f x) (any_none f xs) h
    where
      go : (t : Bool) → (all (λ y. not (f y)) xs ≡ true → any f xs ≡ false) → (not t && all (λ y. not (f y)) xs) ≡ true → (t || any f xs) ≡ false
      go true ih k = never k
      go false ih k = ih k

  pub none_any : (f : A → Bool) (xs : List A) → any f xs ≡ false → all (λ x. not (f x)) xs ≡ true
  unfolding all any
  none_any f [] h = refl
  none_any f (x ∷ xs) h = let p = neither (f x) (any f xs) h in rw p.0 (none_any f xs p.1)

  pub any_append : (f : A → Bool) (xs ys : List A) → any f (xs ++ ys) ≡ (any f xs || any f ys)
  unfolding any
  any_append f [] ys = refl
  any_append f (x ∷ xs) ys = rw (any_append f xs ys) (sym (or_assoc (f x) (any f xs) (any f ys)))

  pub keep_append : (f : A → Bool) (xs ys : List A) → keep f (xs ++ ys) ≡ keep f xs ++ keep f ys
  unfolding keep
  keep_append f [] ys = refl
  keep_append f (x ∷ xs) ys = rw (keep_append f xs ys) (go (f x))
    where
      go : (t : Bool) → cond t (x ∷ (keep f xs ++ keep f ys)) (keep f xs ++ keep f ys) ≡ cond t (x ∷ keep f xs) (keep f xs) ++ keep f ys
      go true = refl
      go false = refl

-- Words.
pub same_refl : (w : Word) → same w w ≡ true
unfolding same
same_refl [] = refl
same_refl (x ∷ xs) = rw (eq-eqb x x refl) (same_refl xs)

pub same_eq : (v w : Word) → same v w ≡ true → v ≡ w
unfolding same
same_eq [] [] h = refl
same_eq [] (y ∷ ys) h = never h
same_eq (x ∷ xs) [] h = never h
same_eq (x ∷ xs) (y ∷ ys) h =
    let p = both (eqb x y) (same xs ys) h in
    let e : x ≡ y = eqb-true x y p.0 in
    let q : xs ≡ ys = same_eq xs ys p.1 in rw (e, q)

-- Places in lists.
module _ {A : Type 0} where
  pub any_false : (f : A → Bool) (x : A) (xs : List A) → any f xs ≡ false → In x xs → f x ≡ false
  unfolding any
  any_false f x [] h m = absurd (Memᴰ.not-nil m)
  any_false f x (y ∷ ys) h m =
      let p = neither (f y) (any f ys) h in ⊎_elim (λ e. ap f e ∙ p.0) (λ k. any_false f x ys p.1 k) (Memᴰ.cases_cons m)

  pub false-any : (f : A → Bool) (xs : List A) → ((x : A) → In x xs → f x ≡ false) → any f xs ≡ false
  unfolding any
  false-any f [] h = refl
  false-any f (x ∷ xs) h = none_of (f x) (any f xs) (h x (Memᴰ.head refl)) (false-any f xs (λ y m. h y (Memᴰ.tail m)))

  pub all_true : (f : A → Bool) (x : A) (xs : List A) → all f xs ≡ true → In x xs → f x ≡ true
  unfolding all
  all_true f x [] h m = absurd (Memᴰ.not-nil m)
  all_true f x (y ∷ ys) h m =
      let p = both (f y) (all f ys) h in ⊎_elim (λ e. ap f e ∙ p.0) (λ k. all_true f x ys p.1 k) (Memᴰ.cases_cons m)

  pub true_all : (f : A → Bool) (xs : List A) → ((x : A) → In x xs → f x ≡ true) → all f xs ≡ true
  unfolding all
  true_all f [] h = refl
  true_all f (x ∷ xs) h = pair (f x) (all f xs) (h x (Memᴰ.head refl)) (true_all f xs (λ y m. h y (Memᴰ.tail m)))

  pub any-true : (f : A → Bool) (xs : List A) → any f xs ≡ true → (x : A) × In x xs × (f x ≡ true)
  unfolding any
  any-true f [] h = never h
  any-true f (y ∷ ys) h = go (f y) refl h (any-true f ys)
    where
      go : (t : Bool) → f y ≡ t → (t || any f ys) ≡ true → (any f ys ≡ true → (x : A) × In x ys × (f x ≡ true)) → (x : A) × In x (y ∷ ys) × (f x ≡ true)
      go true e k ih = (y, Memᴰ.head refl, e)
      go false e k ih = let p = ih k in (p.0, Memᴰ.tail p.1, p.2)

  pub any_in : (f : A → Bool) (x : A) (xs : List A) → In x xs → f x ≡ true → any f xs ≡ true
  unfolding any
  any_in f x [] m h = absurd (Memᴰ.not-nil m)
  any_in f x (y ∷ ys) m h = go (f y) refl (Memᴰ.cases_cons m) (λ k. any_in f x ys k h)
    where
      go : (t : Bool) → f y ≡ t → (x ≡ y) ⊎ In x ys → (In x ys → any f ys ≡ true) → (t || any f ys) ≡ true
      go true e k ih = refl
      go false e (inl z) ih = never (sym e ∙ (ap f (sym z) ∙ h))
      go false e (inr k) ih = ih k

  pub in_split : (x : A) (xs : List A) → In x xs → (us : List A) × (vs : List A) × (xs ≡ us ++ (x ∷ vs))
  in_split x [] m = absurd (Memᴰ.not-nil m)
  in_split x (y ∷ ys) m = go (Memᴰ.cases_cons m) (in_split x ys)
    where
      go : (x ≡ y) ⊎ In x ys → (In x ys → (us : List A) × (vs : List A) × (ys ≡ us ++ (x ∷ vs))) → (us : List A) × (vs : List A) × (y ∷ ys ≡ us ++ (x ∷ vs))
      go (inl e) ih = ([], ys, rw e)
      go (inr k) ih = let p = ih k in (y ∷ p.0, p.1, ap (λ (l : List A). y ∷ l) p.2)

pub among_in : (w : Word) (ws : List Word) → among w ws ≡ true → In w ws
unfolding among any
among_in w [] h = never h
among_in w (v ∷ vs) h = go (same w v) refl h (among_in w vs)
  where
    go : (t : Bool) → same w v ≡ t → (t || among w vs) ≡ true → (among w vs ≡ true → In w vs) → In w (v ∷ vs)
    go true e k ih = Memᴰ.head (same_eq w v e)
    go false e k ih = Memᴰ.tail (ih k)

pub in_among : (w : Word) (ws : List Word) → In w ws → among w ws ≡ true
unfolding among any
in_among w ws (Memᴰ.head {x = v} e) = rw (← e, same_refl w)
in_among w ws (Memᴰ.tail {x = v} {xs = vs} m) = rw (in_among w vs m) (or-true (same w v))

-- What is found.
module _ {A B : Type 0} where
  pub found : (m : Option A) (f : A → Option B) {b : B} → (m >>= f) ≡ some b → (a : A) × (m ≡ some a) × (f a ≡ some b)
  unfolding ◌>>=◌
  found none f h = absurd (let z : ◌≡◌ {A = ℕ} 0 1 = cc in omega arith)
  found (some a) f h = (a, refl, h)

pub empty : {A : Type 0} (us : List A) → length us ≡ 0 → us ≡ []
empty [] h = refl
empty (u ∷ us) h = absurd (omega (arith, h))

pub not_empty : {A : Type 0} {x : A} {l : List A} → ¬ (x ∷ l ≡ [])
not_empty e = omega (arith, ap length e)

pub cons-eq : {A : Type 0} {x y : A} {xs ys : List A} → x ≡ y → xs ≡ ys → x ∷ xs ≡ y ∷ ys
cons-eq p q = rw (p, q)
