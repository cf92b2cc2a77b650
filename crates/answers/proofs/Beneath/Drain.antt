-- Which equations are never met: following names one after another leaves the same equations in whichever order the names come.
use Rattle.std.specs.Prelude.{◌≡◌, refl, [], List, ◌∷◌, ◌++◌, ℕ, zero, suc, ◌≤◌, ◌<◌, length}
use Rattle.std.proofs.Common.{sym, ◌∙◌, ap, ap₂, subst, arith}
use Rattle.std.proofs.Math.Decide.{ℕ_discrete}
use Rattle.calculus.specs.Terms.{none, keep, swap, step, var, Term, Eqn, ◌≐◌, ◌∼◌, names, Reordered, if_eq, side, touches}
use Rattle.calculus.proofs.Beneath.Perm.{perm_sym, perm_of_eq, perm_cons, perm_shift, perm_exchange, perm_append_left}
use Rattle.calculus.proofs.Beneath.Perm.{Path_equivalence, perm_length}
use Rattle.calculus.proofs.Beneath.Sub.{Sides_equivalence}
use Rattle.calculus.proofs.Beneath.Count.{δ_same, δ_other, if_yes, if_no}
use Rattle.calculus.proofs.Beneath.Ended.{touches-∼}
use Rattle.answers.specs.Answer.{some, none, if_name, Pick, alone, beside, picked, pick}
use Rattle.answers.proofs.Beneath.Order.{Is, it, not, is, PickAlike, PickIs, pick-∼, pick_is, rest-once}

abbrev pub Once : List Eqn → Type 0
Once l = (x : ℕ) → touches x l ≤ 1

-- Follow some names: what each is tied to is met, and then the names in it are followed. The equations left.
abbrev pub went : (List ℕ → List Eqn → List Eqn) → List ℕ → Pick → List Eqn → List Eqn
went tied xs alone d = d
went tied xs (beside t l) d = tied (names t ++ xs) l

abbrev pub drain_by : (List ℕ → List Eqn → List Eqn) → List ℕ → List Eqn → List Eqn
drain_by tied [] l = l
drain_by tied (x ∷ xs) l = went tied xs (pick x l) (drain_by tied xs l)

abbrev pub drain : ℕ → List ℕ → List Eqn → List Eqn
drain zero xs l = drain_by (λ ys m. m) xs l
drain (suc n) xs l = drain_by (drain n) xs l

pub pick_untouched : (x : ℕ) (l : List Eqn) → touches x l ≡ 0 → pick x l ≡ alone
pick_untouched x l h = go (pick x l) (pick_is x l)
  where
    go : (p : Pick) → PickIs x l p → p ≡ alone
    go alone i = refl
    go (beside t r) i = absurd (omega (arith, h, touches-∼ x i, δ_same x))

pub drain_none : (n : ℕ) (l : List Eqn) → drain n [] l ≡ l
drain_none zero l = refl
drain_none (suc n) l = refl

pub drain-alone : (n x : ℕ) (xs : List ℕ) (l : List Eqn) → touches x l ≡ 0 → drain n (x ∷ xs) l ≡ drain n xs l
drain-alone zero x xs l h = ap (λ p. went (λ ys m. m) xs p (drain_by (λ ys m. m) xs l)) (pick_untouched x l h)
drain-alone (suc n) x xs l h = ap (λ p. went (drain n) xs p (drain_by (drain n) xs l)) (pick_untouched x l h)

pub pick_shorter : (x : ℕ) (l : List Eqn) {r : List Eqn} {t : Term} → pick x l ≡ beside t r → length l ≡ suc (length r)
pick_shorter x l e = perm_length (subst (PickIs x l) e (pick_is x l))

-- Any number will do that is not below that of the equations.
abbrev Agree : ℕ → (List ℕ → List Eqn → List Eqn) → (List ℕ → List Eqn → List Eqn) → Type 0
Agree k f g = (xs : List ℕ) (l : List Eqn) → length l < k → f xs l ≡ g xs l

drain_by-enough : (k : ℕ) (f g : List ℕ → List Eqn → List Eqn) → Agree k f g → (xs : List ℕ) (l : List Eqn)
    → length l ≤ k → drain_by f xs l ≡ drain_by g xs l
drain_by-enough k f g h [] l b = refl
drain_by-enough k f g h (x ∷ xs) l b = go (pick x l) (pick_is x l) (drain_by-enough k f g h xs l b)
  where
    go : (p : Pick) → PickIs x l p → drain_by f xs l ≡ drain_by g xs l
        → went f xs p (drain_by f xs l) ≡ went g xs p (drain_by g xs l)
    go alone i e = e
    go (beside t r) i e = h (names t ++ xs) r (omega (arith, b, perm_length i))

pub drain-enough : (n m : ℕ) (xs : List ℕ) (l : List Eqn) → length l ≤ n → length l ≤ m → drain n xs l ≡ drain m xs l
drain-enough zero zero xs l b c = refl
drain-enough zero (suc m) xs l b c =
    drain_by-enough 0 (λ ys m. m) (drain m) (λ ys k d. absurd (omega (arith, d))) xs l b
drain-enough (suc n) zero xs l b c =
    drain_by-enough 0 (drain n) (λ ys m. m) (λ ys k d. absurd (omega (arith, d))) xs l c
drain-enough (suc n) (suc m) xs l b c =
    drain_by-enough
    (length l)
    (drain n)
    (drain m)
    (λ ys k d. drain-enough n m ys k (omega (arith, b, d)) (omega (arith, c, d)))
    xs
    l
    (omega arith)

pub drain-tie : (n x : ℕ) (xs : List ℕ) (l : List Eqn) (t : Term) (r : List Eqn) → pick x l ≡ beside t r → length l ≤ n
    → drain n (x ∷ xs) l ≡ drain n (names t ++ xs) r
drain-tie zero x xs l t r e b = absurd (omega (arith, b, pick_shorter x l e))
drain-tie (suc n) x xs l t r e b =
    ap (λ p. went (drain n) xs p (drain_by (drain n) xs l)) e
    ∙ drain-enough n (suc n) (names t ++ xs) r (omega (arith, b, pick_shorter x l e)) (omega (
      arith,
      b,
      pick_shorter x l e,
    ))

-- Order and sides of the equations.
drain_by-∼ : (f : List ℕ → List Eqn → List Eqn) → ((xs : List ℕ) (l m : List Eqn) → l ∼ m → Once l → f xs l ∼ f xs m)
    → (xs : List ℕ) (l m : List Eqn) → l ∼ m → Once l → drain_by f xs l ∼ drain_by f xs m
drain_by-∼ f h [] l m p o = p
drain_by-∼ f h (x ∷ xs) l m p o = go (pick x l) (pick x m) (pick-∼ x p (o x)) (pick_is x l) (drain_by-∼ f h xs l m p o)
  where
    go : (q r : Pick) → PickAlike q r → PickIs x l q → drain_by f xs l ∼ drain_by f xs m
        → went f xs q (drain_by f xs l) ∼ went f xs r (drain_by f xs m)
    go alone alone a i d = d
    go alone (beside u k) a i d = absurd a
    go (beside t j) alone a i d = absurd a
    go (beside t j) (beside u k) a i d = rw (← a.0) (h (names t ++ xs) j k a.1 (rest-once i o))

pub drain-∼ : (n : ℕ) (xs : List ℕ) (l m : List Eqn) → l ∼ m → Once l → drain n xs l ∼ drain n xs m
drain-∼ zero xs l m p o = drain_by-∼ (λ ys k. k) (λ ys l m p o. p) xs l m p o
drain-∼ (suc n) xs l m p o = drain_by-∼ (drain n) (λ ys l m p o. drain-∼ n ys l m p o) xs l m p o

-- The order of the names. What a name touches is picked first.
pub pick_first : (x : ℕ) (t : Term) (l : List Eqn) → pick x ((var x ≐ t) ∷ l) ≡ beside t l
pick_first x t l = ap (λ o. picked (var x ≐ t) l o (pick x l)) (if_yes (some t) (if_name x t (some (var x)) none) refl)

pick_second : (x y : ℕ) (l : List Eqn) → ¬ (y ≡ x) → pick y ((var x ≐ var y) ∷ l) ≡ beside (var x) l
pick_second x y l n =
    ap
    (λ o. picked (var x ≐ var y) l o (pick y l))
    (if_no (some (var y)) (if_eq y y (some (var x)) none) n ∙ if_yes (some (var x)) none refl)

pub beside-alike : (x : ℕ) {l m : List Eqn} {t u : Term} {r s : List Eqn} → l ∼ m → Once l → pick x l ≡ beside t r
    → pick x m ≡ beside u s → (t ≡ u) × (r ∼ s)
beside-alike x {l} {m} {t} {u} {r} {s} p o e f =
    subst (λ q. PickAlike (beside t r) q) f (subst (λ q. PickAlike q (pick x m)) e (pick-∼ x p (o x)))

pub is_name : (y : ℕ) (t : Term) → 0 < side y t → t ≡ var y
is_name y t h = go (is y t)
  where
    go : Is y t → t ≡ var y
    go (it e s f) = e
    go (not s f) = absurd (omega (arith, h, s))

≈of : {l m : List Eqn} → l ≡ m → l ∼ m
≈of e = perm_of_eq Sides_equivalence e

back : {l m : List Eqn} → l ∼ m → m ∼ l
back p = perm_sym Sides_equivalence p

-- For equations fewer than b, the order of the names does not matter.
abbrev Ordered : ℕ → ℕ → Type 0
Ordered n b = (xs ys : List ℕ) → Reordered xs ys → (l : List Eqn) → length l < b → length l ≤ n → Once l → drain n xs l ∼ drain n ys l

module _ (n b : ℕ) (ih : Ordered n b) where
  shift : (x : ℕ) (xs ys : List ℕ) (l : List Eqn) → length l < b → length l ≤ n → Once l
      → drain n (xs ++ (x ∷ ys)) l ∼ drain n (x ∷ (xs ++ ys)) l
  shift x xs ys l s k o = ih (xs ++ (x ∷ ys)) (x ∷ (xs ++ ys)) (perm_shift Path_equivalence xs x ys) l s k o

  kept : (x : ℕ) (xs ys : List ℕ) (l : List Eqn) → length l ≤ b → length l ≤ n → Once l → Reordered xs ys
      → drain n xs l ∼ drain n ys l
      → drain n (x ∷ xs) l ∼ drain n (x ∷ ys) l
  kept x xs ys l s k o p d = go (pick x l) refl (pick_is x l)
    where
      go : (q : Pick) → pick x l ≡ q → PickIs x l q → drain n (x ∷ xs) l ∼ drain n (x ∷ ys) l
      go alone e i = step (≈of (drain-alone n x xs l i)) (step d (≈of (sym (drain-alone n x ys l i))))
      go (beside t r) e i =
          step
          (≈of (drain-tie n x xs l t r e k))
          (step
          (ih
          (names t ++ xs)
          (names t ++ ys)
          (perm_append_left Path_equivalence (names t) p)
          r
          (omega (arith, s, perm_length i))
          (omega (arith, k, perm_length i))
          (rest-once i o))
          (≈of (sym (drain-tie n x ys l t r e k))))

  -- One of the names is untouched.
  half : (x y : ℕ) (xs : List ℕ) (l : List Eqn) → length l ≤ b → length l ≤ n → Once l → touches x l ≡ 0
      → drain n (x ∷ y ∷ xs) l ∼ drain n (y ∷ x ∷ xs) l
  half x y xs l s k o z = step (≈of (drain-alone n x (y ∷ xs) l z)) (go (pick y l) refl (pick_is y l))
    where
      go : (q : Pick) → pick y l ≡ q → PickIs y l q → drain n (y ∷ xs) l ∼ drain n (y ∷ x ∷ xs) l
      go alone e i = ≈of (drain-alone n y xs l i ∙ sym (drain-alone n x xs l z) ∙ sym (drain-alone n y (x ∷ xs) l i))
      go (beside u r) e i =
          step
          (≈of (drain-tie n y xs l u r e k ∙ sym (drain-alone n x (names u ++ xs) r (omega (arith, z, touches-∼ x i)))))
          (step
          (back (shift x (names u) xs r (omega (arith, s, perm_length i)) (omega (arith, k, perm_length i)) (rest-once i o)))
          (≈of (sym (drain-tie n y (x ∷ xs) l u r e k))))

  -- Both are touched, in one equation or in two.
  both : (x y : ℕ) (xs : List ℕ) (l : List Eqn) → length l ≤ b → length l ≤ n → Once l → ¬ (y ≡ x)
      → (t u : Term) (r s : List Eqn)
      → pick x l ≡ beside t r → l ∼ (var x ≐ t) ∷ r → pick y l ≡ beside u s → l ∼ (var y ≐ u) ∷ s
      → drain n (x ∷ y ∷ xs) l ∼ drain n (y ∷ x ∷ xs) l
  both x y xs l a k o d t u r s e i f j = go (pick y r) refl (pick_is y r)
    where
      r_less : length r < b
      r_less = omega (arith, a, perm_length i)

      r-few : length r ≤ n
      r-few = omega (arith, k, perm_length i)

      s_less : length s < b
      s_less = omega (arith, a, perm_length j)

      s-few : length s ≤ n
      s-few = omega (arith, k, perm_length j)

      left : drain n (x ∷ y ∷ xs) l ∼ drain n (y ∷ (names t ++ xs)) r
      left = step (≈of (drain-tie n x (y ∷ xs) l t r e k)) (shift y (names t) xs r r_less r-few (rest-once i o))

      right : drain n (y ∷ x ∷ xs) l ∼ drain n (x ∷ (names u ++ xs)) s
      right = step (≈of (drain-tie n y (x ∷ xs) l u s f k)) (shift x (names u) xs s s_less s-few (rest-once j o))

      joined : touches y r ≡ 0 → t ≡ var y → drain n (x ∷ y ∷ xs) l ∼ drain n (y ∷ x ∷ xs) l
      joined z g =
          let w = beside-alike y (step i (≈of (ap (λ v. (var x ≐ v) ∷ r) g))) o f (pick_second x y r d) in
          let x-not-r : touches x r ≡ 0 = omega (arith, o x, touches-∼ x i, δ_same x) in
          step
          left
          (step
          (≈of (ap (λ v. drain n (y ∷ (names v ++ xs)) r) g ∙ drain-alone n y (y ∷ xs) r z ∙ drain-alone n y xs r z))
          (step
          (≈of (sym (drain-alone n x xs r x-not-r) ∙ sym (drain-alone n x (x ∷ xs) r x-not-r)))
          (step
          (drain-∼ n (x ∷ x ∷ xs) r s (back w.1) (rest-once i o))
          (step (≈of (ap (λ v. drain n (x ∷ (names v ++ xs)) s) (sym w.0))) (back right)))))

      go : (q : Pick) → pick y r ≡ q → PickIs y r q → drain n (x ∷ y ∷ xs) l ∼ drain n (y ∷ x ∷ xs) l
      go alone g z =
          joined z (is_name y t (omega (arith, z, touches-∼ y i, touches-∼ y j, δ_same y, δ_other {x = y} {y = x} d)))
      go (beside v q) g z =
          let w = beside-alike y (step i (step (perm_cons Sides_equivalence (var x ≐ t) z) swap)) o f (pick_first y v ((var x ≐ t) ∷ q)) in
          step
          left
          (step
          (≈of (drain-tie n y (names t ++ xs) r v q g r-few))
          (step
          (ih
          (names v ++ (names t ++ xs))
          (names t ++ (names v ++ xs))
          (perm_exchange Path_equivalence (names v) (names t) xs)
          q
          (omega (arith, r_less, perm_length z))
          (omega (arith, r-few, perm_length z))
          (rest-once z (rest-once i o)))
          (step
          (≈of (sym (drain-tie n x (names v ++ xs) ((var x ≐ t) ∷ q) t q (pick_first x t q) (omega (
            arith,
            r-few,
            perm_length z,
          )))))
          (step
          (back (drain-∼ n (x ∷ (names v ++ xs)) s ((var x ≐ t) ∷ q) w.1 (rest-once j o)))
          (step (≈of (ap (λ c. drain n (x ∷ (names c ++ xs)) s) (sym w.0))) (back right))))))

  swapped : (x y : ℕ) (xs : List ℕ) (l : List Eqn) → length l ≤ b → length l ≤ n → Once l
      → drain n (x ∷ y ∷ xs) l ∼ drain n (y ∷ x ∷ xs) l
  swapped x y xs l a k o = go (ℕ_discrete y x) (pick x l) refl (pick_is x l) (pick y l) refl (pick_is y l)
    where
      go : Dec (y ≡ x) → (p : Pick) → pick x l ≡ p → PickIs x l p → (q : Pick) → pick y l ≡ q → PickIs y l q
          → drain n (x ∷ y ∷ xs) l ∼ drain n (y ∷ x ∷ xs) l
      go (yes d) p e i q f j = ≈of (ap₂ (λ c d. drain n (c ∷ d ∷ xs) l) (sym d) d)
      go (no d) alone e i q f j = half x y xs l a k o i
      go (no d) (beside t r) e i alone f j = back (half y x xs l a k o j)
      go (no d) (beside t r) e i (beside u s) f j = both x y xs l a k o d t u r s e i f j

  ordered_more : (xs ys : List ℕ) → Reordered xs ys → (l : List Eqn) → length l ≤ b → length l ≤ n → Once l
      → drain n xs l ∼ drain n ys l
  ordered_more xs ys none l a k o = ≈of refl
  ordered_more xs ys (keep {a = x} {b = y} {l = us} {m = vs} e p) l a k o =
      subst (λ z. drain n (x ∷ us) l ∼ drain n (z ∷ vs) l) e (kept x us vs l a k o p (ordered_more us vs p l a k o))
  ordered_more xs ys (swap {a = x} {b = y} {l = us}) l a k o = swapped x y us l a k o
  ordered_more xs ys (step {m = zs} p q) l a k o = step (ordered_more xs zs p l a k o) (ordered_more zs ys q l a k o)

ordered : (n b : ℕ) → Ordered n b
ordered n zero xs ys p l s k o = absurd (omega (arith, s))
ordered n (suc b) xs ys p l s k o = ordered_more n b (ordered n b) xs ys p l (omega (arith, s)) k o

-- The names may be followed in any order.
pub drain_reordered : (n : ℕ) {xs ys : List ℕ} → Reordered xs ys → (l : List Eqn) → length l ≤ n → Once l
    → drain n xs l ∼ drain n ys l
drain_reordered n {xs} {ys} p l k o = ordered n (suc n) xs ys p l (omega (arith, k)) k o
