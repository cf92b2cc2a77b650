-- Lists up to order and up to a relation of their members: Perm is an equivalence, goes with ++ and map, and heads can
-- be compared.
use Rattle.std.specs.Prelude.{◌≡◌, refl, List, [], ◌∷◌, ◌++◌, map, ◌⊎◌, length}
use Rattle.std.proofs.Common.{sym, ◌∙◌, inl, inr, arith}
use Rattle.calculus.specs.Terms.{Perm, none, keep, swap, step}
use Rattle.calculus.proofs.Beneath.Diamond.{Equivalence}

pub Path_equivalence : {A : Type 0} → Equivalence (◌≡◌ {A = A})
Path_equivalence = record { same = λ a. refl; back = λ p. sym p; join = λ p q. p ∙ q }

pub perm_length : {A : Type 0} {R : A → A → Type 0} {l m : List A} → Perm R l m → length l ≡ length m
perm_length none = refl
perm_length (keep h p) = omega (arith, perm_length p)
perm_length swap = refl
perm_length (step p q) = perm_length p ∙ perm_length q

-- `Ins a l m`: m is l with a put in somewhere.
pub data Ins {A : Type 0} (a : A) : List A → List A → Type 0 where
  here : {l : List A} → Ins a l (a ∷ l)
  there : {b : A} {l m : List A} → Ins a l m → Ins a (b ∷ l) (b ∷ m)

-- Taking a member out of one of two lists takes its fellow out of the other.
pub record Taken {A : Type 0} (R : A → A → Type 0) (a : A) (l m : List A) : Type 0 where
  pub fellow : A
  pub rest : List A
  pub out : Ins fellow rest m
  pub alike : R a fellow
  pub others : Perm R l rest

-- Of two lists a ∷ l and b ∷ m alike each has the other's head further down.
pub record Moved {A : Type 0} (R : A → A → Type 0) (a b : A) (l m : List A) : Type 0 where
  pub both : List A
  pub left : Perm R l (b ∷ both)
  pub right : Perm R (a ∷ both) m

-- How the first two members of two lists alike, a ∷ b ∷ l and c ∷ d ∷ m, go together, up to the order in each pair:
-- each with each, a with c and no other, or none with any.
pub data Two {A : Type 0} (R : A → A → Type 0) (a b : A) (l : List A) (c d : A) (m : List A) : Type 0 where
  two_alike : R a c → R b d → Perm R l m → Two R a b l c d m
  one_alike : {k : List A} → R a c → Perm R l (d ∷ k) → Perm R m (b ∷ k) → Two R a b l c d m
  none_alike : {k : List A} → Perm R l (c ∷ d ∷ k) → Perm R m (a ∷ b ∷ k) → Two R a b l c d m

pub data Paired {A : Type 0} (R : A → A → Type 0) (a b : A) (l : List A) (c d : A) (m : List A) : Type 0 where
  as_is : Two R a b l c d m → Paired R a b l c d m
  left_turned : Two R b a l c d m → Paired R a b l c d m
  right_turned : Two R a b l d c m → Paired R a b l c d m
  both_turned : Two R b a l d c m → Paired R a b l c d m

module _ {A : Type 0} {R : A → A → Type 0} (E : Equivalence R) where
  pub perm_refl : (l : List A) → Perm R l l
  perm_refl [] = none
  perm_refl (a ∷ l) = keep (E.same a) (perm_refl l)

  pub perm_sym : {l m : List A} → Perm R l m → Perm R m l
  perm_sym none = none
  perm_sym (keep h p) = keep (E.back h) (perm_sym p)
  perm_sym swap = swap
  perm_sym (step p q) = step (perm_sym q) (perm_sym p)

  pub perm_of_eq : {l m : List A} → l ≡ m → Perm R l m
  perm_of_eq {l} e = rw (← e) (perm_refl l)

  pub perm_cons : (a : A) {l m : List A} → Perm R l m → Perm R (a ∷ l) (a ∷ m)
  perm_cons a p = keep (E.same a) p

  pub perm_ins : {a : A} {l m : List A} → Ins a l m → Perm R (a ∷ l) m
  perm_ins here = perm_refl _
  perm_ins (there {b = b} i) = step swap (perm_cons b (perm_ins i))

  pub perm_shift : (l : List A) (a : A) (m : List A) → Perm R (l ++ (a ∷ m)) (a ∷ (l ++ m))
  perm_shift [] a m = perm_refl (a ∷ m)
  perm_shift (b ∷ l) a m = step (perm_cons b (perm_shift l a m)) swap

  pub perm_append_left : (l : List A) {m n : List A} → Perm R m n → Perm R (l ++ m) (l ++ n)
  perm_append_left [] p = p
  perm_append_left (a ∷ l) p = perm_cons a (perm_append_left l p)

  pub perm_append_right : {l m : List A} (n : List A) → Perm R l m → Perm R (l ++ n) (m ++ n)
  perm_append_right n none = perm_refl n
  perm_append_right n (keep h p) = keep h (perm_append_right n p)
  perm_append_right n swap = swap
  perm_append_right n (step p q) = step (perm_append_right n p) (perm_append_right n q)

  pub perm_append : {l l' m m' : List A} → Perm R l l' → Perm R m m' → Perm R (l ++ m) (l' ++ m')
  perm_append {l' = l'} {m = m} p q = step (perm_append_right m p) (perm_append_left l' q)

  pub perm_exchange : (l m n : List A) → Perm R (l ++ (m ++ n)) (m ++ (l ++ n))
  perm_exchange [] m n = perm_refl (m ++ n)
  perm_exchange (a ∷ l) m n = step (perm_cons a (perm_exchange l m n)) (perm_sym (perm_shift m a (l ++ n)))

  pub take : {a : A} {l l' m : List A} → Perm R l' m → Ins a l l' → Taken R a l m
  take {a = c} {l = l} none i = elim i [ ]
  take {l = l} (keep {b = b} {m = m} h p) here = record { fellow = b; rest = m; out = here; alike = h; others = p }
  take {a = a} (keep {b = b} {l = l'} {m = m} h p) (there {b = b'} {l = l} i) =
      let t = take {a = a} {l = l} p i in
      record {
        fellow = t.fellow;
        rest = b ∷ t.rest;
        out = there t.out;
        alike = t.alike;
        others = keep h t.others;
      }
  take (swap {a = a} {b = b} {l = l}) here =
      record { fellow = a; rest = b ∷ l; out = there here; alike = E.same a; others = perm_refl (b ∷ l) }
  take (swap {a = a} {b = b} {l = l}) (there here) =
      record { fellow = b; rest = a ∷ l; out = here; alike = E.same b; others = perm_refl (a ∷ l) }
  take {a = c} (swap {a = a} {b = b}) (there (there {l = k} i)) =
      record { fellow = c; rest = b ∷ a ∷ k; out = there (there i); alike = E.same c; others = swap }
  take {a = a} {l = l} (step p q) i =
      let t = take {a = a} {l = l} p i in
      let u = take {a = t.fellow} {l = t.rest} q t.out in
      record {
        fellow = u.fellow;
        rest = u.rest;
        out = u.out;
        alike = E.join t.alike u.alike;
        others = step t.others u.others;
      }

  -- Of two lists alike with heads a and b, either a is b's fellow, or each list has the other's head further down.
  pub perm_heads : {a b : A} {l m : List A} → Perm R (a ∷ l) (b ∷ m) → (R a b × Perm R l m) ⊎ Moved R a b l m
  perm_heads {a} {b} {l} {m} p = go t.out t.alike t.others
    where
      t : Taken R a l (b ∷ m)
      t = take p here

      go : {c : A} {r : List A} → Ins c r (b ∷ m) → R a c → Perm R l r → (R a b × Perm R l m) ⊎ Moved R a b l m
      go here h o = inl (h, o)
      go (there {l = k} i) h o = inr (record { both = k; left = o; right = step (keep h (perm_refl k)) (perm_ins i) })

  -- The first two of each of two lists alike.
  pub perm_two : {a b c d : A} {l m : List A} → Perm R (a ∷ b ∷ l) (c ∷ d ∷ m) → Paired R a b l c d m
  perm_two {a} {b} {c} {d} {l} {m} p = elim (perm_heads p) [
    | inl h ↦ elim (perm_heads h.1) [
      | inl k ↦ as_is (two_alike h.0 k.0 k.1)
      | inr k ↦ as_is (one_alike h.0 k.left (perm_sym k.right))
    ]
    | inr h ↦ elim (perm_heads h.left) [
      | inl k ↦ elim (perm_heads h.right) [
        | inl j ↦ left_turned (two_alike k.0 j.0 (step k.1 j.1))
        | inr j ↦ left_turned (one_alike k.0 (step k.1 j.left) (perm_sym j.right))
      ]
      | inr k ↦ elim (perm_heads h.right) [
        | inl j ↦ right_turned (one_alike j.0 k.left (perm_sym (step k.right j.1)))
        | inr j ↦ third k j
      ]
    ]
  ]
    where
      -- neither a nor b is c, and a is not d
      third : {o : List A} → Moved R b c l o → Moved R a d o m → Paired R a b l c d m
      third k j = elim (perm_heads (step k.right j.left)) [
        | inl i ↦ both_turned (one_alike i.0 k.left (perm_sym (step (perm_cons a i.1) j.right)))
        | inr i ↦ as_is (
            none_alike
            (step k.left (perm_cons c i.left))
            (step (perm_sym j.right) (perm_cons a (perm_sym i.right))))
      ]

-- A map that keeps the relation keeps the permutation.
pub perm_map : {A B : Type 0} {R : A → A → Type 0} {S : B → B → Type 0} (f : A → B)
    → ((a b : A) → R a b → S (f a) (f b)) → {l m : List A} → Perm R l m → Perm S (map f l) (map f m)
perm_map f h none = none
perm_map f h (keep e p) = keep (h _ _ e) (perm_map f h p)
perm_map f h swap = swap
perm_map f h (step p q) = step (perm_map f h p) (perm_map f h q)
