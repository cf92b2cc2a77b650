-- The look-up of a pair in the rules with one more.
use Rattle.std.specs.Prelude.{ℕ, suc, ◌+◌, ◌≡◌, refl, List, [], ◌∷◌, ◌++◌, length}
use Rattle.std.proofs.Common.{◌∙◌, arith}
use Rattle.model.specs.Table.{Entry, Found, none, straight, turned, find}
use Rattle.model.specs.Decisions.{both}

-- The first that finds something.
abbrev pub or_else : Found → Found → Found
or_else none g = g
or_else (straight i e) g = straight i e
or_else (turned i e) g = turned i e

never : {A : Type 0} (i : ℕ) (e : Entry) → straight i e ≡ none → A
never i e h = absurd (let z : ◌≡◌ {A = ℕ} 0 1 = cc in omega arith)

never' : {A : Type 0} (i : ℕ) (e : Entry) → turned i e ≡ none → A
never' i e h = absurd (let z : ◌≡◌ {A = ℕ} 0 1 = cc in omega arith)

pub find-append : (rs es : List Entry) (i a b : ℕ) → find (rs ++ es) i a b ≡ or_else (find rs i a b) (find es (i + length rs) a b)
find-append [] es i a b = let z : i + 0 ≡ i = omega arith in rw z
find-append (e ∷ rs) es i a b = go (both a b e.left e.right) (both a b e.right e.left) (find-append rs es (suc i) a b)
  where
    go : (d : Dec ((a ≡ e.left) × (b ≡ e.right))) (f : Dec ((a ≡ e.right) × (b ≡ e.left)))
        → find (rs ++ es) (suc i) a b ≡ or_else (find rs (suc i) a b) (find es (suc i + length rs) a b)
        → ◌≡◌ {A = Found} (elim d [ yes p ↦ straight i e | no p ↦ elim f [ yes q ↦ turned i e | no q ↦ find (rs ++ es) (suc i) a b ] ])
        (or_else (elim d [ yes p ↦ straight i e | no p ↦ elim f [ yes q ↦ turned i e | no q ↦ find rs (suc i) a b ] ]) (find es (i + suc (length rs)) a b))
    go (yes p) f h = refl
    go (no p) (yes q) h = refl
    go (no p) (no q) h = let z : i + suc (length rs) ≡ suc i + length rs = omega arith in rw z h

pub find-flip : (rs : List Entry) (i a b : ℕ) → find rs i a b ≡ none → find rs i b a ≡ none
find-flip [] i a b h = refl
find-flip (e ∷ rs) i a b h =
    go (both a b e.left e.right) (both a b e.right e.left) (both b a e.left e.right) (both b a e.right e.left) (find-flip rs (suc i) a b) h
  where
    go : (d : Dec ((a ≡ e.left) × (b ≡ e.right))) (f : Dec ((a ≡ e.right) × (b ≡ e.left)))
        (d' : Dec ((b ≡ e.left) × (a ≡ e.right))) (f' : Dec ((b ≡ e.right) × (a ≡ e.left)))
        → (find rs (suc i) a b ≡ none → find rs (suc i) b a ≡ none)
        → ◌≡◌ {A = Found} (elim d [ yes p ↦ straight i e | no p ↦ elim f [ yes q ↦ turned i e | no q ↦ find rs (suc i) a b ] ]) none
        → ◌≡◌ {A = Found} (elim d' [ yes p ↦ straight i e | no p ↦ elim f' [ yes q ↦ turned i e | no q ↦ find rs (suc i) b a ] ]) none
    go (yes p) f d' f' ih k = never i e k
    go (no p) (yes q) d' f' ih k = never' i e k
    go (no p) (no q) (yes p') f' ih k = absurd (q (p'.1, p'.0))
    go (no p) (no q) (no p') (yes q') ih k = absurd (p (q'.1, q'.0))
    go (no p) (no q) (no p') (no q') ih k = ih k

-- The look-up with one rule more, whose pair had none.
module _ (rs : List Entry) (e : Entry) (new : find rs 0 e.left e.right ≡ none) where
  abbrev pub Last : (a b : ℕ) → Dec ((a ≡ e.left) × (b ≡ e.right)) → Dec ((a ≡ e.right) × (b ≡ e.left)) → Found
  Last a b d f = elim d [ yes p ↦ straight (length rs) e | no p ↦ elim f [ yes q ↦ turned (length rs) e | no q ↦ find rs 0 a b ] ]

  pub find_more : (a b : ℕ) → find (rs ++ (e ∷ [])) 0 a b ≡ Last a b (both a b e.left e.right) (both a b e.right e.left)
  find_more a b = find-append rs (e ∷ []) 0 a b ∙ let z : 0 + length rs ≡ length rs = omega arith in rw z (go (both a b e.left e.right) (both a b e.right e.left))
    where
      none_else : (f : Found) → or_else f none ≡ f
      none_else none = refl
      none_else (straight i e) = refl
      none_else (turned i e) = refl

      go : (d : Dec ((a ≡ e.left) × (b ≡ e.right))) (f : Dec ((a ≡ e.right) × (b ≡ e.left)))
          → or_else (find rs 0 a b) (elim d [ yes p ↦ straight (length rs) e | no p ↦ elim f [ yes q ↦ turned (length rs) e | no q ↦ none ] ]) ≡ Last a b d f
      go (yes p) f = let z : find rs 0 a b ≡ none = rw (p.0, p.1) new in rw z
      go (no p) (yes q) = let z : find rs 0 a b ≡ none = rw (q.0, q.1) (find-flip rs 0 e.left e.right new) in rw z
      go (no p) (no q) = none_else (find rs 0 a b)
