-- Numbers of names and symbols: places in a list, and lists that grow. Assumes nothing.
use Rattle.std.specs.Prelude.{None, Some, ℕ, zero, suc, ◌+◌, ◌*◌, ◌<◌, ◌≤◌, ◌≡◌, Bool, true, false, cond, ◌||◌, length, get_or, refl, List, [], ◌∷◌, ◌++◌, map}
use Rattle.std.proofs.Common.{ap, sym, ◌∙◌, length-append, append_assoc, append-nil, arith}
use Rattle.texts.specs.Bytes.{Word, any, same, among, index_of}
use Rattle.texts.specs.Books.{Agent, declared, takes}
use Rattle.texts.specs.Coded.{symbol_of}
use Rattle.texts.proofs.Beneath.Tools.{never, never', same_refl}
use Rattle.terms.specs.Words.{known, found, entry, entries_from}
use Rattle.terms.specs.Meaning.{grown}

-- a declared word is found under its symbol's number, and no other is found
pub found-agent : (ags : List Agent) (w : Word) (k : ℕ) → declared ags w ≡ true
    → found k ags w ≡ Some (known (k + symbol_of ags w) (takes ags w))
unfolding found declared any takes symbol_of index_of
found-agent [] w k h = never h
found-agent (a ∷ ags) w k h = go (same w a.symbol) h (found-agent ags w (k + 1))
  where
    go : (t : Bool) → (t || any (λ b. same w b.symbol) ags) ≡ true
        → (declared ags w ≡ true → found (k + 1) ags w ≡ Some (known (k + 1 + symbol_of ags w) (takes ags w)))
        → cond t (Some (known k a.arity)) (found (k + 1) ags w)
        ≡ Some (known (k + cond t 0 (suc (index_of w (map (λ b. b.symbol) ags)))) (cond t a.arity (takes ags w)))
    go true p ih = let z : k + 0 ≡ k = omega arith in rw z
    go false p ih = let z : k + suc (index_of w (map (λ b. b.symbol) ags)) ≡ k + 1 + index_of w (map (λ b. b.symbol) ags) = omega arith in rw z (ih p)

pub found_none : (ags : List Agent) (w : Word) (k : ℕ) → declared ags w ≡ false → found k ags w ≡ None
unfolding found declared any
found_none [] w k h = refl
found_none (a ∷ ags) w k h = go (same w a.symbol) h (found_none ags w (k + 1))
  where
    go : (t : Bool) → (t || any (λ b. same w b.symbol) ags) ≡ false
        → (declared ags w ≡ false → found (k + 1) ags w ≡ None)
        → cond t (Some (known k a.arity)) (found (k + 1) ags w) ≡ None
    go true p ih = never' p
    go false p ih = ih p

pub takes_none : (ags : List Agent) (w : Word) → declared ags w ≡ false → takes ags w ≡ 0
unfolding takes declared any
takes_none [] w h = refl
takes_none (a ∷ ags) w h = go (same w a.symbol) h (takes_none ags w)
  where
    go : (t : Bool) → (t || any (λ b. same w b.symbol) ags) ≡ false → (declared ags w ≡ false → takes ags w ≡ 0)
        → cond t a.arity (takes ags w) ≡ 0
    go true p ih = never' p
    go false p ih = ih p

-- where a word stands
pub index_in : (w : Word) (ws : List Word) → among w ws ≡ true → index_of w ws < length ws
unfolding among any index_of
index_in w [] h = never h
index_in w (v ∷ vs) h = go (same w v) h (index_in w vs)
  where
    go : (t : Bool) → (t || any (same w) vs) ≡ true → (among w vs ≡ true → index_of w vs < length vs)
        → cond t 0 (suc (index_of w vs)) < suc (length vs)
    go true p ih = omega arith
    go false p ih = omega (arith, ih p)

pub index_out : (w : Word) (ws : List Word) → among w ws ≡ false → index_of w ws ≡ length ws
unfolding among any index_of
index_out w [] h = refl
index_out w (v ∷ vs) h = go (same w v) h (index_out w vs)
  where
    go : (t : Bool) → (t || any (same w) vs) ≡ false → (among w vs ≡ false → index_of w vs ≡ length vs)
        → cond t 0 (suc (index_of w vs)) ≡ suc (length vs)
    go true p ih = never' p
    go false p ih = omega (arith, ih p)

pub index_on : (w : Word) (ws zs : List Word) → among w ws ≡ true → index_of w (ws ++ zs) ≡ index_of w ws
unfolding among any index_of
index_on w [] zs h = never h
index_on w (v ∷ vs) zs h = go (same w v) h (index_on w vs zs)
  where
    go : (t : Bool) → (t || any (same w) vs) ≡ true → (among w vs ≡ true → index_of w (vs ++ zs) ≡ index_of w vs)
        → cond t 0 (suc (index_of w (vs ++ zs))) ≡ cond t 0 (suc (index_of w vs))
    go true p ih = refl
    go false p ih = ap suc (ih p)

pub among_last : (w : Word) (ws : List Word) → among w (ws ++ (w ∷ [])) ≡ true
unfolding among any
among_last w [] = rw (same_refl w)
among_last w (v ∷ vs) = rw (among_last w vs) (go (same w v))
  where
    go : (t : Bool) → (t || true) ≡ true
    go true = refl
    go false = refl

pub index_last : (w : Word) (ws : List Word) → among w ws ≡ false → index_of w (ws ++ (w ∷ [])) ≡ length ws
unfolding among any index_of
index_last w [] h = rw (same_refl w)
index_last w (v ∷ vs) h = go (same w v) h (index_last w vs)
  where
    go : (t : Bool) → (t || any (same w) vs) ≡ false → (among w vs ≡ false → index_of w (vs ++ (w ∷ [])) ≡ length vs)
        → cond t 0 (suc (index_of w (vs ++ (w ∷ [])))) ≡ suc (length vs)
    go true p ih = never' p
    go false p ih = ap suc (ih p)

-- a list that grows
pub grown-append : (ws us vs : List Word) → grown ws (us ++ vs) ≡ grown (grown ws us) vs
unfolding grown
grown-append ws [] vs = refl
grown-append ws (u ∷ us) vs = grown-append (cond (among u ws) ws (ws ++ (u ∷ []))) us vs

pub grown_longer : (ws vs : List Word) → length ws ≤ length (grown ws vs)
unfolding grown
grown_longer ws [] = omega arith
grown_longer ws (v ∷ vs) = go (among v ws) (λ us. grown_longer us vs)
  where
    go : (t : Bool) → ((us : List Word) → length us ≤ length (grown us vs))
        → length ws ≤ length (grown (cond t ws (ws ++ (v ∷ []))) vs)
    go true ih = ih ws
    go false ih = omega (arith, ih (ws ++ (v ∷ [])), length-append ws (v ∷ []))

pub grown_on : (ws vs : List Word) → (zs : List Word) × (grown ws vs ≡ ws ++ zs)
unfolding grown
grown_on ws [] = ([], sym (append-nil ws))
grown_on ws (v ∷ vs) = go (among v ws) (λ us. grown_on us vs)
  where
    go : (t : Bool) → ((us : List Word) → (zs : List Word) × (grown us vs ≡ us ++ zs))
        → (zs : List Word) × (grown (cond t ws (ws ++ (v ∷ []))) vs ≡ ws ++ zs)
    go true ih = ih ws
    go false ih = let p = ih (ws ++ (v ∷ [])) in (v ∷ p.0, p.1 ∙ rw append_assoc)

-- spellings on a sheet
module _ (text : List ℕ) where
  pub entries-kept : (p q : List ℕ) (k n : ℕ) → ((i : ℕ) → i < 2 * (k + n) → get_or q i 0 ≡ get_or p i 0)
      → entries_from text q k n ≡ entries_from text p k n
  unfolding entries_from entry
  entries-kept p q k zero h = refl
  entries-kept p q k (suc n) h =
      rw (h (2 * k) (omega arith), h (2 * k + 1) (omega arith), entries-kept p q (k + 1) n (λ i l. h i (omega arith)))

  pub entries_more : (p : List ℕ) (k n : ℕ)
      → entries_from text p k (suc n) ≡ entries_from text p k n ++ (entry text p (k + n) ∷ [])
  unfolding entries_from
  entries_more p k zero = let z : k + 0 ≡ k = omega arith in rw z
  entries_more p k (suc n) =
      let z : k + 1 + n ≡ k + suc n = omega arith in
      ap (λ (l : List Word). entry text p k ∷ l) (entries_more p (k + 1) n ∙ rw z)
