-- Sides and cells depend on the numbers of the names that stand there alone.
use Rattle.std.specs.Prelude.{ℕ, suc, ◌+◌, Bool, cond}
use Rattle.std.proofs.Math.Path.{◌≡◌, refl, ap, ap₂}
use Rattle.std.proofs.Math.Bool.{true, false}
use mathlib.Core.List.Memᴰ
use mathlib.Core.List.{List, [], ◌∷◌, ◌++◌}
use Rattle.parts.specs.Sides.{Side, name, cell}
use Rattle.model.specs.Table.{Cell}
use Rattle.texts.specs.Bytes.{Word, In}
use Rattle.texts.specs.Terms.{Term, Terms, term, nil, cons}
use Rattle.texts.specs.Books.{Agent, declared}
use Rattle.texts.specs.Coded.{symbol_of, size, code_at, codes, cells_at, cells_from}
use Rattle.texts.specs.Linear.{words, words_in}

module _ (ags : List Agent) (f g : Word → ℕ) where
  -- The two numbers agree on the names of some words.
  unfoldable pub Agree : List Word → Type 0
  Agree ws = (w : Word) → In w ws → declared ags w ≡ false → f w ≡ g w

  code_same : (m : ℕ) (t : Term) → Agree (words t) → code_at ags f m t ≡ code_at ags g m t
  unfolding code_at words Agree
  code_same m (term w ts) h = go (declared ags w) refl
    where
      go : (d : Bool) → declared ags w ≡ d → ◌≡◌ {A = Side} (cond d (cell m) (name (f w))) (cond d (cell m) (name (g w)))
      go true e = refl
      go false e = ap name (h w (Memᴰ.head refl) e)

  pub codes_same : (m : ℕ) (ts : Terms) → Agree (words_in ts) → codes ags f m ts ≡ codes ags g m ts
  unfolding codes words Agree
  codes_same m nil h = refl
  codes_same m (cons t ts) h =
      ap₂ ◌∷◌ (code_same m t (λ w k. h w (Memᴰ.append_left (words_in ts) k))) (codes_same (m + size ags t) ts (λ w k. h w (Memᴰ.append_right (words t) k)))

  mutual
    unfolding cells_at words Agree

    cell_same : (m : ℕ) (t : Term) → Agree (words t) → cells_at ags f m t ≡ cells_at ags g m t
    cell_same m (term w ts) h =
        go (declared ags w) (codes_same (suc m) ts (λ v k. h v (Memᴰ.tail k))) (cells_same (suc m) ts (λ v k. h v (Memᴰ.tail k)))
      where
        go : (d : Bool) → codes ags f (suc m) ts ≡ codes ags g (suc m) ts → cells_from ags f (suc m) ts ≡ cells_from ags g (suc m) ts
            → ◌≡◌ {A = List Cell} (cond d (record { symbol = symbol_of ags w; args = codes ags f (suc m) ts } ∷ cells_from ags f (suc m) ts) [])
            (cond d (record { symbol = symbol_of ags w; args = codes ags g (suc m) ts } ∷ cells_from ags g (suc m) ts) [])
        go true p q = ap₂ (λ (a : List Side) (cs : List Cell). record { symbol = symbol_of ags w; args = a } ∷ cs) p q
        go false p q = refl

    pub cells_same : (m : ℕ) (ts : Terms) → Agree (words_in ts) → cells_from ags f m ts ≡ cells_from ags g m ts
    cells_same m nil h = refl
    cells_same m (cons t ts) h =
        ap₂ ◌++◌ (cell_same m t (λ w k. h w (Memᴰ.append_left (words_in ts) k))) (cells_same (m + size ags t) ts (λ w k. h w (Memᴰ.append_right (words t) k)))
