-- What a full frame holds is what the model's environment holds.
use Prim.Native.Nat.{ℕ, suc, ◌+◌, ◌*◌, ◌/◌, ◌-◌, ◌<◌, ◌≤◌}
use mathlib.Core.Path.{◌≡◌, refl, ap, sym, ◌∙◌}
use mathlib.Core.Bool.{Bool, true, false}
use mathlib.Core.List.{List, [], ◌∷◌, ◌++◌, map}
use mathlib.Core.Logic.{inl}
use native.Mathlib.Omega.{arith}
use native.Mathlib.Nat.{add-mul-div_left}
use lib.Dec.{ltb}
use lib.ListN.{length, get_or, take, drop, length-map, get_or-append}
use lib.Seq.{sets, length-sets, get_or-append-add}
use borrow.Author.Tests.{ltb-true, ltb-false}
use Rattle.parts.specs.Limits.{arity_max, rule_names_max, rule_cells_max}
use Rattle.model.specs.State.{zeros}
use Rattle.model.specs.Step.{quad}
use Rattle.model.proofs.Beneath.Facts.{zeros-length}
use Rattle.model.proofs.Beneath.Store.{sets_at, sets_other}
use Rattle.firing.specs.Frames.{names_at, cells_at, frame_size, cell_in, four}
use Rattle.firing.specs.Taken.{name_code, cell_code}

-- The arguments of a cell.
quad-from : (l : List ℕ) (k : ℕ) → k + 4 ≤ length l
    → take 4 (drop k l) ≡ get_or l (k + 0) 0 ∷ get_or l (k + 1) 0 ∷ get_or l (k + 2) 0 ∷ get_or l (k + 3) 0 ∷ []
quad-from [] ℕ.zero h = absurd (omega arith)
quad-from (a ∷ []) ℕ.zero h = absurd (omega arith)
quad-from (a ∷ b ∷ []) ℕ.zero h = absurd (omega arith)
quad-from (a ∷ b ∷ c ∷ []) ℕ.zero h = absurd (omega arith)
quad-from (a ∷ b ∷ c ∷ d ∷ l) ℕ.zero h = refl
quad-from [] (ℕ.suc k) h = absurd (omega arith)
quad-from (a ∷ l) (ℕ.suc k) h = rw (up 0, up 1, up 2, up 3) (quad-from l k (omega arith))
  where
    up : (n : ℕ) → suc k + n ≡ suc (k + n)
    up n = omega arith

pub quad-four : (l : List ℕ) (c : ℕ) → arity_max * c + 4 ≤ length l → quad c l ≡ four c l
quad-four l c h = quad-from l (arity_max * c) h

-- A frame of the arguments p and q, the new names N and the new cells A.
abbrev pub full : List ℕ → List ℕ → List ℕ → List ℕ → List ℕ
full p q N A = sets (sets (sets (sets (zeros frame_size) 0 p) arity_max q) names_at (map name_code N)) cells_at (map cell_code A)

get_or-map_in : (f : ℕ → ℕ) (l : List ℕ) (k : ℕ) → k < length l → get_or (map f l) k 0 ≡ f (get_or l k 0)
get_or-map_in f [] k h = absurd (omega arith)
get_or-map_in f (x ∷ l) ℕ.zero h = refl
get_or-map_in f (x ∷ l) (ℕ.suc k) h = get_or-map_in f l k (omega arith)

module _ (p q N A : List ℕ) (hp : length p ≡ arity_max) (hq : length q
    ≡ arity_max) (hN : length N ≤ rule_names_max) (hA : length A ≤ rule_cells_max) where
  F₁ : List ℕ
  F₁ = sets (sets (zeros frame_size) 0 p) arity_max q

  F₂ : List ℕ
  F₂ = sets F₁ names_at (map name_code N)

  size₁ : length F₁ ≡ frame_size
  unfolding F₁
  size₁ = length-sets (sets (zeros frame_size) 0 p) arity_max q ∙ length-sets (zeros frame_size) 0 p ∙ zeros-length frame_size

  size₂ : length F₂ ≡ frame_size
  unfolding F₂
  size₂ = length-sets F₁ names_at (map name_code N) ∙ size₁

  pub cell-held : (m : ℕ) → m < length A → get_or (full p q N A) (cells_at + m) 0 ≡ cell_code (get_or A m 0)
  unfolding F₁ F₂
  cell-held m h =
      sets_at (map cell_code A) F₂ cells_at (cells_at + m) m refl (omega (arith, length-map A cell_code)) (omega
      (arith, length-map A cell_code, size₂))
      ∙ get_or-map_in cell_code A m h

  pub cell-number : (m : ℕ) → m < length A → cell_in (full p q N A) m ≡ get_or A m 0
  unfolding cell_in
  cell-number m h =
      let e : (1 + 2 * get_or A m 0) / 2 ≡ 1 / 2 + get_or A m 0 = add-mul-div_left 1 (get_or A m 0) (omega arith) in
      ap (λ n. n / 2) (cell-held m h) ∙ omega (arith, e)

  pub name-held : (z : ℕ) → z < names_at + length N → get_or (full p q N A) z 0 ≡ get_or (p ++ (q ++ map name_code N)) z 0
  unfolding F₁ F₂
  name-held z h = sets_other (map cell_code A) F₂ cells_at z (inl (omega arith)) ∙ go (ltb z arity_max) refl (ltb z names_at) refl
    where
      M : List ℕ
      M = map name_code N

      many : length M ≡ length N
      many = length-map N name_code

      go : (b : Bool) → ltb z arity_max ≡ b → (c : Bool) → ltb z names_at ≡ c → get_or F₂ z 0 ≡ get_or (p ++ (q ++ M)) z 0
      go true e c d =
          let k : z < arity_max = ltb-true _ _ e in
          sets_other M F₁ names_at z (inl (omega arith))
          ∙ sets_other q (sets (zeros frame_size) 0 p) arity_max z (inl k)
          ∙ sets_at p (zeros frame_size) 0 z z (omega arith) (omega arith) (omega (arith, zeros-length frame_size))
          ∙ sym (get_or-append p (q ++ M) 0 z (omega arith))
      go false e true d =
          let k : z < names_at = ltb-true _ _ d in
          let y : z ≡ length p + (z - arity_max) = omega (arith, ltb-false z arity_max e) in
          sets_other M F₁ names_at z (inl k)
          ∙ sets_at q (sets (zeros frame_size) 0 p) arity_max z (z - arity_max) (omega (
            arith,
            ltb-false z arity_max
                e,
          )) (omega (arith, ltb-false z arity_max e))
          (omega (arith, length-sets (zeros frame_size) 0 p, zeros-length frame_size))
          ∙ sym
          (ap (λ n. get_or (p ++ (q ++ M)) n 0) y
          ∙ get_or-append-add p (q ++ M) (z - arity_max) 0
          ∙ get_or-append q M 0 (z - arity_max) (omega (arith, ltb-false z arity_max e)))
      go false e false d =
          let o : names_at ≤ z = ltb-false z names_at d in
          let y : z ≡ length p + (z - arity_max) = omega (arith, o) in
          let x : z - arity_max ≡ length q + (z - names_at) = omega (arith, o) in
          sets_at M F₁ names_at z (z - names_at) (omega arith) (omega (arith, many)) (omega (arith, many, size₁))
          ∙ sym
          (ap (λ n. get_or (p ++ (q ++ M)) n 0) y
          ∙ get_or-append-add p (q ++ M) (z - arity_max) 0
          ∙ ap (λ n. get_or (q ++ M) n 0) x
          ∙ get_or-append-add q M (z - names_at) 0)
