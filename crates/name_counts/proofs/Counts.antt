-- The sums over places are the model's count of a name.
use Rattle.std.specs.Prelude.{◌≡◌, refl, List, [], ◌∷◌, ◌++◌, map, filter, count_by, ℕ, suc, ◌+◌, ◌*◌, ◌<◌, ◌≤◌, eqb, length, get_or, take, drop}
use Rattle.std.proofs.Common.{ap, ap₂, sym, ◌∙◌, arith, cond, length-drop, length-take, take-suc, get_or-drop}
use Rattle.std.proofs.lemmas.List.Sums.{length-filter, sum_by-cons, count_by-le-length}
use Rattle.parts.specs.Limits.{arity_max, cells_max, names_max}
use Rattle.parts.specs.Sides.{side}
use Rattle.model.specs.State.{St, unpack}
use Rattle.model.specs.Sound.{width, live, Sizes, mem_of}
use Rattle.model.specs.Walk.{below}
use Rattle.model.specs.Test.{every, is_name, times, sides_of, occurrences, twice}
use Rattle.sound.specs.Lent.{under, Usable}
use Rattle.name_counts.specs.Totals.{total, Found, mark, inside, bound_once, occurring, paired}
use Rattle.sound.proofs.Every.{every_ext}
use Rattle.sound.proofs.Tables.{width_small}
use Rattle.name_counts.proofs.Sums.{marked}

times-append : (x : ℕ) (a b : List ℕ) → times x (map side (a ++ b)) ≡ times x (map side a) + times x (map side b)
times-append x [] b = omega arith
times-append x (v ∷ a) b = omega (arith, times-append x a b)

module _ (x : ℕ) (l : List ℕ) where
  row-times : (from n : ℕ) → from + n ≤ length l → total n (mark x l from) ≡ times x (map side (take n (drop from l)))
  unfolding total mark
  row-times from ℕ.zero h = refl
  row-times from (ℕ.suc n) h =
      let b : n < length (drop from l) = omega (arith, length-drop from l) in
      omega (
        arith,
        row-times from n (omega arith),
        ap (λ m. times x (map side m)) (take-suc (drop from l) n 0 b),
        times-append x (take n (drop from l)) (get_or (drop from l) n 0 ∷ []),
        ap (λ v. is_name x (side v)) (get_or-drop from l n 0),
      )

  pairs-times : (n : ℕ) → total (2 * n) (mark x l 0) ≡ times x (sides_of (unpack n l))
  unfolding total mark
  pairs-times ℕ.zero = refl
  pairs-times (ℕ.suc n) =
      let e : 2 * suc n ≡ suc (suc (2 * n)) = omega arith in
      let p : 0 + 2 * n ≡ 2 * n = omega arith in
      let q : 0 + suc (2 * n) ≡ 1 + 2 * n = omega arith in
      ap (λ m. total m (mark x l 0)) e
      ∙ omega (
        arith,
        pairs-times n,
        ap (λ i. is_name x (side (get_or l i 0))) p,
        ap (λ i. is_name x (side (get_or l i 0))) q,
      )

count-times : (x : ℕ) (l : List ℕ) → count_by (λ v. eqb v (2 * x)) l ≡ times x (map side l)
count-times x [] = refl
count-times x (v ∷ l) = sum_by-cons (λ v. cond (eqb v (2 * x)) 1 0) v l ∙ ap₂ ◌+◌ (marked x v) (count-times x l)

pub times_way : (x : ℕ) (l : List ℕ) (from n r : ℕ) → from + n ≤ length l
    → r ≡ length (filter (λ v. eqb v (2 * x)) (take n (drop from l))) → Found r (total n (mark x l from)) n
times_way x l from n r h e =
    let m = take n (drop from l) in
    let q : r ≡ count_by (λ v. eqb v (2 * x)) m = e ∙ length-filter (λ v. eqb v (2 * x)) m in
    record {
      is = q ∙ count-times x m ∙ sym (row-times x l from n h);
      few = omega (arith, q, count_by-le-length (λ v. eqb v (2 * x)) m, length-take n (drop from l));
    }

total-below : (f g : ℕ → ℕ) (n : ℕ) → ((c : ℕ) → c < n → f c ≡ g c) → total n f ≡ below n g
unfolding total
total-below f g ℕ.zero h = refl
total-below f g (ℕ.suc n) h = ap₂ ◌+◌ (total-below f g n (λ c k. h c (omega arith))) (h n (omega arith))

module _ (w : List ℕ) (s : St) (u : Usable w) (z : Sizes s) where
  inside-times : (x c : ℕ) → c < cells_max → inside (under w) s x c ≡ times x (mem_of (under w) s c).args
  unfolding inside
  inside-times x c h =
      row-times x s.arguments (arity_max * c) (width (under w).arities (get_or s.symbols c 0))
      (omega (arith, z.arguments, width_small w u (get_or s.symbols c 0)))

  same_count : (x : ℕ) → occurring (under w) s x ≡ occurrences (under w) s x
  unfolding occurring bound_once
  same_count x =
      ap₂ ◌+◌ (row-times x s.face.words 0 s.face.used (omega (arith, z.face, z.faces)))
      (ap₂ ◌+◌ (pairs-times x s.waiting.words s.waiting.used)
      (ap₂ ◌+◌ (pairs-times x s.stuck.words s.stuck.used)
      (ap₂ ◌+◌ refl (total-below (inside (under w) s x) (λ c. times x (mem_of (under w) s c).args) cells_max (inside-times x)))))

pub twice_way : (w : List ℕ) (s : St) → Usable w × Sizes s → every names_max (paired (under w) s) ≡ twice (under w) s
unfolding twice paired
twice_way w s u =
    every_ext (paired (under w) s) (λ x. eqb (occurrences (under w) s x) (2 * live s.names x))
    (λ x. ap (λ a. eqb a (2 * live s.names x)) (same_count w s u.0 u.1 x)) names_max
