-- Tests over a chain of numbers or of items, as tests of a list.
use Rattle.std.specs.Prelude.{ℕ, suc, ◌+◌, ◌≡◌, Bool, ◌&&◌, ◌||◌, List, [], ◌∷◌, map, refl}
use Rattle.std.specs.List.{list_all, list_any, range_with_len}
use Rattle.std.proofs.Common.{sym, ap, ap₂, ◌∙◌, arith}
use Rattle.std.proofs.lemmas.List.Folds.{list_all-map}
use Rattle.texts.specs.Bytes.{any, all}
use Rattle.table.specs.Lists.{tab}
use Rattle.table.specs.Laws.Lists.{tab_cong}

module _ {A : Type 0} where
  pub all_list : (f : A → Bool) (xs : List A) → all f xs ≡ list_all f xs
  unfolding all
  all_list f [] = refl
  all_list f (x ∷ xs) = ap (λ b. f x && b) (all_list f xs)

  pub any_list : (f : A → Bool) (xs : List A) → any f xs ≡ list_any f xs
  unfolding any
  any_list f [] = refl
  any_list f (x ∷ xs) = ap (λ b. f x || b) (any_list f xs)

  list_any-map : (f : A → Bool) {B : Type 0} (g : B → A) (xs : List B) → list_any f (map g xs) ≡ list_any (λ x. f (g x)) xs
  list_any-map f g [] = refl
  list_any-map f g (x ∷ xs) = ap (λ b. f (g x) || b) (list_any-map f g xs)

  tab_from : (n : ℕ) (g : ℕ → A) (a : ℕ) → tab n (λ k. g (a + k)) ≡ map g (range_with_len a n)
  unfolding tab
  tab_from ℕ.zero g a = refl
  tab_from (ℕ.suc n) g a =
      ap₂ ◌∷◌ (ap g (let z : a + 0 ≡ a = omega arith in z))
      (tab_cong n (λ k. g (a + suc k)) (λ k. g (a + 1 + k)) (λ k q. ap g (let z : a + suc k ≡ a + 1 + k = omega arith in z)) ∙ tab_from n g (a + 1))

  pub tab_range : (n : ℕ) (g : ℕ → A) → tab n g ≡ map g (range_with_len 0 n)
  tab_range n g = tab_cong n g (λ k. g (0 + k)) (λ k q. ap g (let z : k ≡ 0 + k = omega arith in z)) ∙ tab_from n g 0

  -- what a chain over the numbers below n answers, where a list has m items
  pub all_range : (f : A → Bool) (n m : ℕ) (g : ℕ → A) (t : Bool) → n ≡ m → t ≡ list_all (λ k. f (g k)) (range_with_len 0 n) → t ≡ all f (tab m g)
  all_range f n m g t e h =
      h ∙ (ap (λ i. list_all (λ k. f (g k)) (range_with_len 0 i)) e
      ∙ sym (ap (all f) (tab_range m g) ∙ (all_list f (map g (range_with_len 0 m)) ∙ list_all-map f g (range_with_len 0 m))))

  pub any_range : (f : A → Bool) (n m : ℕ) (g : ℕ → A) (t : Bool) → n ≡ m → t ≡ list_any (λ k. f (g k)) (range_with_len 0 n) → t ≡ any f (tab m g)
  any_range f n m g t e h =
      h ∙ (ap (λ i. list_any (λ k. f (g k)) (range_with_len 0 i)) e
      ∙ sym (ap (any f) (tab_range m g) ∙ (any_list f (map g (range_with_len 0 m)) ∙ list_any-map f g (range_with_len 0 m))))
