-- Taking an equation out of those that wait: what each round of the loop does, and why the whole is `out_of_waiting`.
use Prim.Native.Nat.{ℕ, ◌+◌, ◌*◌, ◌-◌, ◌<◌, ◌≤◌, pred}
use mathlib.Core.Path.{◌≡◌, refl, ap, ap₂, sym, ◌∙◌}
use mathlib.Core.Bool.{Bool, true, false}
use mathlib.Core.List.{List, [], ◌∷◌, ◌++◌}
use native.Mathlib.Omega.{arith}
use lib.Dec.{ltb}
use lib.ListN.{length, get_or, take, drop, set, length-set, length-append, length-take, length-drop, get_or-append}
use lib.Seq.{get_or-set_same, get_or-set_other, get_or-take, get_or-drop, get_or-append-add, ext_get_or}
use borrow.Author.Tests.{ltb-true, ltb-false}
use Rattle.model.specs.State.{St, stack, pulled}
use Rattle.state.specs.Places.{stored, counted, with_words}
use Rattle.state.specs.Moves.{Pullable, out_of_waiting, down, cut, with_pile}
use Rattle.state.specs.declared.Part.TheVariants.{Waiting}
use Rattle.state.specs.declared.Pile.TheVariants.{Waits}

pub down_way : (s₀ s₁ s₂ : St) (k l r : ℕ) → l ≡ get_or s₀.waiting.words (2 + 2 * k) 0 → r ≡ get_or s₀.waiting.words (3 + 2 * k) 0
    → s₁ ≡ stored Waiting (2 * k) l s₀ → s₂ ≡ stored Waiting (1 + 2 * k) r s₁ → s₂ ≡ down k s₀
unfolding down
down_way s₀ s₁ s₂ k l r el er p q = rw (q, p, el, er)

pub cut_way : (s₀ s₁ s₂ s₃ : St) (k : ℕ) → s₁ ≡ stored Waiting (2 * k) 0 s₀ → s₂ ≡ stored Waiting (1 + 2 * k) 0 s₁ → s₃ ≡ counted Waits k s₂
    → s₃ ≡ cut k s₀
unfolding cut
cut_way s₀ s₁ s₂ s₃ k p q t = rw (t, q, p)

-- A word of the list with number k taken out.
pulled-low : (k : ℕ) (l : List ℕ) (i : ℕ) → i < 2 * k → 2 * k ≤ length l → get_or (pulled k l) i 0 ≡ get_or l i 0
pulled-low k l i h f =
    get_or-append (take (2 * k) l) (drop (2 + 2 * k) l ++ (0 ∷ 0 ∷ [])) 0 i (omega (arith, length-take (2 * k) l))
    ∙ get_or-take (2 * k) l i 0 h

pad : (l : List ℕ) (i : ℕ) → get_or (l ++ (0 ∷ 0 ∷ [])) i 0 ≡ get_or l i 0
pad [] ℕ.zero = refl
pad [] (ℕ.suc ℕ.zero) = refl
pad [] (ℕ.suc (ℕ.suc i)) = refl
pad (v ∷ l) ℕ.zero = refl
pad (v ∷ l) (ℕ.suc i) = pad l i

pulled-high : (k : ℕ) (l : List ℕ) (i : ℕ) → 2 * k ≤ i → 2 * k ≤ length l → get_or (pulled k l) i 0 ≡ get_or l (2 + i) 0
pulled-high k l i h f =
    let front = take (2 * k) l in
    let back = drop (2 + 2 * k) l in
    let e : i ≡ length front + (i - 2 * k) = omega (arith, length-take (2 * k) l) in
    ap (λ n. get_or (front ++ (back ++ (0 ∷ 0 ∷ []))) n 0) e
    ∙ get_or-append-add front (back ++ (0 ∷ 0 ∷ [])) (i - 2 * k) 0
    ∙ pad back (i - 2 * k)
    ∙ get_or-drop (2 + 2 * k) l (i - 2 * k) 0
    ∙ ap (λ n. get_or l n 0) (omega arith)

pulled-length : (k : ℕ) (l : List ℕ) → 2 + 2 * k ≤ length l → length (pulled k l) ≡ length l
pulled-length k l h =
    omega (
      arith,
      length-append (take (2 * k) l) (drop (2 + 2 * k) l ++ (0 ∷ 0 ∷ [])),
      length-append (drop (2 + 2 * k) l) (0 ∷ 0 ∷ []),
      length-take (2 * k) l,
      length-drop (2 + 2 * k) l,
    )

-- Two words set, at 2 j and after it.
module _ (l : List ℕ) (j a b : ℕ) (h : 1 + 2 * j < length l) where
  two : List ℕ
  two = set (set l (2 * j) a) (1 + 2 * j) b

  two_length : length two ≡ length l
  unfolding two
  two_length = length-set (set l (2 * j) a) (1 + 2 * j) b ∙ length-set l (2 * j) a

  two_first : get_or two (2 * j) 0 ≡ a
  unfolding two
  two_first = get_or-set_other (set l (2 * j) a) (1 + 2 * j) (2 * j) b 0 (λ e. omega arith) ∙ get_or-set_same l (2 * j) a 0 (omega arith)

  two_second : get_or two (1 + 2 * j) 0 ≡ b
  unfolding two
  two_second = get_or-set_same (set l (2 * j) a) (1 + 2 * j) b 0 (omega (arith, length-set l (2 * j) a))

  two_other : (i : ℕ) → ¬ (i ≡ 2 * j) → ¬ (i ≡ 1 + 2 * j) → get_or two i 0 ≡ get_or l i 0
  unfolding two
  two_other i p q = get_or-set_other (set l (2 * j) a) (1 + 2 * j) i b 0 q ∙ get_or-set_other l (2 * j) i a 0 p

-- In l the equations of l₀ from k + 1 up to j have gone down by one.
pub record Shifted (l₀ l : List ℕ) (k j : ℕ) : Type 0 where
  pub same : length l ≡ length l₀
  pub below : (i : ℕ) → i < 2 * k → get_or l i 0 ≡ get_or l₀ i 0
  pub moved : (i : ℕ) → 2 * k ≤ i → i < 2 * j → get_or l i 0 ≡ get_or l₀ (2 + i) 0
  pub above : (i : ℕ) → 2 * j ≤ i → get_or l i 0 ≡ get_or l₀ i 0

-- Of a number, against two words at 2 j.
pub data Where (j i : ℕ) : Type 0 where
  before : i < 2 * j → Where j i
  first : i ≡ 2 * j → Where j i
  second : i ≡ 1 + 2 * j → Where j i
  after : 2 + 2 * j ≤ i → Where j i

where_is : (j i : ℕ) → Where j i
where_is j i = go (ltb i (2 * j)) refl (ltb (2 * j) i) refl (ltb (1 + 2 * j) i) refl
  where
    go : (a : Bool) → ltb i (2 * j) ≡ a → (b : Bool) → ltb (2 * j) i ≡ b → (c : Bool) → ltb (1 + 2 * j) i ≡ c → Where j i
    go true p b q c r = before (ltb-true _ _ p)
    go false p false q c r = first (omega (arith, ltb-false))
    go false p true q false r = second (omega (arith, ltb-false, ltb-true))
    go false p true q true r = after (omega (arith, ltb-true))

shift_more : {l₀ l : List ℕ} {k j : ℕ} → Shifted l₀ l k j → k ≤ j → 3 + 2 * j < length l₀
    → Shifted l₀ (set (set l (2 * j) (get_or l (2 + 2 * j) 0)) (1 + 2 * j) (get_or l (3 + 2 * j) 0)) k (j + 1)
unfolding two
shift_more {l₀} {l} {k} {j} v h f =
    record {
      same = two_length l j a b g ∙ v.same;
      below = λ i p. two_other l j a b g i (λ e. omega arith) (λ e. omega arith) ∙ v.below i p;
      moved = λ i p q. moves i p q (where_is j i);
      above = λ i p. two_other l j a b g i (λ e. omega arith) (λ e. omega arith) ∙ v.above i (omega arith);
    }
  where
    a : ℕ
    a = get_or l (2 + 2 * j) 0

    b : ℕ
    b = get_or l (3 + 2 * j) 0

    g : 1 + 2 * j < length l
    g = omega (arith, v.same)

    moves : (i : ℕ) → 2 * k ≤ i → i < 2 * (j + 1) → Where j i → get_or (two l j a b g) i 0 ≡ get_or l₀ (2 + i) 0
    moves i p q (before w) = two_other l j a b g i (λ e. omega arith) (λ e. omega arith) ∙ v.moved i p w
    moves i p q (first w) = rw w (two_first l j a b g ∙ v.above (2 + 2 * j) (omega arith))
    moves i p q (second w) =
        let e : 3 + 2 * j ≡ 2 + (1 + 2 * j) = omega arith in
        rw w (two_second l j a b g ∙ v.above (3 + 2 * j) (omega arith) ∙ ap (λ n. get_or l₀ n 0) e)
    moves i p q (after w) = absurd (omega arith)

-- All of them gone down, and the last place cleared: number k is taken out.
shift_end : {l₀ l : List ℕ} {k j : ℕ} → Shifted l₀ l k j → k ≤ j → 1 + 2 * j < length l₀ → ((i : ℕ) → 2 * (j + 1) ≤ i → get_or l₀ i 0 ≡ 0)
    → set (set l (2 * j) 0) (1 + 2 * j) 0 ≡ pulled k l₀
unfolding two
shift_end {l₀} {l} {k} {j} v h f z =
    ext_get_or 0 (two l j 0 0 g) (pulled k l₀) (two_length l j 0 0 g ∙ v.same ∙ sym (pulled-length k l₀ (omega arith))) (λ i p. each i (where_is k i) (where_is j i))
  where
    g : 1 + 2 * j < length l
    g = omega (arith, v.same)

    high : (i : ℕ) → 2 * k ≤ i → get_or (pulled k l₀) i 0 ≡ get_or l₀ (2 + i) 0
    high i p = pulled-high k l₀ i p (omega arith)

    past : (i : ℕ) → 2 * k ≤ i → Where j i → get_or (two l j 0 0 g) i 0 ≡ get_or l₀ (2 + i) 0
    past i p (before w) = two_other l j 0 0 g i (λ e. omega arith) (λ e. omega arith) ∙ v.moved i p w
    past i p (first w) = rw w (two_first l j 0 0 g) ∙ sym (z (2 + i) (omega arith))
    past i p (second w) = rw w (two_second l j 0 0 g) ∙ sym (z (2 + i) (omega arith))
    past i p (after w) =
        two_other l j 0 0 g i (λ e. omega arith) (λ e. omega arith) ∙ v.above i (omega arith) ∙ z i (omega arith) ∙ sym (z (2 + i) (omega arith))

    each : (i : ℕ) → Where k i → Where j i → get_or (two l j 0 0 g) i 0 ≡ get_or (pulled k l₀) i 0
    each i (before w) u =
        two_other l j 0 0 g i (λ e. omega arith) (λ e. omega arith) ∙ v.below i w ∙ sym (pulled-low k l₀ i w (omega arith))
    each i (first w) u = past i (omega arith) u ∙ sym (high i (omega arith))
    each i (second w) u = past i (omega arith) u ∙ sym (high i (omega arith))
    each i (after w) u = past i (omega arith) u ∙ sym (high i (omega arith))

-- Pulling: s is s₀ but for its waiting words, which are shifted up to j; `last` is the last equation.
pub record Pulling (s₀ s : St) (k last j : ℕ) : Type 0 where
  pub low : k ≤ j
  pub high : j ≤ last
  pub ends : last + 1 ≡ s₀.waiting.used
  pub asked : Pullable k s₀
  pub only : s ≡ with_words Waiting s.waiting.words s₀
  pub shifted : Shifted s₀.waiting.words s.waiting.words k j

pub pull_more : (s₀ s s₁ : St) (k last j : ℕ) → Pulling s₀ s k last j → j < last → s₁ ≡ down j s → Pulling s₀ s₁ k last (j + 1)
unfolding down stored
pull_more s₀ s s₁ k last j v h e =
    record {
      low = omega (arith, v.low);
      high = omega arith;
      ends = v.ends;
      asked = v.asked;
      only = whole ∙ sym (ap (λ x. with_words Waiting x.waiting.words s₀) whole);
      shifted =
          rw
          (ap (λ x. x.waiting.words) whole)
          (shift_more v.shifted v.low (omega (arith, v.ends, v.asked.size, v.asked.room)));
    }
  where
    w : List ℕ
    w = s.waiting.words

    whole : s₁ ≡ with_words Waiting (set (set w (2 * j) (get_or w (2 + 2 * j) 0)) (1 + 2 * j) (get_or w (3 + 2 * j) 0)) s₀
    whole = e ∙ ap (down j) v.only

pub pull_end : (s₀ s s₁ : St) (k last j : ℕ) → Pulling s₀ s k last j → last ≤ j → s₁ ≡ cut last s → s₁ ≡ out_of_waiting k s₀
unfolding cut stored counted out_of_waiting
pull_end s₀ s s₁ k last j v h e =
    let q : j ≡ last = omega (arith, v.high) in
    let n : last ≡ pred s₀.waiting.used = omega (arith, v.ends) in
    let t : Shifted s₀.waiting.words s.waiting.words k last = rw q at v.shifted in
    e ∙ ap (cut last) v.only
    ∙ ap₂
    (λ l m. with_pile Waits (stack l m) s₀)
    (shift_end t (omega (arith, v.low)) (omega (arith, v.ends, v.asked.size, v.asked.room)) (λ i p. v.asked.zeros i (omega (arith, v.ends))))
    n
