-- What the loop that enters left arguments keeps, and its steps.
use Prim.Native.Nat.{ℕ, suc, ◌+◌, ◌-◌, ◌%◌, ◌<◌, ◌≤◌}
use mathlib.Core.Path.{◌≡◌, refl, sym, ap, ap₂, subst, ◌∙◌}
use mathlib.Core.Bool.{Bool, true, false}
use mathlib.Core.List.{List, [], ◌∷◌, ◌++◌, append-nil, append_assoc}
use native.Mathlib.Omega.{arith}
use native.Mathlib.Nat.{mod-eq_of_lt}
use native.Mathlib.Numerals.{add-one}
use lib.ListN.{length, get_or, take, drop, get_or-eq_default, drop_of_length-le}
use lib.Dec.{ltb}
use borrow.Author.Tests.{ltb-true, ltb-false}
use Rattle.parts.specs.Limits.{text_max, arity_max, net_names_max}
use Rattle.texts.specs.Bytes.{Word}
use Rattle.model.specs.Table.{Cell}
use Rattle.scan.specs.Words.{word_start, word_end, words_in}
use Rattle.rule_tests.specs.Laws.Nexts.{starts, next, next_is}
use Rattle.table.specs.Lists.{tab}
use Rattle.table.specs.Laws.Lists.{tab-snoc}
use Rattle.terms.specs.Sheet.{Sheet, entered, counted_names, stored}
use Rattle.terms.specs.Meaning.{Holds}
use Rattle.terms.proofs.Beneath.Written.{cells-kept, entered-sized, entered-count, entered-symbols, entered-arguments, entered-named}
use Rattle.rule_sheet.specs.Lefts.{next_place, next_sheet, firsts, Entered}

-- One way or the other.
pub next_more : (text : List ℕ) (at s e : ℕ) (m : Bool) → m ≡ true → s ≡ word_start text at → e ≡ word_end text s → e ≡ next_place text at m
unfolding next_place
next_more text at s e m h es ee = rw (h, ee, es)

pub next-free : (text : List ℕ) (at : ℕ) (m : Bool) → m ≡ false → at ≡ next_place text at m
unfolding next_place
next-free text at m h = rw h

pub sheet_more : (text : List ℕ) (at s e x y k : ℕ) (m : Bool) (t t₁ : Sheet) → m ≡ true → k ≡ t.names → s ≡ word_start text at → e ≡ word_end text s
    → x ≡ s % text_max → y ≡ (e - s) % text_max → t₁ ≡ entered k x y t → t₁ ≡ next_sheet text at m t
unfolding next_sheet
sheet_more text at s e x y k m t t₁ h ek es ee ex ey et = et ∙ rw (h, ek, ex, ey, ee, es)

pub sheet-free : (text : List ℕ) (at k : ℕ) (m : Bool) (t t₁ : Sheet) → m ≡ false → k ≡ t.names → t₁ ≡ entered k 0 0 t → t₁ ≡ next_sheet text at m t
unfolding next_sheet
sheet-free text at k m t t₁ h ek et = et ∙ rw (h, ek)

pub place-order : (text : List ℕ) (s e : ℕ) → e ≡ word_end text s → s ≤ e
place-order text s e h = omega (arith, h)

-- i names were entered, and the words from the place `from` on are the others.
pub record Entering (text : List ℕ) (at n : ℕ) (s₀ : Sheet) (i from : ℕ) (s : Sheet) : Type 0 where
  pub within : i ≤ arity_max
  pub count : s.names ≡ s₀.names + i
  pub holds : (cs : List Cell) (ws vs more : List Word) → Holds text s₀ cs ws → at ≤ length text → length text < text_max
      → words_in (drop at text) ≡ vs ++ more → length vs ≡ n
      → Holds text s cs (ws ++ firsts i vs) × (from ≤ length text) × (words_in (drop from text) ≡ drop i vs ++ more)

pub entering_none : (text : List ℕ) (at n : ℕ) (s : Sheet) → Entering text at n s 0 at s
unfolding firsts tab
entering_none text at n s = record {
  within = omega arith;
  count = omega arith;
  holds = λ cs ws vs more h a t e l. (rw (append-nil ws) h, a, e);
}

pub entering_room : (text : List ℕ) (at n : ℕ) (s₀ : Sheet) (i from : ℕ) (s : Sheet) → Entering text at n s₀ i from s → i < arity_max
    → s₀.names + arity_max ≤ net_names_max → s.names < net_names_max
entering_room text at n s₀ i from s g h q = omega (arith, g.count)

-- A name entered: the cells stay.
entered-holds : (text : List ℕ) (s : Sheet) (cs : List Cell) (ws : List Word) (x y : ℕ) (w : Word) → Holds text s cs ws → s.names < net_names_max
    → take y (drop x text) ≡ w → Holds text (entered s.names x y s) cs (ws ++ (w ∷ []))
entered-holds text s cs ws x y w h room e =
    let r : length ws < net_names_max = omega (arith, h.names.count) in
    record {
      sized = entered-sized text s ws x y h.sized h.names r;
      count = entered-count text s ws x y h.sized h.names r ∙ h.count;
      cells =
          cells-kept s (entered s.names x y s) 0 (length cs) cs h.narrow (omega arith)
          (λ i l m. ap (λ p. get_or p i 0) (entered-symbols text s ws x y h.sized h.names r))
          (λ i l m. ap (λ p. get_or p i 0) (entered-arguments text s ws x y h.sized h.names r)) h.cells;
      narrow = h.narrow;
      names = entered-named text s ws x y h.sized h.names r w e;
    }

names_more : (s : Sheet) (x y : ℕ) → (entered s.names x y s).names ≡ s.names + 1
unfolding entered counted_names stored
names_more s x y = refl

-- The next of some words.
drop-next : (vs : List Word) (i : ℕ) → i < length vs → drop i vs ≡ get_or vs i [] ∷ drop (i + 1) vs
drop-next [] i h = absurd (omega arith)
drop-next (v ∷ vs) ℕ.zero h = refl
drop-next (v ∷ vs) (ℕ.suc i) h = let z : suc i + 1 ≡ suc (i + 1) = omega arith in rw z (drop-next vs i (omega arith))

firsts_more : (i : ℕ) (vs ws : List Word) → ws ++ firsts (i + 1) vs ≡ (ws ++ firsts i vs) ++ (get_or vs i [] ∷ [])
unfolding firsts
firsts_more i vs ws =
    ap (λ n. ws ++ tab n (λ k. get_or vs k [])) (add-one i)
    ∙ (ap (λ l. ws ++ l) (tab-snoc i (λ k. get_or vs k [])) ∙ sym (append_assoc ws (tab i (λ k. get_or vs k [])) (get_or vs i [] ∷ [])))

-- A word that stands there is entered as it stands.
module _ (text : List ℕ) (from : ℕ) (w : Word) (ws : List Word) (a : from ≤ length text) (t : length text < text_max) (q : words_in (drop from text) ≡ w ∷ ws) where
  spelt : take ((word_end text (word_start text from) - word_start text from) % text_max) (drop (word_start text from % text_max) text) ≡ w
  spelt =
      let x : word_end text (word_start text from) - word_start text from < text_max = omega (arith, (next text from w ws a q).within, starts text from w ws a q, t) in
      let y : word_start text from < text_max = omega (arith, starts text from w ws a q, t) in
      ap₂ (λ n m. take n (drop m text)) (mod-eq_of_lt x) (mod-eq_of_lt y) ∙ (next_is text from w ws a q).0

module _ (text : List ℕ) (at n : ℕ) (s₀ : Sheet) (i from : ℕ) (s : Sheet) (g : Entering text at n s₀ i from s) (h : i < arity_max) (room : s₀.names + arity_max ≤ net_names_max) where
  fits : s.names < net_names_max
  fits = entering_room text at n s₀ i from s g h room

  step_more : ltb i n ≡ true → Entering text at n s₀ (i + 1) (next_place text from true) (next_sheet text from true s)
  unfolding next_place next_sheet
  step_more e = record {
    within = omega arith;
    count = names_more s _ _ ∙ omega (arith, g.count);
    holds = λ cs ws vs more hs a t q l.
        let p = g.holds cs ws vs more hs a t q l in
        let d : drop i vs ≡ get_or vs i [] ∷ drop (i + 1) vs = drop-next vs i (omega (arith, ltb-true i n e, l)) in
        let k : words_in (drop from text) ≡ get_or vs i [] ∷ (drop (i + 1) vs ++ more) = p.2 ∙ ap (λ u. u ++ more) d in (
          subst (λ u. Holds text (next_sheet text from true s) cs u) (sym (firsts_more i vs ws))
              (entered-holds text s cs (ws ++ firsts i vs) (word_start text from % text_max) ((word_end text (word_start text from) - word_start text from) % text_max) (get_or vs i []) p.0 fits
              (spelt text from (get_or vs i []) (drop (i + 1) vs ++ more) p.1 t k)),
          (next text from (get_or vs i []) (drop (i + 1) vs ++ more) p.1 k).within,
          (next_is text from (get_or vs i []) (drop (i + 1) vs ++ more) p.1 k).1,
        );
  }

  step-free : ltb i n ≡ false → Entering text at n s₀ (i + 1) (next_place text from false) (next_sheet text from false s)
  unfolding next_place next_sheet
  step-free e = record {
    within = omega arith;
    count = names_more s _ _ ∙ omega (arith, g.count);
    holds = λ cs ws vs more hs a t q l.
        let p = g.holds cs ws vs more hs a t q l in
        let z : length vs ≤ i = omega (arith, ltb-false i n e, l) in
        let y : length vs ≤ i + 1 = omega (arith, z) in
        let w : get_or vs i [] ≡ [] = get_or-eq_default vs [] z in (
          subst (λ u. Holds text (next_sheet text from false s) cs u) (sym (firsts_more i vs ws ∙ ap (λ u. (ws ++ firsts i vs) ++ (u ∷ [])) w))
              (entered-holds text s cs (ws ++ firsts i vs) 0 0 [] p.0 fits refl),
          p.1,
          p.2 ∙ ap (λ u. u ++ more) (drop_of_length-le vs z ∙ sym (drop_of_length-le vs y)),
        );
  }

  pub entering_more : (to : ℕ) (s₁ : Sheet) → to ≡ next_place text from (ltb i n) → s₁ ≡ next_sheet text from (ltb i n) s → Entering text at n s₀ (i + 1) to s₁
  entering_more to s₁ et es = go (ltb i n) refl et es
    where
      go : (u : Bool) → ltb i n ≡ u → to ≡ next_place text from u → s₁ ≡ next_sheet text from u s → Entering text at n s₀ (i + 1) to s₁
      go true e p q = rw (p, q) (step_more e)
      go false e p q = rw (p, q) (step-free e)

pub entering_end : (text : List ℕ) (at n : ℕ) (s₀ : Sheet) (i from : ℕ) (s : Sheet) → Entering text at n s₀ i from s → arity_max ≤ i → Entered text at n s₀ s
entering_end text at n s₀ i from s g h =
    let z : i ≡ arity_max = omega (arith, g.within) in
    record {
      count = g.count ∙ ap (λ k. s₀.names + k) z;
      holds = λ cs ws vs more hs a t q l. subst (λ k. Holds text s cs (ws ++ firsts k vs)) z (g.holds cs ws vs more hs a t q l).0;
    }
