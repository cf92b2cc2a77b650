-- One law for each way out of the functions that test number 7 with no sheet. Assumes nothing.
use Rattle.std.specs.Prelude.{Option, None, Some, ℕ, zero, suc, ◌+◌, ◌-◌, ◌<◌, ◌≤◌, ◌≡◌, refl, Bool, true, false, cond, List, [], ◌∷◌, eqb, get_or, take, drop}
use Rattle.std.proofs.Common.{sym, ◌∙◌, sub-one, arith, eq-eqb, ne_eqb, eqb-true, lt-ltb, le-ltb}
use Rattle.std.specs.Option.{option_map_or, option_eq}
use native.Mathlib.Nat.{sub-zero}
use borrow.Author.Tests.{eqb-false}
use Rattle.parts.specs.Limits.{level_max}
use Rattle.texts.specs.Bytes.{Word, same}
use Rattle.texts.specs.Books.{Agent, takes}
use Rattle.scan.specs.Words.{word_end}
use Rattle.terms.proofs.Beneath.Ways.{at_word_end}
use Rattle.terms.specs.Words.{known, found}
use Rattle.terms.specs.declared.words.Agent.{Agent as Known}
use Rattle.line_terms.specs.Fields.{field_end}
use Rattle.line_terms.specs.Arguments.{on_past, last_past, next_past, args_past, after_word, term_past, reaches, argued_by, fields_argued}

-- what a word takes, by what was found
abbrev taken : Option Known → ℕ
taken f = option_map_or (λ a. a.arity) f 0

takes-found : (ags : List Agent) (w : Word) (k : ℕ) → taken (found k ags w) ≡ takes ags w
unfolding found takes
takes-found [] w k = refl
takes-found (a ∷ ags) w k = go (same w a.symbol) (takes-found ags w (k + 1))
  where
    go : (t : Bool) → taken (found (k + 1) ags w) ≡ takes ags w
        → taken (cond t (Some (known k a.arity)) (found (k + 1) ags w)) ≡ cond t a.arity (takes ags w)
    go true ih = refl
    go false ih = ih

pub takes_way : (ags : List Agent) (v w : Word) → v ≡ w → (f : Option Known) → f ≡ found 0 ags v → {n : ℕ}
    → n ≡ option_map_or (λ a. a.arity) f 0
    → n ≡ takes ags w
takes_way ags v w is f e q = q ∙ rw (e, ← is) (takes-found ags v 0)

-- arguments
module _ (text : List ℕ) (one : ℕ → Option ℕ) (more at : ℕ) {r : Option ℕ} (first : r ≡ one at) where
  pub args-wrong : r ≡ None → {d : Option ℕ} → d ≡ None → d ≡ args_past text one more at
  unfolding args_past on_past
  args-wrong e q = q ∙ go more
    where
      go : (m : ℕ) → None ≡ args_past text one m at
      go zero = rw (← first, e)
      go (suc m) = rw (← first, e)

  module _ {p : ℕ} (e : r ≡ Some p) {b : ℕ} (byte : b ≡ get_or text p 0) where
    last : more ≡ 0 → args_past text one more at ≡ last_past text p
    unfolding args_past on_past
    last z = rw (z, ← first, e)

    next : (more ≡ 0 → ⊥) → args_past text one more at ≡ next_past text (args_past text one (more - 1)) p
    unfolding args_past on_past
    next f = go more f
      where
        go : (m : ℕ) → (m ≡ 0 → ⊥) → args_past text one m at ≡ next_past text (args_past text one (m - 1)) p
        go zero g = absurd (g refl)
        go (suc m) g = rw (← first, e, sub-one)

    pub args-close : more ≡ 0 → b ≡ 41 → Some (p + 1) ≡ args_past text one more at
    unfolding last_past
    args-close z t = rw (last z, eq-eqb (get_or text p 0) 41 (sym byte ∙ t))

    pub args_unclosed : more ≡ 0 → (b ≡ 41 → ⊥) → None ≡ args_past text one more at
    unfolding last_past
    args_unclosed z f = rw (last z, ne_eqb (get_or text p 0) 41 (λ t. f (byte ∙ t)))

    pub args_comma : (more ≡ 0 → ⊥) → b ≡ 44 → {d : Option ℕ} → d ≡ args_past text one (more - 1) (p + 1)
        → d ≡ args_past text one more at
    unfolding next_past
    args_comma f t q = q ∙ rw (next f, eq-eqb (get_or text p 0) 44 (sym byte ∙ t))

    pub args-few : (more ≡ 0 → ⊥) → (b ≡ 44 → ⊥) → None ≡ args_past text one more at
    unfolding next_past
    args-few f g = rw (next f, ne_eqb (get_or text p 0) 44 (λ t. g (byte ∙ t)))

    -- neither the bracket where there are no more, nor a comma where there are
    pub args_other : (more ≡ 0 → b ≡ 41 → ⊥) → ((more ≡ 0 → ⊥) → b ≡ 44 → ⊥) → None ≡ args_past text one more at
    args_other f h = go (eqb more 0) refl
      where
        go : (t : Bool) → eqb more 0 ≡ t → None ≡ args_past text one more at
        go true z = args_unclosed (eqb-true more 0 z) (f (eqb-true more 0 z))
        go false z = args-few (eqb-false more 0 z) (h (eqb-false more 0 z))

-- a term
module _ (text : List ℕ) (ags : List Agent) (l at : ℕ) where
  pub term_none : l ≡ 0 → None ≡ term_past text ags l at
  unfolding term_past
  term_none e = rw e

  module _
      (some : l ≡ 0 → ⊥) {e : ℕ} (ends : e ≡ word_end text at) {n : ℕ} (takes-n : n ≡ takes ags (take (e - at) (drop at text))) {b : ℕ}
      (byte : b ≡ get_or text e 0) where
    after : term_past text ags l at ≡ after_word text (args_past text (term_past text ags (l - 1))) e n
    unfolding term_past
    after = rw (takes-n, ends) (go l some)
      where
        go : (m : ℕ) → (m ≡ 0 → ⊥)
            → term_past text ags m at
            ≡ after_word text (args_past text (term_past text ags (m - 1))) (word_end text at) (takes ags (take (word_end text at - at) (drop at text)))
        go zero g = absurd (g refl)
        go (suc m) g = rw sub-one

    pub term_bracket : n ≡ 0 → eqb b 40 ≡ true → None ≡ term_past text ags l at
    unfolding after_word
    term_bracket z t = rw (after, z, rw byte at t)

    pub term-word : n ≡ 0 → eqb b 40 ≡ false → Some e ≡ term_past text ags l at
    unfolding after_word
    term-word z t = rw (after, z, rw byte at t)

    module _ (more : n ≡ 0 → ⊥) where
      pub term-args : eqb b 40 ≡ true → {d : Option ℕ} → d ≡ args_past text (term_past text ags (l - 1)) (n - 1) (e + 1)
          → d ≡ term_past text ags l at
      unfolding after_word
      term-args t q = q ∙ sym (after ∙ go n more)
        where
          go : (m : ℕ) → (m ≡ 0 → ⊥)
              → after_word text (args_past text (term_past text ags (l - 1))) e m ≡ args_past text (term_past text ags (l - 1)) (m - 1) (e + 1)
          go zero g = absurd (g refl)
          go (suc m) g = let z : suc m - 1 ≡ m = omega arith in rw (rw byte at t, z)

      pub term-bare : eqb b 40 ≡ false → None ≡ term_past text ags l at
      unfolding after_word
      term-bare t = sym (after ∙ go n more)
        where
          go : (m : ℕ) → (m ≡ 0 → ⊥) → after_word text (args_past text (term_past text ags (l - 1))) e m ≡ None
          go zero g = absurd (g refl)
          go (suc m) g = rw (rw byte at t)

-- a field
pub argued_way : (text : List ℕ) (ags : List Agent) (from to : ℕ) {r : Option ℕ} → r ≡ term_past text ags level_max from
    → option_eq eqb r (Some to) ≡ argued_by text ags from to
unfolding argued_by reaches
argued_way text ags from to past = rw (← past) (go _)
  where
    go : (x : Option ℕ) → option_eq eqb x (Some to) ≡ reaches to x
    go None = refl
    go (Some p) = refl

-- i of n fields are passed, and what the rest of them say is what all of them say
pub record Passing (text : List ℕ) (ags : List Agent) (from to n at i : ℕ) : Type 0 where
  pub within : i ≤ n
  pub rest : fields_argued text ags to (n - i) at ≡ fields_argued text ags to n from

pub passing_none : (text : List ℕ) (ags : List Agent) (from to n : ℕ) → Passing text ags from to n from 0
passing_none text ags from to n = record { within = omega arith; rest = rw sub-zero }

module _ {text : List ℕ} {ags : List Agent} {from to n at i : ℕ} (r : Passing text ags from to n at i) where
  pub passing_end : n ≤ i → true ≡ fields_argued text ags to n from
  unfolding fields_argued
  passing_end h = let z : n - i ≡ 0 = omega arith in rw z at r.rest

  module _ (more : i < n) where
    left : n - i ≡ suc (n - (i + 1))
    left = omega arith

    pub passing-short : to < at → false ≡ fields_argued text ags to n from
    unfolding fields_argued
    passing-short h = rw (left, lt-ltb to at h) at r.rest

    module _ (order : at ≤ to) {e : ℕ} (ends : e ≡ field_end text at to) {t : Bool} (read : t ≡ argued_by text ags at e) where
      one : cond t (fields_argued text ags to (n - (i + 1)) (e + 1)) false ≡ fields_argued text ags to n from
      unfolding fields_argued
      one = rw (read, ends) (rw (left, le-ltb to at order) at r.rest)

      pub passing-wrong : t ≡ false → false ≡ fields_argued text ags to n from
      passing-wrong q = rw q at one

      pub passing_more : t ≡ true → Passing text ags from to n (e + 1) (i + 1)
      passing_more q = record { within = omega arith; rest = rw q at one }

-- the laws of each function
pub ruleset term_laws = (at_word_end, term_none, term_bracket, term-word, term-args, term-bare)

pub ruleset passing_laws = (passing_none, passing_end, passing-short, passing-wrong, passing_more)
