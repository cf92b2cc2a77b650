-- One law for each way out of `read_term`, `read_args` and `read_field`. Assumes nothing.
use Rattle.std.specs.Prelude.{Option, None, Some, ℕ, zero, suc, ◌+◌, ◌-◌, ◌≤◌, ◌≡◌, refl, Bool, true, false, List, get_or, eqb}
use Rattle.std.proofs.Common.{sym, ◌∙◌, arith, sub-one, eq-eqb, ne_eqb, eqb-true}
use borrow.Author.Tests.{eqb-false}
use Rattle.parts.specs.Limits.{level_max}
use Rattle.parts.specs.Sides.{cell, code}
use Rattle.parts.specs.declared.CellNo.{CellNo}
use Rattle.texts.specs.Books.{Agent}
use Rattle.scan.specs.Words.{word_end}
use Rattle.terms.specs.Sheet.{Sheet, argued}
use Rattle.terms.specs.Reader.{read, Done, done, Reader, head_by, on_read, last_arg, next_arg, args_by, after_head, with_head, term_by, whole, field_by}
use Rattle.terms.specs.declared.Read.{Read}
use Rattle.terms.specs.declared.Head.{Head}

pub at_word_end : (text : List ℕ) (at : ℕ) {e : ℕ} → e ≡ word_end text at → at ≤ e
at_word_end text at h = omega arith

-- arguments
module _
    (text : List ℕ) (one : Reader) (more c k at : ℕ) (s : Sheet) {r : Option Read} (s₁ : Sheet) (first : done r s₁ ≡ one at s) where
  pub args-wrong : r ≡ None → {d : Option Read} → d ≡ None → done d s₁ ≡ args_by text one more c k at s
  unfolding args_by on_read
  args-wrong e q = rw q (go more)
    where
      go : (m : ℕ) → done None s₁ ≡ args_by text one m c k at s
      go zero = rw (← first, e)
      go (suc m) = rw (← first, e)

  module _
      {g : Read} (e : r ≡ Some g) (s₂ : Sheet) (w : s₂ ≡ argued c k g.code s₁) {b : ℕ} (byte : b ≡ get_or text g.next 0) where
    last : more ≡ 0 → args_by text one more c k at s ≡ last_arg text c k g.next g.code s₁
    unfolding args_by on_read
    last z = rw (z, ← first, e)

    next : (more ≡ 0 → ⊥)
        → args_by text one more c k at s ≡ next_arg text (args_by text one (more - 1) c (k + 1)) c k g.next g.code s₁
    unfolding args_by on_read
    next f = go more f
      where
        go : (m : ℕ) → (m ≡ 0 → ⊥)
            → args_by text one m c k at s ≡ next_arg text (args_by text one (m - 1) c (k + 1)) c k g.next g.code s₁
        go zero h = absurd (h refl)
        go (suc m) h = rw (← first, e, sub-one)

    pub args-close : more ≡ 0 → b ≡ 41 → {u : ℕ} → u ≡ code (cell c)
        → done (read (g.next + 1) u) s₂ ≡ args_by text one more c k at s
    unfolding last_arg
    args-close z t q = rw (last z, eq-eqb (get_or text g.next 0) 41 (sym byte ∙ t), q, w)

    pub args_unclosed : more ≡ 0 → (b ≡ 41 → ⊥) → done None s₂ ≡ args_by text one more c k at s
    unfolding last_arg
    args_unclosed z f = rw (last z, ne_eqb (get_or text g.next 0) 41 (λ t. f (byte ∙ t)), w)

    pub args_comma : (more ≡ 0 → ⊥) → b ≡ 44 → {d : Done (Option Read)}
        → d ≡ args_by text one (more - 1) c (k + 1) (g.next + 1) s₂
        → d ≡ args_by text one more c k at s
    unfolding next_arg
    args_comma f t q = q ∙ rw (next f, eq-eqb (get_or text g.next 0) 44 (sym byte ∙ t), w)

    pub args-few : (more ≡ 0 → ⊥) → (b ≡ 44 → ⊥) → done None s₂ ≡ args_by text one more c k at s
    unfolding next_arg
    args-few f h = rw (next f, ne_eqb (get_or text g.next 0) 44 (λ t. h (byte ∙ t)), w)

    -- neither the bracket where there are no more, nor a comma where there are
    pub args_other : (more ≡ 0 → b ≡ 41 → ⊥) → ((more ≡ 0 → ⊥) → b ≡ 44 → ⊥) → done None s₂ ≡ args_by text one more c k at s
    args_other f h = go (eqb more 0) refl
      where
        go : (t : Bool) → eqb more 0 ≡ t → done None s₂ ≡ args_by text one more c k at s
        go true z = args_unclosed (eqb-true more 0 z) (f (eqb-true more 0 z))
        go false z = args-few (eqb-false more 0 z) (h (eqb-false more 0 z))

-- a term
module _ (text : List ℕ) (ags : List Agent) (l at : ℕ) (s : Sheet) where
  pub term_none : l ≡ 0 → done None s ≡ term_by text ags l at s
  unfolding term_by
  term_none e = rw e

  term-pred : (l ≡ 0 → ⊥)
      → term_by text ags l at s ≡ with_head text ags (args_by text (term_by text ags (l - 1))) (word_end text at) at s
  unfolding term_by
  term-pred f = go l f
    where
      go : (m : ℕ) → (m ≡ 0 → ⊥)
          → term_by text ags m at s ≡ with_head text ags (args_by text (term_by text ags (m - 1))) (word_end text at) at s
      go zero g = absurd (g refl)
      go (suc m) g = rw sub-one

  module _ (some : l ≡ 0 → ⊥) {e : ℕ} (ends : e ≡ word_end text at) where
    pub term-empty : e ≡ at → done None s ≡ term_by text ags l at s
    unfolding with_head
    term-empty z = rw (term-pred some, ← ends, eq-eqb e at z)

    module _
        (full : e ≡ at → ⊥) {h : Option Head} (s₁ : Sheet) (head : done h s₁ ≡ head_by text ags at e s) where
      term_some : term_by text ags l at s ≡ after_head text (args_by text (term_by text ags (l - 1))) e (done h s₁)
      unfolding with_head
      term_some = rw (term-pred some, ← ends, ne_eqb e at full, ← head)

      pub term-wrong : h ≡ None → {d : Option Read} → d ≡ None → done d s₁ ≡ term_by text ags l at s
      unfolding after_head
      term-wrong q z = rw (term_some, q, z)

      module _ {g : Head} (is : h ≡ Some g) {b : ℕ} (byte : b ≡ get_or text e 0) where
        pub term_bracket : {v : ℕ} → g ≡ Head.Plain v → eqb b 40 ≡ true → done None s₁ ≡ term_by text ags l at s
        unfolding after_head
        term_bracket q t = rw (term_some, is, q, rw byte at t)

        pub term-plain : {v : ℕ} → g ≡ Head.Plain v → eqb b 40 ≡ false → done (read e v) s₁ ≡ term_by text ags l at s
        unfolding after_head
        term-plain q t = rw (term_some, is, q, rw byte at t)

        pub term-args : {c : CellNo} {m : ℕ} → g ≡ Head.Takes c m → eqb b 40 ≡ true → {d : Done (Option Read)}
            → d ≡ args_by text (term_by text ags (l - 1)) m c.0 0 (e + 1) s₁ → d ≡ term_by text ags l at s
        unfolding after_head
        term-args q t p = p ∙ rw (term_some, is, q, rw byte at t)

        pub term-bare : {c : CellNo} {m : ℕ} → g ≡ Head.Takes c m → eqb b 40 ≡ false
            → done None s₁ ≡ term_by text ags l at s
        unfolding after_head
        term-bare q t = rw (term_some, is, q, rw byte at t)

-- a field
module _
    (text : List ℕ) (ags : List Agent) (from to : ℕ) (s : Sheet) {r : Option Read} (s₁ : Sheet) (got : done r s₁ ≡ term_by text ags level_max from s) where
  pub field-wrong : r ≡ None → {d : Option ℕ} → d ≡ None → done d s₁ ≡ field_by text ags from to s
  unfolding field_by on_read
  field-wrong q z = rw (← got, q, z)

  module _ {g : Read} (q : r ≡ Some g) where
    pub field-whole : g.next ≡ to → done (Some g.code) s₁ ≡ field_by text ags from to s
    unfolding field_by on_read whole
    field-whole e = rw (← got, q, eq-eqb g.next to e)

    pub field-part : (g.next ≡ to → ⊥) → done None s₁ ≡ field_by text ags from to s
    unfolding field_by on_read whole
    field-part f = rw (← got, q, ne_eqb g.next to f)

-- the laws of `read_field`
pub ruleset field_laws = (field-wrong, field-whole, field-part)

pub ruleset args_laws = (args-wrong, args-close, args_comma, args_other)

pub ruleset term_laws = (at_word_end, term_none, term-empty, term-wrong, term_bracket, term-plain, term-args, term-bare)
