-- Number 3: one law for each way in which the record of a line is told.
use Prim.Native.Nat.{ℕ, suc, ◌%◌, ◌<◌, ◌≤◌}
use mathlib.Core.Path.{◌≡◌, refl, sym, ap, ◌∙◌}
use mathlib.Core.Bool.{Bool, true, false, ◌&&◌}
use mathlib.Core.List.{List, [], ◌∷◌}
use mathlib.Core.Option.{Option, none, some}
use native.Mathlib.Omega.{arith}
use lib.ListN.{length, drop, get_or}
use lib.Dec.{eqb}
use borrow.Author.Tests.{eq-eqb, ne_eqb}
use Rattle.texts.specs.Bytes.{Word, same, number_of}
use Rattle.texts.specs.Books.{word_agent, word_rule}
use Rattle.texts.specs.Answers.{◌>>=◌}
use Rattle.texts.specs.RuleText.{agent_shape, agent_fields, even, rule_fields}
use Rattle.scan.specs.Numbers.{value_of}
use Rattle.std.specs.Prelude as Prelude
use Rattle.std.specs.Prelude.{Some, None}
use Rattle.rule_lines.specs.Kinds.{shape_by, shaped_of}
use Rattle.rule_lines.specs.declared.kinds.Kind.{Kind}
use Rattle.rule_lines.specs.declared.kinds.Kind.TheVariants.{Agent, Rule}

-- the fields after `agent`
wrong-count : (fs : List Word) → (length fs ≡ 3 → ⊥) → none ≡ agent_fields (drop 1 fs)
unfolding agent_fields
wrong-count [] h = refl
wrong-count (w ∷ []) h = refl
wrong-count (w ∷ s ∷ []) h = refl
wrong-count (w ∷ s ∷ n ∷ []) h = absurd (h refl)
wrong-count (w ∷ s ∷ n ∷ g ∷ gs) h = refl

pub agent-count : (fs : List Word) (n : ℕ) → n ≡ length fs → (n ≡ 3 → ⊥) → shape_by None fs ≡ agent_fields (drop 1 fs)
unfolding shape_by
agent-count fs n e h = wrong-count fs (λ q. h (e ∙ q))

call_number : (fs : List Word) (o : Option ℕ) → length fs ≡ 3 → o ≡ number_of (get_or fs 2 [])
    → (o >>= λ a. some (agent_shape (get_or fs 1 []) a)) ≡ agent_fields (drop 1 fs)
unfolding agent_fields
call_number [] o h e = absurd (omega arith)
call_number (w ∷ []) o h e = absurd (omega arith)
call_number (w ∷ s ∷ []) o h e = absurd (omega arith)
call_number (w ∷ s ∷ n ∷ []) o h e = rw e
call_number (w ∷ s ∷ n ∷ g ∷ gs) o h e = absurd (omega arith)

module _ (fs : List Word) (n : ℕ) (e : n ≡ length fs) (h : n ≡ 3) (f : Word) (g : f ≡ get_or fs 2 [])
    (d : Prelude.Option ℕ) (v : value_of d ≡ number_of f) where
  pub agent-number : (a : ℕ) → d ≡ Some a → shape_by (Some (Agent a)) fs ≡ agent_fields (drop 1 fs)
  unfolding shape_by ◌>>=◌
  agent-number a k = call_number fs (some a) (sym e ∙ h) (ap value_of (sym k) ∙ (v ∙ ap number_of g))

  pub agent_numberless : d ≡ None → (r : Prelude.Option Kind) → r ≡ None → shape_by r fs ≡ agent_fields (drop 1 fs)
  unfolding shape_by ◌>>=◌
  agent_numberless k r j = ap (λ o. shape_by o fs) j ∙ call_number fs none (sym e ∙ h) (ap value_of (sym k) ∙ (v ∙ ap number_of g))

-- the fields after `rule`
even-length : (fs : List Word) → even fs ≡ eqb (length fs % 2) 0
unfolding even
even-length [] = refl
even-length (f ∷ []) = refl
even-length (f ∷ g ∷ fs) =
    let z : suc (suc (length fs)) % 2 ≡ length fs % 2 = omega arith in rw z (even-length fs)

pub rule-short : (fs : List Word) (n : ℕ) → n ≡ length fs → n < 3 → shape_by None fs ≡ rule_fields (drop 1 fs)
unfolding shape_by rule_fields
rule-short [] n e h = refl
rule-short (w ∷ []) n e h = refl
rule-short (w ∷ f ∷ []) n e h = refl
rule-short (w ∷ f ∷ g ∷ fs) n e h = absurd (omega arith)

pub rule-odd : (fs : List Word) (n : ℕ) → n ≡ length fs → 3 ≤ n → n % 2 ≡ 0 → shape_by None fs ≡ rule_fields (drop 1 fs)
unfolding shape_by rule_fields
rule-odd [] n e h k = refl
rule-odd (w ∷ []) n e h k = refl
rule-odd (w ∷ f ∷ []) n e h k = refl
rule-odd (w ∷ f ∷ g ∷ fs) n e h k =
    rw (even-length fs, ne_eqb (length fs % 2) 0 (λ q. omega arith))

pub rule-paired : (fs : List Word) (n : ℕ) → n ≡ length fs → 3 ≤ n → (n % 2 ≡ 0 → ⊥)
    → shape_by (Some Rule) fs ≡ rule_fields (drop 1 fs)
unfolding shape_by rule_fields
rule-paired [] n e h k = absurd (omega arith)
rule-paired (w ∷ []) n e h k = absurd (omega arith)
rule-paired (w ∷ f ∷ []) n e h k = absurd (omega arith)
rule-paired (w ∷ f ∷ g ∷ fs) n e h k = rw (even-length fs, eq-eqb (length fs % 2) 0 (omega arith))

-- the word of the record
module _ (fs : List Word) (ruleless : Bool) (t : Bool) (e : t ≡ (same (get_or fs 0 []) word_agent && ruleless)) where
  pub kind-agent : t ≡ true → (k : Prelude.Option Kind) → shape_by k fs ≡ agent_fields (drop 1 fs) → shape_by k fs ≡ shaped_of ruleless fs
  unfolding shaped_of same agent_fields
  kind-agent h k s = s ∙ go fs (sym e ∙ h)
    where
      go : (fs : List Word) → (same (get_or fs 0 []) word_agent && ruleless) ≡ true
          → agent_fields (drop 1 fs) ≡ shaped_of ruleless fs
      go [] h = refl
      go (w ∷ fs) h = rw h

  module _ (h : t ≡ false) (v : Word) (d : v ≡ get_or fs 0 []) (u : Bool) (f : u ≡ same v word_rule) where
    pub kind-rule : u ≡ true → (k : Prelude.Option Kind) → shape_by k fs ≡ rule_fields (drop 1 fs) → shape_by k fs ≡ shaped_of ruleless fs
    unfolding shaped_of same rule_fields
    kind-rule g k s = s ∙ go fs (sym e ∙ h) (ap (λ x. same x word_rule) (sym d) ∙ (sym f ∙ g))
      where
        go : (fs : List Word) → (same (get_or fs 0 []) word_agent && ruleless) ≡ false → same (get_or fs 0 []) word_rule ≡ true
            → rule_fields (drop 1 fs) ≡ shaped_of ruleless fs
        go [] h g = refl
        go (w ∷ fs) h g = rw (h, g)

    pub kind_none : u ≡ false → shape_by None fs ≡ shaped_of ruleless fs
    unfolding shaped_of shape_by
    kind_none g = go fs (sym e ∙ h) (ap (λ x. same x word_rule) (sym d) ∙ (sym f ∙ g))
      where
        go : (fs : List Word) → (same (get_or fs 0 []) word_agent && ruleless) ≡ false → same (get_or fs 0 []) word_rule ≡ false
            → shape_by None fs ≡ shaped_of ruleless fs
        go [] h g = refl
        go (w ∷ fs) h g = rw (h, g)
