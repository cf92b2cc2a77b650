-- What the functions say that enter the left agents of a rule.
use Rattle.std.specs.Prelude.{ℕ, ◌+◌, ◌<◌, ◌≤◌, ◌≡◌, true, List, [], ◌∷◌, ◌++◌, length, get_or, drop}
use Rattle.parts.specs.Limits.{text_max, symbols_max, arity_max}
use Rattle.texts.specs.Bytes.{Word}
use Rattle.texts.specs.Books.{Agent, Rule, declared, takes, args_of}
use Rattle.texts.specs.Coded.{symbol_of, template}
use Rattle.scan.specs.Words.{words_in}
use Rattle.terms.specs.Layout.{sheet_size, cells_at, names_at}
use Rattle.terms.specs.Sheet.{Sheet}
use Rattle.terms.specs.Meaning.{Holds}
use Rattle.rule_sheet.specs.Lefts.{places}
use Rattle.rule_sheet.specs.Wellformed.{Wellformed}
use Rattle.terms.specs.declared.words.Agent.{Agent as Known}
use Rattle.rule_sheet.specs.declared.whole.Heads.{Heads}

-- A sheet with no cells and no names.
pub record Blank (w : List ℕ) : Type 0 where
  pub long : length w ≡ sheet_size
  pub cells : get_or w cells_at 0 ≡ 0
  pub names : get_or w names_at 0 ≡ 0

pub record HeadIs (ags : List Agent) (w : Word) (h : Known) : Type 0 where
  pub below : h.symbol.0 < symbols_max
  pub symbol : declared ags w ≡ true → h.symbol.0 ≡ symbol_of ags w
  pub arity : declared ags w ≡ true → h.arity ≡ takes ags w

-- The agent at a place: where its head is w and its arguments are vs, these were entered, and x is its symbol.
pub record AgentIn (l : List ℕ) (ags : List Agent) (at : ℕ) (s s₁ : Sheet) (x : ℕ) : Type 0 where
  pub below : x < symbols_max
  pub count : s₁.names ≡ s.names + arity_max
  pub meant : (w : Word) (vs more ws : List Word) → at ≤ length l → length l < text_max → declared ags w ≡ true → length vs ≡ takes ags w
      → words_in (drop at l) ≡ w ∷ (vs ++ more) → Holds l s [] ws → (x ≡ symbol_of ags w) × Holds l s₁ [] (ws ++ places vs)

-- Both agents of a well-formed rule.
pub record LeftsIn (l : List ℕ) (ags : List Agent) (s s₁ : Sheet) (h : Heads) : Type 0 where
  pub left_below : h.left.0 < symbols_max
  pub right_below : h.right.0 < symbols_max
  pub meant : (r : Rule) → Wellformed l ags r → Holds l s [] []
      → (h.left.0 ≡ (template ags r).left) × (h.right.0 ≡ (template ags r).right)
      × Holds l s₁ [] (places (args_of r.first) ++ places (args_of r.second))
