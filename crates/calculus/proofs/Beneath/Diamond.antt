-- The diamond that makes all ways to an end alike, for any labelled relation.
use Rattle.std.specs.Prelude.{◌≡◌, ◌⊎◌}

pub record Equivalence {A : Type 0} (R : A → A → Type 0) : Type 0 where
  pub same : (a : A) → R a a
  pub back : {a b : A} → R a b → R b a
  pub join : {a b c : A} → R a b → R b c → R a c

module _ {S L : Type 0} (◌≈◌ : S → S → Type 0) (Step : S → L → S → Type 0) where
  infix 40 ◌≈◌
  -- A step that reaches, up to the equivalence, a given state.
  pub record Reach (a : S) (l : L) (b : S) : Type 0 where
    pub state : S
    pub made : Step a l state
    pub equal : state ≈ b

  -- Of two steps, to b by l and to c by m, each can be followed by the other.
  pub record Meet (b : S) (l : L) (c : S) (m : L) : Type 0 where
    pub state : S
    pub first : Step b m state
    pub second : Reach c l state

  -- What is asked of a relation: the states that matter are kept by steps, equivalent states have the same steps, and
  -- two steps from one state are one step or meet.
  pub record Diamond (Good : S → Type 0) : Type 0 where
    pub equivalence : Equivalence ◌≈◌
    pub kept : {a b : S} {l : L} → Good a → Step a l b → Good b
    pub compatible : {a a' b : S} {l : L} → Good a → a ≈ a' → Step a l b → Reach a' l b
    pub meets : {a b c : S} {l m : L} → Good a → Step a l b → Step a m c → ((l ≡ m) × (b ≈ c)) ⊎ Meet b l c m
