-- Conditions of document 01 said without tests: the rule conditions, the spelling of symbols.
use Rattle.std.specs.Prelude.{◌≤◌, ◌≡◌, true, false, ◌↔◌, ◌⊎◌, List, [], ◌∷◌, map, length}
use Rattle.parts.specs.Limits.{identifier_max}
use Rattle.texts.specs.Bytes.{Word, In, Distinct, times}
use Rattle.texts.specs.Terms.{Term, term, nil, symbol, Node, nodes}
use Rattle.texts.specs.Books.{Agent, Rule, Record, is_agent, is_rule, declared, takes, rights, head_of, args_of, left_args, cells_of, names_of, new_names_of}

-- 7, 8 and 10 are asked of rules: an agent's record has none of them.
unfoldable pub OfRule : (Rule → Type 0) → Record → Type 0
OfRule P (is_agent a) = Unit {0}
OfRule P (is_rule r) = P r

-- 7: "argument count differs from arity, or brackets after a name". An agent has as many arguments as its arity, a name
-- none.
abbrev pub Argued : List Agent → List Term → Type 0
Argued ags ts = (n : Node) → In n (nodes ts) → n.args ≡ takes ags n.word

-- 8: "a left field is not an agent over different names, or a name occurs the wrong number of times".
pub record WellNamed (ags : List Agent) (r : Rule) : Type 0 where
  -- "both left fields are agents
  pub first_agent : declared ags (head_of r.first) ≡ true
  pub second_agent : declared ags (head_of r.second) ≡ true
  -- whose arguments are names, all different;
  pub names : (w : Word) → In w (left_args r) → declared ags w ≡ false
  pub distinct : Distinct (left_args r)
  -- each of these occurs once on the right; any other name on the right occurs twice there"
  pub once : (w : Word) → In w (left_args r) → times w (names_of ags (rights r)) ≡ 1
  pub twice : (w : Word) → In w (names_of ags (rights r)) → ¬ In w (left_args r) → times w (names_of ags (rights r)) ≡ 2

-- 10: "a symbol's rule with itself is one-sided". "A rule of a symbol with itself must read the same from both sides".
-- x and y stand at the same place of two lists.
pub data Across : List Word → List Word → Word → Word → Type 0 where
  here : {x y : Word} {xs ys : List Word} → Across (x ∷ xs) (y ∷ ys) x y
  there : {v w x y : Word} {xs ys : List Word} → Across xs ys x y → Across (v ∷ xs) (w ∷ ys) x y

-- y stands where x stood when the two left argument lists change places.
abbrev pub Opposite : Rule → Word → Word → Type 0
Opposite r x y = Across (args_of r.first) (args_of r.second) x y ⊎ Across (args_of r.second) (args_of r.first) x y

-- The right side has the pair of the names x and y, whichever is written first.
abbrev pub Paired : Rule → Word → Word → Type 0
Paired r x y =
    In (record { left = term x nil; right = term y nil }) r.right
    ⊎ In (record { left = term y nil; right = term x nil }) r.right

pub record BothWays (ags : List Agent) (r : Rule) : Type 0 where
  -- "its right side has no agents and no new names,
  pub no_agents : cells_of ags (rights r) ≡ []
  pub no_new : new_names_of ags r ≡ []
  -- and its set of unordered pairs is unchanged when the two left argument lists change places"
  pub unchanged : (x y x' y' : Word) → Opposite r x x' → Opposite r y y' → Paired r x y ↔ Paired r x' y'

abbrev pub TwoSided : List Agent → Rule → Type 0
TwoSided ags r = head_of r.first ≡ head_of r.second → BothWays ags r

-- Each symbol begins with a letter and has 1 to 16 bytes, and no two are the same.
pub record SpeltAgents (ags : List Agent) : Type 0 where
  pub spelt : (a : Agent) → In a ags → (symbol a.symbol ≡ true) × (length a.symbol ≤ identifier_max)
  pub different : Distinct (map (λ a. a.symbol) ags)
