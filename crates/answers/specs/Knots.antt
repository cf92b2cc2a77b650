-- Which ties of an ended net are never met: those on a circle of ties, and those behind one.
use Rattle.std.specs.Prelude.{◌≡◌, List, ◌∷◌, ◌++◌, ℕ, ◌<◌}
use Rattle.calculus.specs.Terms.{var, node, Terms, Eqn, ◌≐◌, Conf, names, count, ◌∼◌}
use Rattle.answers.specs.Answer.{stuck, sides, tied_agents, answer}

-- x is tied in some equations: one of them is x = α(t̄). At an end no other equation has x for a side, so a tie is told
-- by its name.
pub record Tied (l : List Eqn) (x : ℕ) : Type 0 where
  pub symbol : ℕ
  pub args : Terms
  pub others : List Eqn
  pub equation : l ∼ (var x ≐ node symbol args) ∷ others

-- The tie of x hangs on the tie of y: x occurs in the agent that y is tied to.
pub record Hangs (l : List Eqn) (x y : ℕ) : Type 0 where
  pub tie : Tied l y
  pub inside : 0 < count x (names tie.args)

-- Upwards, from a tie to the one that it hangs on, any number of times.
pub data Up (l : List Eqn) : ℕ → ℕ → Type 0 where
  here : {x : ℕ} → Up l x x
  more : {x y z : ℕ} → Hangs l x y → Up l y z → Up l x z

-- On a circle of ties: x hangs on another tie, or on itself, from where one comes up to x again.
pub record Circle (l : List Eqn) (x : ℕ) : Type 0 where
  pub above : ℕ
  pub hangs : Hangs l x above
  pub round : Up l above x

-- On a circle of ties or behind one: upwards from x one comes to a circle.
pub record Behind (l : List Eqn) (x : ℕ) : Type 0 where
  pub top : ℕ
  pub way : Up l x top
  pub circle : Circle l top

-- Held: x occurs in the interface or in a stuck pair, or in an agent whose tie is held. A join holds no tie, as at an
-- end a joined name is not tied.
pub data Held (C : Conf) : ℕ → Type 0 where
  by_face : {x : ℕ} → 0 < count x (names C.face) → Held C x
  by_pair : {x : ℕ} → 0 < count x (names (sides (stuck C.eqs))) → Held C x
  by_tie : {x y : ℕ} → Hangs C.eqs x y → Held C y → Held C x

-- The equations in two parts: the ties of one part are held, those of the other are on circles or behind them. The
-- agents that names are tied to in the other part are the knot.
pub record Knotted (C : Conf) : Type 0 where
  pub met : List Eqn
  pub never : List Eqn
  pub parted : C.eqs ∼ met ++ never
  pub held : (x : ℕ) → Tied met x → Held C x
  pub behind : (x : ℕ) → Tied never x → Behind C.eqs x
  pub knot : (answer C).knot ≡ tied_agents never
