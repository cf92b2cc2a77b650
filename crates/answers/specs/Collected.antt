-- How the printed answer comes about by the published rules Collect and Substitution (document 001, Definition 3).
use Rattle.std.specs.Prelude.{◌≡◌, List, [], ◌++◌, ℕ, ◌<◌, length}
use Rattle.calculus.specs.Terms.{many, Terms, Eqn, Conf, names, count, ◌∼◌, touches}
use Rattle.calculus.specs.Calculus.{Collect, Substitution}
use Rattle.answers.specs.Answer.{Reader, Reading, read, stuck, sides, tied_agents, answer}

-- Any number of Collects:  ⟨ t̄ | x = t, Δ ⟩ ⟶ ⟨ t̄[t/x] | Δ ⟩, where x occurs in t̄.
pub data Collects : Conf → Conf → Type 0 where
  done : {C : Conf} → Collects C C
  more : {C D E : Conf} → Collect C D → Collects D E → Collects C E

-- Any number of Substitutions:  ⟨ t̄ | x = t, u = s, Δ ⟩ ⟶ ⟨ t̄ | u[t/x] = s, Δ ⟩, where u is not a name and x occurs
-- in u.
pub data Substitutes : Conf → Conf → Type 0 where
  done : {C : Conf} → Substitutes C C
  more : {C D E : Conf} → Substitution C D → Substitutes D E → Substitutes C E

-- Terms with their names numbered by first meeting, and no equation looked at: from 0 on, or on from other terms.
abbrev pub fresh : Reader
fresh = record { next = 0; numbers = []; unmet = [] }

abbrev pub numbered : Terms → Reader → Reading many
numbered ts R = read 0 ts R

-- Collects take the net C to `end`, from where none leads on; its interface numbered is the interface printed of C.
pub record Collected (C : Conf) : Type 0 where
  pub end : Conf
  pub way : Collects C end
  pub no_more : (D : Conf) → Collect end D → ⊥
  pub printed : (answer C).face ≡ (numbered end.face fresh).shown

-- From there Substitutions into stuck pairs take the net to `last`: the same interface, stuck pairs, and a rest. These
-- stuck pairs, numbered on from the interface, are those printed of C. No name in them is tied or joined any more. The
-- agents that names are tied to in the rest are the knot.
--
-- It says that some Substitutions do this, since not any do: "x = S(y), y = D(x) has two different Substitution results".
-- Those meant go into stuck pairs only, each by a tie ("a tied name reads as its term") or by a join ("two joined names are
-- one"); what lies on a circle is never put in.
pub record Substituted (C : Conf) (c : Collected C) : Type 0 where
  pub last : Conf
  pub way : Substitutes c.end last
  pub face : last.face ≡ c.end.face
  pub pairs : List Eqn
  pub rest : List Eqn
  pub eqs : last.eqs ∼ pairs ++ rest
  pub are_stuck : stuck pairs ≡ pairs
  pub printed : (answer C).pairs ≡ (numbered (sides pairs) (numbered c.end.face fresh).after).shown
  pub no_more : (x : ℕ) → 0 < count x (names (sides pairs)) → touches x rest ≡ 0
  pub as_many : (answer C).stuck ≡ length pairs
  pub knot : (answer C).knot ≡ tied_agents rest
