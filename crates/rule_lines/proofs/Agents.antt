-- Numbers 4 to 6 of an agent: one law for each way out of its judge.
use Prim.Native.Nat.{ℕ, suc, ◌<◌, ◌≤◌}
use mathlib.Core.Path.{◌≡◌, refl, sym, ap, ◌∙◌}
use mathlib.Core.Bool.{Bool, true, false, ◌||◌}
use mathlib.Core.List.{List, [], ◌∷◌, ◌++◌}
use native.Mathlib.Omega.{arith}
use lib.ListN.{length, get_or, length-append}
use lib.Dec.{ltb, leb, leb-suc-suc}
use borrow.Author.Tests.{le-ltb, ltb-false, leb-false}
use Rattle.parts.specs.Limits.{identifier_max, symbols_max, arity_max, rules_max}
use Rattle.texts.specs.Bytes.{Word}
use Rattle.texts.specs.Books.{Agent, Book, is_agent, add, declared}
use Rattle.texts.specs.Terms as Terms
use Rattle.texts.specs.Answers.{need, refuse}
use Rattle.texts.specs.Coded.{Table, table_of}
use Rattle.texts.specs.RuleText.{agent_shape, record_of, ruleless, is_too_long, big_record, big_book, fault5, fault6, fault7, fault8, fault9, fault10, judged}
use Rattle.texts.specs.Good.{GoodBook}
use Rattle.texts.proofs.Beneath.Shapes.{Fits}
use Rattle.texts.proofs.Beneath.Shapes.{to_shape}
use Rattle.texts.proofs.Beneath.RuleMeans.{Sized, good-sized}
use Rattle.texts.proofs.Beneath.Forward.{table_pass}
use Rattle.texts.proofs.Beneath.Tools.{neither}
use Rattle.table.specs.Layout.{agents_in, bytes_of, table_bytes}
use Rattle.table.specs.Put.{agent, with_agent}
use Rattle.table.specs.Laws.Whole.{FitAgents, tested-fits}
use Rattle.terms.specs.Agents.{agents_of}
use Rattle.rule_lines.specs.Agents.{big_agent}
use Rattle.rule_lines.specs.Laws.{agents-counted, no_rules, judged_same}
use Rattle.rule_lines.specs.Judged.{passed, failed, AgentJudged, ShapeJudged}

-- an agent that passes none of the sizes
pub record Small (w : Word) (n c : ℕ) : Type 0 where
  pub word : length w ≤ identifier_max
  pub arity : n ≤ arity_max
  pub room : c < symbols_max

pub small : (w : Word) (n c : ℕ) (d : Bool) → d ≡ big_agent w n c → d ≡ false → Small w n c
unfolding big_agent is_too_long
small w n c d e h =
    let p = neither (ltb identifier_max (length w) || ltb arity_max n) (leb symbols_max c) (sym e ∙ h) in
    let q = neither (ltb identifier_max (length w)) (ltb arity_max n) p.0 in
    record {
      word = ltb-false identifier_max (length w) q.0;
      arity = ltb-false arity_max n q.1;
      room = leb-false symbols_max c p.1;
    }

-- the table of a good book
good-agents : (b : Book) → GoodBook b → FitAgents b.agents
unfolding table_of
good-agents b g = (tested-fits (table_of b) (table_pass b g)).agents

agent_more : (b : Book) (a : Agent) → ruleless b ≡ true → table_of (add b (is_agent a)) ≡ with_agent a (table_of b)
unfolding table_of add ruleless
agent_more b a h = rw (no_rules b.rules h)

or_false : (t : Bool) → (t || false) ≡ t
or_false true = refl
or_false false = refl

fault_5 : (b : Book) (v : List ℕ) (w : Word) (n : ℕ) → GoodBook b → v ≡ table_bytes b
    → fault5 b (is_agent (agent w n)) ≡ big_agent w n (length (agents_in v))
unfolding fault5 big_record big_book add Sized big_agent
fault_5 b v w n g e =
    let z : length (b.agents ++ (agent w n ∷ [])) ≡ suc (length b.agents) = simp length-append (omega arith) in
    rw (z, le-ltb rules_max (length b.rules) (good-sized b g).1, agents-counted b v e, or_false, leb-suc-suc)

-- one law for each way out
module _ (v : List ℕ) (w : Word) (n : ℕ) (d : Bool) (big : d ≡ big_agent w n (length (agents_in v))) where
  number_5 : (b : Book) → GoodBook b → v ≡ table_bytes b → fault5 b (is_agent (agent w n)) ≡ d
  number_5 b g e = fault_5 b v w n g e ∙ sym big

  pub agent-big : d ≡ true → AgentJudged v v w n 5
  unfolding judged refuse
  agent-big h = record { so = λ b g bare e. failed (λ q. omega arith) (rw (number_5 b g e, h)) refl }

  module _ (fits : d ≡ false) (a : List ℕ)
      (told : (t : Table) → v ≡ bytes_of t → FitAgents t.agents → agents_of a ≡ t.agents)
      (f : Bool) (there : f ≡ declared (agents_of a) w) where
    known : (b : Book) → GoodBook b → v ≡ table_bytes b → f ≡ declared b.agents w
    unfolding table_bytes table_of
    known b g e = there ∙ ap (λ l. declared l w) (told (table_of b) e (good-agents b g))

    pub agent-twice : f ≡ true → AgentJudged v v w n 6
    unfolding judged refuse fault6
    agent-twice h = record {
      so = λ b g bare e. failed (λ q. omega arith) (rw (number_5 b g e, fits, ← known b g e, h)) refl;
    }

    pub agent_new : f ≡ false → (c : ℕ) → c ≡ n → (u : List ℕ)
        → ((t : Table) → v ≡ bytes_of t → u ≡ bytes_of (with_agent (agent w c) t)) → AgentJudged v u w n 0
    unfolding judged refuse fault6 fault7 fault8 fault9 fault10 table_bytes
    agent_new h c is-n u put = record {
      so =
          λ b g bare e.
          passed refl (add b (is_agent (agent w n))) (rw (number_5 b g e, fits, ← known b g e, h))
          (put (table_of b) e ∙ rw (is-n, agent_more b (agent w n) bare));
    }

-- number 4 of an agent
module _ (v : List ℕ) (fs : List Word) (n : ℕ) (w : Word) (e : w ≡ get_or fs 1 [])
    (t : Bool) (spelt : t ≡ Terms.symbol w) where
  pub agent-misspelt : t ≡ false → ShapeJudged v v fs (agent_shape (get_or fs 1 []) n) 4
  unfolding record_of need
  agent-misspelt h = record { so = λ b g k s. failed (λ q. omega arith) (rw (← e, ← spelt, h)) refl }

  pub agent-goes_on : t ≡ true → (u : List ℕ) (m : ℕ) → AgentJudged v u w n m
      → ShapeJudged v u fs (agent_shape (get_or fs 1 []) n) m
  unfolding record_of need Fits
  agent-goes_on h u m j = record {
    so =
        λ b g k s.
        judged_same v u _ _ m (rw (← e, ← spelt, h)) (j.so b g (to_shape b fs _ s).1.0 k);
  }
