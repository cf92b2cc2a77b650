-- `rule_lines::agent::judge_agent` meets its contract: a law for each way out, and what one agent more asks for.
use Rattle.std.proofs.Common.{refl, arith, rules}
use Rattle.rule_lines.proofs.Agents.{small, agent-big, agent-twice, agent_new}
use Rattle.rule_lines.proofs.agent.judge_agent.Goals as goal

pub returns-then-too_big : goal.returns-then-too_big
returns-then-too_big c = search (rules, agent-big)

pub returns-then-declared : goal.returns-then-declared
returns-then-declared c = search (rules, agent-twice)

pub overflow_cast-arity : goal.overflow_cast-arity
overflow_cast-arity c = let s = small _ _ _ _ c.too_big.ensures
    c.if-too_big.false in
    omega (arith, s.arity)

pub put_agent-requires : goal.put_agent-requires
put_agent-requires c = let s = small _ _ _ _ c.too_big.ensures
    c.if-too_big.false in
    (s.room, s.word, omega (arith, s.arity))

pub returns : goal.returns
returns c = agent_new _ _ _ _ c.too_big.ensures
    c.if-too_big.false _
    c.agents_part.ensures _ c.declared.ensures
    c.if-declared.false _ refl _ c.put_agent.ensures
