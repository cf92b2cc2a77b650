-- `agents_part`: the agents' rows stand for the agents. Assumes nothing.
use Rattle.lines.specs.Laws.Agents.{part-agents}
use borrow.Author.Rules.{rules}
use borrow.Author.Rules.{rules}
use Rattle.lines.proofs.words.agents_part.Goals as goal

pub returns : goal.returns
returns c = search (rules, part-agents)
