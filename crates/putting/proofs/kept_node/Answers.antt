-- `putting::kept_node` meets its contract.
use Rattle.std.proofs.Common.{rules, ◌∙◌}
use Rattle.putting.proofs.Stores.{max_one, node-past, node-head, node_over, node_kept}
use Rattle.putting.proofs.kept_node.Goals as goal

pub returns-then-n-c : goal.returns-then-n-c
returns-then-n-c c = search (rules, node-past)

pub returns-then-j-eq0 : goal.returns-then-j-eq0
returns-then-j-eq0 c = let s = c in
    node-head _ _ _ _ _ s.from-n.ensures s.requires.1 s.requires.2 s.if-n-c.false s.if-j-eq0.true (s.max.ensures ∙ max_one _)

pub returns-then-arity-j : goal.returns-then-arity-j
returns-then-arity-j c = let s = c in
    node_over _ _ _ _ _ _ _ _ s.from-n.ensures s.requires.1 s.requires.2 s.if-n-c.false s.if-j-eq0.false
    (search rules) s.from.ensures s.arity_of.ensures s.from-arity.ensures s.if-arity-j.true

pub returns : goal.returns
returns c = let s = c in
    node_kept _ _ _ _ _ _ _ _ s.from-n.ensures s.requires.1 s.requires.2 s.if-n-c.false s.if-j-eq0.false
    (search rules) s.from.ensures s.arity_of.ensures s.from-arity.ensures s.if-arity-j.false
