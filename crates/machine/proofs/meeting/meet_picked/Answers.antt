-- `machine::meeting::meet_picked` meets its contract.
use Rattle.std.proofs.Common.{ap, ◌∙◌, Some}
use Rattle.machine.proofs.Cells.{symbolled, stickable, straight-ready, turned-ready, met-stuck, met-straight, met_turned}
use Rattle.std.proofs.Common.{rules}
use Rattle.machine.proofs.meeting.meet_picked.Goals as goal

pub rule_for-requires : goal.rule_for-requires
rule_for-requires c = search (rules, symbolled)

pub stick-requires : goal.stick-requires
stick-requires c = search (rules, stickable)

pub interact-requires : goal.interact-requires
interact-requires c =
    let e = c.in-Some-Straight.is ∙ ap Some c.in-Some-Straight.field-0-is in
    (straight-ready _ _ _ _ _ c.requires.0 _ c.rule_for.ensures _ e, c.requires.1)

pub interact-requires-in-Some-Turned : goal.interact-requires-in-Some-Turned
interact-requires-in-Some-Turned c =
    let e = c.in-Some-Turned.is ∙ ap Some c.in-Some-Turned.field-0-is in
    (turned-ready _ _ _ _ _ c.requires.0 _ c.rule_for.ensures _ e, c.requires.1)

pub returns-in-None : goal.returns-in-None
returns-in-None c = search (rules, met-stuck)

pub returns-in-Some-Straight : goal.returns-in-Some-Straight
returns-in-Some-Straight c = search (rules, met-straight)

pub returns-in-Some-Turned : goal.returns-in-Some-Turned
returns-in-Some-Turned c = search (rules, met_turned)
