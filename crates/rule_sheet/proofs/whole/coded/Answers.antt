-- `rule_sheet::whole::coded` meets its contract.
use Rattle.std.proofs.Common.{refl, rules}
use Rattle.rule_sheet.proofs.Heading.{blank-room, some_fields, some_room, coded_asks, coded-stands}
use Rattle.rule_sheet.proofs.whole.coded.Goals as goal

pub enter_lefts-heads-requires : goal.enter_lefts-heads-requires
enter_lefts-heads-requires c = search (rules, blank-room)

pub overflow_sub-n : goal.overflow_sub-n
overflow_sub-n c = some_fields _ _ c.requires _ c.field_count-n.ensures

pub read_fields-requires : goal.read_fields-requires
read_fields-requires c = some_room _ _ c.requires _ _ c.field_count-n.ensures refl

pub rule_of-requires : goal.rule_of-requires
rule_of-requires c = coded_asks _ _ _ c.blank-sheet.ensures _ _ _ c.enter_lefts-heads.ensures _ _ _
    c.field_count-n.ensures c.field_start-from.ensures refl _ _ _
    c.no_codes-codes.ensures c.read_fields.ensures c.requires

pub returns : goal.returns
returns c = coded-stands _ _ _ c.blank-sheet.ensures _ _ _ c.enter_lefts-heads.ensures _ _ _
    c.field_count-n.ensures c.field_start-from.ensures refl _ _ _
    c.no_codes-codes.ensures c.read_fields.ensures _ c.rule_of.ensures
