-- Number 3 by the kind of a line's record: what the fields of the line say before its terms are read.
use Rattle.std.specs.Prelude as Prelude
use Rattle.std.specs.Prelude.{Bool, cond, ◌&&◌, List, [], ◌∷◌, drop, get_or}
use Rattle.std.proofs.Math.Option.{Option, none, some}
use Rattle.texts.specs.Bytes.{Word, same}
use Rattle.texts.specs.Books.{word_agent, word_rule}
use Rattle.texts.specs.RuleText.{Shape, agent_shape, rule_shape, agent_fields, rule_fields}
use Rattle.rule_lines.specs.declared.kinds.Kind.{Kind}
use Rattle.rule_lines.specs.declared.kinds.Kind.TheVariants.{Agent, Rule}

-- the shape of a line with these fields, by the kind of its record
unfoldable pub shape_by : Prelude.Option Kind → List Word → Option Shape
shape_by (Prelude.Some (Agent n)) fs = some (agent_shape (get_or fs 1 []) n)
shape_by (Prelude.Some Rule) fs = some (rule_shape (get_or fs 1 []) (get_or fs 2 []) (drop 3 fs))
shape_by Prelude.None fs = none

-- `shape_of` of the texts, where the book has no rule or some
unfoldable pub shaped_of : Bool → List Word → Option Shape
shaped_of ruleless [] = none
shaped_of ruleless (w ∷ fs) =
    cond (same w word_agent && ruleless) (agent_fields fs) (cond (same w word_rule) (rule_fields fs) none)
