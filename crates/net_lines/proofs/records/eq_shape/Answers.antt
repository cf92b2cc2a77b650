-- `net_lines::records::eq_shape` meets its contract.
use Rattle.std.proofs.Common.{sym, ◌∙◌, ne_eqb}
use Rattle.std.proofs.lemmas.Result.{on_ok_weaker}
use Rattle.texts.proofs.Beneath.Tools.{never}
use Rattle.net_lines.specs.Proofs.Shapes.{eq_form, eq_unformed}
use Rattle.net_lines.proofs.records.eq_shape.Goals as goal
use Rattle.net_lines.proofs.records.eq_shape.Goals.{then-field_count-eq3, else-field_count-eq3}

pub returns-clause-shaped : goal.returns-clause-shaped
returns-clause-shaped c = elim c.if-field_count-eq3.branch [
  | then-field_count-eq3 w ↦ c.shape.ensures.shaped _ (eq_form _ _ c.field_count.ensures _ w.if-field_count-eq3.true _ w.field.ensures (w.shape-is ∙ w.same.ensures))
  | else-field_count-eq3 w ↦ c.shape.ensures.shaped _ (eq_unformed _ _ c.field_count.ensures _ w.if-field_count-eq3.false w.shape-is)
]

pub returns-clause-three : goal.returns-clause-three
returns-clause-three c = on_ok_weaker c.shape.result
    (λ h. elim c.if-field_count-eq3.branch [
      | then-field_count-eq3 w ↦ sym c.field_count.ensures ∙ w.if-field_count-eq3.true
      | else-field_count-eq3 w ↦ never (sym (w.shape-is ∙ ne_eqb _ _ w.if-field_count-eq3.false) ∙ h)
    ])
    c.shape.ensures.fine_formed
