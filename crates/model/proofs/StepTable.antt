-- Theorem 0: a step is the step table, row by row.
use Rattle.std.specs.Prelude.{◌≡◌, ℕ, ◌<◌}
use Rattle.model.specs.State.{St}
use Rattle.model.specs.Table.{Table}
use Rattle.model.specs.Step.{moved, place, taken_out, picked}
use Rattle.model.specs.Stepped.{stepped}
use Rattle.model.specs.Sound.{Sound}
use Rattle.model.specs.Rows.{NoRoom, Row}
use Rattle.model.proofs.Beneath.Refused.{row-moves, moves_by_row, has_row}

module _ {T : Table} {s : St} (h : Sound T s) (p : ℕ) (o : p < s.waiting.used) where
  -- Where the left column of a row holds, the step leads to its right column.
  pub step-table : {s' : St} → Row T (taken_out (place s p) s) (picked s p) s' → stepped T s p ≡ moved s'
  step-table = row-moves h p o

  -- Each step that is made is by a row,
  pub every-step : {s' : St} → stepped T s p ≡ moved s' → Row T (taken_out (place s p) s) (picked s p) s'
  every-step = moves_by_row h p o

  -- and where there is room there is one.
  pub some_row : ¬ NoRoom T s (picked s p) → (s' : St) × Row T (taken_out (place s p) s) (picked s p) s'
  some_row = has_row h p o
