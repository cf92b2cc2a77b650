-- How a run is computed. `run_is_right` (Stopped.antt) says what it is: steps on the head, until there is a reason to
-- stop.
use Rattle.std.specs.Prelude.{ℕ, zero, suc, ◌+◌, ◌*◌}
use Rattle.parts.specs.Limits.{waiting_max, names_max}
use Rattle.model.specs.State.{St}
use Rattle.model.specs.Table.{Table}
use Rattle.model.specs.Step.{moved, refused, rule_at}
use Rattle.model.specs.Stepped.{stepped}
use Rattle.model.specs.Walk.{Stop, ended, paused, noroom, Ran, one_made}

abbrev pub stopped : Stop → ℕ → St → Ran
stopped w n s = record { stop = w; made = n; state = s }

-- "A run picks 0 again and again"; "at the head, paused comes before noroom". `made` interactions were made before,
-- and `steps` is a number of steps that suffices: between two interactions no more than waiting_max + names_max are
-- made.
unfoldable pub run : Table → ℕ → ℕ → ℕ → St → Ran
run T zero budget made s = stopped ended made s
run T (suc steps) budget made s =
    elim s.waiting.used [
      | zero ↦ stopped ended made s
      | suc w ↦ elim (one_made (rule_at T s 0)) [
        | zero ↦ elim (stepped T s 0) [ moved s' ↦ run T steps budget made s' | refused n ↦ stopped noroom made s ]
        | suc o ↦ elim budget [
          | zero ↦ stopped paused made s
          | suc b ↦ elim (stepped T s 0) [ moved s' ↦ run T steps b (suc made) s' | refused n ↦ stopped noroom made s ]
        ]
      ]
    ]

unfoldable pub ran : Table → ℕ → St → Ran
ran T budget s = run T (suc budget * suc (waiting_max + names_max)) budget 0 s
