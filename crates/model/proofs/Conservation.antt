-- Theorem 4: how many cells are in use after any steps.
use Rattle.std.specs.Prelude.{◌≡◌, ◌+◌, ◌*◌, length}
use Rattle.std.proofs.Common.{◌∙◌, ap}
use Rattle.calculus.specs.Terms.{Conf}
use Rattle.model.specs.State.{St, used}
use Rattle.model.specs.Table.{Table}
use Rattle.model.specs.Sound.{Sound}
use Rattle.model.specs.SoundTable.{SoundTable}
use Rattle.model.specs.Load.{Net, loaded}
use Rattle.model.specs.NetReads.{NetReads}
use Rattle.model.specs.Walk.{Walk, over, right}
use Rattle.model.specs.Agree.{uses_in}
use Rattle.model.proofs.Beneath.Cellslaw.{cells_law}
use Rattle.model.proofs.Beneath.Loaded.{load_sound, load_cells}

-- "After any steps from a load, cells in use equal those loaded plus, over the rules, times used multiplied by (cells
-- on its right side less 2)." Here what is taken off stands on the other side, so that no number is below 0.
pub conservation : {T : Table} → SoundTable T → {N : Net} {C : Conf} → NetReads T N C
    → {s' : St} (w : Walk T (loaded N) s')
    → used s'.symbols + over T (λ i. uses_in i w * 2) ≡ length N.cells + over T (λ i. uses_in i w * right T i)
conservation {T} t r w =
    cells_law t (load_sound t r) w ∙ ap (λ n. n + over T (λ i. uses_in i w * right T i)) (load_cells t r)

-- The same from any sound state.
pub conservation_from : {T : Table} → SoundTable T → {s s' : St} → Sound T s → (w : Walk T s s')
    → used s'.symbols + over T (λ i. uses_in i w * 2) ≡ used s.symbols + over T (λ i. uses_in i w * right T i)
conservation_from t h w = cells_law t h w
