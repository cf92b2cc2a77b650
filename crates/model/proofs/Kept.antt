-- Theorem 1: soundness is kept by each step that is not refused, and a load is sound.
use Rattle.std.specs.Prelude.{◌≡◌, ℕ}
use Rattle.calculus.specs.Nets.{◌≈◌}
use Rattle.calculus.specs.Terms.{Conf}
use Rattle.model.specs.State.{St}
use Rattle.model.specs.Table.{Table}
use Rattle.model.specs.Step.{moved}
use Rattle.model.specs.Stepped.{stepped}
use Rattle.model.specs.Sound.{Sound, meaning}
use Rattle.model.specs.SoundTable.{SoundTable}
use Rattle.model.specs.Load.{Net, loaded}
use Rattle.model.specs.NetReads.{NetReads}
use Rattle.model.specs.Walk.{Walk}
use Rattle.model.proofs.Beneath.Walks.{moves, walked}
use Rattle.model.proofs.Beneath.Loaded as Loaded

module _ {T : Table} (t : SoundTable T) where
  abbrev pub step_sound : {s s' : St} → Sound T s → (p : ℕ) → stepped T s p ≡ moved s' → Sound T s'
  step_sound h p e = (moves t h p e).sound

  abbrev pub walk_sound : {s s' : St} → Sound T s → Walk T s s' → Sound T s'
  walk_sound h w = (walked t h w).sound

  -- The loaded state of a well-formed net is sound, and its meaning is that net.
  abbrev pub load_sound : {N : Net} {C : Conf} → NetReads T N C → Sound T (loaded N)
  load_sound r = Loaded.load_sound t r

  pub load-means : {N : Net} {C : Conf} (r : NetReads T N C) → meaning (load_sound r) ≈ C
  load-means r = Loaded.load-means t r

-- A state has one meaning, however its soundness is shown.
pub one_meaning : {T : Table} {s : St} (h k : Sound T s) → meaning h ≡ meaning k
one_meaning h k = Loaded.one_meaning h k
