-- Two cells that meet: their numbers are in range, and two fewer cells are in use once they are freed.
use Rattle.std.specs.Prelude.{◌≡◌, ℕ, ◌+◌, ◌<◌, length, set}
use Rattle.std.proofs.Common.{sym, ◌∙◌, arith, length-set, get_or-set_other}
use Rattle.parts.specs.Limits.{cells_max}
use Rattle.model.specs.State.{St, used}
use Rattle.model.specs.Step.{freed}
use Rattle.model.proofs.Beneath.Facts.{used-set}
use Rattle.model.proofs.Beneath.Pool.{in_range}
use Rattle.firing.specs.Fires.{Pairing}

module _ (a b : ℕ) (s : St) (f : Pairing a b s) where
  pub first_inside : a < cells_max
  first_inside = omega (arith, in_range s.symbols a f.first, f.symbols)

  pub second-inside : b < cells_max
  second-inside = omega (arith, in_range s.symbols b f.second, f.symbols)

  pub emptied-size : length (freed a b s.symbols) ≡ cells_max
  emptied-size = length-set (set s.symbols a 0) b 0 ∙ length-set s.symbols a 0 ∙ f.symbols

  pub emptied-used : used (freed a b s.symbols) + 2 ≡ used s.symbols
  emptied-used =
      omega (
        arith,
        used-set s.symbols a 0 (in_range s.symbols a f.first),
        used-set (set s.symbols a 0) b 0 (omega (arith, in_range s.symbols b f.second, length-set s.symbols a 0)),
        get_or-set_other s.symbols a b 0 0 (λ e. f.apart (sym e)),
        f.first,
        f.second,
      )
