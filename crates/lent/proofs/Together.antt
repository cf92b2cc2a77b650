-- The clauses together, and what those that hold give to those after them.
use Rattle.std.specs.Prelude.{◌≡◌, refl, true, ◌&&◌, List, ℕ}
use Rattle.std.proofs.Common.{arith}
use Rattle.model.specs.State.{St, listed}
use Rattle.model.specs.Table.{Table}
use Rattle.model.specs.Sound.{Sizes, mem_of}
use Rattle.model.specs.Test.{reached, zeroed, declared, twice, both_ways, unruled, sized, tested}
use Rattle.model.proofs.Beneath.Tested.{sized-sizes, declared_all}
use Rattle.sound.specs.Lent.{under, Usable, Symbols}
use Rattle.sound.proofs.Tables.{under-count}

pub tested-clauses : (T : Table) (s : St)
    → tested T s
    ≡ (reached T s
    && (zeroed T s && (declared T s && (twice T s && (both_ways s && (unruled T.rules (mem_of T s) (listed s.stuck) && sized s))))))
unfolding tested
tested-clauses T s = refl

module _ (w : List ℕ) (s : St) (z : sized s ≡ true) where
  pub sizes-known : Sizes s
  sizes-known = sized-sizes (under w) s z

  pub symbols-known : Usable w → declared (under w) s ≡ true → Symbols s
  symbols-known u d c = omega (arith, declared_all (under w) s sizes-known d c, under-count w, u.few)
