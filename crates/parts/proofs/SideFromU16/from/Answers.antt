-- The side of a code: it meets its contract.
use Rattle.std.proofs.Common.{◌≡◌, refl, ap, ℕ, zero, suc, ◌/◌, ◌%◌}
use Rattle.parts.specs.Sides.{name, cell, side}
use Rattle.parts.specs.Typed.{typed}
use Rattle.parts.proofs.SideFromU16.from.Goals as goal

even : (n : ℕ) → n % 2 ≡ 0 → name (n / 2) ≡ side n
unfolding side
even n e = rw (e, side)

odd : (n : ℕ) → ¬ (n % 2 ≡ 0) → cell (n / 2) ≡ side n
unfolding side
odd n e = go (n % 2) e
  where
    go : (r : ℕ) → ¬ (r ≡ 0) → cell (n / 2) ≡ elim r [ zero ↦ name (n / 2) | suc r ↦ cell (n / 2) ]
    go ℕ.zero h = absurd (h refl)
    go (ℕ.suc r) h = refl

pub returns-then-word-eq0 : goal.returns-then-word-eq0
returns-then-word-eq0 c = ap typed (even c.args.word c.if-word-eq0.true)

pub returns-else-word-eq0 : goal.returns-else-word-eq0
returns-else-word-eq0 c = ap typed (odd c.args.word c.if-word-eq0.false)
