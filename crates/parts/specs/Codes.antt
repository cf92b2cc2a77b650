-- The code of a side and the side of a code undo each other.
use Rattle.std.specs.Prelude.{◌≡◌, ℕ, zero, suc, ◌+◌, ◌*◌, ◌/◌, ◌%◌, ◌<◌}
use Rattle.std.proofs.Common.{ap, div-add-mod', mod-lt, arith}
use Rattle.std.proofs.Math.Nat.{mul-mod_right, mul-div_right, add-mul-mod_self_left, add-mul-div_left}
use Rattle.parts.specs.Sides.{Side, name, cell, code, side}

pub side-code : (s : Side) → side (code s) ≡ s
unfolding side
side-code (name x) = go (mul-mod_right 2 x) (mul-div_right x (omega arith))
  where
    go : 2 * x % 2 ≡ 0 → 2 * x / 2 ≡ x → elim (2 * x % 2) [ zero ↦ name (2 * x / 2) | suc r ↦ cell (2 * x / 2) ] ≡ name x
    go p q = rw (p, q)
side-code (cell c) = go (add-mul-mod_self_left 1 2 c) (add-mul-div_left 1 c (omega arith))
  where
    go : (1 + 2 * c) % 2 ≡ 1 % 2 → (1 + 2 * c) / 2 ≡ 1 / 2 + c
        → elim ((1 + 2 * c) % 2) [ zero ↦ name ((1 + 2 * c) / 2) | suc r ↦ cell ((1 + 2 * c) / 2) ] ≡ cell c
    go p q = rw p (ap cell (omega (arith, q)))

pub code-side : (n : ℕ) → code (side n) ≡ n
unfolding side
code-side n = go (n % 2) (div-add-mod' n 2) (mod-lt n {m = 2} (omega arith))
  where
    go : (r : ℕ) → n / 2 * 2 + r ≡ n → r < 2 → code (elim r [ zero ↦ name (n / 2) | suc r ↦ cell (n / 2) ]) ≡ n
    go ℕ.zero p q = omega arith
    go (ℕ.suc r) p q = omega arith
