-- What `decode` and `encode` are to one another.
use Rattle.std.specs.Prelude.{◌≡◌, ℕ}
use Rattle.std.proofs.Common.{ap, ◌∙◌}
use Rattle.parts.specs.Sides.{code, side}
use Rattle.parts.specs.Codes.{side-code, code-side}
use Rattle.parts.specs.Typed.{plain, typed, typed-plain, plain-typed}
use Rattle.parts.specs.declared.Side.{Side}

-- Encoding and decoding undo each other, both ways.
pub encoded_decoded : (n : ℕ) → code (plain (typed (side n))) ≡ n
encoded_decoded n = ap code (plain-typed (side n)) ∙ code-side n

pub decoded_encoded : (s : Side) → typed (side (code (plain s))) ≡ s
decoded_encoded s = ap typed (side-code (plain s)) ∙ typed-plain s
