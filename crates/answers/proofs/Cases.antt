-- Answers of some ended nets, computed; and a name as it is printed.
use Rattle.std.specs.Prelude.{◌≡◌, refl, [], ◌∷◌, map}
use Rattle.std.proofs.Math.Decide.{ℕ_discrete}
use Rattle.std.proofs.Common.{arith}
use Rattle.calculus.proofs.Beneath.Count.{δ_same}
use Rattle.calculus.specs.Terms.{var, nil, cons, ◌≐◌, if_eq}
use Rattle.texts.specs.Bytes.{bytes, decimal}
use Rattle.answers.specs.Answer.{answer}
use Rattle.answers.specs.Knots.{Hangs, here, more, Behind}
use Rattle.answers.specs.Text.{numeral}
use Rattle.answers.proofs.Beneath.Ties.{tied_head}
use Rattle.answers.specs.Cases.{Z, behind_one, nets, answers}

pub the_answers : map answer nets ≡ answers
unfolding if_eq ℕ_discrete
the_answers = refl

-- In the last of them the tie of w hangs on that of x, which is on a circle.
pub tie-behind : Behind behind_one.eqs 6
tie-behind = record { top = 4; way = more hangs here; circle = record { above = 4; hangs = round; round = here } }
  where
    hangs : Hangs behind_one.eqs 6 4
    hangs = record { tie = tied_head 4 0 (cons (var 4) (cons (var 6) nil)) ((var 6 ≐ Z) ∷ []); inside = omega (arith, δ_same 6) }

    round : Hangs behind_one.eqs 4 4
    round = record { tie = tied_head 4 0 (cons (var 4) (cons (var 6) nil)) ((var 6 ≐ Z) ∷ []); inside = omega (arith, δ_same 4) }

-- "Names left are printed `_0`, `_1`": so `_10`.
pub name_printed : numeral 10 ≡ bytes "_10"
unfolding numeral decimal
name_printed = refl
