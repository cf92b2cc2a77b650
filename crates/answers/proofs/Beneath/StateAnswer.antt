-- The answer told of the arrays of a sound ended state is that of its net.
use Rattle.std.specs.Prelude.{◌≡◌, ℕ}
use Rattle.std.proofs.Common.{sym, ◌∙◌, ap, ap₂, arith}
use Rattle.calculus.specs.Terms.{Terms}
use Rattle.model.specs.State.{St, used}
use Rattle.model.specs.Table.{Table}
use Rattle.model.specs.Sound.{Sound, meaning}
use Rattle.model.specs.SoundTable.{SoundTable}
use Rattle.answers.specs.Answer.{agents, Answer, answer}
use Rattle.answers.specs.Printer.{state_face, state_pairs, state_answer}
use Rattle.answers.proofs.Beneath.Bound.{state-printed}
use Rattle.answers.proofs.Beneath.Tally.{cells-are-agents, stuck-many, loops-many}
use Rattle.answers.proofs.Beneath.Whole.{all_told}

abbrev answer_of : Terms → Terms → ℕ → ℕ → ℕ → Answer
answer_of f p s l k = record { face = f; pairs = p; stuck = s; loops = l; knot = k }

five : {f f' p p' : Terms} {s s' l l' k k' : ℕ} → f ≡ f' → p ≡ p' → s ≡ s' → l ≡ l' → k ≡ k'
    → answer_of f p s l k ≡ answer_of f' p' s' l' k'
five {f} {f'} {p} {p'} {s} {s'} {l} {l'} {k} {k'} a b c d e =
    ap₂ (λ x y. answer_of x y s l k) a b ∙ ap₂ (λ x y. answer_of f' p' x y k) c d ∙ ap (answer_of f' p' s' l') e

pub state_is_net : {T : Table} → SoundTable T → {s : St} (h : Sound T s) → s.waiting.used ≡ 0
    → state_answer T s ≡ answer (meaning h)
unfolding state_answer
state_is_net {T} t {s} h e =
    five
    shown.0
    shown.1
    (sym (stuck-many h e))
    (sym (loops-many h e))
    (omega (arith, ap agents shown.0, ap agents shown.1, all_told (meaning h), cells-are-agents h))
  where
    m : ℕ
    m = used s.symbols

    shown : ((state_face T s m).shown ≡ (answer (meaning h)).face)
        × ((state_pairs T s m).shown ≡ (answer (meaning h)).pairs)
    shown = state-printed t h e m (omega (arith, cells-are-agents h))
