-- What stands in a list where another was stored.
use Rattle.std.specs.Prelude.{ℕ, ◌+◌, ◌<◌, ◌≤◌, ◌≡◌, List, ◌++◌, length, get_or, take, drop}
use Rattle.std.proofs.Common.{ap, ◌∙◌, arith, length-take, length-append, get_or-append-add}
use Rattle.std.proofs.Math.ListN.{get_or-append}
use Rattle.std.proofs.lemmas.List.Edits.{sets, sets-eq}

pub sets_at : (l vs : List ℕ) (i k : ℕ) → i + length vs ≤ length l → k < length vs → get_or (sets l i vs) (i + k) 0 ≡ get_or vs k 0
sets_at l vs i k h q =
    let t : length (take i l) ≡ i = length-take i l ∙ omega arith in
    let z : i + k ≡ length (take i l) + k = omega (arith, t) in
    ap (λ x. get_or x (i + k) 0) (sets-eq vs l i h)
    ∙ (get_or-append (take i l ++ vs) (drop (i + length vs) l) 0 (i + k) (omega (arith, length-append (take i l) vs, t))
    ∙ (ap (λ n. get_or (take i l ++ vs) n 0) z ∙ get_or-append-add (take i l) vs k 0))
