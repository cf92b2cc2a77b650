-- How a reading goes on, whatever bounds it.
use Rattle.std.specs.Prelude.{◌≡◌, refl, ℕ, zero, suc, ◌≤◌, length}
use Rattle.std.proofs.Common.{arith}
use Rattle.calculus.specs.Terms.{var, node, nil, cons, Term, Terms}
use Rattle.calculus.proofs.Beneath.Perm.{perm_length}
use Rattle.answers.specs.Answer.{Pick, alone, beside, pick, Found, unknown, known, find, Reader, named, agent}
use Rattle.answers.specs.Answer.{then, read}
use Rattle.answers.proofs.Beneath.Order.{PickIs, pick_is}
use Rattle.answers.proofs.Beneath.Whole.{read-enough}

-- Steps of a reading.
pub read-cons : (n : ℕ) (t : Term) (ts : Terms) (S : Reader)
    → read n (cons t ts) S ≡ then (read n t S).shown (read n ts (read n t S).after)
read-cons zero t ts S = refl
read-cons (suc n) t ts S = refl

pub read-node : (n a : ℕ) (ts : Terms) (S : Reader) → read n (node a ts) S ≡ agent a (read n ts S)
read-node zero a ts S = refl
read-node (suc n) a ts S = refl

pub read-nil : (n : ℕ) (S : Reader) → read n nil S ≡ record { shown = nil; after = S }
read-nil zero S = refl
read-nil (suc n) S = refl

pub read_name : (n x : ℕ) (S : Reader) → length S.unmet ≤ n
    → read n (var x) S ≡ named (read n) x S (find x S.numbers) (pick x S.unmet)
read_name n x S b = go n b
  where
    same : (n : ℕ) → length S.unmet ≤ suc n → (f : Found) (p : Pick) → PickIs x S.unmet p
        → named (read n) x S f p ≡ named (read (suc n)) x S f p
    same n b (known k) p i = refl
    same n b unknown alone i = refl
    same n b unknown (beside (var y) r) i = refl
    same n b unknown (beside (node a ts) r) i =
        read-enough
        n
        (suc n)
        (node a ts)
        (record { next = S.next; numbers = S.numbers; unmet = r })
        (omega (arith, b, perm_length i))
        (omega (arith, b, perm_length i))

    none_left : length S.unmet ≤ 0 → (f : Found) (p : Pick) → PickIs x S.unmet p
        → named (λ u R. record { shown = var 0; after = R }) x S f p ≡ named (read 0) x S f p
    none_left b (known k) p i = refl
    none_left b unknown alone i = refl
    none_left b unknown (beside t r) i = absurd (omega (arith, b, perm_length i))

    go : (n : ℕ) → length S.unmet ≤ n → read n (var x) S ≡ named (read n) x S (find x S.numbers) (pick x S.unmet)
    go zero b = none_left b (find x S.numbers) (pick x S.unmet) (pick_is x S.unmet)
    go (suc n) b = same n b (find x S.numbers) (pick x S.unmet) (pick_is x S.unmet)
