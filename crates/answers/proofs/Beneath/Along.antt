-- A reader with no equations beside one that has them: which names they number alike.
use Rattle.std.specs.Prelude.{◌≡◌, List, [], ◌∷◌, ℕ, suc, ◌+◌, ◌≤◌, ◌<◌}
use Rattle.std.proofs.Common.{ap, ap₂}
use Rattle.calculus.specs.Terms.{Sort, Tree, var, node, nil, cons, count, if_eq, touches}
use Rattle.answers.specs.Answer.{pick, Numbered, unknown, known, find, Reader, named, read}
use Rattle.answers.proofs.Beneath.Drain.{Once}
use Rattle.answers.proofs.Beneath.Wired.{wired}

-- How many terms.
abbrev pub size : {s : Sort} → Tree s → ℕ
size (var x) = 0
size (node a ts) = 0
size nil = 0
size (cons t ts) = suc (size ts)

-- A reader with no equations: names are only numbered, by first meeting.
abbrev pub plain : ℕ → List Numbered → Reader
plain k m = record { next = k; numbers = m; unmet = [] }

-- While the names xs are still to be read: the two readers give the same numbers to the names that can still be met.
pub record Along (xs : List ℕ) (S R : Reader) : Type 0 where
  pub next : S.next ≡ R.next
  pub bare : R.unmet ≡ []
  pub once : Once S.unmet
  pub met : (x k : ℕ) → find x S.numbers ≡ known k → touches x S.unmet ≡ 0
  pub agree : (z : ℕ) → 0 < count z xs + wired z S.unmet → find z S.numbers ≡ find z R.numbers
  pub twice : (z : ℕ) → count z xs + wired z S.unmet ≤ 2

-- A reader with no equations, at a name.
pub plain_known : (x k : ℕ) (R : Reader) → find x R.numbers ≡ known k
    → read 0 (var x) R ≡ record { shown = var k; after = R }
plain_known x k R e = ap (λ f. named (λ u Q. record { shown = var 0; after = Q }) x R f (pick x R.unmet)) e

pub plain_new : (x : ℕ) (R : Reader) → find x R.numbers ≡ unknown → R.unmet ≡ []
    → read 0 (var x) R
    ≡ record {
      shown = var R.next;
      after =
          record {
            next = suc R.next;
            numbers = record { name = x; number = R.next } ∷ R.numbers;
            unmet = R.unmet;
          };
    }
plain_new x R e b =
    ap₂ (λ f l. named (λ u Q. record { shown = var 0; after = Q }) x R f (pick x l)) e b

-- Two lists with one more name that has the same number.
pub one_more : (z x k j : ℕ) (l m : List Numbered) → k ≡ j → find z l ≡ find z m
    → find z (record { name = x; number = k } ∷ l) ≡ find z (record { name = x; number = j } ∷ m)
one_more z x k j l m e f = ap₂ (λ i g. if_eq z x (known i) g) e f
