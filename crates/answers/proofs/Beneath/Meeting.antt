-- A name is met: the two readers go on to number alike the names that can still be met.
use Rattle.std.specs.Prelude.{◌≡◌, List, ◌∷◌, ◌++◌, ℕ, suc, ◌+◌, ◌<◌}
use Rattle.std.proofs.Common.{◌∙◌, ap, arith}
use Rattle.calculus.specs.Terms.{var, node, Terms, Eqn, ◌≐◌, names, δ, count, touches}
use Rattle.calculus.specs.Terms.{◌∼◌}
use Rattle.calculus.proofs.Beneath.Count.{δ_same, sum-append, if_no}
use Rattle.calculus.proofs.Beneath.Ended.{touches-∼}
use Rattle.answers.specs.Answer.{Found, unknown, known, find, Reader}
use Rattle.answers.proofs.Beneath.Order.{rest-once}
use Rattle.answers.proofs.Beneath.Knot.{found_more}
use Rattle.answers.proofs.Beneath.Wired.{wired, wired-∼}
use Rattle.answers.proofs.Beneath.Along.{Along, one_more}

-- A name that has a number is met again.
pub met-known : (x : ℕ) (S R : Reader) (rest : List ℕ) → Along (x ∷ rest) S R → Along rest S R
met-known x S R rest A =
    record {
      next = A.next;
      bare = A.bare;
      once = A.once;
      met = A.met;
      agree = λ z k. A.agree z (omega (arith, k));
      twice = λ z. omega (arith, A.twice z);
    }

-- A name that no equation touches gets the next number.
pub met-alone : (x : ℕ) (S R : Reader) (rest : List ℕ) → Along (x ∷ rest) S R → touches x S.unmet ≡ 0
    → Along
    rest
    (record {
      next = suc S.next;
      numbers = record { name = x; number = S.next } ∷ S.numbers;
      unmet = S.unmet;
    })
    (record {
      next = suc R.next;
      numbers = record { name = x; number = R.next } ∷ R.numbers;
      unmet = R.unmet;
    })
met-alone x S R rest A i =
    record {
      next = ap suc A.next;
      bare = A.bare;
      once = A.once;
      met = found_more (record { name = x; number = S.next }) S.numbers S.unmet i A.met;
      agree =
          λ z k. one_more z x S.next R.next S.numbers R.numbers A.next (A.agree z (omega (arith, k)));
      twice = λ z. omega (arith, A.twice z);
    }

-- A name joined to another: both get the next number, and their equation is used.
module _ (x y : ℕ) (r : List Eqn) (S R : Reader) (rest : List ℕ) (A : Along (x ∷ rest) S R) (i : S.unmet ∼ (var x ≐ var y) ∷ r) where
  pub joined_free : touches y r ≡ 0
  joined_free = omega (arith, A.once y, touches-∼ y i, δ_same y)

  pub joined_new : (f : Found) → find y S.numbers ≡ f → find y S.numbers ≡ unknown
  joined_new unknown q = q
  joined_new (known j) q = absurd (omega (arith, A.met y j q, touches-∼ y i, δ_same y))

  x_gone : (z : ℕ) → 0 < count z rest + wired z r → ¬ (z ≡ x)
  x_gone z k q =
      let p : count x rest + wired x r ≡ 0 = omega (arith, A.twice x, wired-∼ x i, δ_same x) in
      let g : count z rest + wired z r ≡ 0 = ap (λ w. count w rest + wired w r) q ∙ p in
      omega (arith, k, g)

  pub met-joined : Along
      rest
      (record {
        next = suc S.next;
        numbers = record { name = x; number = S.next } ∷ record { name = y; number = S.next } ∷ S.numbers;
        unmet = r;
      })
      (record {
        next = suc R.next;
        numbers = record { name = y; number = R.next } ∷ R.numbers;
        unmet = R.unmet;
      })
  met-joined =
      record {
        next = ap suc A.next;
        bare = A.bare;
        once = rest-once i A.once;
        met =
            found_more
            (record { name = x; number = S.next })
            (record { name = y; number = S.next } ∷ S.numbers)
            r
            (omega (arith, A.once x, touches-∼ x i, δ_same x))
            (found_more
            (record { name = y; number = S.next })
            S.numbers
            r
            joined_free
            (λ z j q. omega (arith, A.met z j q, touches-∼ z i)));
        agree =
            λ z k.
            if_no (known S.next) (find z (record { name = y; number = S.next } ∷ S.numbers)) (x_gone z k)
            ∙ one_more z y S.next R.next S.numbers R.numbers A.next (A.agree z (omega (
              arith,
              k,
              wired-∼ z i,
            )));
        twice = λ z. omega (arith, A.twice z, wired-∼ z i);
      }

-- A name tied to a node: the node is read in its place, and their equation is used.
module _ (x a : ℕ) (us : Terms) (r : List Eqn) (S R : Reader) (rest : List ℕ) (A : Along (x ∷ rest) S R) (i : S.unmet ∼ (var x ≐ node a us) ∷ r) where
  pub tied_wired : (z : ℕ) → wired z S.unmet ≡ δ z x + count z (names us) + wired z r
  tied_wired z = omega (arith, wired-∼ z i)

  pub met_tied : Along (names us ++ rest) (record { next = S.next; numbers = S.numbers; unmet = r }) R
  met_tied =
      record {
        next = A.next;
        bare = A.bare;
        once = rest-once i A.once;
        met = λ z j q. omega (arith, A.met z j q, touches-∼ z i);
        agree = λ z k. A.agree z (omega (arith, k, tied_wired z, sum-append (δ z) (names us) rest));
        twice = λ z. omega (arith, A.twice z, tied_wired z, sum-append (δ z) (names us) rest);
      }
