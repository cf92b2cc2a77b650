-- Answers of some ended nets, computed; and a name as it is printed.
use Rattle.std.specs.Prelude.{List, [], ◌∷◌}
use Rattle.calculus.specs.Terms.{var, node, nil, cons, Term, ◌≐◌, Conf}
use Rattle.answers.specs.Answer.{Answer}

-- Of an ended net: the symbols add 0, S 1 and Z 2, names by any numbers.
abbrev pub S : Term → Term
S t = node 1 (cons t nil)

abbrev pub Z : Term
Z = node 2 nil

abbrev pub behind_one : Conf
behind_one =
    record { face = nil; eqs = (var 4 ≐ node 0 (cons (var 4) (cons (var 6) nil))) ∷ (var 6 ≐ Z) ∷ [] }

abbrev pub nets : List Conf
nets =
    -- face r with r = S(x), x = S(Z): a tie within a tie
    record { face = cons (var 0) nil; eqs = (S Z ≐ var 5) ∷ (var 0 ≐ S (var 5)) ∷ [] }
    -- face r b q b with r joined to q: two joined names are one
    ∷ record {
      face = cons (var 3) (cons (var 9) (cons (var 4) (cons (var 9) nil)));
      eqs = (var 4 ≐ var 3) ∷ [];
    }
    -- face r with a loop, a stuck pair that shares r, and a knot
    ∷ record { face = cons (var 2) nil; eqs = (var 0 ≐ var 0) ∷ (Z ≐ S (var 2)) ∷ (var 8 ≐ S (var 8)) ∷ [] }
    -- two stuck pairs, the head first, with ties within ties in the second; and a knot
    ∷ record {
      face = nil;
      eqs = (Z ≐ S Z) ∷ (S (var 4) ≐ Z) ∷ (var 4 ≐ S (var 6)) ∷ (var 6 ≐ Z) ∷ (var 8 ≐ S (S (var 8))) ∷ [];
    }
    -- x = add(x,w), w = Z: a circle of one tie, and a tie behind it
    ∷ behind_one
    ∷ []

abbrev pub answers : List Answer
answers =
    record { face = cons (S (S Z)) nil; pairs = nil; stuck = 0; loops = 0; knot = 0 }
    ∷ record {
      face = cons (var 0) (cons (var 1) (cons (var 0) (cons (var 1) nil)));
      pairs = nil;
      stuck = 0;
      loops = 0;
      knot = 0;
    }
    ∷ record { face = cons (var 0) nil; pairs = cons Z (cons (S (var 0)) nil); stuck = 1; loops = 1; knot = 1 }
    ∷ record {
      face = nil;
      pairs = cons Z (cons (S Z) (cons (S (S Z)) (cons Z nil)));
      stuck = 2;
      loops = 0;
      knot = 2;
    }
    ∷ record { face = nil; pairs = nil; stuck = 0; loops = 0; knot = 2 }
    ∷ []
