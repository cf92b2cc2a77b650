-- The listing of document 01 in the calculus: its two rules, and its net.
use Rattle.std.specs.Prelude.{[], ◌∷◌}
use Rattle.calculus.specs.Terms.{var, node, nil, cons, Term, ◌≐◌, Conf}
use Rattle.calculus.specs.Calculus.{Rule}

-- The agents, numbered as they are declared.
abbrev pub add : Term → Term → Term
add t u = node 0 (cons t (cons u nil))

abbrev pub S : Term → Term
S t = node 1 (cons t nil)

abbrev pub Z : Term
Z = node 2 nil

-- add(x,y) = S(z) ⟶ x = S(w), z = add(w,y), with x and y the names 0 and 1, z the name 4 and w the name 8: the
-- arguments of the second agent are numbered from 4, and new names from 8.
abbrev pub add_S : Rule
add_S =
    record {
      left = 0;
      right = 1;
      xs = 0 ∷ 1 ∷ [];
      ys = 4 ∷ [];
      new = 8 ∷ [];
      body = (var 0 ≐ S (var 8)) ∷ (var 4 ≐ add (var 8) (var 1)) ∷ [];
    }

-- add(x,y) = Z ⟶ x = y
abbrev pub add_Z : Rule
add_Z = record { left = 0; right = 2; xs = 0 ∷ 1 ∷ []; ys = []; new = []; body = (var 0 ≐ var 1) ∷ [] }

-- ⟨ r | add(r,S(Z)) = S(Z) ⟩, with r the name 0.
abbrev pub start : Conf
start = record { face = cons (var 0) nil; eqs = (add (var 0) (S Z) ≐ S Z) ∷ [] }
