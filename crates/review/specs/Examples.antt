-- The texts of the examples: the bench cases P1 to P10 of document 01, and the Ackermann book of document 001.
use Rattle.std.specs.Prelude.{◌≡◌, ◌∷◌, ◌++◌}
use Rattle.review.specs.Words.{ℕ, String, List, [], bytes, used, view, evaluated}
use Rattle.review.specs.Picks.{first_picks, Premise}

-- Lines, each with its newline.
unfoldable pub text : List String → List ℕ
text [] = []
text (l ∷ ls) = bytes l ++ (10 ∷ text ls)

-- The rules of the listing.
abbrev pub rules : List String
rules =
    "rules\t3\t2" ∷ "agent\tadd\t2" ∷ "agent\tS\t1" ∷ "agent\tZ\t0"
    ∷ "rule\tadd(x,y)\tS(z)\tx\tS(w)\tz\tadd(w,y)"
    ∷ "rule\tadd(x,y)\tZ\tx\ty"
    ∷ []

abbrev pub listing_net : String
listing_net = "net\t1\t1\nface\tr\neq\tadd(r,S(Z))\tS(Z)\n"

-- What comes of a net text with these rules: the bytes printed; and, of calls of step by pick 0 to where nothing waits, the
-- interactions, the cells loaded, the number of the calls, and the cells at the end.
pub record Comes (net : String) (made loads steps cells : ℕ) (output : String) : Type 0 where
  pub printed : evaluated (text rules) (bytes net) ≡ bytes output
  pub premise : Premise (text rules) (bytes net) made
  pub cells_loaded : used (view premise.state).symbols ≡ loads
  pub by_head : premise.picks ≡ first_picks (λ i. 0) steps
  pub cells_at_end : used (view premise.last).symbols ≡ cells

-- The table.
pub record Bench : Type 0 where
  -- P1 listing: four steps; 5 cells loaded, 3 at the end
  pub P1 : Comes listing_net 2 5 4 3 "ran\tended\t2\t0\t0\t0\nface\tS(S(Z))\n"
  -- P2 same, `eq` sides exchanged: same output
  pub P2 : Comes "net\t1\t1\nface\tr\neq\tS(Z)\tadd(r,S(Z))\n" 2 5 4 3 "ran\tended\t2\t0\t0\t0\nface\tS(S(Z))\n"
  -- P3 no terms, no equations: ended 0 0 0 0, `face`
  pub P3 : Comes "net\t0\t0\nface\n" 0 0 0 0 "ran\tended\t0\t0\t0\t0\nface\n"
  -- P4 x = x: loops 1
  pub P4 : Comes "net\t0\t1\nface\neq\tx\tx\n" 0 0 1 0 "ran\tended\t0\t1\t0\t0\nface\n"
  -- P5 x = y, x = y: loops 1
  pub P5 : Comes "net\t0\t2\nface\neq\tx\ty\neq\tx\ty\n" 0 0 2 0 "ran\tended\t0\t1\t0\t0\nface\n"
  -- P6 x = S(x): knot 1
  pub P6 : Comes "net\t0\t1\nface\neq\tx\tS(x)\n" 0 1 1 1 "ran\tended\t0\t0\t0\t1\nface\n"
  -- P7 Z = Z: stuck 1, `eq Z Z`
  pub P7 : Comes "net\t0\t1\nface\neq\tZ\tZ\n" 0 2 1 2 "ran\tended\t0\t0\t1\t0\nface\neq\tZ\tZ\n"
  -- P8 `face x x`: `face _0 _0`
  pub P8 : Comes "net\t2\t0\nface\tx\tx\n" 0 0 0 0 "ran\tended\t0\t0\t0\t0\nface\t_0\t_0\n"
  -- P9 x = S(y), y = S(x): knot 2
  pub P9 : Comes "net\t0\t2\nface\neq\tx\tS(y)\neq\ty\tS(x)\n" 0 2 2 2 "ran\tended\t0\t0\t0\t2\nface\n"
  -- P10 `face r`, r = x, x = Z: `face Z`
  pub P10 : Comes "net\t1\t2\nface\tr\neq\tr\tx\neq\tx\tZ\n" 0 1 2 1 "ran\tended\t0\t0\t0\t0\nface\tZ\n"

-- The Ackermann book of document 001, and A(2,3).
abbrev pub ackermann_rules : List String
ackermann_rules =
    "rules\t6\t8" ∷ "agent\tA\t2" ∷ "agent\tA1\t2" ∷ "agent\tPred\t1" ∷ "agent\tDup\t2" ∷ "agent\tS\t1" ∷ "agent\tZ\t0"
    ∷ "rule\tPred(x)\tZ\tx\tZ" ∷ "rule\tPred(x)\tS(y)\tx\ty"
    ∷ "rule\tDup(a,b)\tZ\ta\tZ\tb\tZ" ∷ "rule\tDup(x,y)\tS(z)\tx\tS(a)\ty\tS(b)\tz\tDup(a,b)"
    ∷ "rule\tA(x,y)\tZ\ty\tS(x)" ∷ "rule\tA(u,v)\tS(w)\tu\tA1(S(w),v)"
    ∷ "rule\tA1(x,y)\tZ\tx\tPred(A(S(Z),y))" ∷ "rule\tA1(u,v)\tS(w)\tu\tDup(Pred(A(r1,v)),A(w,r1))"
    ∷ []

abbrev pub ackermann_net : String
ackermann_net = "net\t1\t1\nface\tr\neq\tA(S(S(S(Z))),r)\tS(S(Z))\n"
