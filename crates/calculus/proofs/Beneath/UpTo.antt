-- Steps taken from nets that are equal to those reached are steps from those reached, with the same labels.
use Rattle.std.specs.Prelude.{List}
use Rattle.calculus.specs.Terms.{Conf}
use Rattle.calculus.specs.Calculus.{Valid, Book, Sound, Label, Step}
use Rattle.calculus.specs.Nets.{◌≈◌}
use Rattle.calculus.specs.Descent.{Steps, done, more, Normal}
use Rattle.calculus.proofs.Beneath.Compatible.{compatible, valid_same}
use Rattle.calculus.proofs.Beneath.Descent.{kept-along, normal_along}
use Rattle.calculus.proofs.Beneath.Occurs.{valid-kept}
use Rattle.calculus.proofs.Beneath.Order.{calculus_diamond}
use Rattle.calculus.proofs.Beneath.Rename.{≈_refl, ≈_sym, ≈_trans}

module _ (B : Book) where
  -- A step from a net equal to C.
  abbrev pub UpTo : Conf → Label → Conf → Type 0
  UpTo C l D = (C' : Conf) × (C ≈ C') × Step B C' l D

  -- A plain sequence of steps from C, to a net that is equal to N.
  pub record Plain (C : Conf) (M : List Label) (N : Conf) : Type 0 where
    pub end : Conf
    pub way : Steps (Step B) C M end
    pub equal : end ≈ N

  pub to_up : {C N : Conf} {M : List Label} → Steps (Step B) C M N → Steps UpTo C M N
  to_up done = done
  to_up (more {a = C} s w) = more (C, ≈_refl C, s) (to_up w)

  module _ (S : Sound B) where
    pub plain-from : {C C' N : Conf} {M : List Label} → Valid C → C ≈ C' → Steps UpTo C M N → Plain C' M N
    plain-from {C' = C'} v e done = record { end = C'; way = done; equal = ≈_sym e }
    plain-from v e (more (D, q, s) w) =
        let u = valid_same q v in
        let r = compatible S u (≈_trans (≈_sym q) e) s in
        let k = plain-from (valid-kept S u s) (≈_sym r.equal) w in
        record { end = k.end; way = more r.made k.way; equal = k.equal }

    pub plain : {C N : Conf} {M : List Label} → Valid C → Steps UpTo C M N → Plain C M N
    plain {C} v w = plain-from v (≈_refl C) w

    -- Where no step leads on from N, none does from the end of the plain sequence.
    pub plain_normal : {C N : Conf} {M : List Label} → Valid C → (p : Plain C M N) → Normal (Step B) N
        → Normal (Step B) p.end
    plain_normal v p h =
        normal_along (calculus_diamond S) (kept-along (calculus_diamond S) v p.way) (≈_sym p.equal) h
