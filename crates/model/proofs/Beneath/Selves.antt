-- In a sound state a waiting equation x = x has a bare name, and a name on a side of a waiting equation is in use.
use Rattle.std.proofs.Common.{subst, inl, inr}
use Rattle.std.specs.Prelude.{◌≡◌, List, [], ◌∷◌, ◌++◌, ◌⊎◌, ℕ, suc, ◌+◌, ◌*◌, ◌≤◌, ◌<◌, min, pred}
use Rattle.std.proofs.Math.Path.{refl, ap}
use native.Mathlib.Omega.{arith}
use Rattle.std.proofs.Math.ListN.{get_or}
use Rattle.calculus.proofs.Beneath.Count.{δ_same, sum-append, first_term, rest_terms}
use Rattle.calculus.proofs.Beneath.Perm.{Ins, perm_ins}
use Rattle.calculus.specs.Terms.{δ, count, Term, Terms, Eqn, names, eqs_names}
use Rattle.parts.specs.Sides.{name, Pair, ◌:=◌, side, Side}
use Rattle.parts.specs.Codes.{code-side}
use Rattle.model.specs.State.{listed, St, pulled, unpack, bound}
use Rattle.model.specs.Table.{Cell, Table}
use Rattle.model.specs.Step.{place, picked}
use Rattle.model.specs.Reading.{ReadsAll, pairs, no_pairs, by_cell, by_name, Reads, pool_of, bonds}
use Rattle.model.specs.Sound.{Sound, pool}
use Rattle.model.specs.Test.{times, sides_of, is_name}
use Rattle.model.proofs.Beneath.Bonds.{≃_sym, bonds-drop, ◌≃◌}
use Rattle.model.proofs.Beneath.Counted.{sides-≃, sides-append}
use Rattle.model.proofs.Beneath.Facts.{unpack-pulled}
use Rattle.model.proofs.Beneath.Parts.{PairSides_equivalence}
use Rattle.model.proofs.Beneath.Pool.{in_range}
use Rattle.model.proofs.Beneath.Stepped.{ins_append}
use Rattle.model.proofs.Beneath.Wire.{within}

named_two : {mem : ℕ → Cell} {a b : Side} {ts : Terms} {cs : List ℕ} (x : ℕ) (d : Term) → Reads mem (a ∷ b ∷ []) ts cs
    → is_name x a + is_name x b ≤ count x (names (first_term ts d)) + count x (names (first_term (rest_terms ts) d))
named_two x d (by_name (by_name Reads.none)) = omega arith
named_two x d (by_name (by_cell e q Reads.none)) = omega arith
named_two x d (by_cell e q (by_name Reads.none)) = omega arith
named_two x d (by_cell e q (by_cell e' q' Reads.none)) = omega arith

sides-read : {mem : ℕ → Cell} {l : List Pair} {m : List Eqn} {cs : List ℕ} (x : ℕ) → ReadsAll mem l m cs
    → times x (sides_of l) ≤ count x (eqs_names m)
sides-read x no_pairs = omega arith
sides-read x (pairs {t = t} {u = u} {m = m} r w) =
    omega (
      arith,
      named_two x t r,
      sides-read x w,
      sum-append (δ x) (names t ++ names u) (eqs_names m),
      sum-append (δ x) (names t) (names u),
    )

module _ {T : Table} (s : St) (h : Sound T s) (p : ℕ) (o : p < s.waiting.used) where
  -- The picked equation, and the rest of the pool.
  rest : List Pair
  rest = pool_of (unpack (pred s.waiting.used) (pulled (place s p) s.waiting.words)) (listed s.stuck) s.names

  pub picked-out : pool s ≃ picked s p ∷ pool_of (unpack (pred s.waiting.used) (pulled (place s p) s.waiting.words)) (listed s.stuck) s.names
  picked-out =
      ≃_sym
      (perm_ins
      PairSides_equivalence
      (ins_append
      (bonds 0 s.names ++ listed s.stuck)
      (subst
      (λ n. Ins (picked s p) (unpack (pred s.waiting.used) (pulled (place s p) s.waiting.words)) (unpack n s.waiting.words))
      (let e : suc (pred s.waiting.used) ≡ s.waiting.used = omega arith in e)
      (unpack-pulled (place s p) (pred s.waiting.used) s.waiting.words (omega arith) (omega (arith, h.sizes.waits, h.sizes.waiting))))))

  few : (x : ℕ) (l : List Pair) → pool s ≃ l → times x (sides_of l) ≤ 2 * min 1 (get_or s.names x 0)
  few x l e = omega (arith, sides-≃ x e, sides-read x h.reads.pool_reads, h.twice x)

  pub name-used : (x : ℕ) (t : Side) → (picked s p ≡ (name x := t)) ⊎ (picked s p ≡ (t := name x))
      → 0 < get_or s.names x 0
  unfolding rest
  name-used x t (inl e) = omega (arith, few x (picked s p ∷ rest) picked-out, ap (λ q. times x (sides_of (q ∷ rest))) e, δ_same x)
  name-used x t (inr e) = omega (arith, few x (picked s p ∷ rest) picked-out, ap (λ q. times x (sides_of (q ∷ rest))) e, δ_same x)

  pub self-bare : (x : ℕ) → picked s p ≡ (name x := name x) → get_or s.names x 0 ≡ 1
  unfolding rest
  self-bare x e = go (get_or s.names x 0) refl
    where
      go : (v : ℕ) → get_or s.names x 0 ≡ v → get_or s.names x 0 ≡ 1
      go ℕ.zero q = absurd (omega (arith, name-used x (name x) (inl e)))
      go (ℕ.suc ℕ.zero) q = q
      go (ℕ.suc (ℕ.suc w)) q = absurd (on (side w) (omega (arith, q, code-side w)))
        where
          on : (t : Side) → get_or s.names x 0 ≡ bound t → ⊥
          on t f =
              omega (
                arith,
                few x (picked s p ∷ rest) picked-out,
                ap (λ q. times x (sides_of (q ∷ rest))) e,
                δ_same x,
                sides-append x (unpack (pred s.waiting.used) (pulled (place s p) s.waiting.words)) (bonds 0 s.names ++ listed s.stuck),
                sides-append x (bonds 0 s.names) (listed s.stuck),
                sides-≃ x (bonds-drop s.names x (in_range s.names x (omega (arith, f))) t (within s.names x t f h.joins) h.joins f),
              )
