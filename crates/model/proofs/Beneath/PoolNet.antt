-- A good pool read as a net: each name in range and twice, in any order; a name equal to itself is one more loop.
use Rattle.std.specs.Prelude.{◌≡◌, refl, List, [], ◌∷◌, ◌++◌, ◌⊎◌, ℕ, suc, ◌+◌, ◌*◌, ◌≤◌, ◌<◌, min, length, get_or, set}
use Rattle.std.proofs.Common.{sym, ap, inl, inr, arith, get_or-set_same, get_or-set_other}
use Rattle.std.proofs.Math.ListN.{get_or-eq_default}
use Rattle.calculus.specs.Calculus.{Book, Valid, Closed}
use Rattle.calculus.specs.Descent.{done}
use Rattle.calculus.proofs.Beneath.Count.{δ_same, δ-cases, sum-append, sum-eqs, sum-eqs-append, first_term, rest_terms}
use Rattle.calculus.proofs.Beneath.Perm.{perm_shift, perm_append_right}
use Rattle.calculus.proofs.Beneath.Rename.{≈-alike}
use Rattle.calculus.proofs.Beneath.Sub.{Sides_equivalence, back, ≈of}
use Rattle.calculus.specs.Terms.{occurs, δ, count, keep, step, Sides, var, Term, Terms, Eqn, ◌≐◌, Conf, names}
use Rattle.calculus.specs.Terms.{eqs_names}
use Rattle.parts.specs.Sides.{Side, name, Pair, ◌:=◌}
use Rattle.model.specs.Table.{Cell}
use Rattle.model.specs.Reading.{circles, Reads, by_name, ReadsAll, no_pairs, pairs}
use Rattle.model.proofs.Beneath.Bonds.{◌≃◌}
use Rattle.model.proofs.Beneath.Parts.{Part, part}
use Rattle.model.proofs.Beneath.Pool.{refit, Good, conf, in_range, Refit}
use Rattle.model.proofs.Beneath.Read.{Read, InRange, looping-closed, next-loop, closes}

-- A good pool, read without its loops; its names are in range, each twice.
abbrev pub bare_conf : {mem : ℕ → Cell} {liv : ℕ → ℕ} {face : List Side} {P : List Pair} {ns : List ℕ}
    → Good mem liv face P ns → Conf
bare_conf g = record { face = g.terms; eqs = g.eqs }

module _ {mem : ℕ → Cell} {liv : ℕ → ℕ} {face : List Side} {P : List Pair} {ns : List ℕ} (g : Good mem liv face P ns) (range n : ℕ) (h : length ns ≡ range) where
  pub names-count : (x : ℕ) → occurs x (bare_conf g) ≡ 2 * min 1 (get_or ns x 0)
  names-count x = omega (arith, g.twice x, sum-append (δ x) (names g.terms) (eqs_names g.eqs))

  pub good_in_range : InRange range (bare_conf g)
  good_in_range x k = omega (arith, names-count x, get_or-eq_default ns 0 {n = x} (omega arith))

  pub good-closed : Closed (conf range g n)
  good-closed = looping-closed (bare_conf g) range n good_in_range (λ x. go (get_or ns x 0) (occurs x (bare_conf g)) (names-count x))
    where
      go : (v k : ℕ) → k ≡ 2 * min 1 v → (k ≡ 0) ⊎ (k ≡ 2)
      go ℕ.zero k e = inl (omega arith)
      go (ℕ.suc v) k e = inr (omega arith)

  pub good-valid : Valid (conf range g n)
  good-valid x = go (good-closed x)
    where
      go : {k : ℕ} → (k ≡ 0) ⊎ (k ≡ 2) → k ≤ 2
      go (inl e) = omega arith
      go (inr e) = omega arith

-- The same equations in another order.
pub same_net : {B : Book} {mem : ℕ → Cell} {liv : ℕ → ℕ} {face : List Side} {P P' : List Pair} {ns ns' : List ℕ} (range n : ℕ) (g : Good mem liv face P ns)
    (f : Refit g P' ns' g.eqs) → Read B (conf range g n) [] (conf range f.good n)
same_net range n g f =
    record {
      state = conf range g n;
      way = done;
      equal = ≈-alike (sym f.terms) (perm_append_right Sides_equivalence (circles range n) f.order);
    }

-- An equation of two names, read.
names-pair : {mem : ℕ → Cell} {x y : ℕ} {ts : Terms} {cs : List ℕ} (d : Term) → Reads mem (name x ∷ name y ∷ []) ts cs
    → ((first_term ts d ≐ first_term (rest_terms ts) d) ≡ (var x ≐ var y)) × (cs ≡ [])
names-pair d (by_name (by_name Reads.none)) = (refl, refl)

two_names : {mem : ℕ → Cell} {x y : ℕ} {m : List Eqn} {cs : List ℕ} → ReadsAll mem ((name x := name y) ∷ []) m cs
    → (m ≡ (var x ≐ var y) ∷ []) × (cs ≡ [])
two_names (pairs {t = t} r no_pairs) = let k = names-pair t r in (ap (λ e. e ∷ []) k.0, ap (λ l. l ++ []) k.1)

-- A name equal to itself taken out, and one more loop counted.
module _ (B : Book) {mem : ℕ → Cell} {liv : ℕ → ℕ} {face : List Side} {P : List Pair} {ns : List ℕ} (range n : ℕ) (g : Good mem liv face P ns) (h : length ns ≡ range) where
  pub record Looped (P' : List Pair) (ns' : List ℕ) : Type 0 where
    pub good : Good mem liv face P' ns'
    pub read : Read B (conf range g n) [] (conf range good (suc n))

  pub loops : {x : ℕ} {R P' : List Pair} → P ≃ (name x := name x) ∷ R → P' ≃ R → Looped P' (set ns x 0)
  loops {x} {R} {P'} e k = go (part ((name x := name x) ∷ []) e g.pool_reads)
    where
      go : Part mem ((name x := name x) ∷ []) R g.eqs g.c₁ → Looped P' (set ns x 0)
      go p = on (two_names p.it)
        where
          on : (p.eqs ≡ (var x ≐ var x) ∷ []) × (p.its ≡ []) → Looped P' (set ns x 0)
          on q = last (refit g p (set ns x 0) k no_pairs (λ c. ap (count c) (sym q.1)) uses)
            where
              here : x < length ns
              here =
                  in_range
                  ns
                  x
                  (omega (arith, g.twice x, sum-eqs (δ x) p.order, sum-eqs-append (δ x) p.eqs p.others, ap (λ l. count x (eqs_names l)) q.0, δ_same x))

              uses : (y : ℕ)
                  → 0 + 2 * min 1 (get_or ns y 0) ≡ count y (eqs_names p.eqs) + 2 * min 1 (get_or (set ns x 0) y 0)
              uses y = by (δ-cases y x)
                where
                  by : ((y ≡ x) × (δ y x ≡ 1)) ⊎ ((¬ (y ≡ x)) × (δ y x ≡ 0))
                      → 0 + 2 * min 1 (get_or ns y 0) ≡ count y (eqs_names p.eqs) + 2 * min 1 (get_or (set ns x 0) y 0)
                  by (inl d) =
                      omega (
                        arith,
                        d.1,
                        ap (λ l. count y (eqs_names l)) q.0,
                        g.twice y,
                        sum-eqs (δ y) p.order,
                        sum-eqs-append (δ y) p.eqs p.others,
                        ap (λ i. get_or (set ns x 0) i 0) d.0,
                        get_or-set_same ns x 0 0 here,
                      )
                  by (inr d) = omega (arith, d.1, ap (λ l. count y (eqs_names l)) q.0, get_or-set_other ns x y 0 0 d.0)

              last : Refit g P' (set ns x 0) p.others → Looped P' (set ns x 0)
              last f =
                  record {
                    good = f.good;
                    read =
                        closes
                        (good-valid g range n h)
                        (perm_append_right Sides_equivalence (circles range n) (step p.order (≈of (ap (λ l. l ++ p.others) q.0))))
                        (next-loop (bare_conf g) range n (good_in_range g range n h))
                        f.terms
                        (step
                        (perm_shift Sides_equivalence f.good.eqs (var (range + n) ≐ var (range + n)) (circles range n))
                        (keep Sides.same (perm_append_right Sides_equivalence (circles range n) (back f.order))));
                  }
