-- All the equations of a machine in one pool, read as a configuration; what happens to it when a part of the pool is
-- replaced.
use Rattle.std.specs.Prelude.{◌≡◌, refl, List, [], ◌∷◌, ◌++◌, ℕ, ◌+◌, ◌*◌, ◌<◌, min, length, get_or}
use Rattle.std.proofs.Common.{◌∙◌, ap, arith}
use Rattle.std.proofs.Math.Decide.{dec_lt}
use Rattle.std.proofs.Math.ListN.{get_or-eq_default}
use Rattle.calculus.specs.Calculus.{Communication}
use Rattle.calculus.proofs.Beneath.Count.{sum-append, sum-eqs, sum-eqs-append, first_term, rest_terms}
use Rattle.calculus.proofs.Beneath.Perm.{perm_append_right}
use Rattle.calculus.proofs.Beneath.Sub.{Sides_equivalence, whole, ≈of, back}
use Rattle.calculus.specs.Terms.{δ, count, step, var, node, nil, cons, Term, Terms, Eqn, ◌≐◌, Conf, ◌∼◌, names}
use Rattle.calculus.specs.Terms.{eqs_names}
use Rattle.parts.specs.Sides.{Side, name, Pair, ◌:=◌}
use Rattle.model.specs.Table.{Cell}
use Rattle.model.specs.Reading.{circles, Reads, by_name, by_cell, ReadsAll, no_pairs, pairs}
use Rattle.model.proofs.Beneath.Bonds.{◌≃◌, ≃_refl}
use Rattle.model.proofs.Beneath.Cells.{reads-append}
use Rattle.model.proofs.Beneath.Parts.{Part, part, Reread, reread, rebuild}

-- The interface and the pool, read with the cells `mem`: each cell is met as often as `live` says, and each name that
-- is in use occurs twice, no other.
pub record Good (mem : ℕ → Cell) (live : ℕ → ℕ) (face : List Side) (P : List Pair) (ns : List ℕ) : Type 0 where
  pub terms : Terms
  pub eqs : List Eqn
  pub c₀ : List ℕ
  pub c₁ : List ℕ
  pub face_reads : Reads mem face terms c₀
  pub pool_reads : ReadsAll mem P eqs c₁
  pub cells : (c : ℕ) → count c c₀ + count c c₁ ≡ live c
  pub twice : (x : ℕ) → count x (names terms) + count x (eqs_names eqs) ≡ 2 * min 1 (get_or ns x 0)

-- The configuration that it is, with n loops, whose names are from `range` on.
abbrev pub conf : {mem : ℕ → Cell} {live : ℕ → ℕ} {face : List Side} {P : List Pair} {ns : List ℕ} → ℕ
    → Good mem live face P ns → ℕ → Conf
conf range g n = record { face = g.terms; eqs = g.eqs ++ circles range n }

pub in_range : (l : List ℕ) (x : ℕ) → 0 < get_or l x 0 → x < length l
in_range l x h = go (dec_lt x (length l))
  where
    go : Dec (x < length l) → x < length l
    go (yes p) = p
    go (no p) = absurd (omega (arith, get_or-eq_default l 0 {n = x} (omega arith)))

module _ {mem : ℕ → Cell} {live : ℕ → ℕ} {face : List Side} {P : List Pair} {ns : List ℕ} (g : Good mem live face P ns) where
  -- A part of the pool replaced by what meets the same cells.
  pub record Refit (P' : List Pair) (ns' : List ℕ) (m : List Eqn) : Type 0 where
    pub good : Good mem live face P' ns'
    pub terms : good.terms ≡ g.terms
    pub order : m ∼ good.eqs

  pub refit : {tk R P' pt : List Pair} {m : List Eqn} {cs : List ℕ} (p : Part mem tk R g.eqs g.c₁) (ns' : List ℕ)
      → P' ≃ pt ++ R → ReadsAll mem pt m cs
      → ((c : ℕ) → count c cs ≡ count c p.its)
      → ((x : ℕ) → count x (eqs_names m) + 2 * min 1 (get_or ns x 0) ≡ count x (eqs_names p.eqs) + 2 * min 1 (get_or ns' x 0))
      → Refit P' ns' (m ++ p.others)
  refit {R = R} {P' = P'} {m = m} {cs = cs} p ns' e r k h = go (rebuild e r p.they)
    where
      go : Reread mem P' (m ++ p.others) (cs ++ p.theirs) → Refit P' ns' (m ++ p.others)
      go q =
          record {
            good =
                record {
                  terms = g.terms;
                  eqs = q.eqs;
                  c₀ = g.c₀;
                  c₁ = q.its;
                  face_reads = g.face_reads;
                  pool_reads = q.reads;
                  cells = λ c. omega (arith, g.cells c, p.cells c, q.cells c, k c, sum-append (δ c) cs p.theirs);
                  twice =
                      λ x. omega (
                        arith,
                        g.twice x,
                        h x,
                        sum-eqs (δ x) q.order,
                        sum-eqs (δ x) p.order,
                        sum-eqs-append (δ x) m p.others,
                        sum-eqs-append (δ x) p.eqs p.others,
                      );
                };
            terms = refl;
            order = q.order;
          }

  -- The pool in another order, and with sides exchanged.
  pub regood : {P' : List Pair} (ns' : List ℕ) → P ≃ P' → ((x : ℕ) → min 1 (get_or ns' x 0) ≡ min 1 (get_or ns x 0))
      → Refit P' ns' g.eqs
  regood {P'} ns' e h = go (reread e g.pool_reads)
    where
      go : Reread mem P' g.eqs g.c₁ → Refit P' ns' g.eqs
      go q =
          record {
            good =
                record {
                  terms = g.terms;
                  eqs = q.eqs;
                  c₀ = g.c₀;
                  c₁ = q.its;
                  face_reads = g.face_reads;
                  pool_reads = q.reads;
                  cells = λ c. omega (arith, g.cells c, q.cells c);
                  twice = λ x. omega (arith, g.twice x, h x, sum-eqs (δ x) q.order);
                };
            terms = refl;
            order = q.order;
          }

-- An equation with a name on its left, read.
pub record Named (mem : ℕ → Cell) (x : ℕ) (t : Side) (l : List Pair) (m : List Eqn) (cs : List ℕ) : Type 0 where
  pub U : Term
  pub its : List ℕ
  pub m' : List Eqn
  pub theirs : List ℕ
  pub reads : Reads mem (t ∷ []) (cons U nil) its
  pub rest : ReadsAll mem l m' theirs
  pub eqs : m ≡ (var x ≐ U) ∷ m'
  pub cells : (c : ℕ) → count c cs ≡ count c its + count c theirs

record NamedSides (mem : ℕ → Cell) (x : ℕ) (t : Side) (e : Eqn) (cs : List ℕ) : Type 0 where
  pub U : Term
  pub its : List ℕ
  pub reads : Reads mem (t ∷ []) (cons U nil) its
  pub eqn : e ≡ (var x ≐ U)
  pub cells : (c : ℕ) → count c cs ≡ count c its

named-sides : {mem : ℕ → Cell} {x : ℕ} {t : Side} {ts : Terms} {cs : List ℕ} (d : Term)
    → Reads mem (name x ∷ t ∷ []) ts cs
    → NamedSides mem x t (first_term ts d ≐ first_term (rest_terms ts) d) cs
named-sides d (by_name (by_name {x = y} Reads.none)) = record { U = var y; its = []; reads = by_name Reads.none; eqn = refl; cells = λ c. refl }
named-sides d (by_name (by_cell {c = c} {k = k} {us = us} {ds = ds} e q Reads.none)) =
    record { U = node k.symbol us; its = c ∷ (ds ++ []); reads = by_cell e q Reads.none; eqn = refl; cells = λ c. refl }

pub named : {mem : ℕ → Cell} {x : ℕ} {t : Side} {l : List Pair} {m : List Eqn} {cs : List ℕ}
    → ReadsAll mem ((name x := t) ∷ l) m cs → Named mem x t l m cs
named (pairs {t = t} {cs = cs} {ds = ds} {m = m} r w) =
    let k = named-sides t r in
    record {
      U = k.U;
      its = k.its;
      m' = m;
      theirs = ds;
      reads = k.reads;
      rest = w;
      eqs = ap (λ e. e ∷ m) k.eqn;
      cells = λ c. omega (arith, k.cells c, sum-append (δ c) cs ds);
    }

nothing : {mem : ℕ → Cell} {m : List Eqn} {cs : List ℕ} → ReadsAll mem [] m cs → (m ≡ []) × (cs ≡ [])
nothing no_pairs = (refl, refl)

-- Two equations with one name: x = A and x = U.
pub record Both (mem : ℕ → Cell) (x : ℕ) (a t : Side) (m : List Eqn) (cs : List ℕ) : Type 0 where
  pub A : Term
  pub U : Term
  pub ds : List ℕ
  pub es : List ℕ
  pub reads : Reads mem (a ∷ t ∷ []) (cons A (cons U nil)) (ds ++ es)
  pub eqs : m ≡ (var x ≐ A) ∷ (var x ≐ U) ∷ []
  pub cells : (c : ℕ) → count c cs ≡ count c ds + count c es

pub two_named : {mem : ℕ → Cell} {x : ℕ} {a t : Side} {m : List Eqn} {cs : List ℕ}
    → ReadsAll mem ((name x := a) ∷ (name x := t) ∷ []) m cs → Both mem x a t m cs
two_named {mem} {x} {a} {t} {m} {cs} r = go (named r)
  where
    go : Named mem x a ((name x := t) ∷ []) m cs → Both mem x a t m cs
    go k = on (named k.rest)
      where
        on : Named mem x t [] k.m' k.theirs → Both mem x a t m cs
        on j =
            record {
              A = k.U;
              U = j.U;
              ds = k.its;
              es = j.its;
              reads = reads-append k.reads j.reads;
              eqs = k.eqs ∙ ap (λ l. (var x ≐ k.U) ∷ l) (j.eqs ∙ ap (λ l. (var x ≐ j.U) ∷ l) (nothing j.rest).0);
              cells = λ c. omega (arith, k.cells c, j.cells c, ap (count c) (nothing j.rest).1);
            }

-- Communication on the pool.
module _ {mem : ℕ → Cell} {live : ℕ → ℕ} {face : List Side} {P : List Pair} {ns : List ℕ} (g : Good mem live face P ns) where
  pub record Met (range n : ℕ) (P' : List Pair) (ns' : List ℕ) : Type 0 where
    pub good : Good mem live face P' ns'
    pub by : Communication (conf range g n) (conf range good n)

  pub communicate : (range n : ℕ) {x : ℕ} {a t : Side} {R : List Pair} (ns' : List ℕ)
      → P ≃ (name x := a) ∷ (name x := t) ∷ R
      → ((y : ℕ) → 2 * min 1 (get_or ns y 0) ≡ δ y x + δ y x + 2 * min 1 (get_or ns' y 0))
      → Met range n ((a := t) ∷ R) ns'
  communicate range n {x} {a} {t} {R} ns' e h = go (part ((name x := a) ∷ (name x := t) ∷ []) e g.pool_reads)
    where
      go : Part mem ((name x := a) ∷ (name x := t) ∷ []) R g.eqs g.c₁ → Met range n ((a := t) ∷ R) ns'
      go p = on (two_named p.it)
        where
          on : Both mem x a t p.eqs p.its → Met range n ((a := t) ∷ R) ns'
          on b =
              last
              (refit
              g
              p
              ns'
              (≃_refl ((a := t) ∷ R))
              (pairs b.reads no_pairs)
              (λ c. omega (arith, b.cells c, sum-append (δ c) (b.ds ++ b.es) [], sum-append (δ c) b.ds b.es))
              (λ y. omega (
                arith,
                h y,
                ap (λ l. count y (eqs_names l)) b.eqs,
                sum-append (δ y) (names b.A ++ names b.U) [],
                sum-append (δ y) (names b.A) (names b.U),
                sum-append (δ y) (names b.A) (x ∷ (names b.U ++ [])),
                sum-append (δ y) (names b.U) [],
              )))
            where
              last : Refit g ((a := t) ∷ R) ns' ((b.A ≐ b.U) ∷ p.others) → Met range n ((a := t) ∷ R) ns'
              last f =
                  record {
                    good = f.good;
                    by =
                        record {
                          x = x;
                          t = b.A;
                          u = b.U;
                          Δ = p.others ++ circles range n;
                          before =
                              step
                              (perm_append_right
                              Sides_equivalence
                              (circles range n)
                              (step p.order (≈of (ap (λ l. l ++ p.others) b.eqs))))
                              (whole _);
                          after = perm_append_right Sides_equivalence (circles range n) (back f.order);
                          face = f.terms;
                        };
                  }
