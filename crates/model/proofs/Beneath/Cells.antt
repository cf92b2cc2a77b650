-- What is read from cells: it may change elsewhere, has one outcome, and copies are read as instances.
use Rattle.std.specs.Prelude.{◌≡◌, refl, List, [], ◌∷◌, ◌++◌, map, ℕ, ◌+◌, ◌<◌}
use Rattle.std.proofs.Common.{sym, ◌∙◌, ap, ap₂, subst, append_assoc, arith}
use Rattle.calculus.proofs.Beneath.Count.{δ_same, sum-append}
use Rattle.calculus.specs.Terms.{δ, sum, count, var, node, nil, cons, Term, Terms, names, sub}
use Rattle.parts.specs.Sides.{cell, Side}
use Rattle.model.specs.Table.{Cell}
use Rattle.model.specs.Step.{inst, inst_cell}
use Rattle.model.specs.Reading.{by_cell, by_name, Reads}

infixr 60 ◌+++◌
-- Sequences of terms, one after the other.
abbrev pub ◌+++◌ : Terms → Terms → Terms
nil +++ us = us
(cons t ts) +++ us = cons t (ts +++ us)

-- Cells that are not met may change.
pub frame : {mem mem' : ℕ → Cell} {ss : List Side} {ts : Terms} {cs : List ℕ}
    → ((c : ℕ) → 0 < count c cs → mem' c ≡ mem c) → Reads mem ss ts cs → Reads mem' ss ts cs
frame h Reads.none = Reads.none
frame h (by_name r) = by_name (frame h r)
frame h (by_cell {c = c} {ds = ds} {cs = cs} e q r) =
    by_cell
    (h c (omega (arith, δ_same c)) ∙ e)
    (frame (λ d k. h d (omega (arith, sum-append (δ d) ds cs))) q)
    (frame (λ d k. h d (omega (arith, sum-append (δ d) ds cs))) r)

pub reads-append : {mem : ℕ → Cell} {ss ss' : List Side} {ts ts' : Terms} {cs cs' : List ℕ} → Reads mem ss ts cs
    → Reads mem ss' ts' cs'
    → Reads mem (ss ++ ss') (ts +++ ts') (cs ++ cs')
reads-append Reads.none w = w
reads-append (by_name r) w = by_name (reads-append r w)
reads-append {mem} {ss' = ss'} {ts' = ts'} {cs' = cs'} (by_cell {c = c} {k = k} {ss = ss} {us = us} {ts = ts} {ds = ds} {cs = cs} e q r) w =
    subst
    (λ l. Reads mem (cell c ∷ (ss ++ ss')) (cons (node k.symbol us) (ts +++ ts')) (c ∷ l))
    (sym (append_assoc ds cs cs'))
    (by_cell e q (reads-append r w))

-- A reading has one outcome.
pub record Outcome (ts ts' : Terms) (cs cs' : List ℕ) : Type 0 where
  pub the_terms : ts ≡ ts'
  pub the_cells : cs ≡ cs'

pub one_outcome : {mem : ℕ → Cell} {ss : List Side} {ts ts' : Terms} {cs cs' : List ℕ} → Reads mem ss ts cs
    → Reads mem ss ts' cs' → Outcome ts ts' cs cs'
one_outcome Reads.none Reads.none = record { the_terms = refl; the_cells = refl }
one_outcome (by_name {x = x} r) (by_name r') =
    let o = one_outcome r r' in record { the_terms = ap (cons (var x)) o.the_terms; the_cells = o.the_cells }
one_outcome {mem} (by_cell {c = c} {k = k} e q r) (by_cell {k = k'} {us = us'} {ds = ds'} e' q' r') =
    let o = one_outcome q (subst (λ h. Reads mem h.args us' ds') (sym e' ∙ e) q') in
    let p = one_outcome r r' in
    record {
      the_terms = ap₂ cons (ap₂ node (ap (λ h. h.symbol) (sym e ∙ e')) o.the_terms) p.the_terms;
      the_cells = ap (λ l. c ∷ l) (ap₂ ◌++◌ o.the_cells p.the_cells);
    }

-- A rule's right side is read from cells of its own. `env` gives a side for each of its names, `alloc` a cell for
-- each of its cells.
pub record Instanced (mem : ℕ → Cell) (ss : List Side) (ts : Terms) (cells_used : ℕ → ℕ) : Type 0 where
  pub used : List ℕ
  pub reads : Reads mem ss ts used
  pub cells : (c : ℕ) → count c used ≡ cells_used c

pub count-map-append : (f : ℕ → ℕ) (d : ℕ) (l m : List ℕ)
    → count d (map f (l ++ m)) ≡ count d (map f l) + count d (map f m)
count-map-append f d [] m = omega arith
count-map-append f d (x ∷ l) m = omega (arith, count-map-append f d l m)

module _ {tmem mem : ℕ → Cell} {env : ℕ → Side} {alloc : ℕ → ℕ} {σ : ℕ → Term} {held : ℕ → List ℕ} where
  -- Where each name's side is read as the term that stands for it, and each new cell is a copy, the copy is read as
  -- the instance of the right side, and meets the new cells and those of the terms, each as often as it should.
  pub instantiate : {ss : List Side} {ts : Terms} {ks : List ℕ} → Reads tmem ss ts ks
      → ((z : ℕ) → 0 < count z (names ts) → Reads mem (env z ∷ []) (cons (σ z) nil) (held z))
      → ((k : ℕ) → 0 < count k ks → mem (alloc k) ≡ inst_cell env alloc (tmem k))
      → Instanced mem (map (inst env alloc) ss) (sub σ ts) (λ c. count c (map alloc ks) + sum (λ z. count c (held z)) (names ts))
  instantiate Reads.none f g = record { used = []; reads = Reads.none; cells = λ c. omega arith }
  instantiate (by_name {x = x} {ts = ts} r) f g =
      let i = instantiate r (λ z k. f z (omega arith)) g in
      record {
        used = held x ++ i.used;
        reads = reads-append (f x (omega (arith, δ_same x))) i.reads;
        cells = λ c. omega (arith, sum-append (δ c) (held x) i.used, i.cells c);
      }
  instantiate (by_cell {c = c} {k = k} {us = us} {ts = ts} {ds = ds} {cs = cs} e q r) f g =
      let i = instantiate q (λ z h. f z (omega (arith, sum-append (δ z) (names us) (names ts)))) (λ d h. g d (omega (arith, sum-append (δ d) ds cs))) in
      let j = instantiate r (λ z h. f z (omega (arith, sum-append (δ z) (names us) (names ts)))) (λ d h. g d (omega (arith, sum-append (δ d) ds cs))) in
      record {
        used = alloc c ∷ (i.used ++ j.used);
        reads = by_cell (g c (omega (arith, δ_same c)) ∙ ap (inst_cell env alloc) e) i.reads j.reads;
        cells = λ d. omega (
          arith,
          sum-append (δ d) i.used j.used,
          i.cells d,
          j.cells d,
          sum-append (λ z. count d (held z)) (names us) (names ts),
          count-map-append alloc d ds cs,
        );
      }
