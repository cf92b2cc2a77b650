-- The walk over sides and cells is the reading of cells as terms of the calculus.
use Rattle.std.specs.Prelude.{ℕ, suc, ◌+◌, ◌<◌, ◌≡◌, Bool, true, ◌⊎◌, length, get_or, eqb}
use Rattle.std.proofs.Math.Path.{refl, sym, ap, ap₂, subst}
use Rattle.std.proofs.Common.{◌∙◌, inl, inr, arith, eq-eqb, ne_eqb}
use mathlib.Core.List.{List, [], ◌∷◌, ◌++◌, append_assoc, append-nil}
use Rattle.calculus.specs.Terms.{var, node, nil, cons, Term, Terms, Eqn, ◌≐◌, names, eqs_names, δ, count}
use Rattle.calculus.proofs.Beneath.Count.{δ-cases}
use Rattle.parts.specs.Sides.{Side, name, cell, Pair, ◌:=◌}
use Rattle.model.specs.Table.{Cell, no_cell}
use Rattle.model.specs.Reading.{Reads, none, by_name, by_cell, ReadsAll, no_pairs, pairs}
use Rattle.model.proofs.Beneath.Cells.{◌+++◌, reads-append, one_outcome}
use Rattle.model.specs.State.{from}
use Rattle.texts.specs.Bytes.{keep}
use Rattle.texts.specs.TableTest.{tally, args_all, same_side, ahead, onward, void, walk, met}
use Rattle.texts.specs.Coded.{unpaired}
use Rattle.texts.proofs.Beneath.Tools.{pair, not_empty}
use Rattle.texts.specs.Linear.{one}
use Rattle.texts.proofs.Beneath.Linear.{tally-cons, tally-append}
use Rattle.texts.proofs.Beneath.Templates.{name-name, name-cell}
use Rattle.texts.proofs.Beneath.SideWalk.{walk-name, walk_at, met-name, met-cell, walk_induction}

pub names-append : (us vs : Terms) → names (us +++ vs) ≡ names us ++ names vs
names-append nil vs = refl
names-append (cons t us) vs = ap (λ l. names t ++ l) (names-append us vs) ∙ sym (append_assoc (names t) (names us) (names vs))

module _ (mem : ℕ → Cell) where
  -- A reading of two rows is a reading of each.
  pub record Split (a b : List Side) (ts : Terms) (cs : List ℕ) : Type 0 where
    pub us : Terms
    pub vs : Terms
    pub ds : List ℕ
    pub es : List ℕ
    pub left : Reads mem a us ds
    pub right : Reads mem b vs es
    pub terms : ts ≡ us +++ vs
    pub cells : cs ≡ ds ++ es

  pub split : (a b : List Side) {ts : Terms} {cs : List ℕ} → Reads mem (a ++ b) ts cs → Split a b ts cs
  split [] b {ts} {cs} r = record { us = nil; vs = ts; ds = []; es = cs; left = none; right = r; terms = refl; cells = refl }
  split (name x ∷ a) b (by_name r) =
      let s = split a b r in
      record {
        us = cons (var x) s.us;
        vs = s.vs;
        ds = s.ds;
        es = s.es;
        left = by_name s.left;
        right = s.right;
        terms = ap (cons (var x)) s.terms;
        cells = s.cells;
      }
  split (cell c ∷ a) b (by_cell {k = k} {us = us} {ds = ds} e q r) =
      let s = split a b r in
      record {
        us = cons (node k.symbol us) s.us;
        vs = s.vs;
        ds = c ∷ (ds ++ s.ds);
        es = s.es;
        left = by_cell e q s.left;
        right = s.right;
        terms = ap (cons (node k.symbol us)) s.terms;
        cells = ap (λ l. c ∷ l) (ap (λ l. ds ++ l) s.cells ∙ sym (append_assoc ds s.ds s.es));
      }

  -- What passes the walk is read, and the names of its terms are those that the walk meets.
  pub record Read (m : ℕ) (cs : List Side) (ds : List Cell) : Type 0 where
    pub terms : Terms
    pub reads : Reads mem cs terms (from m (length ds))
    pub names_met : names terms ≡ met cs ds

  -- the cells from number m on
  abbrev pub Held : ℕ → List Cell → Type 0
  Held m ds = (j : ℕ) → j < length ds → mem (m + j) ≡ get_or ds j no_cell

  pub held_first : (m : ℕ) (d : Cell) (ds : List Cell) → Held m (d ∷ ds) → (mem m ≡ d) × Held (suc m) ds
  held_first m d ds h = (
    (let z : m + 0 ≡ m = omega arith in rw z at (h 0 (omega arith))),
    λ j l. let z : m + suc j ≡ suc m + j = omega arith in rw z at (h (suc j) (omega (arith, l))),
  )

  on_end : (m : ℕ) → Held m [] → Read m [] []
  unfolding met ahead
  on_end m h = record { terms = nil; reads = none; names_met = refl }

  on_name : (m x : ℕ) (cs : List Side) (ds : List Cell) → (Held m ds → Read m cs ds) → Held m ds → Read m (name x ∷ cs) ds
  on_name m x cs ds ih h =
      let r = ih h in
      record { terms = cons (var x) r.terms; reads = by_name r.reads; names_met = ap (λ l. x ∷ l) r.names_met ∙ sym (met-name x cs ds) }

  on_cell : (m : ℕ) (d : Cell) (cs : List Side) (ds : List Cell) → (Held (suc m) ds → Read (suc m) (d.args ++ cs) ds)
      → Held m (d ∷ ds) → Read m (cell m ∷ cs) (d ∷ ds)
  on_cell m d cs ds ih h =
      let p = held_first m d ds h in
      let r = ih p.1 in
      let s = split d.args cs r.reads in
      record {
        terms = cons (node d.symbol s.us) s.vs;
        reads = subst (λ l. Reads mem (cell m ∷ cs) (cons (node d.symbol s.us) s.vs) (m ∷ l)) (sym s.cells) (by_cell p.0 s.left s.right);
        names_met = sym (names-append s.us s.vs) ∙ (ap names (sym s.terms) ∙ (r.names_met ∙ sym (met-cell m d cs ds)));
      }

  pub walk-reads : (ds : List Cell) (m : ℕ) (cs : List Side) → walk m cs ds ≡ true → Held m ds → Read m cs ds
  walk-reads = walk_induction (λ m cs ds. Held m ds → Read m cs ds) on_end on_name on_cell

  -- What is read in the order of the cells passes the walk.
  end_walk : (m : ℕ) {cs : List Side} {ts : Terms} {l : List ℕ} → Reads mem cs ts l → l ≡ [] → walk m cs [] ≡ true
  unfolding walk onward void
  end_walk m none e = refl
  end_walk m (by_name {x = x} {ss = ss} r) e = walk-name m x ss [] ∙ end_walk m r e
  end_walk m (by_cell q r w) e = absurd (not_empty e)

  cell-walk : (m : ℕ) (d : Cell) (ds : List Cell) → mem m ≡ d
      → ((cs : List Side) (ts : Terms) (l : List ℕ) → Reads mem cs ts l → l ≡ from (suc m) (length ds) → walk (suc m) cs ds ≡ true)
      → (cs : List Side) (ts : Terms) (l : List ℕ) → Reads mem cs ts l → l ≡ m ∷ from (suc m) (length ds) → walk m cs (d ∷ ds) ≡ true
  cell-walk m d ds h ih cs ts l none e = absurd (not_empty (sym e))
  cell-walk m d ds h ih cs ts l (by_name {x = x} {ss = ss} r) e = walk-name m x ss (d ∷ ds) ∙ cell-walk m d ds h ih ss _ l r e
  cell-walk m d ds h ih cs ts l (by_cell {c = c} {k = k} {ss = ss} {us = us} {ds = a} {cs = b} q r w) e =
      let x : c ≡ m = cc in
      let y : a ++ b ≡ from (suc m) (length ds) = cc in
      let z : k ≡ d = sym q ∙ (ap mem x ∙ h) in
      walk_at m c ss d ds
      ∙ pair (eqb m c) _ (eq-eqb m c (sym x)) (ih _ _ _ (reads-append (subst (λ k. Reads mem k.args us a) z r) w) y)

  reads-walk : (ds : List Cell) (m : ℕ) → Held m ds → (cs : List Side) (ts : Terms) (l : List ℕ) → Reads mem cs ts l → l ≡ from m (length ds) → walk m cs ds ≡ true
  reads-walk [] m h cs ts l r e = end_walk m r e
  reads-walk (d ∷ ds) m h cs ts l r e = let p = held_first m d ds h in cell-walk m d ds p.0 (reads-walk ds (suc m) p.1) cs ts l r e

  -- A reading passes the walk, and its names are those met.
  pub walked : (ds : List Cell) → Held 0 ds → (cs : List Side) (ts : Terms) → Reads mem cs ts (from 0 (length ds))
      → (walk 0 cs ds ≡ true) × (names ts ≡ met cs ds)
  walked ds h cs ts r =
      let w = reads-walk ds 0 h cs ts _ r refl in
      let q = walk-reads ds 0 cs w h in
      (w, ap names (one_outcome r q.reads).the_terms ∙ q.names_met)

  -- Equations are read as their sides are.
  two : {a b : Side} {ts : Terms} {cs : List ℕ} → Reads mem (a ∷ b ∷ []) ts cs → (t : Term) × (u : Term) × (ts ≡ cons t (cons u nil))
  two (by_name {x = x} (by_name {x = y} none)) = (var x, var y, refl)
  two (by_name {x = x} (by_cell {k = k} {us = us} e q none)) = (var x, node k.symbol us, refl)
  two (by_cell {k = k} {us = us} e q (by_name {x = y} none)) = (node k.symbol us, var y, refl)
  two (by_cell {k = k} {us = us} e q (by_cell {k = k'} {us = us'} e' q' none)) = (node k.symbol us, node k'.symbol us', refl)

  pub record Equations (ps : List Pair) (ts : Terms) (cs : List ℕ) : Type 0 where
    pub eqs : List Eqn
    pub reads : ReadsAll mem ps eqs cs
    pub same_names : eqs_names eqs ≡ names ts

  pub equations : (ps : List Pair) {ts : Terms} {cs : List ℕ} → Reads mem (unpaired ps) ts cs → Equations ps ts cs
  unfolding unpaired
  equations [] none = record { eqs = []; reads = no_pairs; same_names = refl }
  equations ((a := b) ∷ ps) {ts} {cs} r =
      let s = split (a ∷ b ∷ []) (unpaired ps) r in
      let t = two s.left in
      let q = equations ps s.right in
      record {
        eqs = (t.0 ≐ t.1) ∷ q.eqs;
        reads = subst (ReadsAll mem ((a := b) ∷ ps) ((t.0 ≐ t.1) ∷ q.eqs)) (sym s.cells) (pairs (subst (λ z. Reads mem (a ∷ b ∷ []) z s.ds) t.2 s.left) q.reads);
        same_names = ap₂ ◌++◌ (pair-names t.0 t.1 ∙ ap names (sym t.2)) q.same_names ∙ (sym (names-append s.us s.vs) ∙ ap names (sym s.terms));
      }
    where
      pair-names : (t u : Term) → names t ++ names u ≡ names (cons t (cons u nil))
      pair-names t u = ap (λ l. names t ++ l) (sym (append-nil (names u)))

  pub record Sidewise (ps : List Pair) (es : List Eqn) (cs : List ℕ) : Type 0 where
    pub terms : Terms
    pub reads : Reads mem (unpaired ps) terms cs
    pub same_names : names terms ≡ eqs_names es

  pub sidewise : {ps : List Pair} {es : List Eqn} {cs : List ℕ} → ReadsAll mem ps es cs → Sidewise ps es cs
  unfolding unpaired
  sidewise no_pairs = record { terms = nil; reads = none; same_names = refl }
  sidewise (pairs {t = t} {u = u} r w) =
      let s = sidewise w in
      record {
        terms = cons t (cons u s.terms);
        reads = reads-append r s.reads;
        same_names = ap (λ l. names t ++ (names u ++ l)) s.same_names ∙ sym (append_assoc (names t) (names u) _);
      }

-- How often a name and a cell stand among the sides and the arguments, by what the walk meets.
δ_one : (x y : ℕ) → δ x y ≡ one (eqb x y)
δ_one x y = go (δ-cases x y)
  where
    go : ((x ≡ y) × (δ x y ≡ 1)) ⊎ ((¬ (x ≡ y)) × (δ x y ≡ 0)) → δ x y ≡ one (eqb x y)
    go (inl e) = e.1 ∙ rw (eq-eqb x y e.0)
    go (inr e) = e.1 ∙ rw (ne_eqb x y e.0)

nothing : (p : Side → Bool) → tally p [] + tally p (args_all []) ≡ 0
unfolding tally keep args_all
nothing p = refl

args_cons : (d : Cell) (ds : List Cell) → args_all (d ∷ ds) ≡ d.args ++ args_all ds
unfolding args_all
args_cons d ds = refl

module _ (x : ℕ) where
  abbrev Named : ℕ → List Side → List Cell → Type 0
  Named m cs ds = count x (met cs ds) ≡ tally (same_side (name x)) cs + tally (same_side (name x)) (args_all ds)

  named_end : (m : ℕ) → Named m [] []
  unfolding met ahead
  named_end m = sym (nothing (same_side (name x)))

  named-name : (m y : ℕ) (cs : List Side) (ds : List Cell) → Named m cs ds → Named m (name y ∷ cs) ds
  named-name m y cs ds h =
      rw (met-name y cs ds, tally-cons (same_side (name x)) (name y) cs, name-name x y) (omega (arith, h, δ_one x y))

  named-cell : (m : ℕ) (d : Cell) (cs : List Side) (ds : List Cell) → Named (suc m) (d.args ++ cs) ds → Named m (cell m ∷ cs) (d ∷ ds)
  named-cell m d cs ds h =
      rw (met-cell m d cs ds, tally-cons (same_side (name x)) (cell m) cs, (name-cell x m).0, args_cons d ds, tally-append (same_side (name x)) d.args (args_all ds))
      (omega (arith, h, tally-append (same_side (name x)) d.args cs))

  pub name-count : (ds : List Cell) (m : ℕ) (cs : List Side) → walk m cs ds ≡ true → Named m cs ds
  name-count = walk_induction Named named_end named-name named-cell

  abbrev Celled : ℕ → List Side → List Cell → Type 0
  Celled m cs ds = count x (from m (length ds)) ≡ tally (same_side (cell x)) cs + tally (same_side (cell x)) (args_all ds)

  cell-cell : (m : ℕ) → same_side (cell x) (cell m) ≡ eqb x m
  unfolding same_side
  cell-cell m = refl

  celled-name : (m y : ℕ) (cs : List Side) (ds : List Cell) → Celled m cs ds → Celled m (name y ∷ cs) ds
  celled-name m y cs ds h = rw (tally-cons (same_side (cell x)) (name y) cs, (name-cell y x).1) (omega (arith, h))

  celled-cell : (m : ℕ) (d : Cell) (cs : List Side) (ds : List Cell) → Celled (suc m) (d.args ++ cs) ds → Celled m (cell m ∷ cs) (d ∷ ds)
  celled-cell m d cs ds h =
      rw (tally-cons (same_side (cell x)) (cell m) cs, cell-cell m, args_cons d ds, tally-append (same_side (cell x)) d.args (args_all ds))
      (omega (arith, h, δ_one x m, tally-append (same_side (cell x)) d.args cs))

  pub cell-count : (ds : List Cell) (m : ℕ) (cs : List Side) → walk m cs ds ≡ true → Celled m cs ds
  cell-count = walk_induction Celled (λ m. sym (nothing (same_side (cell x)))) celled-name celled-cell
