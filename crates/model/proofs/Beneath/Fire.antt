-- The row 'two cells, rule' on cells, interface and pool: what is read after it.
use Rattle.std.specs.Prelude.{◌≡◌, refl, List, [], ◌∷◌, ◌++◌, map, ◌⊎◌, ℕ, ◌+◌, ◌≤◌, ◌<◌}
use Rattle.std.proofs.Common.{sym, ◌∙◌, ap, ap₂, subst, inl, inr, arith}
use Rattle.calculus.specs.Calculus.{Rule, Proper}
use Rattle.calculus.proofs.Beneath.Count.{δ_same, δ-cases, sum-append, sum_perm, first_term, rest_terms}
use Rattle.calculus.proofs.Beneath.Perm.{Ins, perm_ins}
use Rattle.calculus.proofs.Beneath.Sub.{Sides_equivalence, whole, back}
use Rattle.calculus.specs.Terms.{δ, sum, count, keep, step, var, node, nil, cons, Term, Terms, Eqn, ◌≐◌, Sides, ◌∼◌}
use Rattle.calculus.specs.Terms.{names, eqs_names, sub_eqn, terms}
use Rattle.parts.specs.Sides.{Side, name, cell, Pair, ◌:=◌}
use Rattle.model.specs.Table.{Cell}
use Rattle.model.specs.Step.{inst_cell, inst_pair}
use Rattle.model.specs.Reading.{Reads, by_name, by_cell, ReadsAll, no_pairs, pairs, Whole}
use Rattle.model.proofs.Beneath.Cells.{◌+++◌, frame, reads-append, Outcome, one_outcome, instantiate}
use Rattle.model.proofs.Beneath.Cells.{count-map-append}
use Rattle.model.proofs.Beneath.Picks.{frame_all, append_all, Picked, pick, Each, each}
use Rattle.std.proofs.lemmas.List.{map-append}

-- How often a cell is met.
abbrev pub in_use : {mem : ℕ → Cell} {face : List Side} {P : List Pair} → Whole mem face P → ℕ → ℕ
in_use h c = count c h.c₀ + count c h.c₁

abbrev pub redex_by : Rule → (ℕ → Term) → Eqn
redex_by r σ = node r.left (terms σ r.xs) ≐ node r.right (terms σ r.ys)

-- A rule's right side in cells of its own.
pub record Template (r : Rule) : Type 0 where
  pub cells : ℕ → Cell
  pub body : List Pair
  pub used : List ℕ
  pub reads : ReadsAll cells body r.body used

pub record InstancedAll (mem : ℕ → Cell) (l : List Pair) (m : List Eqn) (cells_used : ℕ → ℕ) : Type 0 where
  pub used : List ℕ
  pub reads : ReadsAll mem l m used
  pub cells : (c : ℕ) → count c used ≡ cells_used c

module _ {tmem mem : ℕ → Cell} {env : ℕ → Side} {alloc : ℕ → ℕ} {σ : ℕ → Term} {held : ℕ → List ℕ} where
  pub instantiate_all : {l : List Pair} {m : List Eqn} {ks : List ℕ} → ReadsAll tmem l m ks
      → ((z : ℕ) → 0 < count z (eqs_names m) → Reads mem (env z ∷ []) (cons (σ z) nil) (held z))
      → ((k : ℕ) → 0 < count k ks → mem (alloc k) ≡ inst_cell env alloc (tmem k))
      → InstancedAll mem (map (inst_pair env alloc) l) (map (sub_eqn σ) m) (λ c. count c (map alloc ks) + sum (λ z. count c (held z)) (eqs_names m))
  instantiate_all no_pairs f g = record { used = []; reads = no_pairs; cells = λ c. omega arith }
  instantiate_all (pairs {a = a} {b = b} {t = t} {u = u} {cs = cs} {ds = ds} {m = m} r w) f g =
      let i =
      instantiate
      r
      (λ z k. f z (omega (arith, sum-append (δ z) (names t ++ names u) (eqs_names m), sum-append (δ z) (names t) (names u), sum-append (δ z) (names t) (names u ++ []), sum-append (δ z) (names u) [])))
      (λ d h. g d (omega (arith, sum-append (δ d) cs ds))) in
      let j =
      instantiate_all
      w
      (λ z k. f z (omega (arith, sum-append (δ z) (names t ++ names u) (eqs_names m))))
      (λ d h. g d (omega (arith, sum-append (δ d) cs ds))) in
      record {
        used = i.used ++ j.used;
        reads = pairs i.reads j.reads;
        cells = λ d.
            let h : ℕ → ℕ = λ z. count d (held z) in
            omega (
              arith,
              sum-append (δ d) i.used j.used,
              i.cells d,
              j.cells d,
              sum-append h (names t ++ names u) (eqs_names m),
              sum-append h (names t) (names u),
              sum-append h (names t) (names u ++ []),
              sum-append h (names u) [],
              count-map-append alloc d cs ds,
            );
      }

sides_of-eq : {d e : Eqn} → d ≡ e → Sides d e
sides_of-eq {d} p = subst (λ x. Sides d x) p Sides.same

-- Two cells, read.
pub record TwoCells (mem : ℕ → Cell) (a b : ℕ) (e : Eqn) (cs : List ℕ) : Type 0 where
  pub us : Terms
  pub vs : Terms
  pub ds : List ℕ
  pub es : List ℕ
  pub first : Reads mem (mem a).args us ds
  pub second : Reads mem (mem b).args vs es
  pub eqn : Sides e (node (mem a).symbol us ≐ node (mem b).symbol vs)
  pub cells : (c : ℕ) → count c cs ≡ δ c a + count c ds + (δ c b + count c es)

-- (the terms are a variable here: antt solves no equation between constructors of `Tree`, an indexed family)
both-cells : {mem : ℕ → Cell} {a b : ℕ} {ts : Terms} {cs : List ℕ} (d : Term) → Reads mem (cell a ∷ cell b ∷ []) ts cs
    → TwoCells mem a b (first_term ts d ≐ first_term (rest_terms ts) d) cs
both-cells {mem} {a} {b} d (by_cell {us = us} {ds = ds} p q (by_cell {us = vs} {ds = es} p' q' Reads.none)) =
    record {
      us = us;
      vs = vs;
      ds = ds;
      es = es;
      first = subst (λ k. Reads mem k.args us ds) (sym p) q;
      second = subst (λ k. Reads mem k.args vs es) (sym p') q';
      eqn = sides_of-eq (ap₂ (λ k h. node k.symbol us ≐ node h.symbol vs) (sym p) (sym p'));
      cells = λ c. omega (arith, sum-append (δ c) ds (b ∷ (es ++ [])), sum-append (δ c) es []);
    }

pub two_cells : {mem : ℕ → Cell} {a b : ℕ} {e : Eqn} {cs : List ℕ}
    → ReadsAll mem ((cell a := cell b) ∷ []) (e ∷ []) cs → TwoCells mem a b e cs
two_cells (pairs {t = t} {cs = cs} r no_pairs) =
    let k = both-cells t r in
    record {
      us = k.us;
      vs = k.vs;
      ds = k.ds;
      es = k.es;
      first = k.first;
      second = k.second;
      eqn = k.eqn;
      cells = λ c. omega (arith, k.cells c, sum-append (δ c) cs []);
    }

-- The same with the sides in the other order.
turn-cells : {mem : ℕ → Cell} {a b : ℕ} {e : Eqn} {cs : List ℕ} → TwoCells mem b a e cs → TwoCells mem a b e cs
turn-cells k =
    record {
      us = k.vs;
      vs = k.us;
      ds = k.es;
      es = k.ds;
      first = k.second;
      second = k.first;
      eqn = Sides_equivalence.join k.eqn Sides.turn;
      cells = λ c. omega (arith, k.cells c);
    }

-- Terms that are read name by name are read in a row.
in_a_row : {mem : ℕ → Cell} (env : ℕ → Side) (σ : ℕ → Term) (held : ℕ → List ℕ) (l : List ℕ)
    → ((z : ℕ) → 0 < count z l → Reads mem (env z ∷ []) (cons (σ z) nil) (held z))
    → (cs : List ℕ) × Reads mem (map env l) (terms σ l) cs
in_a_row env σ held [] f = ([], Reads.none)
in_a_row env σ held (x ∷ l) f =
    let k = in_a_row env σ held l (λ z h. f z (omega arith)) in
    (held x ++ k.0, reads-append (f x (omega (arith, δ_same x))) k.1)

-- New names are read as themselves.
new_names : {mem : ℕ → Cell} (env : ℕ → Side) (nm : ℕ → ℕ) (l : List ℕ)
    → ((z : ℕ) → 0 < count z l → env z ≡ name (nm z))
    → Reads mem (map env l) (terms (λ z. var (nm z)) l) []
new_names env nm [] f = Reads.none
new_names {mem} env nm (x ∷ l) f =
    subst
    (λ s. Reads mem (s ∷ map env l) (terms (λ z. var (nm z)) (x ∷ l)) [])
    (sym (f x (omega (arith, δ_same x))))
    (by_name (new_names env nm l (λ z h. f z (omega arith))))

sum_one : (f : ℕ → ℕ) (l : List ℕ) (z : ℕ) → 0 < count z l → f z ≤ sum f l
sum_one f [] z k = absurd (omega arith)
sum_one f (x ∷ l) z k = go (δ-cases z x) (λ j. sum_one f l z j)
  where
    go : ((z ≡ x) × (δ z x ≡ 1)) ⊎ ((¬ (z ≡ x)) × (δ z x ≡ 0)) → (0 < count z l → f z ≤ sum f l) → f z ≤ f x + sum f l
    go (inl e) g = omega (arith, ap f e.0)
    go (inr e) g = omega (arith, g (omega (arith, e.1)))

-- The row on the cells: the picked cells a and b leave, copies of the rule's cells come at places that are free or
-- were a's or b's, the new names are `new_name`, and all else stays.
pub record Fires {mem : ℕ → Cell} {face : List Side} {P : List Pair} (h : Whole mem face P) (mem' : ℕ → Cell) (r : Rule) (T : Template r) : Type 0 where
  pub a : ℕ
  pub b : ℕ
  pub rest : List Pair
  pub pair : Pair
  pub either : (pair ≡ (cell a := cell b)) ⊎ (pair ≡ (cell b := cell a))
  pub picked : Ins pair rest P
  pub env : ℕ → Side
  pub alloc : ℕ → ℕ
  pub new_name : ℕ → ℕ
  pub left : mem a ≡ record { symbol = r.left; args = map env r.xs }
  pub right : mem b ≡ record { symbol = r.right; args = map env r.ys }
  pub new : (z : ℕ) → 0 < count z r.new → env z ≡ name (new_name z)
  pub copied : (k : ℕ) → 0 < count k T.used → mem' (alloc k) ≡ inst_cell env alloc (T.cells k)
  pub kept : (c : ℕ) → 0 < in_use h c → ¬ (c ≡ a) → ¬ (c ≡ b) → mem' c ≡ mem c
  pub once : (c : ℕ) → in_use h c ≤ 1

-- What comes of it: the pool is read with the instance of the right side for the redex, and the cells met are those
-- before, less two, plus the rule's.
pub record Fired {mem : ℕ → Cell} {face : List Side} {P : List Pair} (h : Whole mem face P) (mem' : ℕ → Cell) (P' : List Pair) (r : Rule) (T : Template r) (new_name alloc : ℕ → ℕ) (a b : ℕ) : Type 0 where
  pub σ : ℕ → Term
  pub chosen : (z : ℕ) → 0 < count z r.new → σ z ≡ var (new_name z)
  pub others : List Eqn
  pub before : h.eqs ∼ redex_by r σ ∷ others
  pub cells_after : List ℕ
  pub face_reads : Reads mem' face h.terms h.c₀
  pub pool_reads : ReadsAll mem' P' (map (sub_eqn σ) r.body ++ others) cells_after
  pub cells : (c : ℕ)
      → count c h.c₀ + count c cells_after + (δ c a + δ c b) ≡ in_use h c + count c (map alloc T.used)

all_at : {mem : ℕ → Cell} {l l' : List Pair} {m : List Eqn} {cs : List ℕ} → l ≡ l' → ReadsAll mem l m cs
    → ReadsAll mem l' m cs
all_at {mem} {m = m} {cs = cs} e w = subst (λ l. ReadsAll mem l m cs) e w

sum-zero : (f : ℕ → ℕ) (l : List ℕ) → ((z : ℕ) → 0 < count z l → f z ≡ 0) → sum f l ≡ 0
sum-zero f [] h = refl
sum-zero f (x ∷ l) h = omega (arith, h x (omega (arith, δ_same x)), sum-zero f l (λ z k. h z (omega arith)))

module _ {mem : ℕ → Cell} {face : List Side} {P : List Pair} (h : Whole mem face P) {mem' : ℕ → Cell} {r : Rule} (p : Proper r) (T : Template r) (f : Fires h mem' r T) where
  abbrev names_of : List ℕ
  names_of = r.xs ++ (r.ys ++ r.new)

  pub fire : Fired h mem' (map (inst_pair f.env f.alloc) T.body ++ f.rest) r T f.new_name f.alloc f.a f.b
  fire =
      record {
        σ = e.σ;
        chosen = chosen;
        others = q.others;
        before = step (back (perm_ins Sides_equivalence q.out)) (keep redex (whole q.others));
        cells_after = i.used ++ q.theirs;
        face_reads = frame (λ c k. stay c (omega arith)) h.face_reads;
        pool_reads = append_all i.reads (frame_all (λ c k. stay c (omega arith)) q.they);
        cells = balance;
      }
    where
      q : Picked mem f.pair f.rest h.eqs h.c₁
      q = pick f.picked h.pool_reads

      k : TwoCells mem f.a f.b q.eqn q.its
      k = read f.either
        where
          read : (f.pair ≡ (cell f.a := cell f.b)) ⊎ (f.pair ≡ (cell f.b := cell f.a))
              → TwoCells mem f.a f.b q.eqn q.its
          read (inl o) = two_cells (all_at (ap (λ w. w ∷ []) o) q.it)
          read (inr o) = turn-cells (two_cells (all_at (ap (λ w. w ∷ []) o) q.it))

      first : Reads mem (map f.env r.xs) k.us k.ds
      first = subst (λ c. Reads mem c.args k.us k.ds) f.left k.first

      second : Reads mem (map f.env r.ys) k.vs k.es
      second = subst (λ c. Reads mem c.args k.vs k.es) f.right k.second

      row : (ts : Terms) × Reads mem (map f.env names_of) ts (k.ds ++ (k.es ++ []))
      row = (
        k.us +++ (k.vs +++ terms (λ z. var (f.new_name z)) r.new),
        subst
            (λ l. Reads mem l (k.us +++ (k.vs +++ terms (λ z. var (f.new_name z)) r.new)) (k.ds ++ (k.es ++ [])))
            (sym (map-append f.env r.xs (r.ys ++ r.new) ∙ ap (λ l. map f.env r.xs ++ l) (map-append f.env r.ys r.new)))
            (reads-append first (reads-append second (new_names f.env f.new_name r.new f.new))),
      )

      e : Each mem f.env names_of (k.ds ++ (k.es ++ []))
      e = each f.env names_of p.different row.1

      among : (z : ℕ) → count z names_of ≡ count z r.xs + (count z r.ys + count z r.new)
      among z = omega (arith, sum-append (δ z) r.xs (r.ys ++ r.new), sum-append (δ z) r.ys r.new)

      stay : (c : ℕ) → 0 < count c h.c₀ + (count c k.ds + count c k.es + count c q.theirs)
          → mem' c ≡ mem c
      stay c j =
          f.kept
          c
          (omega (arith, j, q.cells c, k.cells c))
          (λ o. omega (arith, j, q.cells c, k.cells c, f.once c, δ_same c, ap (δ c) o))
          (λ o. omega (arith, j, q.cells c, k.cells c, f.once c, δ_same c, ap (δ c) o))

      reads' : (z : ℕ) → 0 < count z names_of → Reads mem' (f.env z ∷ []) (cons (e.σ z) nil) (e.held z)
      reads' z j =
          frame
          (λ c o. stay c (omega (arith, o, sum_one (λ w. count c (e.held w)) names_of z j, e.cells c, sum-append (δ c) k.ds (k.es ++ []), sum-append (δ c) k.es [])))
          (e.reads z j)

      in_body : (z : ℕ) → 0 < count z (eqs_names r.body) → 0 < count z names_of
      in_body z j =
          omega (
            arith,
            j,
            among z,
            sum_perm (δ z) p.linear,
            sum-append (δ z) r.xs (r.ys ++ (r.new ++ r.new)),
            sum-append (δ z) r.ys (r.new ++ r.new),
            sum-append (δ z) r.new r.new,
          )

      i : InstancedAll mem' (map (inst_pair f.env f.alloc) T.body) (map (sub_eqn e.σ) r.body)
          (λ c. count c (map f.alloc T.used) + sum (λ z. count c (e.held z)) (eqs_names r.body))
      i = instantiate_all T.reads (λ z j. reads' z (in_body z j)) f.copied

      new_outcome : (z : ℕ) → 0 < count z r.new
          → Outcome (cons (e.σ z) nil) (cons (var (f.new_name z)) nil) (e.held z) []
      new_outcome z j =
          one_outcome
          (subst (λ s. Reads mem (s ∷ []) (cons (e.σ z) nil) (e.held z)) (f.new z j) (e.reads z (omega (arith, among z))))
          (by_name Reads.none)

      chosen : (z : ℕ) → 0 < count z r.new → e.σ z ≡ var (f.new_name z)
      chosen z j = ap (λ ts. first_term ts (e.σ z)) (new_outcome z j).the_terms

      xs-are : terms e.σ r.xs ≡ k.us
      xs-are = (one_outcome (in_a_row f.env e.σ e.held r.xs (λ z j. e.reads z (omega (arith, among z)))).1 first).the_terms

      ys-are : terms e.σ r.ys ≡ k.vs
      ys-are = (one_outcome (in_a_row f.env e.σ e.held r.ys (λ z j. e.reads z (omega (arith, among z)))).1 second).the_terms

      redex : Sides q.eqn (redex_by r e.σ)
      redex =
          subst
          (λ d. Sides q.eqn d)
          (ap₂ ◌≐◌ (ap₂ node (ap (λ c. c.symbol) f.left) (sym xs-are)) (ap₂ node (ap (λ c. c.symbol) f.right) (sym ys-are)))
          k.eqn

      balance : (c : ℕ)
          → count c h.c₀ + count c (i.used ++ q.theirs) + (δ c f.a + δ c f.b) ≡ in_use h c + count c (map f.alloc T.used)
      balance c =
          let g : ℕ → ℕ = λ z. count c (e.held z) in
          omega (
            arith,
            q.cells c,
            k.cells c,
            i.cells c,
            e.cells c,
            sum-append (δ c) i.used q.theirs,
            sum-append (δ c) k.ds (k.es ++ []),
            sum-append (δ c) k.es [],
            sum-append g r.xs (r.ys ++ r.new),
            sum-append g r.ys r.new,
            sum_perm g p.linear,
            sum-append g r.xs (r.ys ++ (r.new ++ r.new)),
            sum-append g r.ys (r.new ++ r.new),
            sum-append g r.new r.new,
            sum-zero g r.new (λ z j. ap (count c) (new_outcome z j).the_cells),
          )
