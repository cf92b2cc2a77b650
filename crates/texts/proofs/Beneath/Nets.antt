-- The coded form of a good rule means that rule in the calculus, and a good net loads as the machine's load theorem asks.
use Rattle.std.specs.Prelude.{ℕ, ◌+◌, ◌*◌, ◌<◌, ◌≤◌, ◌≡◌, false, get_or, eqb, ltb}
use Rattle.std.proofs.Math.Path.{refl, sym, ap, subst}
use Rattle.std.proofs.Common.{◌∙◌, length-append}
use Rattle.std.proofs.Math.Bool.{true}
use mathlib.Core.List.{List, [], ◌∷◌, ◌++◌, append_assoc}
use native.Mathlib.Omega.{arith}
use Rattle.std.proofs.Math.Decide.{dec_lt}
use Rattle.std.proofs.Math.ListN.{length}
use borrow.Author.Tests.{eqb-true, ne_eqb, ltb-true}
use Rattle.calculus.specs.Terms.{names, eqs_names, δ, count}
use Rattle.calculus.proofs.Beneath.Count.{sum-append}
use Rattle.parts.specs.Sides.{name}
use Rattle.model.specs.Table.{Cell, arity, no_cell}
use Rattle.model.specs.Reading.{Reads, ReadsAll}
use Rattle.model.specs.Table as Model
use Rattle.model.specs.NetReads.{NetReads}
use Rattle.model.proofs.Beneath.Froms.{from-append, from_in, from_out}
use Rattle.model.specs.State.{from}
use Rattle.model.specs.Sound.{InOrder, Means}
use Rattle.model.specs.SoundTable.{Declared}
use Rattle.texts.specs.Bytes.{Word, all, different, index_of}
use Rattle.texts.specs.Terms.{Term}
use Rattle.texts.specs.Books.{Agent, Equation, Rule, Net, declared, sides, rights, cells_of, names_of, net_terms}
use Rattle.texts.specs.Coded.{packed, codes, cells_from, rule_number, template, net_number, load, second_from, arity_at, unpaired}
use Rattle.texts.specs.Meaning.{tree, trees, tree_equations, meant_rule, meant_net}
use Rattle.texts.specs.TableTest.{tally, cell_ok, args_all, same_side, met}
use Rattle.texts.proofs.Beneath.Tools.{both, pair, in_among}
use Rattle.texts.proofs.Beneath.Places.{index_less, in_different}
use Rattle.texts.specs.Linear.{words_in}
use Rattle.texts.proofs.Beneath.Linear.{words_all, bare, bares, line-bare, tally-append, cell-count, cells-terms}
use Rattle.texts.specs.Templates.{Few}
use Rattle.texts.proofs.Beneath.Templates.{name-name, name-cell, right_args, tally_ext, tally_none, cell_none}
use Rattle.texts.proofs.Beneath.Ranged.{numbered-passes, first_arity, second-arity}
use Rattle.texts.proofs.Beneath.NetSound.{SoundNet, net-sound}
use Rattle.texts.proofs.Beneath.Loads.{all_sides, ok, sides-are, load-count, name-twice, cells-append}
use Rattle.texts.proofs.Beneath.TableSound.{load_sound}
use Rattle.texts.proofs.Beneath.CellReading.{walked, name-count, sidewise, Held}
use Rattle.texts.proofs.Beneath.Trees.{held_left, held_right, read-terms, read-equations}
use Rattle.texts.specs.Good.{GoodNet}
use Rattle.texts.specs.RuleSound.{SoundRule}
use Rattle.texts.proofs.Beneath.Rows.{in_order, all_at}

-- The number of cells, counted in words and in terms.
pub cells_are : (ags : List Agent) (ts : List Term) → tally (declared ags) (words_in (packed ts)) ≡ length (cells_of ags ts)
unfolding cells_of tally
cells_are ags ts = rw (words_all ts)

-- The names of equations are those of their sides.
equation-names : (ags : List Agent) (number : Word → ℕ) (es : List Equation) → eqs_names (tree_equations ags number es) ≡ names (trees ags number (packed (sides es)))
unfolding tree_equations tree sides packed
equation-names ags number [] = refl
equation-names ags number (e ∷ es) =
    append_assoc (names (tree ags number e.left)) (names (tree ags number e.right)) _
    ∙ ap (λ l. names (tree ags number e.left) ++ (names (tree ags number e.right) ++ l)) (equation-names ags number es)

trees_append : (ags : List Agent) (number : Word → ℕ) (ts us : List Term)
    → names (trees ags number (packed (ts ++ us))) ≡ names (trees ags number (packed ts)) ++ names (trees ags number (packed us))
unfolding tree packed
trees_append ags number [] us = refl
trees_append ags number (t ∷ ts) us =
    ap (λ l. names (tree ags number t) ++ l) (trees_append ags number ts us) ∙ sym (append_assoc (names (tree ags number t)) _ _)

-- A rule.
module _ (ags : List Agent) (T : Model.Table) (arities : (s : ℕ) → arity T s ≡ arity_at ags s) (r : Rule) (s : SoundRule ags r) (few : Few r) where
  abbrev mem : ℕ → Cell
  mem m = get_or (template ags r).cells m no_cell

  held : (j : ℕ) → j < length (template ags r).cells → mem (0 + j) ≡ get_or (template ags r).cells j no_cell
  held j l = let z : 0 + j ≡ j = omega arith in rw z

  right_bare : bares ags (packed (rights r)) ≡ true
  right_bare = line-bare ags (rights r) (right_args ags r s)

  reading : ReadsAll mem (template ags r).body (tree_equations ags (rule_number ags r) r.right) (from 0 (length (template ags r).cells))
  unfolding template rights
  reading =
      subst (ReadsAll mem (template ags r).body (tree_equations ags (rule_number ags r) r.right))
      (ap (from 0) (cells_are ags (rights r) ∙ sym (cell-count ags (rule_number ags r) (rights r) 0 (right_args ags r s))))
      (read-equations mem ags (rule_number ags r) r.right 0 right_bare held)

  pub rule-means : Means T (template ags r) (meant_rule ags r)
  unfolding meant_rule template
  rule-means =
      let w = sidewise mem reading in
      let v = walked mem (template ags r).cells held (unpaired (template ags r).body) w.terms w.reads in
      record {
        left = refl;
        right = refl;
        xs = ap (from 0) (first_arity ags r s ∙ sym (arities _));
        ys = ap (from second_from) (second-arity ags r s ∙ sym (arities _));
        new = refl;
        reads = reading;
        in_order = subst (InOrder 0) (sym v.1 ∙ w.same_names) (in_order _ (met (unpaired (template ags r).body) (template ags r).cells) 0 (numbered-passes ags r s few));
      }

-- A net.
module _ (ags : List Agent) (n : Net) (g : GoodNet ags n) where
  abbrev s : SoundNet ags n
  s = net-sound ags n g

  abbrev number : Word → ℕ
  number = net_number ags n

  abbrev pub cells : List Cell
  cells = cells_from ags number 0 (packed (net_terms n))

  abbrev pub store : ℕ → Cell
  store m = get_or cells m no_cell

  abbrev first : ℕ
  first = length (cells_of ags n.face)

  kept : (j : ℕ) → j < length cells → store (0 + j) ≡ get_or cells j no_cell
  kept j l = let z : 0 + j ≡ j = omega arith in rw z

  all_bare : bares ags (packed (net_terms n)) ≡ true
  all_bare = line-bare ags (net_terms n) (ok ags n s)

  part-bare : (ts us : List Term) → bares ags (packed (ts ++ us)) ≡ true → (bares ags (packed ts) ≡ true) × (bares ags (packed us) ≡ true)
  unfolding packed bare
  part-bare [] us h = (refl, h)
  part-bare (t ∷ ts) us h =
      let p = both (bare ags t) _ h in
      let q = part-bare ts us p.1 in
      (pair (bare ags t) _ p.0 q.0, q.1)

  bare_parts : (bares ags (packed n.face) ≡ true) × (bares ags (packed (sides n.equations)) ≡ true)
  unfolding net_terms
  bare_parts = part-bare n.face (sides n.equations) all_bare

  abbrev front : List Cell
  front = cells_from ags number 0 (packed n.face)

  abbrev back : List Cell
  back = cells_from ags number first (packed (sides n.equations))

  split_cells : cells ≡ front ++ back
  unfolding net_terms
  split_cells = let z : 0 + first ≡ first = omega arith in cells-append ags number n.face (sides n.equations) 0 ∙ rw z

  front_length : length front ≡ first
  front_length = cells-terms ags number (packed n.face) 0 bare_parts.0 ∙ cells_are ags n.face

  split_held : (j : ℕ) → j < length (front ++ back) → store (0 + j) ≡ get_or (front ++ back) j no_cell
  split_held = subst (λ l. (j : ℕ) → j < length l → store (0 + j) ≡ get_or l j no_cell) split_cells kept

  abbrev pub fore : List ℕ
  fore = from 0 (tally (declared ags) (words_in (packed n.face)))

  abbrev pub aft : List ℕ
  aft = from first (tally (declared ags) (words_in (packed (sides n.equations))))

  pub read-face : Reads store (load ags n).face (meant_net ags n).face fore
  unfolding load meant_net
  read-face = read-terms store ags number (packed n.face) 0 bare_parts.0 (held_left store 0 front back split_held)

  pub read-rest : ReadsAll store (load ags n).equations (meant_net ags n).eqs aft
  unfolding load meant_net
  read-rest =
      let z : 0 + length front ≡ first = omega (arith, front_length) in
      read-equations store ags number n.equations first bare_parts.1 (subst (λ k. Held store k back) z (held_right store 0 front back split_held))

  pub cell-total : length cells ≡ tally (declared ags) (words_in (packed n.face)) + tally (declared ags) (words_in (packed (sides n.equations)))
  cell-total =
      let p = ap length split_cells in
      let q = length-append front back in
      let u = cells-terms ags number (packed n.face) 0 bare_parts.0 in
      let v = cells-terms ags number (packed (sides n.equations)) first bare_parts.1 in
      omega (arith, p, q, u, v)

  cells-met : (c : ℕ) → count c fore + count c aft ≡ count c (from 0 (length cells))
  cells-met c =
      let a = tally (declared ags) (words_in (packed n.face)) in
      let z : 0 + tally (declared ags) (words_in (packed n.face)) ≡ first = (let k = cells_are ags n.face in omega (arith, k)) in
      let e : fore ++ aft ≡ from 0 (length cells) =
      ap (λ k. fore ++ from k (tally (declared ags) (words_in (packed (sides n.equations))))) (sym z)
      ∙ (from-append (tally (declared ags) (words_in (packed n.face))) (tally (declared ags) (words_in (packed (sides n.equations)))) 0 ∙ ap (from 0) (sym cell-total)) in
      sym (sum-append (δ c) fore aft) ∙ ap (count c) e

  -- the names of the net, as the walk over all of it meets them
  all_read : Reads store (codes ags number 0 (packed (net_terms n))) (trees ags number (packed (net_terms n))) (from 0 (length cells))
  all_read =
      subst (Reads store (codes ags number 0 (packed (net_terms n))) (trees ags number (packed (net_terms n))))
      (ap (from 0) (sym (cells-terms ags number (packed (net_terms n)) 0 all_bare)))
      (read-terms store ags number (packed (net_terms n)) 0 all_bare kept)

  all_names : names (meant_net ags n).face ++ eqs_names (meant_net ags n).eqs ≡ names (trees ags number (packed (net_terms n)))
  unfolding meant_net net_terms
  all_names =
      ap (λ l. names (trees ags number (packed n.face)) ++ l) (equation-names ags number n.equations) ∙ sym (trees_append ags number n.face (sides n.equations))

  name-total : (x : ℕ) → count x (names (meant_net ags n).face) + count x (eqs_names (meant_net ags n).eqs) ≡ tally (same_side (name x)) (all_sides (load ags n))
  name-total x =
      let w = walked store cells kept (codes ags number 0 (packed (net_terms n))) (trees ags number (packed (net_terms n))) all_read in
      sym (sum-append (δ x) (names (meant_net ags n).face) (eqs_names (meant_net ags n).eqs))
      ∙ (ap (count x) (all_names ∙ w.1)
      ∙ (name-count x cells 0 (codes ags number 0 (packed (net_terms n))) w.0
      ∙ (sym (tally-append (same_side (name x)) (codes ags number 0 (packed (net_terms n))) (args_all cells)) ∙ ap (tally (same_side (name x))) (sym (sides-are ags n s)))))

  abbrev ds : List Word
  ds = different (names_of ags (net_terms n))

  beyond : (x : ℕ) → length ds ≤ x → tally (same_side (name x)) (all_sides (load ags n)) ≡ 0
  unfolding net_number
  beyond x h =
      load-count ags n s (same_side (name x))
      ∙ rw (
        cell_none (same_side (name x)) (length (cells_of ags (net_terms n))) 0 (λ j l i. (name-cell x j).0),
        tally_ext (λ w. same_side (name x) (name (index_of w ds))) (λ w. false) (names_of ags (net_terms n))
            (λ w m. let l = index_less w ds (in_among w ds (in_different w (names_of ags (net_terms n)) m)) in
            name-name x (index_of w ds) ∙ ne_eqb x (index_of w ds) (λ z. omega (arith, z, l, h))),
        tally_none (λ w. false) (names_of ags (net_terms n)) (λ w. refl),
      )

  pub loaded-names : (load ags n).names ≡ length ds
  unfolding load
  loaded-names = refl

  twice : (x : ℕ) → count x (names (meant_net ags n).face) + count x (eqs_names (meant_net ags n).eqs) ≡ 2 * count x (from 0 (load ags n).names)
  twice x = name-total x ∙ go (dec_lt x (load ags n).names)
    where
      go : Dec (x < (load ags n).names) → tally (same_side (name x)) (all_sides (load ags n)) ≡ 2 * count x (from 0 (load ags n).names)
      go (yes l) = let c = from_in (load ags n).names 0 x (omega arith) (omega (arith, l)) in name-twice ags n s x l ∙ omega (arith, c)
      go (no l) =
          let c = from_out (load ags n).names 0 x (λ i. omega (arith, l)) in
          let e = loaded-names in
          beyond x (omega (arith, l, e)) ∙ omega (arith, c)

  pub loaded-cells : (load ags n).cells ≡ cells
  unfolding load
  loaded-cells = refl

-- Over a table with these agents.
module _ (ags : List Agent) (T : Model.Table) (many : length T.arities ≡ length ags) (arities : (s : ℕ) → arity T s ≡ arity_at ags s) (n : Net) (g : GoodNet ags n) where
  cell-declared : (c : ℕ) → c < length (cells ags n g) → Declared T (store ags n g c)
  unfolding cell_ok
  cell-declared c l =
      let d = store ags n g c in
      let k : all (cell_ok ags) (cells ags n g) ≡ true = subst (λ l. all (cell_ok ags) l ≡ true) (loaded-cells ags n g) (load_sound ags n g).cells_ok in
      let p = both (ltb d.symbol (length ags)) (eqb (length d.args) (arity_at ags d.symbol)) (all_at (cell_ok ags) no_cell (cells ags n g) k c l) in
      record {
        symbol = rw many (ltb-true d.symbol (length ags) p.0);
        args = eqb-true (length d.args) (arity_at ags d.symbol) p.1 ∙ sym (arities d.symbol);
      }

  -- what the load theorem asks
  pub net-reads : NetReads T (load ags n) (meant_net ags n)
  unfolding load
  net-reads =
      let z = load_sound ags n g in
      let a = z.few_terms in
      let b = z.few_equations in
      let c = z.few_cells in
      let d = z.few_names in
      record {
        c₀ = fore ags n g;
        c₁ = aft ags n g;
        face = read-face ags n g;
        equations = read-rest ags n g;
        once = cells-met ags n g;
        twice = twice ags n g;
        declared = cell-declared;
        few_faces = a;
        few_equations = omega (arith, b);
        few_cells = omega (arith, c);
        few_names = omega (arith, d);
      }
