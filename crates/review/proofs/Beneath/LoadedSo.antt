-- A loaded net is numbered in reading order, its equations wait in text order, and the rest is empty.
use Rattle.std.specs.Prelude.{ℕ, suc, ◌+◌, ◌-◌, ◌≤◌, ◌<◌, max, ◌≡◌, true, false, not, List, [], ◌∷◌, map, length, get_or, set}
use Rattle.std.proofs.Math.Path.{refl, subst}
use Rattle.std.proofs.Common.{sym, ap, ◌∙◌, arith, get_or-set_same, get_or-set_other}
use Rattle.std.proofs.Math.Decide.{dec_lt, ℕ_discrete}
use Rattle.std.proofs.Math.Seq.{set_out}
use Rattle.calculus.specs.Terms.{Conf}
use Rattle.parts.specs.Limits.{names_max}
use Rattle.model.specs.State.{St, zeros, from}
use Rattle.model.specs.Table as Model
use Rattle.model.specs.Step.{set_bare}
use Rattle.model.specs.Reading.{Reads, ReadsAll}
use Rattle.model.specs.Sound.{mem_of, InOrder, first_new}
use Rattle.model.specs.Sound as Machine
use Rattle.model.specs.SoundTable.{SoundTable}
use Rattle.model.specs.Load.{loaded}
use Rattle.model.specs.Load as Loading
use Rattle.model.specs.NetReads.{NetReads}
use Rattle.model.proofs.Kept.{load_sound}
use Rattle.model.proofs.Beneath.Cells.{frame}
use Rattle.model.proofs.Beneath.Picks.{frame_all}
use Rattle.model.proofs.Beneath.Facts.{zero_at}
use Rattle.model.proofs.Beneath.Froms.{from-count, from_in, from_out}
use Rattle.model.proofs.Beneath.Loaded.{cell_is, face_is, waiting_is, live-cells, live-names}
use Rattle.texts.specs.Bytes.{Word, In, among, any, different, index_of, keep}
use Rattle.texts.specs.Books.{Agent, Book, Net, sides, cells_of, names_of, net_terms}
use Rattle.texts.specs.Coded.{packed, net_number, load, table_of, machine}
use Rattle.texts.specs.Meaning.{trees, tree_equations, meant_net}
use Rattle.texts.specs.Good.{GoodBook, GoodNet}
use Rattle.texts.specs.RuleText.{word_at}
use Rattle.texts.proofs.Main as Texts
use Rattle.texts.proofs.Beneath.Tools.{in_among, never}
use Rattle.texts.proofs.Beneath.Places.{index_less, in_different, different_in, different-distinct, word_index, index_word, at_in, keep-every}
use Rattle.texts.proofs.Beneath.Numbering.{numbered_all}
use Rattle.texts.proofs.Beneath.Rows.{in_order}
use Rattle.texts.proofs.Beneath.Linear.{cell-count}
use Rattle.texts.proofs.Beneath.NetSound.{net-sound}
use Rattle.texts.proofs.Beneath.Loads.{ok}
use Rattle.texts.proofs.Beneath.Nets.{cells_are, store, cell-total, loaded-names}
use Rattle.texts.proofs.Beneath.Nets as Nets
use Rattle.review.specs.Loads.{FirstMet, LoadedSo}
use Rattle.review.proofs.Beneath.OnlyLoaded.{one_load}

-- Set bare, a name's word is at most 1.
bare-small : (ps l : List ℕ) → ((i : ℕ) → get_or l i 0 ≤ 1) → (i : ℕ) → get_or (set_bare ps l) i 0 ≤ 1
bare-small [] l h i = h i
bare-small (p ∷ ps) l h i = bare-small ps (set l p 1) (λ j. at j (ℕ_discrete j p) (dec_lt p (length l))) i
  where
    at : (j : ℕ) → Dec (j ≡ p) → Dec (p < length l) → get_or (set l p 1) j 0 ≤ 1
    at j (yes e) (yes o) = omega (arith, ap (λ k. get_or (set l p 1) k 0) e, get_or-set_same l p 1 0 o)
    at j (yes e) (no o) = omega (arith, ap (λ k. get_or k j 0) (set_out l p 1 (omega (arith, o))), h j)
    at j (no n) d = omega (arith, get_or-set_other l p j 1 0 n, h j)

-- What is in the state.
module _ {T : Model.Table} (h : SoundTable T) {N : Loading.Net} {C : Conf} (r : NetReads T N C) where
  cell-used : (c : ℕ) → c < length N.cells → 0 < get_or (loaded N).symbols c 0
  cell-used c o = omega (arith, live-cells h r c, from_in (length N.cells) 0 c (omega arith) (omega (arith, o)))

  cell_free : (c : ℕ) → length N.cells ≤ c → get_or (loaded N).symbols c 0 ≡ 0
  cell_free c o = omega (arith, live-cells h r c, from_out (length N.cells) 0 c (λ i. omega (arith, o)))

  few_bits : (x : ℕ) → get_or (loaded N).names x 0 ≤ 1
  unfolding loaded
  few_bits x = bare-small (from 0 N.names) (zeros names_max) (λ i. omega (arith, zero_at names_max i)) x

  name-bare : (x : ℕ) → x < N.names → get_or (loaded N).names x 0 ≡ 1
  name-bare x o = omega (arith, live-names h r x, few_bits x, from_in N.names 0 x (omega arith) (omega (arith, o)))

  name_free : (x : ℕ) → N.names ≤ x → get_or (loaded N).names x 0 ≡ 0
  name_free x o = omega (arith, live-names h r x, from_out N.names 0 x (λ i. omega (arith, o)))

  rest-empty : ((loaded N).stuck.used ≡ 0) × ((loaded N).loops ≡ 0)
  unfolding loaded
  rest-empty = (refl, refl)

-- Words numbered by their first places.
first_met : (ds ws : List Word) (n : ℕ) → InOrder n (map (λ w. first_new + index_of w ds) ws)
    → FirstMet n (map (λ w. index_of w ds) ws)
first_met ds [] n h = tt
first_met ds (w ∷ ws) n h =
    let e : max n (suc (first_new + index_of w ds) - first_new) ≡ max n (suc (index_of w ds)) = omega arith in
    (omega (arith, h.0), subst (λ m. FirstMet m (map (λ v. index_of v ds) ws)) e (first_met ds ws _ h.1))

met_in-order : (ws : List Word) → FirstMet 0 (map (λ w. index_of w (different ws)) ws)
unfolding among any
met_in-order ws =
    first_met (different ws) ws 0
    (in_order
    (length (different ws))
    (map (λ w. first_new + index_of w (different ws)) ws)
    0
    (numbered_all
    (different ws)
    (λ w. false)
    (λ w. first_new + index_of w (different ws))
    ws
    []
    (sym
    (keep-every (λ x. not (among x [])) (different (keep (λ x. not false) ws)) (λ x m. refl)
    ∙ ap different (keep-every (λ x. not false) ws (λ x m. refl))))
    (λ w m o. never o)
    (λ w m o. refl)))

module _ (b : Book) (g : GoodBook b) (n : Net) (k : GoodNet b.agents n) where
  abbrev ags : List Agent
  ags = b.agents

  abbrev T : Model.Table
  T = machine (table_of b)

  abbrev N : Loading.Net
  N = load b.agents n

  abbrev number : Word → ℕ
  number = net_number b.agents n

  abbrev ws : List Word
  ws = names_of b.agents (net_terms n)

  reads : NetReads (machine (table_of b)) (load b.agents n) (meant_net b.agents n)
  reads = Texts.net-loads b g n k

  sound : SoundTable (machine (table_of b))
  sound = Texts.table-sound b g

  abbrev first : ℕ
  first = length (cells_of b.agents n.face)

  read-face : Reads (store ags n k) N.face (trees ags number (packed n.face)) (from 0 first)
  unfolding meant_net
  read-face =
      subst
      (λ m. Reads (store ags n k) N.face (trees ags number (packed n.face)) (from 0 m))
      (cells_are ags n.face)
      (Nets.read-face ags n k)

  read-rest : ReadsAll (store ags n k) N.equations (tree_equations ags number n.equations) (from first (length (cells_of ags (sides n.equations))))
  unfolding meant_net
  read-rest =
      subst
      (λ m. ReadsAll (store ags n k) N.equations (tree_equations ags number n.equations) (from first m))
      (cells_are ags (sides n.equations))
      (Nets.read-rest ags n k)

  cells-many : length N.cells ≡ length (cells_of ags (net_terms n))
  unfolding load
  cells-many = cell-count ags number (net_terms n) 0 (ok ags n (net-sound ags n k))

  all_cells : length (cells_of ags (net_terms n)) ≡ first + length (cells_of ags (sides n.equations))
  all_cells =
      omega (
        arith,
        cell-count ags number (net_terms n) 0 (ok ags n (net-sound ags n k)),
        cell-total ags n k,
        cells_are ags n.face,
        cells_are ags (sides n.equations),
      )

  in_store : (c : ℕ) → c < length (cells_of ags (net_terms n)) → mem_of T (loaded N) c ≡ store ags n k c
  unfolding load
  in_store c o = cell_is sound reads c (omega (arith, o, cells-many))

  number_is : (w : Word) → number w ≡ index_of w (different ws)
  unfolding net_number
  number_is w = refl

  inside : (w : Word) → In w ws → among w (different ws) ≡ true
  inside w m = in_among w (different ws) (in_different w ws m)

  met-so : FirstMet 0 (map (net_number b.agents n) (names_of b.agents (net_terms n)))
  unfolding net_number
  met-so = met_in-order ws

  pub net-loaded-so : LoadedSo b.agents (machine (table_of b)) n (loaded (load b.agents n))
  net-loaded-so =
      record {
        number = number;
        apart =
            λ v w i j e.
            sym (word_index v (different ws) (inside v i))
            ∙ ap (λ m. word_at m (different ws)) (sym (number_is v) ∙ e ∙ number_is w)
            ∙ word_index w (different ws) (inside w j);
        names_met = met-so;
        face =
            subst
            (λ l. Reads (mem_of T (loaded N)) l (trees ags number (packed n.face)) (from 0 first))
            (sym (face_is sound reads))
            (frame (λ c o. in_store c (let p = from-count 0 first c o in omega (arith, p.1, all_cells))) read-face);
        waiting =
            subst
            (λ l. ReadsAll (mem_of T (loaded N)) l (tree_equations ags number n.equations) (from first (length (cells_of ags (sides n.equations)))))
            (sym (waiting_is sound reads))
            (frame_all
            (λ c o. in_store c (let p = from-count first (length (cells_of ags (sides n.equations))) c o in omega (arith, p.1, all_cells)))
            read-rest);
        cells_used = λ c o. cell-used sound reads c (omega (arith, o, cells-many));
        cells_free = λ c o. cell_free sound reads c (omega (arith, o, cells-many));
        names_bare =
            λ w i.
            name-bare sound reads (number w)
            (omega (arith, loaded-names ags n k, number_is w, index_less w (different ws) (inside w i)));
        names_free = λ x h. free x h (dec_lt x (length (different ws)));
        nothing_stuck = (rest-empty sound reads).0;
        no_loop = (rest-empty sound reads).1;
      }
    where
      free : (x : ℕ) → ((w : Word) → In w ws → ¬ (number w ≡ x)) → Dec (x < length (different ws))
          → get_or (loaded N).names x 0 ≡ 0
      free x h (yes o) =
          absurd
          (h
          (word_at x (different ws))
          (different_in (word_at x (different ws)) ws (at_in x (different ws) o))
          (number_is (word_at x (different ws)) ∙ index_word x (different ws) o (different-distinct ws)))
      free x h (no o) = name_free sound reads x (omega (arith, o, loaded-names ags n k))

  -- and no other sound state is so
  pub only-loaded : (s : St) → Machine.Sound (machine (table_of b)) s → LoadedSo b.agents (machine (table_of b)) n s
      → s ≡ loaded (load b.agents n)
  only-loaded s h a = one_load all_cells a net-loaded-so h (load_sound sound reads)

  pub loaded-sound : Machine.Sound (machine (table_of b)) (loaded (load b.agents n))
  loaded-sound = load_sound sound reads
