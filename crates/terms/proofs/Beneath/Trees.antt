-- Every term that is spelled in the text is read as that term, by the shape of the term. Assumes nothing.
use Rattle.std.specs.Prelude.{Some, ℕ, zero, suc, ◌+◌, ◌-◌, ◌*◌, ◌<◌, ◌≤◌, ◌≡◌, Bool, ◌&&◌, leb, eqb, refl, true, false, List, [], ◌∷◌, ◌++◌, length, get_or, drop}
use Rattle.std.proofs.Common.{sym, ap, ◌∙◌, leb-true, eqb-true, append_assoc, append-nil, arith, length-append, eq-eqb, ne_eqb}
use Rattle.parts.specs.Limits.{text_max, identifier_max, arity_max, level_max, net_cells_max, net_names_max}
use Rattle.parts.specs.Sides.{Side, name, code}
use Rattle.texts.specs.Bytes.{Word, all, keep}
use Rattle.texts.specs.Terms.{identifier, Term, Terms, term, nil, cons, spell, brackets, closing, worded, wordeds, Node, count, nodes_at, nodes_in, nodes, words_of}
use Rattle.texts.specs.Books.{Agent, declared, takes, cells_of}
use Rattle.model.specs.Table.{Cell}
use Rattle.texts.specs.Coded.{symbol_of, size, codes, cells_from}
use Rattle.texts.proofs.Beneath.Tools.{both, all_left, all_right}
use Rattle.terms.specs.Sheet.{Sheet, argued, opened}
use Rattle.terms.specs.Words.{known, found}
use Rattle.terms.specs.Reader.{term_by}
use Rattle.terms.specs.Meaning.{number, side_at, sides_within, term_cells, terms_cells, Sized, CellsAre, Narrow, Named, grown, Stops}
use Rattle.terms.proofs.Beneath.Numbers.{found-agent, takes_none, grown-append, grown_longer, grown_on}
use Rattle.terms.proofs.Beneath.Spelt.{skip, skip_one, here, stops-ends, comma_stops, close-stops, open_ends, identifier_some, word-ends, word_here, word-stops}
use Rattle.terms.proofs.Beneath.Written.{Same, cells-kept, cells-append, narrow-append, opened-sized, opened-count, opened-symbol, opened_before, opened-arguments, opened-named, argued-sized, argued-count, argued-symbols, argued_here, argued_other, argued-named}
use Rattle.terms.proofs.Beneath.Heads.{cell-plain, cell-takes, head-cell}
use Rattle.terms.proofs.Beneath.Ways.{args-close, args_comma, term-plain, term-args}
use Rattle.terms.specs.Reads.{inner}
use Rattle.terms.proofs.Beneath.Reads.{right, words, words_in, names, tally, Wrote, TermDone, ArgsDone, name-side, name-cells, name-names, name_tally, agent-side, agent-cells, agent-names, agent-tally, names-append, tally-append, name-head}

-- a term is read, wherever it stands with room for it
pub record TermReads (text : List ℕ) (ags : List Agent) (W : List Word) (t : Term) : Type 0 where
  pub run : (l lv at m : ℕ) (s : Sheet) (ws zs : List Word) (rest : List ℕ) → s.cells ≡ m → l + lv ≡ suc level_max
      → worded t ≡ true
      → all (right ags) (nodes_at lv t) ≡ true → drop at text ≡ spell t ++ rest → Stops rest → Sized s → Named text s ws
      → m + tally ags (words t) ≤ net_cells_max → length (grown ws (names ags (words t))) ≤ net_names_max
      → grown ws (names ags (words t)) ++ zs ≡ W → TermDone text ags W l at m s ws t

pub record ArgsReads (text : List ℕ) (ags : List Agent) (W : List Word) (ts : Terms) : Type 0 where
  pub run : (l lv more c k at m : ℕ) (s : Sheet) (ws zs : List Word) (rest : List ℕ) → s.cells ≡ m
      → l + lv ≡ suc level_max → wordeds ts ≡ true
      → all (right ags) (nodes_in lv ts) ≡ true → count ts ≡ suc more → k + count ts ≤ arity_max → c < m
      → drop at text ≡ inner ts ++ rest → Sized s → Named text s ws
      → m + tally ags (words_in ts) ≤ net_cells_max → length (grown ws (names ags (words_in ts))) ≤ net_names_max
      → grown ws (names ags (words_in ts)) ++ zs ≡ W → ArgsDone text ags W l more c k at m s ws ts

-- what a head that is right says
pub record Headed (ags : List Agent) (w : Word) (n lv : ℕ) : Type 0 where
  pub level : lv ≤ level_max
  pub long : length w ≤ identifier_max
  pub arity : n ≡ takes ags w

pub right_head : (ags : List Agent) (w : Word) (n lv : ℕ)
    → right ags (record { word = w; args = n; level = lv }) ≡ true → Headed ags w n lv
unfolding right
right_head ags w n lv h =
    let p = both (leb lv level_max && leb (length w) identifier_max) (eqb n (takes ags w)) h in
    let q = both (leb lv level_max) (leb (length w) identifier_max) p.0 in
    record { level = leb-true _ _ q.0; long = leb-true _ _ q.1; arity = eqb-true _ _ p.1 }

pub split_nodes : (ags : List Agent) (w : Word) (ts : Terms) (lv : ℕ) → all (right ags) (nodes_at lv (term w ts)) ≡ true
    → Headed ags w (count ts) lv × (all (right ags) (nodes_in (suc lv) ts) ≡ true)
unfolding nodes_at all
split_nodes ags w ts lv h =
    let p = both (right ags (record { word = w; args = count ts; level = lv })) (all (right ags) (nodes_in (suc lv) ts)) h in
    (right_head ags w (count ts) lv p.0, p.1)

-- the cells of a term, by its words
words_append : (ns ms : List Node) → words_of (ns ++ ms) ≡ words_of ns ++ words_of ms
unfolding words_of
words_append [] ms = refl
words_append (n ∷ ns) ms = rw (words_append ns ms)

mutual
  unfolding words nodes_at words_of

  pub words-nodes : (t : Term) (lv : ℕ) → words_of (nodes_at lv t) ≡ words t
  words-nodes (term w ts) lv = rw (words_in_lem ts (suc lv))

  pub words_in_lem : (ts : Terms) (lv : ℕ) → words_of (nodes_in lv ts) ≡ words_in ts
  words_in_lem nil lv = refl
  words_in_lem (cons t ts) lv = rw (words_append, words-nodes t lv, words_in_lem ts lv)

pub size-tally : (ags : List Agent) (t : Term) → size ags t ≡ tally ags (words t)
unfolding size cells_of nodes tally
size-tally ags t = rw (append-nil (nodes_at 1 t), words-nodes t 1)

sides-count : (ags : List Agent) (W : List Word) (m : ℕ) (ts : Terms) → length (sides_within ags (number W) m ts) ≡ count ts
unfolding codes count
sides-count ags W m nil = refl
sides-count ags W m (cons t ts) = ap suc (sides-count ags W (m + size ags t) ts)

pub closing-stops : (ts : Terms) (rest : List ℕ) → Stops (closing ts ++ rest)
unfolding closing
closing-stops nil rest = close-stops rest
closing-stops (cons t ts) rest = comma_stops ((spell t ++ closing ts) ++ rest)

pub named_by : {text : List ℕ} {s : Sheet} (ws : List Word) {us vs : List Word} → us ≡ vs → Named text s (grown ws vs)
    → Named text s (grown ws us)
named_by ws e n = rw e n

named_as : {text : List ℕ} {s : Sheet} {us vs : List Word} → us ≡ vs → Named text s vs → Named text s us
named_as e n = rw e n

pub cells_at : (s : Sheet) (cs : List Cell) {i j : ℕ} → i ≡ j → CellsAre s i cs → CellsAre s j cs
cells_at s cs e n = rw e at n

-- the words of arguments from place b on
last_arg : (p : List ℕ) (b : ℕ) (x : Side) → get_or p b 0 ≡ code x → (j : ℕ) → j < 1
    → get_or p (b + j) 0 ≡ code (get_or (x ∷ []) j (name 0))
last_arg p b x e zero h = let z : b + 0 ≡ b = omega arith in rw z e
last_arg p b x e (suc j) h = absurd (omega arith)

more_args : (p : List ℕ) (b n : ℕ) (x : Side) (xs : List Side) → get_or p b 0 ≡ code x
    → ((j : ℕ) → j < n → get_or p (b + 1 + j) 0 ≡ code (get_or xs j (name 0)))
    → (j : ℕ) → j < suc n → get_or p (b + j) 0 ≡ code (get_or (x ∷ xs) j (name 0))
more_args p b n x xs e f zero h = let z : b + 0 ≡ b = omega arith in rw z e
more_args p b n x xs e f (suc j) h = let z : b + suc j ≡ b + 1 + j = omega arith in rw z (f j (omega arith))

found-zero : (ags : List Agent) (w : Word) → declared ags w ≡ true
    → found 0 ags w ≡ Some (known (symbol_of ags w) (takes ags w))
found-zero ags w d = let y : 0 + symbol_of ags w ≡ symbol_of ags w = omega arith in rw y at (found-agent ags w 0 d)

wrote_none : (s t : Sheet) (m : ℕ) → Sized t → t.cells ≡ m → Same s.symbols t.symbols 0 m → Wrote s t m []
unfolding CellsAre Narrow
wrote_none s t m a b c = record { sized = a; count = omega (arith, b); before = c; cells = tt; narrow = tt }

tally_none : (ags : List Agent) → tally ags [] ≡ 0
unfolding tally keep
tally_none ags = refl

names_none : (ags : List Agent) → names ags [] ≡ []
unfolding names keep
names_none ags = refl

no_terms : (ts : Terms) → count ts ≡ 0 → ts ≡ nil
unfolding count
no_terms nil h = refl
no_terms (cons t ts) h = absurd (omega arith)

module _ (text : List ℕ) (ags : List Agent) (W : List Word) (short : length text ≤ text_max) (narrow :
    (w : Word) → takes ags w ≤ arity_max) where
  -- a name
  name-term : (w : Word) → declared ags w ≡ false → TermReads text ags W (term w nil)
  unfolding spell words worded
  name-term w d = record {
    run = λ l lv at m s ws zs rest em eq wd rt e st z n room full last.
        let h = (split_nodes ags w nil lv rt).0 in
        let ok = (both (identifier w) true wd).0 in
        let sp : w ++ [] ≡ w = append-nil w in
        let e' : drop at text ≡ w ++ rest = rw sp at e in
        let nn : names ags (w ∷ []) ≡ w ∷ [] = name-names ags W 0 w nil d [] ∙ rw (names_none ags) in
        let D = name-head text ags W short at s ws zs w rest ok d h.long e' z n (rw nn at full) (rw nn at last) in
        let some = identifier_some w ok in
        let cs = name-cells ags W m w nil d in
        let sy : Same s.symbols D.after.symbols 0 m = λ i a b. ap (λ (x : List ℕ). get_or x i 0) D.symbols in
        record {
          after = D.after;
          reads = rw (sp, name-side ags W m w nil d)
              (term-plain text ags l at s (λ y. omega (arith, h.level)) (word-ends text at w rest ok e' (stops-ends rest st)) (λ y. omega arith) D.after D.heads refl refl refl
              (ne_eqb _ 40 (word-stops text at w rest ok e' st)));
          wrote = rw cs (wrote_none s D.after m D.sized (D.count ∙ em) sy);
          kept = λ i a b. ap (λ (x : List ℕ). get_or x i 0) D.arguments;
          size = rw (cs, name_tally ags W 0 w nil d [], tally_none ags);
          named = named_by ws nn D.named;
        };
  }

  -- an agent with no arguments
  agent-term : (w : Word) → declared ags w ≡ true → TermReads text ags W (term w nil)
  unfolding spell words worded CellsAre Narrow codes cells_from count grown
  agent-term w d = record {
    run = λ l lv at m s ws zs rest em eq wd rt e st z n room full last.
        let h = (split_nodes ags w nil lv rt).0 in
        let ok = (both (identifier w) true wd).0 in
        let sp : w ++ [] ≡ w = append-nil w in
        let e' : drop at text ≡ w ++ rest = rw sp at e in
        let nn : names ags (w ∷ []) ≡ [] = agent-names ags W 0 w nil d [] ∙ names_none ags in
        let tn : tally ags (w ∷ []) ≡ 1 = agent-tally ags W 0 w nil d [] ∙ rw (tally_none ags) in
        let some = identifier_some w ok in
        let r : m < net_cells_max = omega arith in
        let o : Sheet = opened m (symbol_of ags w) s in
        let cs = agent-cells ags W m w nil d in
        let oc : o.cells ≡ m + 1 = opened-count s m (symbol_of ags w) z r in
        record {
          after = o;
          reads = rw (sp, agent-side ags W m w nil d)
              (term-plain text ags l at s (λ y. omega (arith, h.level)) (word-ends text at w rest ok e' (stops-ends rest st)) (λ y. omega arith) o
              (head-cell text ags at (at + length w) s w (sym (word_here text at w rest ok e')) (Some (known (symbol_of ags w) (takes ags w))) (sym (found-zero ags w d)) refl
              (cell-plain s (symbol_of ags w) (takes ags w) m (sym em) r (narrow w) o refl (sym h.arity) refl)) refl refl refl
              (ne_eqb _ 40 (word-stops text at w rest ok e' st)));
          wrote = rw cs (record {
            sized = opened-sized s m (symbol_of ags w) z r;
            count = oc;
            before = opened_before s m (symbol_of ags w) z r;
            cells = (record { symbol = opened-symbol s m (symbol_of ags w) z r; args = λ j b. absurd (omega arith) }, tt);
            narrow = (omega arith, tt);
          });
          kept = λ i a b. ap (λ (x : List ℕ). get_or x i 0) (opened-arguments s m (symbol_of ags w) z r);
          size = rw (cs, tn);
          named = named_by ws nn (opened-named s m (symbol_of ags w) z r text ws n);
        };
  }

  -- an agent with arguments
  agent-terms : (w : Word) (ts : Terms) (more : ℕ) → count ts ≡ suc more → brackets ts ≡ 40 ∷ inner ts
      → declared ags w ≡ true → ArgsReads text ags W ts → TermReads text ags W (term w ts)
  unfolding spell words worded CellsAre Narrow
  agent-terms w ts more ct br d U = record {
    run = λ l lv at m s ws zs rest em eq wd rt e st z n room full last.
        let hs = split_nodes ags w ts lv rt in
        let h = hs.0 in
        let oks = both (identifier w) (wordeds ts) wd in
        let ok = oks.0 in
        let e' : drop at text ≡ w ++ (40 ∷ (inner ts ++ rest)) = rw (append_assoc, br) at e in
        let nn : names ags (w ∷ words_in ts) ≡ names ags (words_in ts) = agent-names ags W 0 w nil d (words_in ts) in
        let tn : tally ags (w ∷ words_in ts) ≡ suc (tally ags (words_in ts)) = agent-tally ags W 0 w nil d (words_in ts) in
        let some = identifier_some w ok in
        let r : m < net_cells_max = omega arith in
        let o : Sheet = opened m (symbol_of ags w) s in
        let oc : o.cells ≡ m + 1 = opened-count s m (symbol_of ags w) z r in
        let os : o.cells ≡ suc m = omega (arith, oc) in
        let dn = skip text at w (40 ∷ (inner ts ++ rest)) e' in
        let A = U.run (l - 1) (suc lv) (takes ags w - 1) m 0 (at + length w + 1) (suc m) o ws zs rest os (omega (arith, h.level)) oks.1 hs.1
        (omega (arith, h.arity)) (omega (arith, h.arity, narrow w)) (omega (arith, oc)) (skip_one text (at + length w) 40 (inner ts ++ rest) dn)
        (opened-sized s m (symbol_of ags w) z r) (opened-named s m (symbol_of ags w) z r text ws n) (omega (arith, oc)) (rw nn at full) (rw nn at last) in
        let len : at + length w + 1 + length (inner ts) ≡ at + length (w ++ brackets ts) = omega (arith, length-append w (brackets ts), ap length br) in
        record {
          after = A.after;
          reads = rw (← len, agent-side ags W m w ts d)
              (term-args text ags l at s (λ y. omega (arith, h.level)) (word-ends text at w (40 ∷ (inner ts ++ rest)) ok e' (open_ends (inner ts ++ rest))) (λ y. omega arith) o
              (head-cell text ags at (at + length w) s w (sym (word_here text at w (40 ∷ (inner ts ++ rest)) ok e')) (Some (known (symbol_of ags w) (takes ags w))) (sym (found-zero ags w d)) refl
              (cell-takes s (symbol_of ags w) (takes ags w) m (sym em) r (narrow w) o refl (λ y. omega (arith, h.arity)))) refl refl refl
              (eq-eqb _ 40 (here text (at + length w) 40 (inner ts ++ rest) dn)) A.reads);
          wrote = rw (agent-cells ags W m w ts d) (record {
            sized = A.wrote.sized;
            count = A.wrote.count ∙ omega arith;
            before = λ i a b. A.wrote.before i a (omega (arith, oc)) ∙ opened_before s m (symbol_of ags w) z r i a b;
            cells = (
              record {
                symbol = A.wrote.before m (omega arith) (omega (arith, oc)) ∙ opened-symbol s m (symbol_of ags w) z r;
                args = λ j b. let q : arity_max * m + 0 + j ≡ arity_max * m + j = omega arith in rw q at (A.args j (omega (arith, sides-count ags W (suc m) ts)));
              },
              A.wrote.cells,
            );
            narrow = (omega (arith, sides-count ags W (suc m) ts, h.arity, narrow w), A.wrote.narrow);
          });
          kept = λ i a b. A.below i a (omega arith) ∙ ap (λ (x : List ℕ). get_or x i 0) (opened-arguments s m (symbol_of ags w) z r);
          size = rw (agent-cells ags W m w ts d, tn) (ap suc A.size);
          named = named_by ws nn A.named;
        };
  }

  -- the last argument
  args_last : (t : Term) → TermReads text ags W t → ArgsReads text ags W (cons t nil)
  unfolding inner closing count wordeds nodes_in words_in cells_from codes
  args_last t T = record {
    run = λ l lv more c k at m s ws zs rest em eq wd rt ct wide lower e z n room full last.
        let e' : drop at text ≡ spell t ++ (41 ∷ rest) = rw append_assoc at e in
        let un : words t ++ [] ≡ words t = append-nil (words t) in
        let D = T.run l lv at m s ws zs (41 ∷ rest) em eq (both (worded t) true wd).0 (all_left (right ags) (nodes_at lv t) [] rt) e' (close-stops rest) z n
        (rw un at room) (rw un at full) (rw un at last) in
        let p : ℕ = at + length (spell t) in
        let v : ℕ = code (side_at ags (number W) m t) in
        let r : arity_max * c + k < arity_max * net_cells_max = omega arith in
        let u : Sheet = argued c k v D.after in
        let dn = skip text at (spell t) (41 ∷ rest) e' in
        let cn : term_cells ags (number W) m t ++ [] ≡ term_cells ags (number W) m t = append-nil (term_cells ags (number W) m t) in
        let len : at + length (spell t) + 1 ≡ at + length (spell t ++ (41 ∷ [])) = omega (arith, length-append (spell t) (41 ∷ [])) in
        let sy : u.symbols ≡ D.after.symbols = argued-symbols D.after c k v D.wrote.sized r in
        let sm : Same D.after.symbols u.symbols m (m + length (term_cells ags (number W) m t)) = λ i a b. ap (λ (x : List ℕ). get_or x i 0) sy in
        record {
          after = u;
          reads = rw (← len) (args-close text (term_by text ags l) more c k at s D.after D.reads refl u refl refl (omega arith) (here text p 41 rest dn) refl);
          wrote = rw cn (record {
            sized = argued-sized D.after c k v D.wrote.sized r;
            count = argued-count D.after c k v D.wrote.sized r ∙ D.wrote.count;
            before = λ i a b. ap (λ (x : List ℕ). get_or x i 0) sy ∙ D.wrote.before i a b;
            cells = cells-kept D.after u m (m + length (term_cells ags (number W) m t)) (term_cells ags (number W) m t) D.wrote.narrow (omega arith) sm
                (argued_other D.after c k v D.wrote.sized r _ _ (λ i a b y. omega arith)) D.wrote.cells;
            narrow = D.wrote.narrow;
          });
          below = λ i a b. argued_other D.after c k v D.wrote.sized r 0 (arity_max * c + k) (λ i a b y. omega arith) i a b ∙ D.kept i a (omega arith);
          above = λ i a b. argued_other D.after c k v D.wrote.sized r (arity_max * c + k + 1) (arity_max * m) (λ i a b y. omega arith) i a b ∙ D.kept i (omega arith) b;
          args = last_arg u.arguments (arity_max * c + k) (side_at ags (number W) m t) (argued_here D.after c k v D.wrote.sized r);
          size = rw (cn, un) D.size;
          named = named_by ws (ap (names ags) un) (argued-named D.after c k v D.wrote.sized r text (grown ws (names ags (words t))) D.named);
        };
  }

  -- an argument and more
  args_more : (t : Term) (us : Terms) (few : ℕ) → count us ≡ suc few → closing us ≡ 44 ∷ inner us
      → TermReads text ags W t → ArgsReads text ags W us → ArgsReads text ags W (cons t us)
  unfolding inner count wordeds nodes_in words_in cells_from codes
  args_more t us few cu cl T U = record {
    run = λ l lv more c k at m s ws zs rest em eq wd rt ct wide lower e z n room full last.
        let e' : drop at text ≡ spell t ++ (44 ∷ (inner us ++ rest)) = rw (append_assoc, cl) at e in
        let na : names ags (words t ++ words_in us) ≡ names ags (words t) ++ names ags (words_in us) = names-append ags (words t) (words_in us) in
        let ta : tally ags (words t ++ words_in us) ≡ tally ags (words t) + tally ags (words_in us) = tally-append ags (words t) (words_in us) in
        let v1 : List Word = grown ws (names ags (words t)) in
        let ga : grown ws (names ags (words t ++ words_in us)) ≡ grown v1 (names ags (words_in us)) = rw na (grown-append ws (names ags (words t)) (names ags (words_in us))) in
        let go = grown_on v1 (names ags (words_in us)) in
        let l1 : v1 ++ (go.0 ++ zs) ≡ W = sym (append_assoc v1 go.0 zs) ∙ (ap (λ (x : List Word). x ++ zs) (sym go.1 ∙ sym ga) ∙ last) in
        let wds = both (worded t) (wordeds us) wd in
        let full1 : length v1 ≤ net_names_max = omega (arith, grown_longer v1 (names ags (words_in us)), ap length ga) in
        let D = T.run l lv at m s ws (go.0 ++ zs) (44 ∷ (inner us ++ rest)) em eq wds.0 (all_left (right ags) (nodes_at lv t) (nodes_in lv us) rt) e' (comma_stops (inner us ++ rest)) z n
        (omega arith) full1 l1 in
        let p : ℕ = at + length (spell t) in
        let v : ℕ = code (side_at ags (number W) m t) in
        let cs : List Cell = term_cells ags (number W) m t in
        let r : arity_max * c + k < arity_max * net_cells_max = omega arith in
        let u : Sheet = argued c k v D.after in
        let sz : Sized u = argued-sized D.after c k v D.wrote.sized r in
        let dn = skip text at (spell t) (44 ∷ (inner us ++ rest)) e' in
        let m2 : ℕ = m + size ags t in
        let st : size ags t ≡ length cs = size-tally ags t ∙ sym D.size in
        let uc : u.cells ≡ m2 = argued-count D.after c k v D.wrote.sized r ∙ (D.wrote.count ∙ rw st) in
        let A = U.run l lv (more - 1) c (k + 1) (p + 1) m2 u v1 zs rest uc eq wds.1 (all_right (right ags) (nodes_at lv t) (nodes_in lv us) rt) (omega arith) (omega arith) (omega arith)
        (skip_one text p 44 (inner us ++ rest) dn) sz (argued-named D.after c k v D.wrote.sized r text v1 D.named) (omega (arith, D.size)) (rw ga at full) (rw ga at last) in
        let len : p + 1 + length (inner us) ≡ at + length (spell t ++ closing us) = omega (arith, length-append (spell t) (closing us), ap length cl) in
        let sy : u.symbols ≡ D.after.symbols = argued-symbols D.after c k v D.wrote.sized r in
        let other = argued_other D.after c k v D.wrote.sized r in
        record {
          after = A.after;
          reads = rw (← len) (args_comma text (term_by text ags l) more c k at s D.after D.reads refl u refl refl (λ y. omega arith) (here text p 44 (inner us ++ rest) dn) A.reads);
          wrote = record {
            sized = A.wrote.sized;
            count = A.wrote.count ∙ omega (arith, length-append cs (terms_cells ags (number W) m2 us));
            before = λ i a b. A.wrote.before i a (omega arith) ∙ (ap (λ (x : List ℕ). get_or x i 0) sy ∙ D.wrote.before i a b);
            cells = cells-append A.after m cs (terms_cells ags (number W) m2 us)
                (cells-kept D.after A.after m m2 cs D.wrote.narrow (omega arith)
                (λ i a b. A.wrote.before i (omega arith) b ∙ ap (λ (x : List ℕ). get_or x i 0) sy)
                (λ i a b. A.above i (omega arith) b ∙ other (arity_max * m) (arity_max * m2) (λ i a b y. omega arith) i a b) D.wrote.cells)
                (cells_at A.after (terms_cells ags (number W) m2 us) (ap (λ (x : ℕ). m + x) st) A.wrote.cells);
            narrow = narrow-append cs (terms_cells ags (number W) m2 us) D.wrote.narrow A.wrote.narrow;
          };
          below = λ i a b. A.below i a (omega arith) ∙ (other 0 (arity_max * c + k) (λ i a b y. omega arith) i a b ∙ D.kept i a (omega arith));
          above = λ i a b. A.above i (omega arith) (omega arith) ∙ (other (arity_max * c + k + 1) (arity_max * m) (λ i a b y. omega arith) i (omega arith) b ∙ D.kept i (omega arith) b);
          args = more_args A.after.arguments (arity_max * c + k) (count us) (side_at ags (number W) m t) (sides_within ags (number W) m2 us)
              (A.below (arity_max * c + k) (omega arith) (omega arith) ∙ argued_here D.after c k v D.wrote.sized r)
              (λ j b. let q : arity_max * c + (k + 1) + j ≡ arity_max * c + k + 1 + j = omega arith in rw q at (A.args j b));
          size = rw (length-append cs (terms_cells ags (number W) m2 us), ta) (omega (arith, D.size, A.size));
          named = named_as ga A.named;
        };
  }

  term-step : (w : Word) (ts : Terms) → ArgsReads text ags W ts → TermReads text ags W (term w ts)
  unfolding brackets inner count
  term-step w nil U = go (declared ags w) refl
    where
      go : (b : Bool) → declared ags w ≡ b → TermReads text ags W (term w nil)
      go true d = agent-term w d
      go false d = name-term w d
  term-step w (cons t us) U = go (declared ags w) refl
    where
      go : (b : Bool) → declared ags w ≡ b → TermReads text ags W (term w (cons t us))
      go true d = agent-terms w (cons t us) (count us) refl refl d U
      go false d = record { run = λ l lv at m s ws zs rest em eq wd rt. absurd (omega (arith, (split_nodes ags w (cons t us) lv rt).0.arity, takes_none ags w d)) }

  args-step : (t : Term) (us : Terms) → TermReads text ags W t → ArgsReads text ags W us
      → ArgsReads text ags W (cons t us)
  unfolding closing inner count
  args-step t nil T U = args_last t T
  args-step t (cons u us) T U = args_more t (cons u us) (count us) refl refl T U

  args_none : ArgsReads text ags W nil
  unfolding count
  args_none = record { run = λ l lv more c k at m s ws zs rest em eq wd rt ct. absurd (omega arith) }

  mutual
    pub term-reads : (t : Term) → TermReads text ags W t
    term-reads (term w ts) = term-step w ts (args-reads ts)

    pub args-reads : (ts : Terms) → ArgsReads text ags W ts
    args-reads nil = args_none
    args-reads (cons t ts) = args-step t ts (term-reads t) (args-reads ts)
