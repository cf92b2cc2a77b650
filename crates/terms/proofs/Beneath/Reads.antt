-- A term that is spelled in the text is read as that term. Assumes nothing.
use Rattle.std.specs.Prelude.{None, Some, ℕ, suc, ◌+◌, ◌-◌, ◌*◌, ◌<◌, ◌≤◌, ◌≡◌, Bool, not, ◌&&◌, List, [], ◌∷◌, ◌++◌, leb, eqb, get_or, drop, refl, true, false, cond, length}
use Rattle.std.proofs.Common.{sym, ◌∙◌, arith, length-append, lt-ltb, le-leb}
use Rattle.parts.specs.Limits.{text_max, identifier_max, arity_max, level_max, net_names_max}
use Rattle.parts.specs.Sides.{name, cell, code}
use Rattle.texts.specs.Bytes.{Word, keep, among, index_of}
use Rattle.texts.specs.Terms.{identifier, Term, Terms, term, nil, cons, spell, Node, count}
use Rattle.texts.specs.Books.{Agent, declared, takes}
use Rattle.model.specs.Table.{Cell}
use Rattle.texts.specs.Coded.{symbol_of, code_at, cells_at}
use Rattle.texts.proofs.Beneath.Tools.{keep_append}
use Rattle.terms.specs.Sheet.{Sheet, entered}
use Rattle.terms.specs.Words.{entries}
use Rattle.terms.specs.Reader.{read, done, fits, head_by, args_by, term_by}
use Rattle.terms.specs.Meaning.{number, side_at, sides_within, term_cells, terms_cells, Sized, CellsAre, Narrow, Named, grown}
use Rattle.terms.proofs.Beneath.Numbers.{found_none, index_in, index_out, index_on, index_last, among_last}
use Rattle.terms.proofs.Beneath.Spelt.{word_here, word-inside}
use Rattle.terms.proofs.Beneath.Written.{Same, entered-sized, entered-count, entered-symbols, entered-arguments, entered-named}
use Rattle.terms.proofs.Beneath.Heads.{name_old, name_new, head-name}
use Rattle.terms.specs.declared.Head.{Head}
use Rattle.terms.specs.Reads.{inner}

-- An identifier within its sizes that has as many arguments as it takes.
unfoldable pub right : List Agent → Node → Bool
right ags n = leb n.level level_max && leb (length n.word) identifier_max && eqb n.args (takes ags n.word)

-- the words of a term, in reading order
unfoldable mutual
  pub words : Term → List Word
  words (term w ts) = w ∷ words_in ts

  pub words_in : Terms → List Word
  words_in nil = []
  words_in (cons t ts) = words t ++ words_in ts

-- the names among some words, and how many are agents
unfoldable pub names : List Agent → List Word → List Word
names ags ws = keep (λ w. not (declared ags w)) ws

unfoldable pub tally : List Agent → List Word → ℕ
tally ags ws = length (keep (declared ags) ws)

-- the sheet after, on which these cells stand behind those before
pub record Wrote (s t : Sheet) (m : ℕ) (cs : List Cell) : Type 0 where
  pub sized : Sized t
  pub count : t.cells ≡ m + length cs
  pub before : Same s.symbols t.symbols 0 m
  pub cells : CellsAre t m cs
  pub narrow : Narrow cs

pub record TermDone (text : List ℕ) (ags : List Agent) (W : List Word) (l at m : ℕ) (s : Sheet) (ws : List Word) (t : Term) : Type 0 where
  pub after : Sheet
  pub reads : done (read (at + length (spell t)) (code (side_at ags (number W) m t))) after ≡ term_by text ags l at s
  pub wrote : Wrote s after m (term_cells ags (number W) m t)
  pub kept : Same s.arguments after.arguments 0 (arity_max * m)
  pub size : length (term_cells ags (number W) m t) ≡ tally ags (words t)
  pub named : Named text after (grown ws (names ags (words t)))

pub record ArgsDone (text : List ℕ) (ags : List Agent) (W : List Word) (l more c k at m : ℕ) (s : Sheet) (ws : List Word) (ts : Terms) : Type 0 where
  pub after : Sheet
  pub reads : done (read (at + length (inner ts)) (code (cell c))) after ≡ args_by text (term_by text ags l) more c k at s
  pub wrote : Wrote s after m (terms_cells ags (number W) m ts)
  pub below : Same s.arguments after.arguments 0 (arity_max * c + k)
  pub above : Same s.arguments after.arguments (arity_max * c + k + count ts) (arity_max * m)
  pub args : (j : ℕ) → j < count ts
      → get_or after.arguments (arity_max * c + k + j) 0 ≡ code (get_or (sides_within ags (number W) m ts) j (name 0))
  pub size : length (terms_cells ags (number W) m ts) ≡ tally ags (words_in ts)
  pub named : Named text after (grown ws (names ags (words_in ts)))

-- a head alone: its names and cells
module _ (ags : List Agent) (W : List Word) (m : ℕ) (w : Word) (ts : Terms) where
  module _ (d : declared ags w ≡ false) where
    pub name-side : side_at ags (number W) m (term w ts) ≡ name (index_of w W)
    unfolding code_at
    name-side = rw d

    pub name-cells : term_cells ags (number W) m (term w ts) ≡ []
    unfolding cells_at
    name-cells = rw d

    pub name-names : (vs : List Word) → names ags (w ∷ vs) ≡ w ∷ names ags vs
    unfolding names keep
    name-names vs = rw d

    pub name_tally : (vs : List Word) → tally ags (w ∷ vs) ≡ tally ags vs
    unfolding tally keep
    name_tally vs = rw d

  module _ (d : declared ags w ≡ true) where
    pub agent-side : side_at ags (number W) m (term w ts) ≡ cell m
    unfolding code_at
    agent-side = rw d

    pub agent-cells : term_cells ags (number W) m (term w ts) ≡ record { symbol = symbol_of ags w; args = sides_within ags (number W) (suc m) ts } ∷ terms_cells ags (number W) (suc m) ts
    unfolding cells_at
    agent-cells = rw d

    pub agent-names : (vs : List Word) → names ags (w ∷ vs) ≡ names ags vs
    unfolding names keep
    agent-names vs = rw d

    pub agent-tally : (vs : List Word) → tally ags (w ∷ vs) ≡ suc (tally ags vs)
    unfolding tally keep
    agent-tally vs = rw d

pub names-append : (ags : List Agent) (us vs : List Word) → names ags (us ++ vs) ≡ names ags us ++ names ags vs
unfolding names
names-append ags us vs = keep_append (λ w. not (declared ags w)) us vs

pub tally-append : (ags : List Agent) (us vs : List Word) → tally ags (us ++ vs) ≡ tally ags us + tally ags vs
unfolding tally
tally-append ags us vs = rw (keep_append (declared ags) us vs) (length-append (keep (declared ags) us) (keep (declared ags) vs))

-- a name is found on the sheet, or entered
pub record NameDone (text : List ℕ) (ags : List Agent) (W : List Word) (at : ℕ) (s : Sheet) (ws : List Word) (w : Word) : Type 0 where
  pub after : Sheet
  pub heads : done (Some (Head.Plain (code (name (index_of w W))))) after ≡ head_by text ags at (at + length w) s
  pub sized : Sized after
  pub count : after.cells ≡ s.cells
  pub symbols : after.symbols ≡ s.symbols
  pub arguments : after.arguments ≡ s.arguments
  pub named : Named text after (grown ws (w ∷ []))

module _
    (text : List ℕ) (ags : List Agent) (W : List Word) (short : length text ≤ text_max) (at : ℕ) (s : Sheet) (ws zs : List Word) (w : Word) (rest : List ℕ)
    (ok : identifier w ≡ true) (d : declared ags w ≡ false) (long : length w ≤ identifier_max) (e : drop at text ≡ w ++ rest) (z : Sized s) (n : Named text s ws) where
  number_at : (k : ℕ) → k ≡ index_of w ws → k ≡ index_of w (entries text s.places s.names)
  number_at k h = rw (n.count, n.spelt) h

  fits_here : length ws < net_names_max → true ≡ fits s.names at (at + length w - at)
  unfolding fits
  fits_here room =
      let y : at + length w - at ≡ length w = omega arith in
      let a : at < text_max = omega (arith, word-inside text at w rest ok e) in
      rw (y, n.count, lt-ltb (length ws) net_names_max room, lt-ltb at text_max a, le-leb (length w) identifier_max long)

  pub name-head : length (grown ws (w ∷ [])) ≤ net_names_max → grown ws (w ∷ []) ++ zs ≡ W
      → NameDone text ags W at s ws w
  unfolding grown
  name-head room last = go (among w ws) refl room last
    where
      go : (t : Bool) → among w ws ≡ t → length (cond t ws (ws ++ (w ∷ []))) ≤ net_names_max
          → cond t ws (ws ++ (w ∷ [])) ++ zs ≡ W → NameDone text ags W at s ws w
      go true q r f =
          let i : index_of w W ≡ index_of w ws = rw (← f) (index_on w ws zs q) in
          record {
            after = s;
            heads = head-name text ags at (at + length w) s w (sym (word_here text at w rest ok e)) None (sym (found_none ags w 0 d)) refl
                (name_old text at (at + length w) s.names s refl (omega (arith, n.count)) w (sym (word_here text at w rest ok e)) (index_of w ws) (number_at (index_of w ws) refl)
                (omega (arith, n.count, index_in w ws q)) (rw i));
            sized = z;
            count = refl;
            symbols = refl;
            arguments = refl;
            named = rw q n;
          }
      go false q r f =
          let a : length ws < net_names_max = omega (arith, length-append ws (w ∷ [])) in
          let o : index_of w ws ≡ length ws = index_out w ws q in
          let i : index_of w W ≡ length ws = rw (← f) (index_on w (ws ++ (w ∷ [])) zs (among_last w ws) ∙ index_last w ws q) in
          let y : at + length w - at ≡ length w = omega arith in
          record {
            after = entered s.names at (at + length w - at) s;
            heads = head-name text ags at (at + length w) s w (sym (word_here text at w rest ok e)) None (sym (found_none ags w 0 d)) refl
                (name_new text at (at + length w) s.names s refl (omega (arith, n.count)) w (sym (word_here text at w rest ok e)) (index_of w ws) (number_at (index_of w ws) refl)
                (omega (arith, n.count)) (fits_here a) refl (entered s.names at (at + length w - at) s) refl (rw (i, n.count)));
            sized = entered-sized text s ws at (at + length w - at) z n a;
            count = entered-count text s ws at (at + length w - at) z n a;
            symbols = entered-symbols text s ws at (at + length w - at) z n a;
            arguments = entered-arguments text s ws at (at + length w - at) z n a;
            named = rw q (entered-named text s ws at (at + length w - at) z n a w (word_here text at w rest ok e));
          }
