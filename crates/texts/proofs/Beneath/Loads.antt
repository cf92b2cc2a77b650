-- The coded form of a good net: each name twice, each cell once.
use Rattle.std.specs.Prelude.{ℕ, ◌+◌, ◌<◌, ◌≡◌, refl, Bool, false, List, [], ◌∷◌, ◌++◌}
use Rattle.std.proofs.Common.{sym, ap, ◌∙◌, append-nil, append_assoc, length-append, eq-eqb}
use native.Mathlib.Omega.{arith}
use Rattle.std.proofs.Math.ListN.{length}
use Rattle.std.proofs.Math.Dec.{eqb}
use Rattle.texts.specs.Bytes.{Word, any, keep, same, times, different, index_of, In}
use Rattle.texts.specs.Terms.{Term, nodes_at, nodes, words_of}
use Rattle.texts.specs.Books.{Agent, Net, declared, takes, sides, cells_of, names_of, net_terms}
use Rattle.texts.specs.RuleText.{wrong_args, word_at}
use Rattle.parts.specs.Sides.{Side, name, cell}
use Rattle.model.specs.Load as Loading
use Rattle.texts.specs.Coded.{packed, size, codes, cells_at, cells_from, net_number, load, unpaired}
use Rattle.texts.specs.TableTest.{args_all, same_side, tally}
use Rattle.texts.proofs.Beneath.Tools.{false-any, keep_append}
use Rattle.texts.proofs.Beneath.NetSound.{SoundNet}
use Rattle.texts.proofs.Beneath.Linear.{words_append, tally-append, cell_tally, code-count, cell-count}
use Rattle.texts.proofs.Beneath.Places.{at_in, index_all, different_in, different-distinct}
use Rattle.texts.proofs.Beneath.Templates.{unpaired-twos, codes-even, tally_ext, tally_none, cell_none, cell_one, name-cell}

-- All sides of a net to load: the face, the sides of its equations, and the arguments of its cells.
unfoldable pub all_sides : Loading.Net → List Side
all_sides l = (l.face ++ unpaired l.equations) ++ args_all l.cells

pub cells-cons : (ags : List Agent) (t : Term) (ts : List Term) → length (cells_of ags (t ∷ ts)) ≡ size ags t + length (cells_of ags ts)
unfolding cells_of size nodes
cells-cons ags t ts =
    rw (words_append (nodes_at 1 t) (nodes ts), keep_append (declared ags) (words_of (nodes_at 1 t)) (words_of (nodes ts)), append-nil (nodes_at 1 t))
    (length-append (keep (declared ags) (words_of (nodes_at 1 t))) (keep (declared ags) (words_of (nodes ts))))

pub cells-nil : (ags : List Agent) → length (cells_of ags []) ≡ 0
unfolding cells_of nodes words_of keep
cells-nil ags = refl

pub codes-append : (ags : List Agent) (number : Word → ℕ) (ts us : List Term) (m : ℕ)
    → codes ags number m (packed (ts ++ us)) ≡ codes ags number m (packed ts) ++ codes ags number (m + length (cells_of ags ts)) (packed us)
unfolding codes packed
codes-append ags number [] us m = let z : m + 0 ≡ m = omega arith in rw (cells-nil ags, z)
codes-append ags number (t ∷ ts) us m =
    let z : m + (size ags t + length (cells_of ags ts)) ≡ m + size ags t + length (cells_of ags ts) = omega arith in
    rw (cells-cons ags t ts, z, codes-append ags number ts us (m + size ags t))

pub cells-append : (ags : List Agent) (number : Word → ℕ) (ts us : List Term) (m : ℕ)
    → cells_from ags number m (packed (ts ++ us)) ≡ cells_from ags number m (packed ts) ++ cells_from ags number (m + length (cells_of ags ts)) (packed us)
unfolding cells_at packed
cells-append ags number [] us m = let z : m + 0 ≡ m = omega arith in rw (cells-nil ags, z)
cells-append ags number (t ∷ ts) us m =
    let z : m + (size ags t + length (cells_of ags ts)) ≡ m + size ags t + length (cells_of ags ts) = omega arith in
    rw (cells-cons ags t ts, z, cells-append ags number ts us (m + size ags t)) (sym (append_assoc (cells_at ags number m t) _ _))

module _ (ags : List Agent) (n : Net) (s : SoundNet ags n) where
  pub ok : any (wrong_args ags) (nodes (net_terms n)) ≡ false
  unfolding wrong_args
  ok = false-any (wrong_args ags) (nodes (net_terms n)) (λ i m. rw (eq-eqb i.args (takes ags i.word) (s.arities i m)))

  -- the codes of all terms, and the arguments of their cells
  pub sides-are : all_sides (load ags n) ≡ codes ags (net_number ags n) 0 (packed (net_terms n)) ++ args_all (cells_from ags (net_number ags n) 0 (packed (net_terms n)))
  unfolding all_sides load net_terms
  sides-are =
      let z : 0 + length (cells_of ags n.face) ≡ length (cells_of ags n.face) = omega arith in
      rw (
        unpaired-twos (codes ags (net_number ags n) (length (cells_of ags n.face)) (packed (sides n.equations))) (codes-even ags (net_number ags n) n.equations (length (cells_of ags n.face))),
        codes-append ags (net_number ags n) n.face (sides n.equations) 0,
        z,
      )

  pub load-count : (p : Side → Bool)
      → tally p (all_sides (load ags n)) ≡ tally (λ w. p (name (net_number ags n w))) (names_of ags (net_terms n)) + cell_tally p 0 (length (cells_of ags (net_terms n)))
  load-count p =
      let q = code-count ags (net_number ags n) p (net_terms n) 0 ok in
      ap (tally p) sides-are ∙ (tally-append p (codes ags (net_number ags n) 0 (packed (net_terms n))) (args_all (cells_from ags (net_number ags n) 0 (packed (net_terms n)))) ∙ q)

  pub load_cells : length (load ags n).cells ≡ length (cells_of ags (net_terms n))
  unfolding load
  load_cells = cell-count ags (net_number ags n) (net_terms n) 0 ok

  abbrev ds : List Word
  ds = different (names_of ags (net_terms n))

  twice_at : (w : Word) → In w (names_of ags (net_terms n)) → tally (same w) (names_of ags (net_terms n)) ≡ 2
  unfolding times tally
  twice_at w m = s.twice w m

  -- each name stands twice
  pub name-twice : (k : ℕ) → k < (load ags n).names → tally (same_side (name k)) (all_sides (load ags n)) ≡ 2
  unfolding load same_side net_number
  name-twice k h =
      load-count (same_side (name k))
      ∙ rw (
        cell_none (same_side (name k)) (length (cells_of ags (net_terms n))) 0 (λ j l i. (name-cell k j).0),
        tally_ext (λ w. eqb k (index_of w ds)) (same (word_at k ds)) (names_of ags (net_terms n)) (λ w m. index_all ds k w h (different-distinct (names_of ags (net_terms n)))),
      )
      (let e = twice_at (word_at k ds) (different_in (word_at k ds) (names_of ags (net_terms n)) (at_in k ds h)) in omega arith)

  -- each cell once
  pub cell-once : (k : ℕ) → k < length (load ags n).cells → tally (same_side (cell k)) (all_sides (load ags n)) ≡ 1
  unfolding net_number same_side
  cell-once k h =
      load-count (same_side (cell k))
      ∙ rw (
        tally_none (λ w. same_side (cell k) (name (net_number ags n w))) (names_of ags (net_terms n)) (λ w. (name-cell (net_number ags n w) k).1),
        cell_one (length (cells_of ags (net_terms n))) 0 k (omega arith) (omega (arith, load_cells)),
      ) (omega arith)
