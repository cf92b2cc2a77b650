-- The coded form of terms reads as the terms of the calculus that they mean.
use Prim.Native.Nat.{ℕ, suc, ◌+◌}
use Rattle.std.specs.Prelude.{◌≡◌, Bool, true, false, cond, ◌||◌, eqb}
use Rattle.std.proofs.Math.Path.{refl, ap, subst}
use Rattle.std.proofs.Common.{sym, ◌∙◌, arith, length-append, get_or-append-add}
use mathlib.Core.List.{List, [], ◌∷◌, ◌++◌, append_assoc, append-nil}
use Rattle.std.proofs.Math.ListN.{length, get_or-append}
use Rattle.calculus.specs.Terms.{var, node}
use Rattle.calculus.specs.Terms as Calculus
use Rattle.parts.specs.Sides.{Side, name, cell}
use Rattle.model.specs.Table.{Cell, no_cell}
use Rattle.model.specs.Reading.{Reads, none, by_name, by_cell, ReadsAll, no_pairs, pairs}
use Rattle.model.specs.State.{from}
use Rattle.model.proofs.Beneath.Froms.{from-append}
use Rattle.texts.specs.Bytes.{Word, keep}
use Rattle.texts.specs.Terms.{Term, Terms, term, nil, cons, count}
use Rattle.texts.specs.Books.{Agent, Equation, declared, sides}
use Rattle.texts.specs.Coded.{symbol_of, twos, packed, size, code_at, codes, cells_at, cells_from}
use Rattle.texts.specs.Meaning.{tree, trees, tree_equations}
use Rattle.texts.specs.TableTest.{tally}
use Rattle.texts.proofs.Beneath.Tools.{both}
use Rattle.texts.specs.Linear.{words, words_in}
use Rattle.texts.proofs.Beneath.Linear.{bare, bares, size-words, no_terms, tally-append, cells-term}
use Rattle.texts.proofs.Beneath.CellReading.{Held, held_first}

module _ (mem : ℕ → Cell) where
  pub held_left : (m : ℕ) (ds es : List Cell) → Held mem m (ds ++ es) → Held mem m ds
  held_left m ds es h j l = h j (let z = length-append ds es in omega (arith, z, l)) ∙ get_or-append ds es no_cell j l

  pub held_right : (m : ℕ) (ds es : List Cell) → Held mem m (ds ++ es) → Held mem (m + length ds) es
  held_right m ds es h j l =
      let y : m + length ds + j ≡ m + (length ds + j) = omega arith in
      rw y (h (length ds + j) (let z = length-append ds es in omega (arith, z, l)) ∙ get_or-append-add ds es j no_cell)

  module _ (ags : List Agent) (number : Word → ℕ) where
    -- the cells of a term, and of terms
    abbrev pub cells_in : Term → ℕ
    cells_in t = tally (declared ags) (words t)

    abbrev pub cells_within : Terms → ℕ
    cells_within ts = tally (declared ags) (words_in ts)

    an_agent : (w : Word) (ws : List Word) → declared ags w ≡ true → tally (declared ags) (w ∷ ws) ≡ suc (tally (declared ags) ws)
    unfolding keep tally
    an_agent w ws h = rw h

    a-name : (w : Word) → declared ags w ≡ false → tally (declared ags) (w ∷ []) ≡ 0
    unfolding keep tally
    a-name w h = rw h

    nothing : tally (declared ags) [] ≡ 0
    unfolding keep tally
    nothing = refl

    abbrev Front : ℕ → Term → Type 0
    Front m t =
        (ss : List Side) (us : Calculus.Terms) (cs : List ℕ) → Reads mem ss us cs
        → Reads mem (code_at ags number m t ∷ ss) (Calculus.cons (tree ags number t) us) (from m (cells_in t) ++ cs)

    mutual
      unfolding code_at codes cells_at words bare tree

      pub read-term : (t : Term) (m : ℕ) → bare ags t ≡ true → Held mem m (cells_at ags number m t) → Front m t
      read-term (term w ts) m h k ss us cs r =
          let q = both (declared ags w || eqb (count ts) 0) (bares ags ts) h in
          go (declared ags w) refl q.0 k (λ f. read-terms ts (suc m) q.1 f)
        where
          go : (d : Bool) → declared ags w ≡ d → (d || eqb (count ts) 0) ≡ true
              → Held mem m (cond d (record { symbol = symbol_of ags w; args = codes ags number (suc m) ts } ∷ cells_from ags number (suc m) ts) [])
              → (Held mem (suc m) (cells_from ags number (suc m) ts) → Reads mem (codes ags number (suc m) ts) (trees ags number ts) (from (suc m) (cells_within ts)))
              → Reads mem (cond d (cell m) (name (number w)) ∷ ss) (Calculus.cons (cond d (node (symbol_of ags w) (trees ags number ts)) (var (number w))) us)
              (from m (tally (declared ags) (w ∷ words_in ts)) ++ cs)
          go true e o f ih =
              let p = held_first mem m (record { symbol = symbol_of ags w; args = codes ags number (suc m) ts }) (cells_from ags number (suc m) ts) f in
              rw (an_agent w (words_in ts) e) (by_cell p.0 (ih p.1) r)
          go false e o f ih = rw (no_terms ts o, a-name w e) (by_name r)

      pub read-terms : (ts : Terms) (m : ℕ) → bares ags ts ≡ true → Held mem m (cells_from ags number m ts)
          → Reads mem (codes ags number m ts) (trees ags number ts) (from m (cells_within ts))
      read-terms nil m h k = rw nothing none
      read-terms (cons t ts) m h k =
          let q = both (bare ags t) (bares ags ts) h in
          let z = size-words ags t in
          let l = cells-term ags number t m q.0 in
          let y : m + length (cells_at ags number m t) ≡ m + size ags t = omega (arith, z, l) in
          let r = read-terms ts (m + size ags t) q.1
          (subst (λ n. Held mem n (cells_from ags number (m + size ags t) ts)) y (held_right m (cells_at ags number m t) (cells_from ags number (m + size ags t) ts) k)) in
          let s = read-term t m q.0 (held_left m (cells_at ags number m t) (cells_from ags number (m + size ags t) ts) k)
          (codes ags number (m + size ags t) ts) (trees ags number ts) (from (m + size ags t) (cells_within ts)) r in
          subst (Reads mem (codes ags number m (cons t ts)) (trees ags number (cons t ts)))
          (ap (λ n. from m (cells_in t) ++ from (m + n) (cells_within ts)) z ∙ (from-append (cells_in t) (cells_within ts) m ∙ ap (from m) (sym (tally-append (declared ags) (words t) (words_in ts)))))
          s

    -- equations
    pub read-equations : (es : List Equation) (m : ℕ) → bares ags (packed (sides es)) ≡ true → Held mem m (cells_from ags number m (packed (sides es)))
        → ReadsAll mem (twos (codes ags number m (packed (sides es)))) (tree_equations ags number es) (from m (cells_within (packed (sides es))))
    unfolding twos codes packed sides bare cells_at words tree_equations
    read-equations [] m h k = rw nothing no_pairs
    read-equations (e ∷ es) m h k =
        let q = both (bare ags e.left) _ h in
        let p = both (bare ags e.right) _ q.1 in
        let n : ℕ = m + size ags e.left in
        let z = size-words ags e.left in
        let l = cells-term ags number e.left m q.0 in
        let y : m + length (cells_at ags number m e.left) ≡ m + size ags e.left = omega (arith, z, l) in
        let k2 = subst (λ n. Held mem n (cells_at ags number (m + size ags e.left) e.right ++ cells_from ags number (m + size ags e.left + size ags e.right) (packed (sides es)))) y
        (held_right m (cells_at ags number m e.left) _ k) in
        let z2 = size-words ags e.right in
        let l2 = cells-term ags number e.right (m + size ags e.left) p.0 in
        let y2 : m + size ags e.left + length (cells_at ags number (m + size ags e.left) e.right) ≡ m + size ags e.left + size ags e.right = omega (arith, z2, l2) in
        let k3 = subst (λ n. Held mem n (cells_from ags number (m + size ags e.left + size ags e.right) (packed (sides es)))) y2
        (held_right (m + size ags e.left) (cells_at ags number (m + size ags e.left) e.right) _ k2) in
        let r = read-term e.right (m + size ags e.left) p.0 (held_left (m + size ags e.left) (cells_at ags number (m + size ags e.left) e.right) _ k2) [] Calculus.nil [] none in
        let s = read-term e.left m q.0 (held_left m (cells_at ags number m e.left) _ k) _ _ _ r in
        let t = read-equations es (m + size ags e.left + size ags e.right) p.1 k3 in
        subst (ReadsAll mem (twos (codes ags number m (packed (sides (e ∷ es))))) (tree_equations ags number (e ∷ es)))
        (row (cells_in e.left) (cells_in e.right) (cells_within (packed (sides es))) (size ags e.left) (size ags e.right) z z2
        ∙ ap (from m) (sym (tally-append (declared ags) (words e.left) _ ∙ ap (λ i. cells_in e.left + i) (tally-append (declared ags) (words e.right) (words_in (packed (sides es)))))))
        (pairs s t)
      where
        row : (a b c i j : ℕ) → i ≡ a → j ≡ b → (from m a ++ (from (m + i) b ++ [])) ++ from (m + i + j) c ≡ from m (a + (b + c))
        row a b c i j x y =
            rw (x, y, append-nil (from (m + a) b), append_assoc (from m a) (from (m + a) b) (from (m + a + b) c), from-append b c (m + a)) (from-append a (b + c) m)
