-- The codes of terms pass the walk, and it meets their names in reading order.
use Rattle.std.specs.Prelude.{ℕ, suc, ◌+◌, ◌≡◌, Bool, true, false, cond, not, ◌&&◌, ◌||◌, List, [], ◌∷◌, ◌++◌, map, eqb}
use Rattle.std.proofs.Math.Path.{refl}
use Rattle.std.proofs.Common.{sym, ap, ◌∙◌, append_assoc, arith, eqb-true, eq-eqb}
use Rattle.std.proofs.lemmas.List.{map-append}
use Rattle.texts.specs.Bytes.{Word, keep}
use Rattle.texts.specs.Terms.{Term, Terms, term, nil, cons, count}
use Rattle.texts.specs.Books.{Agent, declared}
use Rattle.parts.specs.Sides.{Side, name, cell}
use Rattle.model.specs.Table.{Cell}
use Rattle.texts.specs.Coded.{symbol_of, code_at, codes, cells_at, cells_from}
use Rattle.texts.proofs.Beneath.Tools.{never, both, keep_append}
use Rattle.texts.specs.Linear.{words, words_in}
use Rattle.texts.proofs.Beneath.Linear.{bare, bares, tally-append, size-words, no_terms}
use Rattle.texts.specs.TableTest.{tally, same_side, ahead, onward, head_is, rest, void, walk, met}

-- A name is passed over.
pub walk-name : (m x : ℕ) (cs : List Side) (ds : List Cell) → walk m (name x ∷ cs) ds ≡ walk m cs ds
unfolding walk onward
walk-name m x cs [] = refl
walk-name m x cs (d ∷ ds) = refl

pub met-name : (x : ℕ) (cs : List Side) (ds : List Cell) → met (name x ∷ cs) ds ≡ x ∷ met cs ds
unfolding met onward ahead
met-name x cs [] = refl
met-name x cs (d ∷ ds) = refl

-- A cell's arguments wait in its place.
pub walk_at : (m i : ℕ) (cs : List Side) (d : Cell) (ds : List Cell) → walk m (cell i ∷ cs) (d ∷ ds) ≡ (eqb m i && walk (suc m) (d.args ++ cs) ds)
unfolding walk onward head_is same_side rest
walk_at m i cs d ds = refl

pub walk-cell : (m : ℕ) (d : Cell) (cs : List Side) (ds : List Cell) → walk m (cell m ∷ cs) (d ∷ ds) ≡ walk (suc m) (d.args ++ cs) ds
walk-cell m d cs ds = walk_at m m cs d ds ∙ rw (eq-eqb m m refl)

pub met-cell : (m : ℕ) (d : Cell) (cs : List Side) (ds : List Cell) → met (cell m ∷ cs) (d ∷ ds) ≡ met (d.args ++ cs) ds
unfolding met onward ahead rest
met-cell m d cs ds = refl

-- What holds at the end, is kept by a name put in front, and by a cell put in front of its arguments, holds of all that passes the walk.
module _ (P : ℕ → List Side → List Cell → Type 0) (at_end : (m : ℕ) → P m [] [])
    (at_name : (m x : ℕ) (cs : List Side) (ds : List Cell) → P m cs ds → P m (name x ∷ cs) ds)
    (at_cell : (m : ℕ) (d : Cell) (cs : List Side) (ds : List Cell) → P (suc m) (d.args ++ cs) ds → P m (cell m ∷ cs) (d ∷ ds)) where
  walk-void : (m : ℕ) (i : ℕ) (cs : List Side) → walk m (cell i ∷ cs) [] ≡ false
  unfolding walk onward void
  walk-void m i cs = refl

  walk_none : (m : ℕ) (d : Cell) (ds : List Cell) → walk m [] (d ∷ ds) ≡ false
  unfolding walk onward head_is
  walk_none m d ds = refl

  no_cells_left : (m : ℕ) (cs : List Side) → walk m cs [] ≡ true → P m cs []
  no_cells_left m [] h = at_end m
  no_cells_left m (name x ∷ cs) h = at_name m x cs [] (no_cells_left m cs (sym (walk-name m x cs []) ∙ h))
  no_cells_left m (cell i ∷ cs) h = never (sym (walk-void m i cs) ∙ h)

  up_to-cell : (m : ℕ) (d : Cell) (ds : List Cell) → ((cs : List Side) → walk (suc m) (d.args ++ cs) ds ≡ true → P (suc m) (d.args ++ cs) ds)
      → (cs : List Side) → walk m cs (d ∷ ds) ≡ true → P m cs (d ∷ ds)
  up_to-cell m d ds ih [] h = never (sym (walk_none m d ds) ∙ h)
  up_to-cell m d ds ih (name x ∷ cs) h = at_name m x cs (d ∷ ds) (up_to-cell m d ds ih cs (sym (walk-name m x cs (d ∷ ds)) ∙ h))
  up_to-cell m d ds ih (cell i ∷ cs) h =
      let k = both (eqb m i) _ (sym (walk_at m i cs d ds) ∙ h) in
      let z : i ≡ m = sym (eqb-true m i k.0) in
      rw z (at_cell m d cs ds (ih cs k.1))

  pub walk_induction : (ds : List Cell) (m : ℕ) (cs : List Side) → walk m cs ds ≡ true → P m cs ds
  walk_induction [] m cs h = no_cells_left m cs h
  walk_induction (d ∷ ds) m cs h = up_to-cell m d ds (λ es k. walk_induction ds (suc m) (d.args ++ es) k) cs h

module _ (ags : List Agent) (number : Word → ℕ) where
  abbrev names_in : List Word → List Word
  names_in ws = keep (λ w. not (declared ags w)) ws

  one_name : (w : Word) → declared ags w ≡ false → (names_in (w ∷ []) ≡ w ∷ []) × (tally (declared ags) (w ∷ []) ≡ 0)
  unfolding keep tally
  one_name w h = (rw h, rw h)

  one_agent : (w : Word) (ws : List Word) → declared ags w ≡ true → (names_in (w ∷ ws) ≡ names_in ws) × (tally (declared ags) (w ∷ ws) ≡ suc (tally (declared ags) ws))
  unfolding keep tally
  one_agent w ws h = (rw h, rw h)

  nothing : (names_in [] ≡ []) × (tally (declared ags) [] ≡ 0)
  unfolding keep tally
  nothing = (refl, refl)

  mutual
    unfolding codes code_at cells_at words bare

    pub walk-term : (t : Term) (m : ℕ) (cs : List Side) (ds : List Cell) → bare ags t ≡ true
        → walk m (code_at ags number m t ∷ cs) (cells_at ags number m t ++ ds) ≡ walk (m + tally (declared ags) (words t)) cs ds
    walk-term (term w ts) m cs ds h =
        let q = both (declared ags w || eqb (count ts) 0) (bares ags ts) h in
        go (declared ags w) refl q.0 (walk-terms ts (suc m) cs ds q.1)
      where
        go : (d : Bool) → declared ags w ≡ d → (d || eqb (count ts) 0) ≡ true
            → walk (suc m) (codes ags number (suc m) ts ++ cs) (cells_from ags number (suc m) ts ++ ds) ≡ walk (suc m + tally (declared ags) (words_in ts)) cs ds
            → walk m (cond d (cell m) (name (number w)) ∷ cs)
            (cond d (record { symbol = symbol_of ags w; args = codes ags number (suc m) ts } ∷ cells_from ags number (suc m) ts) [] ++ ds)
            ≡ walk (m + tally (declared ags) (w ∷ words_in ts)) cs ds
        go true e k ih =
            let z : m + suc (tally (declared ags) (words_in ts)) ≡ suc m + tally (declared ags) (words_in ts) = omega arith in
            walk-cell m (record { symbol = symbol_of ags w; args = codes ags number (suc m) ts }) cs (cells_from ags number (suc m) ts ++ ds)
            ∙ (ih ∙ rw ((one_agent w (words_in ts) e).1, z))
        go false e k ih =
            let z : m + 0 ≡ m = omega arith in
            walk-name m (number w) cs ds ∙ rw (no_terms ts k, (one_name w e).1, z)

    pub walk-terms : (ts : Terms) (m : ℕ) (cs : List Side) (ds : List Cell) → bares ags ts ≡ true
        → walk m (codes ags number m ts ++ cs) (cells_from ags number m ts ++ ds) ≡ walk (m + tally (declared ags) (words_in ts)) cs ds
    walk-terms nil m cs ds h = let z : m + 0 ≡ m = omega arith in rw (nothing.1, z)
    walk-terms (cons t ts) m cs ds h =
        let q = both (bare ags t) (bares ags ts) h in
        let n : ℕ = m + tally (declared ags) (words t) in
        let z : m + (tally (declared ags) (words t) + tally (declared ags) (words_in ts)) ≡ m + tally (declared ags) (words t) + tally (declared ags) (words_in ts) = omega arith in
        rw (size-words ags t, tally-append (declared ags) (words t) (words_in ts), z, append_assoc)
        (walk-term t m (codes ags number (m + tally (declared ags) (words t)) ts ++ cs) (cells_from ags number (m + tally (declared ags) (words t)) ts ++ ds) q.0
        ∙ walk-terms ts (m + tally (declared ags) (words t)) cs ds q.1)

  mutual
    unfolding codes code_at cells_at words bare

    pub met-term : (t : Term) (m : ℕ) (cs : List Side) (ds : List Cell) → bare ags t ≡ true
        → met (code_at ags number m t ∷ cs) (cells_at ags number m t ++ ds) ≡ map number (names_in (words t)) ++ met cs ds
    met-term (term w ts) m cs ds h =
        let q = both (declared ags w || eqb (count ts) 0) (bares ags ts) h in
        go (declared ags w) refl q.0 (met-terms ts (suc m) cs ds q.1)
      where
        go : (d : Bool) → declared ags w ≡ d → (d || eqb (count ts) 0) ≡ true
            → met (codes ags number (suc m) ts ++ cs) (cells_from ags number (suc m) ts ++ ds) ≡ map number (names_in (words_in ts)) ++ met cs ds
            → met (cond d (cell m) (name (number w)) ∷ cs)
            (cond d (record { symbol = symbol_of ags w; args = codes ags number (suc m) ts } ∷ cells_from ags number (suc m) ts) [] ++ ds)
            ≡ map number (names_in (w ∷ words_in ts)) ++ met cs ds
        go true e k ih =
            met-cell m (record { symbol = symbol_of ags w; args = codes ags number (suc m) ts }) cs (cells_from ags number (suc m) ts ++ ds)
            ∙ (ih ∙ rw (one_agent w (words_in ts) e).0)
        go false e k ih = met-name (number w) cs ds ∙ rw (no_terms ts k, (one_name w e).0)

    pub met-terms : (ts : Terms) (m : ℕ) (cs : List Side) (ds : List Cell) → bares ags ts ≡ true
        → met (codes ags number m ts ++ cs) (cells_from ags number m ts ++ ds) ≡ map number (names_in (words_in ts)) ++ met cs ds
    met-terms nil m cs ds h = rw nothing.0
    met-terms (cons t ts) m cs ds h =
        let q = both (bare ags t) (bares ags ts) h in
        rw (size-words ags t, keep_append (λ w. not (declared ags w)) (words t) (words_in ts), map-append number (names_in (words t)) (names_in (words_in ts)), append_assoc, append_assoc)
        (met-term t m (codes ags number (m + tally (declared ags) (words t)) ts ++ cs) (cells_from ags number (m + tally (declared ags) (words t)) ts ++ ds) q.0
        ∙ ap (λ l. map number (names_in (words t)) ++ l) (met-terms ts (m + tally (declared ags) (words t)) cs ds q.1))
