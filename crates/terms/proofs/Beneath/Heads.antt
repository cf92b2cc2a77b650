-- One law for each way out of the functions that read a head. Assumes nothing.
use Rattle.std.specs.Prelude.{Option, None, Some, ℕ, zero, suc, ◌+◌, ◌-◌, ◌*◌, ◌<◌, ◌≤◌, ◌≡◌, refl, Bool, ◌&&◌, List, [], ◌∷◌, eqb, length, get_or, take, drop, true, false, cond, ltb, leb}
use Rattle.std.proofs.Common.{sym, ap, ◌∙◌, Fits, sub-one, arith, w16, lt-ltb, le-ltb, le-leb, ltb-true, ltb-false, leb-true, leb-false}
use borrow.Author.Tests.{lt-leb}
use Rattle.parts.specs.Limits.{text_max, identifier_max, symbols_max, arity_max, net_cells_max, net_names_max, agent_size}
use Rattle.parts.specs.Sides.{name, cell, code}
use Rattle.parts.specs.declared.CellNo.{CellNo}
use Rattle.texts.specs.Bytes.{Word, same, index_of}
use Rattle.texts.specs.Books.{Agent}
use Rattle.texts.proofs.Beneath.Tools.{both}
use Rattle.terms.specs.Sheet.{Sheet, opened, entered}
use Rattle.terms.specs.Agents.{spelling_at, agents_from, agents_of}
use Rattle.terms.specs.Words.{known, found, entries_from, entries}
use Rattle.terms.specs.Reader.{Done, done, fits, numbered, name_by, taking, cell_by, found_by, head_by}
use Rattle.terms.specs.declared.words.Agent.{Agent as Known}
use Rattle.terms.specs.declared.Head.{Head}

-- room for a name
module _ (n at long : ℕ) where
  pub fits-full : net_names_max ≤ n → false ≡ fits n at long
  unfolding fits
  fits-full h = rw (le-ltb n net_names_max h)

  pub fits-far : n < net_names_max → text_max ≤ at → false ≡ fits n at long
  unfolding fits
  fits-far h k = rw (lt-ltb n net_names_max h, le-ltb at text_max k)

  pub fits-long : n < net_names_max → at < text_max → leb long identifier_max ≡ fits n at long
  unfolding fits
  fits-long h k = rw (lt-ltb n net_names_max h, lt-ltb at text_max k)

  module _ {r : Bool} (e : r ≡ fits n at long) (t : r ≡ true) where
    all_fit : (n < net_names_max) × (at < text_max) × (long ≤ identifier_max)
    unfolding fits
    all_fit =
        let p = both (ltb n net_names_max && ltb at text_max) (leb long identifier_max) (sym e ∙ t) in
        let q = both (ltb n net_names_max) (ltb at text_max) p.0 in
        (ltb-true _ _ q.0, ltb-true _ _ q.1, leb-true _ _ p.1)

    pub fits-room : n < net_names_max
    fits-room = all_fit.0

    pub fits-place : Fits w16 at
    fits-place = omega (arith, all_fit.1)

    pub fits-length : Fits w16 long
    fits-length = omega (arith, all_fit.2)

-- a cell
module _ (s : Sheet) (symbol arity c : ℕ) (count : c ≡ s.cells) where
  pub cell_full : net_cells_max ≤ c → done None s ≡ cell_by symbol arity s
  unfolding cell_by
  cell_full h = rw (le-leb net_cells_max s.cells (rw count at h))

  module _ (room : c < net_cells_max) where
    pub cell-wide : arity_max < arity → done None s ≡ cell_by symbol arity s
    unfolding cell_by
    cell-wide h = rw (lt-leb net_cells_max s.cells (rw count at room), lt-ltb arity_max arity h)

    module _ (narrow : arity ≤ arity_max) (s₁ : Sheet) (p : s₁ ≡ opened c symbol s) where
      cell-taking : cell_by symbol arity s ≡ taking c arity s₁
      unfolding cell_by
      cell-taking = rw (lt-leb net_cells_max s.cells (rw count at room), le-ltb arity_max arity narrow, p, count)

      pub cell-plain : arity ≡ 0 → {v : ℕ} → v ≡ code (cell c) → done (Some (Head.Plain v)) s₁ ≡ cell_by symbol arity s
      unfolding taking
      cell-plain z e = rw (cell-taking, z, e)

      pub cell-takes : (arity ≡ 0 → ⊥) → done (Some (Head.Takes (record { 0 = c }) (arity - 1))) s₁ ≡ cell_by symbol arity s
      unfolding taking
      cell-takes f = rw cell-taking (go arity f)
        where
          go : (a : ℕ) → (a ≡ 0 → ⊥) → done (Some (Head.Takes (record { 0 = c }) (a - 1))) s₁ ≡ taking c a s₁
          go zero g = absurd (g refl)
          go (suc a) g = rw sub-one

-- a name
module _ (text : List ℕ) (at end n : ℕ) (s : Sheet) (count : n ≡ s.names) where
  pub name-over : net_names_max < n → done None s ≡ name_by text at end s
  unfolding name_by
  name-over h = rw (lt-ltb net_names_max s.names (rw count at h))

  module _ (room : n ≤ net_names_max) (word : Word) (w : word ≡ take
      (end - at) (drop at text)) (k : ℕ) (at-k : k ≡ index_of word (entries text s.places n)) where
    name-numbered : name_by text at end s ≡ numbered k at end s
    unfolding name_by
    name-numbered = rw (le-ltb net_names_max s.names (rw count at room), at-k, w, count)

    pub name_old : k < n → {v : ℕ} → v ≡ code (name k) → done (Some (Head.Plain v)) s ≡ name_by text at end s
    unfolding numbered
    name_old h e = rw (name-numbered, lt-ltb k s.names (rw count at h), e)

    module _ (new : n ≤ k) {r : Bool} (fit : r ≡ fits n at (end - at)) where
      pub name_none : r ≡ false → done None s ≡ name_by text at end s
      unfolding numbered
      name_none f = rw (name-numbered, le-ltb k s.names (rw count at new), sym (rw count at fit), f)

      pub name_new : r ≡ true → (s₁ : Sheet) → s₁ ≡ entered n at (end - at) s → {v : ℕ} → v ≡ code (name n)
          → done (Some (Head.Plain v)) s₁ ≡ name_by text at end s
      unfolding numbered
      name_new t s₁ p e = rw (name-numbered, le-ltb k s.names (rw count at new), sym (rw count at fit), t, e, p, count)

-- the place of a word among the first n names is n at the most
place_within : (w : Word) (ws : List Word) → index_of w ws ≤ length ws
unfolding index_of
place_within w [] = omega arith
place_within w (v ∷ vs) = go (same w v) (place_within w vs)
  where
    go : (t : Bool) → index_of w vs ≤ length vs → cond t 0 (suc (index_of w vs)) ≤ suc (length vs)
    go true h = omega arith
    go false h = omega arith

entries_count : (text places : List ℕ) (k n : ℕ) → length (entries_from text places k n) ≡ n
unfolding entries_from
entries_count text places k zero = refl
entries_count text places k (suc n) = ap suc (entries_count text places (k + 1) n)

pub number-within : (text places : List ℕ) (w : Word) {n k : ℕ} → k ≡ index_of w (entries text places n) → k ≤ n
unfolding entries
number-within text places w {n} e = omega (arith, e, place_within w (entries_from text places 0 n), entries_count text places 0 n)

-- a head
module _ (text : List ℕ) (ags : List Agent) (at end : ℕ) (s : Sheet) (word : Word) (w : word ≡ take
    (end - at) (drop at text)) (f : Option Known) (e : f ≡ found 0 ags word) where
  head-found : head_by text ags at end s ≡ found_by f text at end s
  unfolding head_by
  head-found = rw (e, w)

  pub head-name : f ≡ None → {d : Done (Option Head)} → d ≡ name_by text at end s → d ≡ head_by text ags at end s
  unfolding found_by
  head-name z p = rw (head-found, z) p

  pub head-cell : {a : Known} → f ≡ Some a → {d : Done (Option Head)} → d ≡ cell_by a.symbol.0 a.arity s
      → d ≡ head_by text ags at end s
  unfolding found_by
  head-cell z p = rw (head-found, z) p

-- a symbol that is found is one of the list
few : (n k : ℕ) (bytes : List ℕ) → length (agents_from n k bytes) ≤ n
unfolding agents_from
few zero k bytes = omega arith
few (suc n) k bytes = go (eqb (get_or bytes (agent_size * k + identifier_max) 0) 0) (few n (k + 1) bytes)
  where
    go : (t : Bool) → length (agents_from n (k + 1) bytes) ≤ n
        → length (cond t [] (record { symbol = spelling_at (agent_size * k) bytes; arity = get_or bytes (agent_size * k + identifier_max) 0 - 1 } ∷ agents_from n (k + 1) bytes)) ≤ suc n
    go true h = omega arith
    go false h = omega arith

found_below : (n : ℕ) (ags : List Agent) (w : Word) {a : Known} → found n ags w ≡ Some a
    → a.symbol.0 < n + length ags
unfolding found
found_below n [] w {a} e = absurd (let z : ◌≡◌ {A = ℕ} 0 1 = cc in omega arith)
found_below n (x ∷ xs) w {a} e = go (same w x.symbol) (found_below (n + 1) xs w) e
  where
    go : (t : Bool) → (found (n + 1) xs w ≡ Some a → a.symbol.0 < n + 1 + length xs)
        → cond t (Some (known n x.arity)) (found (n + 1) xs w) ≡ Some a
        → a.symbol.0 < n + suc (length xs)
    go true ih q = let z : known n x.arity ≡ a = cc in omega (arith, ap (λ (y : Known). y.symbol.0) z)
    go false ih q = omega (arith, ih q)

pub found-small : (bytes : List ℕ) (w : Word) {f : Option Known} {a : Known} → f ≡ found 0 (agents_of bytes) w
    → f ≡ Some a → a.symbol.0 < symbols_max
unfolding agents_of
found-small bytes w e q = omega (arith, few symbols_max 0 bytes, found_below 0 (agents_from symbols_max 0 bytes) w (sym e ∙ q))

-- a cell that takes arguments is in bounds, and so are they
module _ {c : CellNo} {m : ℕ} {s₁ : Sheet} where
  taking-small : (k a : ℕ) (s : Sheet) → k < net_cells_max → a ≤ arity_max → done (Some (Head.Takes c m)) s₁ ≡ taking k a s
      → (c.0 < net_cells_max) × (m < arity_max)
  unfolding taking
  taking-small k zero s h b e = absurd (let z : ◌≡◌ {A = ℕ} 0 1 = cc in omega arith)
  taking-small k (suc a) s h b e =
      let y : ◌≡◌ {A = CellNo} c (record { 0 = k }) = cc in
      let z : m ≡ a = cc in
      (omega (arith, ap (λ (y : CellNo). y.0) y), omega arith)

  cell-small : (symbol a : ℕ) (s : Sheet) → done (Some (Head.Takes c m)) s₁ ≡ cell_by symbol a s
      → (c.0 < net_cells_max) × (m < arity_max)
  unfolding cell_by
  cell-small symbol a s e = go (leb net_cells_max s.cells) (ltb arity_max a) refl refl e
    where
      go : (t u : Bool) → leb net_cells_max s.cells ≡ t → ltb arity_max a ≡ u
          → done (Some (Head.Takes c m)) s₁ ≡ cond t (done None s) (cond u (done None s) (taking s.cells a (opened s.cells symbol s)))
          → (c.0 < net_cells_max) × (m < arity_max)
      go true u p q d = absurd (let z : ◌≡◌ {A = ℕ} 0 1 = cc in omega arith)
      go false true p q d = absurd (let z : ◌≡◌ {A = ℕ} 0 1 = cc in omega arith)
      go false false p q d = taking-small s.cells a (opened s.cells symbol s) (leb-false _ _ p) (ltb-false _ _ q) d

  numbered-plain : (k at end : ℕ) (s : Sheet) → done (Some (Head.Takes c m)) s₁ ≡ numbered k at end s → ⊥
  unfolding numbered
  numbered-plain k at end s e = go (ltb k s.names) (fits s.names at (end - at)) e
    where
      go : (t u : Bool) → done (Some (Head.Takes c m)) s₁
          ≡ cond t (done (Some (Head.Plain (code (name k)))) s)
          (cond u (done (Some (Head.Plain (code (name s.names)))) (entered s.names at (end - at) s)) (done None s))
          → ⊥
      go true u d = let z : ◌≡◌ {A = ℕ} 0 1 = cc in omega arith
      go false true d = let z : ◌≡◌ {A = ℕ} 0 1 = cc in omega arith
      go false false d = let z : ◌≡◌ {A = ℕ} 0 1 = cc in omega arith

  -- a name takes no arguments
  pub name-bare : (text : List ℕ) (at end : ℕ) (s : Sheet) → done (Some (Head.Takes c m)) s₁ ≡ name_by text at end s → ⊥
  unfolding name_by
  name-bare text at end s e = go (ltb net_names_max s.names) e
    where
      go : (t : Bool) → done (Some (Head.Takes c m)) s₁
          ≡ cond t (done None s) (numbered (index_of (take (end - at) (drop at text)) (entries text s.places s.names)) at end s)
          → ⊥
      go true d = let z : ◌≡◌ {A = ℕ} 0 1 = cc in omega arith
      go false d = numbered-plain _ at end s d

  head_small : (f : Option Known) (text : List ℕ) (at end : ℕ) (s : Sheet)
      → done (Some (Head.Takes c m)) s₁ ≡ found_by f text at end s → (c.0 < net_cells_max) × (m < arity_max)
  unfolding found_by
  head_small None text at end s e = absurd (name-bare text at end s e)
  head_small (Some a) text at end s e = cell-small a.symbol.0 a.arity s e

pub takes-small : (text : List ℕ) (ags : List Agent) (at end : ℕ) (s s₁ : Sheet) {h : Option Head} {g : Head} {c : CellNo} {m : ℕ}
    → done h s₁ ≡ head_by text ags at end s → h ≡ Some g → g ≡ Head.Takes c m → (c.0 < net_cells_max) × (m < arity_max)
unfolding head_by
takes-small text ags at end s s₁ e p q = head_small _ text at end s (rw (p, q) at e)

-- the laws of each function
pub ruleset fits_laws = (fits-full, fits-far, fits-long)

pub ruleset head_laws = (head-name, head-cell, found-small)

pub ruleset cell_laws = (cell_full, cell-wide, cell-plain, cell-takes)

pub ruleset name_laws = (number-within, fits-room, fits-place, fits-length, name-over, name_old, name_none, name_new)
