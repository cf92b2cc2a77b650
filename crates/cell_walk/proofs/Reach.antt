-- The walk from all roots is the model's search, which has steps enough.
use Rattle.std.proofs.Common.{◌≡◌, refl, ap, sym, ◌∙◌, subst, Bool, true, false, List, [], ◌++◌, append-nil, ℕ, zero, suc, ◌+◌, ◌*◌, ◌<◌, ◌≤◌, arith, length, get_or, take, drop, length-set, length-take, length-append}
use Rattle.std.proofs.Math.Decide.{dec_lt}
use Rattle.std.proofs.Math.ListN.{length-map}
use Rattle.parts.specs.Limits.{arity_max, cells_max, names_max}
use Rattle.parts.specs.Sides.{Side, side}
use Rattle.model.specs.State.{St, zeros}
use Rattle.model.specs.Table as Model
use Rattle.model.specs.Sound.{width, Sizes, mem_of}
use Rattle.model.specs.Test.{every, Search, lost, saw, search_from, roots, searched, all_seen, reached}
use Rattle.model.proofs.Beneath.Facts.{zeros-length}
use Rattle.model.proofs.Beneath.Pool.{in_range}
use Rattle.sound.specs.Lent.{under, Usable}
use Rattle.sound.proofs.Tables.{width_small}
use Rattle.cell_walk.specs.Walks.{Walks, done, past, beyond, again, unused, into, unmet, Walked, Ready, all_roots, met}
use Rattle.cell_walk.proofs.Cells.{unmet-set}

-- One step of the search: at a name, by whether it is in range; at a cell, by its mark v and the word u of its symbol.
abbrev at_name : (x : ℕ) → Dec (x < names_max) → Search → Search
at_name x d r = elim d [ yes h ↦ r | no h ↦ lost ]

abbrev at_cell : ℕ → ℕ → Search → Search
at_cell v u r = elim v [ zero ↦ elim u [ zero ↦ lost | suc s ↦ r ] | suc s ↦ lost ]

name-past : (x : ℕ) (d : Dec (x < names_max)) (r : Search) → x < names_max → at_name x d r ≡ r
name-past x (yes q) r h = refl
name-past x (no q) r h = absurd (q h)

name-beyond : (x : ℕ) (d : Dec (x < names_max)) (r : Search) → names_max ≤ x → at_name x d r ≡ lost
name-beyond x (yes q) r h = absurd (omega arith)
name-beyond x (no q) r h = refl

cell-again : (v u : ℕ) (r : Search) → ¬ (v ≡ 0) → at_cell v u r ≡ lost
cell-again ℕ.zero u r z = absurd (z refl)
cell-again (ℕ.suc v) u r z = refl

cell-unused : (v u : ℕ) (r : Search) → u ≡ 0 → at_cell v u r ≡ lost
cell-unused ℕ.zero ℕ.zero r z = refl
cell-unused ℕ.zero (ℕ.suc u) r z = absurd (omega arith)
cell-unused (ℕ.suc v) u r z = refl

cell-into : (v u : ℕ) (r : Search) → v ≡ 0 → ¬ (u ≡ 0) → at_cell v u r ≡ r
cell-into ℕ.zero ℕ.zero r y z = absurd (z refl)
cell-into ℕ.zero (ℕ.suc u) r y z = refl
cell-into (ℕ.suc v) u r y z = absurd (omega arith)

-- A place where something stands is inside the list.
some_inside : (l : List ℕ) (c : ℕ) → ¬ (get_or l c 0 ≡ 0) → c < length l
some_inside l c q = in_range l c (some (get_or l c 0) q)
  where
    some : (v : ℕ) → ¬ (v ≡ 0) → 0 < v
    some ℕ.zero z = absurd (z refl)
    some (ℕ.suc v) z = omega arith

module _ (mem : ℕ → Model.Cell) (ss : List ℕ) (narrow : (c : ℕ) → length (mem c).args ≤ arity_max) where
  walks_search : {todo : List Side} {seen : List ℕ} {r : Search} → Walks mem ss todo seen r → (n : ℕ)
      → length todo + arity_max * unmet seen < n → length seen ≡ length ss → search_from n mem ss names_max todo seen ≡ r
  unfolding search_from
  walks_search k ℕ.zero h l = absurd (omega arith)
  walks_search done (ℕ.suc n) h l = refl
  walks_search (past {x = x} {todo = todo} p k) (ℕ.suc n) h l =
      name-past x (dec_lt x names_max) _ p ∙ walks_search {todo = todo} k n (omega arith) l
  walks_search (beyond {x = x} p) (ℕ.suc n) h l = name-beyond x (dec_lt x names_max) _ p
  walks_search (again {c = c} {seen = seen} p) (ℕ.suc n) h l = cell-again (get_or seen c 0) (get_or ss c 0) _ p
  walks_search (unused {c = c} {seen = seen} p) (ℕ.suc n) h l = cell-unused (get_or seen c 0) (get_or ss c 0) _ p
  walks_search (into {c = c} {todo = todo} {seen = seen} p q k) (ℕ.suc n) h l =
      let i : c < length seen = omega (arith, l, some_inside ss c q) in
      cell-into (get_or seen c 0) (get_or ss c 0) _ p q
      ∙ walks_search {todo = (mem c).args ++ todo} k n (omega (arith, length-append (mem c).args todo, narrow c, unmet-set seen c i p)) (length-set seen c 1 ∙ l)

unmet-zeros : (n : ℕ) → unmet (zeros n) ≡ n
unfolding unmet
unmet-zeros ℕ.zero = refl
unmet-zeros (ℕ.suc n) = ap suc (unmet-zeros n)

-- The whole walk.
module _ (w : List ℕ) (s : St) (u : Usable w × Sizes s) where
  args-few : (c : ℕ) → length (mem_of (under w) s c).args ≤ arity_max
  args-few c =
      omega (
        arith,
        width_small w u.0 (get_or s.symbols c 0),
        length-map (take (width (under w).arities (get_or s.symbols c 0)) (drop (arity_max * c) s.arguments)) side,
        length-take (width (under w).arities (get_or s.symbols c 0)) (drop (arity_max * c) s.arguments),
      )

  found : (m : ℕ) → length s.symbols ≡ m → (r : Search) → Walks (mem_of (under w) s) s.symbols (all_roots s) (zeros m) r
      → search_from (suc (length (roots s) + arity_max * m)) (mem_of (under w) s) s.symbols names_max (roots s) (zeros m) ≡ r
  unfolding all_roots
  found m e r k =
      walks_search (mem_of (under w) s) s.symbols args-few k (suc (length (roots s) + arity_max * m)) (omega (arith, unmet-zeros m)) (zeros-length m ∙ sym e)

  search_is : (r : Search) → Walks (mem_of (under w) s) s.symbols (all_roots s) (zeros (length s.symbols)) r → searched (under w) s ≡ r
  search_is r k = found (length s.symbols) refl r k

  module _ (seen seen₁ : List ℕ) (e : seen ≡ zeros cells_max) where
    from-zeros : {r : Search} → Walks (mem_of (under w) s) s.symbols (all_roots s ++ []) seen r → searched (under w) s ≡ r
    from-zeros {r} k =
        search_is r
        (subst (λ l. Walks (mem_of (under w) s) s.symbols l (zeros (length s.symbols)) r) (append-nil (all_roots s))
        (subst (λ z. Walks (mem_of (under w) s) s.symbols (all_roots s ++ []) z r) (e ∙ ap zeros (sym u.1.symbols)) k))

    pub ready_new : Ready s seen
    ready_new = record { sizes = u.1; marks = ap length e ∙ zeros-length cells_max }

    pub reached-lost : (ok : Bool) → Walked w s (all_roots s) seen ok seen₁ → ok ≡ false → ok ≡ reached (under w) s
    unfolding reached
    reached-lost ok f t =
        let g = subst (λ b. Walked w s (all_roots s) seen b seen₁) t f in
        t ∙ ap (λ r. all_seen r s.symbols) (sym (from-zeros (g.goes [] lost refl)))

    pub reached-saw : (ok r : Bool) → Walked w s (all_roots s) seen ok seen₁ → ok ≡ true
        → r ≡ every cells_max (met s.symbols seen₁) → r ≡ reached (under w) s
    unfolding reached met
    reached-saw ok r f t q =
        let g = subst (λ b. Walked w s (all_roots s) seen b seen₁) t f in
        q ∙ ap (λ r. all_seen r s.symbols) (sym (from-zeros (g.goes [] (saw seen₁) done)))
