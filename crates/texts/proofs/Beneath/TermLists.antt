-- Terms as lists, names as terms, and what the walk meets.
use Rattle.std.specs.Prelude.{ℕ, suc, ◌≡◌, refl, Bool, true, false, ◌&&◌, ◌||◌, length}
use Rattle.std.proofs.Common.{sym, ap, ◌∙◌, ⊎_elim, arith}
use mathlib.Core.List.Memᴰ
use mathlib.Core.List.{List, [], ◌∷◌, ◌++◌, map}
use Rattle.texts.specs.Bytes.{Word, any, all, same, among, In, Distinct}
use Rattle.texts.specs.Terms.{Term, Terms, term, nil, cons, count, identifier, Node, nodes_at, nodes_in, nodes, worded, wordeds}
use Rattle.texts.specs.Books.{sides, pairs, head_of, heads}
use Rattle.parts.specs.Sides.{Side, name, cell, Pair, ◌:=◌}
use Rattle.model.specs.Table.{Cell}
use Rattle.texts.specs.Coded.{packed, twos, unpaired}
use Rattle.texts.proofs.Beneath.Tools.{never, both, pair, none_of, in_among, all_left, all_right, all_append, any_append}
use Rattle.texts.specs.Linear.{words, words_in}
use Rattle.texts.specs.TableTest.{args_all, ahead, onward, rest, met}
use Rattle.texts.proofs.Beneath.Respelt.{word}

-- Terms as a list.
pub unpack : Terms → List Term
unpack nil = []
unpack (cons t ts) = t ∷ unpack ts

pub packed_back : (ts : Terms) → packed (unpack ts) ≡ ts
unfolding unpack packed
packed_back nil = refl
packed_back (cons t ts) = ap (cons t) (packed_back ts)

pub unpack-length : (ts : Terms) → length (unpack ts) ≡ count ts
unfolding unpack count
unpack-length nil = refl
unpack-length (cons t ts) = ap suc (unpack-length ts)

pub sides-pairs : (es : List Pair) (us : List Term) → length us ≡ length (unpaired es) → sides (pairs us) ≡ us
unfolding unpaired sides pairs
sides-pairs [] [] h = refl
sides-pairs [] (u ∷ us) h = absurd (omega (arith, h))
sides-pairs ((a := b) ∷ es) [] h = absurd (omega (arith, h))
sides-pairs ((a := b) ∷ es) (u ∷ []) h = absurd (omega (arith, h))
sides-pairs ((a := b) ∷ es) (u ∷ v ∷ us) h = ap (λ l. u ∷ v ∷ l) (sides-pairs es us (omega (arith, h)))

pub twos-unpaired : (es : List Pair) → twos (unpaired es) ≡ es
unfolding unpaired twos
twos-unpaired [] = refl
twos-unpaired ((a := b) ∷ es) = ap (λ l. (a := b) ∷ l) (twos-unpaired es)

-- Names as terms.
pub bare_terms : List Word → Terms
bare_terms [] = nil
bare_terms (w ∷ ws) = cons (term w nil) (bare_terms ws)

pub bare-heads : (ws : List Word) → (heads (bare_terms ws) ≡ ws) × (words_in (bare_terms ws) ≡ ws) × (count (bare_terms ws) ≡ length ws)
unfolding bare_terms heads head_of words count
bare-heads [] = (refl, refl, refl)
bare-heads (w ∷ ws) = let p = bare-heads ws in (ap (λ l. w ∷ l) p.0, ap (λ l. w ∷ l) p.1, ap suc p.2)

-- What the walk meets is in range.
module _ (good : Side → Bool) where
  abbrev pub named : ℕ → Bool
  named x = good (name x)

  pub met-front : (cs : List Side) → all good cs ≡ true → (all named (ahead cs) ≡ true) × (all good (rest (onward cs)) ≡ true)
  unfolding all ahead onward rest
  met-front [] h = (refl, refl)
  met-front (name x ∷ cs) h =
      let p = both (good (name x)) (all good cs) h in
      let ih = met-front cs p.1 in
      (pair (good (name x)) (all named (ahead cs)) p.0 ih.0, ih.1)
  met-front (cell c ∷ cs) h = (refl, (both (good (cell c)) (all good cs) h).1)

  pub met_all : (ds : List Cell) (cs : List Side) → all good cs ≡ true → all good (args_all ds) ≡ true → all named (met cs ds) ≡ true
  unfolding met args_all
  met_all [] cs h k = (met-front cs h).0
  met_all (d ∷ ds) cs h k =
      all_append named (ahead cs) _ (met-front cs h).0
      (met_all ds (d.args ++ rest (onward cs)) (all_append good d.args (rest (onward cs)) (all_left good d.args (args_all ds) k) (met-front cs h).1) (all_right good d.args (args_all ds) k))

pub among-append : (w : Word) (us vs : List Word) → among w (us ++ vs) ≡ (among w us || among w vs)
unfolding among
among-append w us vs = any_append (same w) us vs

pub nodes-unpack : (ts : Terms) → nodes (unpack ts) ≡ nodes_in 1 ts
unfolding unpack nodes nodes_at
nodes-unpack nil = refl
nodes-unpack (cons t ts) = rw (nodes-unpack ts)

pub worded-unpack : (ts : Terms) → wordeds ts ≡ true → all worded (unpack ts) ≡ true
unfolding unpack worded all
worded-unpack nil h = refl
worded-unpack (cons t ts) h = let p = both (worded t) (wordeds ts) h in pair (worded t) (all worded (unpack ts)) p.0 (worded-unpack ts p.1)

pub pairs-length : (es : List Pair) (us : List Term) → length us ≡ length (unpaired es) → length (pairs us) ≡ length es
unfolding unpaired pairs
pairs-length [] [] h = refl
pairs-length [] (u ∷ us) h = absurd (omega (arith, h))
pairs-length ((a := b) ∷ es) [] h = absurd (omega (arith, h))
pairs-length ((a := b) ∷ es) (u ∷ []) h = absurd (omega (arith, h))
pairs-length ((a := b) ∷ es) (u ∷ v ∷ us) h = ap suc (pairs-length es us (omega (arith, h)))

pub bare-any : (f : Node → Bool) (l : ℕ) (ws : List Word) → ((w : Word) → In w ws → f (record { word = w; args = 0; level = l }) ≡ false) → any f (nodes_in l (bare_terms ws)) ≡ false
unfolding bare_terms nodes_at any count
bare-any f l [] h = refl
bare-any f l (w ∷ ws) h = none_of (f (record { word = w; args = 0; level = l })) (any f (nodes_in l (bare_terms ws))) (h w (Memᴰ.head refl)) (bare-any f l ws (λ v m. h v (Memᴰ.tail m)))

pub bare-worded : (ws : List Word) → ((w : Word) → In w ws → identifier w ≡ true) → wordeds (bare_terms ws) ≡ true
unfolding bare_terms worded
bare-worded [] h = refl
bare-worded (w ∷ ws) h = pair (identifier w && true) (wordeds (bare_terms ws)) (pair (identifier w) true (h w (Memᴰ.head refl)) refl) (bare-worded ws (λ v m. h v (Memᴰ.tail m)))

pub two_any : (f : Node → Bool) (v w : Word) (us vs : Terms) → f (record { word = v; args = count us; level = 1 }) ≡ false → f (record { word = w; args = count vs; level = 1 }) ≡ false
    → any f (nodes_in 2 us) ≡ false → any f (nodes_in 2 vs) ≡ false → any f (nodes (term v us ∷ term w vs ∷ [])) ≡ false
unfolding nodes nodes_at any
two_any f v w us vs a b c d =
    none_of (f (record { word = v; args = count us; level = 1 })) _ a
    (any_append f (nodes_in 2 us) _ ∙ none_of (any f (nodes_in 2 us)) _ c
    (none_of (f (record { word = w; args = count vs; level = 1 })) _ b (any_append f (nodes_in 2 vs) [] ∙ none_of (any f (nodes_in 2 vs)) false d refl)))

pub distinct_append : (us vs : List Word) → Distinct us → Distinct vs → ((w : Word) → In w us → among w vs ≡ false) → Distinct (us ++ vs)
unfolding Distinct
distinct_append [] vs a b h = b
distinct_append (u ∷ us) vs (n, a) b h =
    (λ m. ⊎_elim n (λ k. never (sym (h u (Memᴰ.head refl)) ∙ in_among u vs k)) (Memᴰ.append_cases us m), distinct_append us vs a b (λ w m. h w (Memᴰ.tail m)))

pub map_in : (cs : List ℕ) (w : Word) → In w (map word cs) → (c : ℕ) × In c cs × (w ≡ word c)
map_in [] w m = absurd (Memᴰ.not-nil m)
map_in (c ∷ cs) w m = ⊎_elim (λ e. (c, Memᴰ.head refl, e)) (λ k. let p = map_in cs w k in (p.0, Memᴰ.tail p.1, p.2)) (Memᴰ.cases_cons m)
