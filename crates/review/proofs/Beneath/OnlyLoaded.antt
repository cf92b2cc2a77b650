-- A sound state that is a net loaded, as `LoadedSo` says it, is the only one.
use Rattle.std.specs.Prelude.{ℕ, suc, ◌+◌, ◌*◌, ◌/◌, ◌%◌, ◌≤◌, ◌<◌, max, pred, ◌≡◌, Bool, true, false, cond, not, ◌⊎◌, length, get_or, take, drop}
use Rattle.std.proofs.Math.Path.{refl, ap₂}
use Rattle.std.proofs.Common.{sym, ap, subst, ◌∙◌, inl, inr, ⊎_elim, div-add-mod', mod-lt, arith, ext_get_or, get_or-take, get_or-drop, length-take-le}
use mathlib.Core.List.Memᴰ
use mathlib.Core.List.{List, [], ◌∷◌, ◌++◌, map, append_assoc}
use Rattle.std.proofs.Math.Decide.{dec_lt, ℕ_discrete}
use Rattle.std.proofs.lemmas.List.{length-map}
use Rattle.std.proofs.Math.ListN.{get_or-map}
use Rattle.calculus.specs.Terms.{node, var}
use Rattle.calculus.specs.Terms as Calculus
use Rattle.parts.specs.Limits.{arity_max}
use Rattle.parts.specs.Sides.{Side, Pair, ◌:=◌, code, side}
use Rattle.parts.specs.Codes.{code-side}
use Rattle.model.specs.State.{St, Stack, stack, st, listed, unpack, equation, from}
use Rattle.model.specs.Table.{Table}
use Rattle.model.specs.Reading.{ReadsAll}
use Rattle.model.specs.Sound.{Sound, mem_of, width}
use Rattle.model.specs.Sound as Machine
use Rattle.model.proofs.Beneath.Froms.{from_in}
use Rattle.model.proofs.Beneath.Sources.{Source, Sources, one_source, one_source_all}
use Rattle.texts.specs.Bytes.{Word, In}
use Rattle.texts.specs.Terms.{Term, Terms, term, nil, cons, nodes, words_of}
use Rattle.texts.specs.Books.{Agent, Equation, Net, declared, sides, cells_of, names_of, net_terms}
use Rattle.texts.specs.Coded.{packed, symbol_of}
use Rattle.texts.specs.Meaning.{tree, trees, tree_equations}
use Rattle.texts.specs.Linear.{words, words_in}
use Rattle.texts.proofs.Beneath.Linear.{words_all}
use Rattle.texts.proofs.Beneath.Places.{in_keep}
use Rattle.review.specs.Loads.{FirstMet, LoadedSo}

-- Two ways to number words by first meeting, each with different numbers for different words, are one.
module _ (f g : Word → ℕ) (all : List Word)
    (f-apart : (v w : Word) → In v all → In w all → f v ≡ f w → v ≡ w)
    (g-apart : (v w : Word) → In v all → In w all → g v ≡ g w → v ≡ w) where
  -- what was met so far: those numbered below m
  record Met (done : List Word) (m : ℕ) : Type 0 where
    known : (v : Word) → In v done → In v all × (f v ≡ g v) × (f v < m)
    taken : (i : ℕ) → i < m → (v : Word) × In v done × (f v ≡ i)

  next : (done : List Word) (m : ℕ) → Met done m → (w : Word) → In w all → f w ≤ m → g w ≤ m → f w ≡ g w
  next done m M w i p q = go (dec_lt (f w) m) (dec_lt (g w) m)
    where
      go : Dec (f w < m) → Dec (g w < m) → f w ≡ g w
      go (yes a) d =
          let t = M.taken (f w) a in
          let k = M.known t.0 t.1 in
          let e : t.0 ≡ w = f-apart t.0 w k.0 i t.2 in
          sym t.2 ∙ k.1 ∙ ap g e
      go (no a) (yes b) =
          let t = M.taken (g w) b in
          let k = M.known t.0 t.1 in
          let e : t.0 ≡ w = g-apart t.0 w k.0 i (sym k.1 ∙ t.2) in
          absurd (omega (arith, a, k.2, ap f e))
      go (no a) (no b) = omega (arith, a, b, p, q)

  met_more : (done : List Word) (m : ℕ) → Met done m → (w : Word) → In w all → f w ≤ m → f w ≡ g w
      → Met (w ∷ done) (max m (suc (f w)))
  met_more done m M w i p e =
      record {
        known = λ v k. ⊎_elim
            (λ z. (Memᴰ.cast z i, ap f z ∙ e ∙ sym (ap g z), omega (arith, ap f z)))
            (λ j. let o = M.known v j in (o.0, o.1, omega (arith, o.2)))
            (Memᴰ.cases_cons k);
        taken = λ j o. at j o (dec_lt j m);
      }
    where
      at : (j : ℕ) → j < max m (suc (f w)) → Dec (j < m) → (v : Word) × In v (w ∷ done) × (f v ≡ j)
      at j o (yes a) = let t = M.taken j a in (t.0, Memᴰ.tail t.1, t.2)
      at j o (no a) = (w, Memᴰ.head refl, omega (arith, o, a, p))

  numbers-agree : (ws done : List Word) (m : ℕ) → ((v : Word) → In v ws → In v all) → Met done m
      → FirstMet m (map f ws) → FirstMet m (map g ws) → (w : Word) → In w ws → f w ≡ g w
  numbers-agree [] done m s M a b w k = absurd (Memᴰ.not-nil k)
  numbers-agree (v ∷ ws) done m s M a b w k =
      let i = s v (Memᴰ.head refl) in
      let e = next done m M v i a.0 b.0 in
      ⊎_elim
      (λ z. ap f z ∙ e ∙ sym (ap g z))
      (λ j.
      numbers-agree
      ws
      (v ∷ done)
      (max m (suc (f v)))
      (λ u q. s u (Memᴰ.tail q))
      (met_more done m M v i a.0 e)
      a.1
      (subst (λ x. FirstMet (max m (suc x)) (map g ws)) (sym e) b.1)
      w
      j)
      (Memᴰ.cases_cons k)

  pub one_numbering : FirstMet 0 (map f all) → FirstMet 0 (map g all) → (w : Word) → In w all → f w ≡ g w
  one_numbering a b w k =
      numbers-agree
      all
      []
      0
      (λ v i. i)
      (record { known = λ v i. absurd (Memᴰ.not-nil i); taken = λ i o. absurd (omega (arith, o)) })
      a
      b
      w
      k

-- Terms depend on the numbers of their names only.
module _ (ags : List Agent) (f g : Word → ℕ) where
  mutual
    unfolding tree words

    tree_same : (t : Term) → ((w : Word) → In w (words t) → declared ags w ≡ false → f w ≡ g w) → tree ags f t ≡ tree ags g t
    tree_same (term w ts) h = go (declared ags w) refl (trees_same ts (λ v m. h v (Memᴰ.tail m)))
      where
        go : (d : Bool) → declared ags w ≡ d → trees ags f ts ≡ trees ags g ts
            → ◌≡◌ {A = Calculus.Term} (cond d (node (symbol_of ags w) (trees ags f ts)) (var (f w))) (cond d (node (symbol_of ags w) (trees ags g ts)) (var (g w)))
        go true e ih = ap (node (symbol_of ags w)) ih
        go false e ih = ap var (h w (Memᴰ.head refl) e)

    trees_same : (ts : Terms) → ((w : Word) → In w (words_in ts) → declared ags w ≡ false → f w ≡ g w) → trees ags f ts ≡ trees ags g ts
    trees_same nil h = refl
    trees_same (cons t ts) h =
        ap₂
        Calculus.cons
        (tree_same t (λ w m. h w (Memᴰ.append_left (words_in ts) m)))
        (trees_same ts (λ w m. h w (Memᴰ.append_right (words t) m)))

  equations_same : (es : List Equation)
      → ((w : Word) → In w (words_in (packed (sides es))) → declared ags w ≡ false → f w ≡ g w)
      → tree_equations ags f es ≡ tree_equations ags g es
  unfolding tree_equations sides packed words
  equations_same [] h = refl
  equations_same (e ∷ es) h =
      ap₂
      ◌∷◌
      (ap₂
      Calculus.◌≐◌
      (tree_same e.left (λ w m. h w (Memᴰ.append_left _ m)))
      (tree_same e.right (λ w m. h w (Memᴰ.append_right (words e.left) (Memᴰ.append_left _ m)))))
      (equations_same es (λ w m. h w (Memᴰ.append_right (words e.left) (Memᴰ.append_right (words e.right) m))))

words-both : (ts us : List Term) → words_in (packed (ts ++ us)) ≡ words_in (packed ts) ++ words_in (packed us)
unfolding packed words
words-both [] us = refl
words-both (t ∷ ts) us = ap (λ l. words t ++ l) (words-both ts us) ∙ sym (append_assoc (words t) _ _)

name_in : (ags : List Agent) (ts : List Term) (w : Word) → In w (words_in (packed ts)) → declared ags w ≡ false
    → In w (names_of ags ts)
unfolding names_of
name_in ags ts w m e = in_keep (λ v. not (declared ags v)) w (words_of (nodes ts)) (subst (In w) (sym (words_all ts)) m) (ap not e)

-- Words from the sides that they are.
word_of : (a b : ℕ) → side a ≡ side b → a ≡ b
word_of a b e = sym (code-side a) ∙ ap code e ∙ code-side b

row_words : (n : ℕ) (l m : List ℕ) → map side (take n l) ≡ map side (take n m) → (j : ℕ) → j < n → get_or l j 0 ≡ get_or m j 0
row_words n l m e j h = word_of _ _ (sym (at l) ∙ ap (λ k. get_or k j (side 0)) e ∙ at m)
  where
    at : (k : List ℕ) → get_or (map side (take n k)) j (side 0) ≡ side (get_or k j 0)
    at k = get_or-map side (take n k) j 0 ∙ ap side (get_or-take n k j 0 h)

unpack-words : (n : ℕ) (l m : List ℕ) → unpack n l ≡ unpack n m → (k : ℕ) → k < n
    → (get_or l (2 * k) 0 ≡ get_or m (2 * k) 0) × (get_or l (1 + 2 * k) 0 ≡ get_or m (1 + 2 * k) 0)
unpack-words ℕ.zero l m e k h = absurd (omega arith)
unpack-words (ℕ.suc n) l m e k h = go (ℕ_discrete k n) (λ o. unpack-words n l m (ap (drop 1) e) k o)
  where
    first : equation n l ≡ equation n m
    first = ap (λ ps. get_or ps 0 (equation n l)) e

    left_of : Pair → Side
    left_of (a := b) = a

    right_of : Pair → Side
    right_of (a := b) = b

    here : (get_or l (2 * n) 0 ≡ get_or m (2 * n) 0) × (get_or l (1 + 2 * n) 0 ≡ get_or m (1 + 2 * n) 0)
    here = (word_of _ _ (ap left_of first), word_of _ _ (ap right_of first))

    go : Dec (k ≡ n) → (k < n → (get_or l (2 * k) 0 ≡ get_or m (2 * k) 0) × (get_or l (1 + 2 * k) 0 ≡ get_or m (1 + 2 * k) 0))
        → (get_or l (2 * k) 0 ≡ get_or m (2 * k) 0) × (get_or l (1 + 2 * k) 0 ≡ get_or m (1 + 2 * k) 0)
    go (yes q) r = subst (λ j. (get_or l (2 * j) 0 ≡ get_or m (2 * j) 0) × (get_or l (1 + 2 * j) 0 ≡ get_or m (1 + 2 * j) 0)) (sym q) here
    go (no q) r = r (omega (arith, q, h))

unpack-long : (n : ℕ) (l : List ℕ) → length (unpack n l) ≡ n
unpack-long ℕ.zero l = refl
unpack-long (ℕ.suc n) l = ap suc (unpack-long n l)

stack-eq : (k l : Stack) → k.words ≡ l.words → k.used ≡ l.used → k ≡ l
stack-eq k l a b = ap₂ stack a b

-- Whether a number is that of some word.
number-found : (f : Word → ℕ) (ws : List Word) (x : ℕ) → ((w : Word) × In w ws × (f w ≡ x)) ⊎ ((w : Word) → In w ws → ¬ (f w ≡ x))
number-found f [] x = inr (λ w i e. Memᴰ.not-nil i)
number-found f (v ∷ ws) x = go (ℕ_discrete (f v) x) (number-found f ws x)
  where
    go : Dec (f v ≡ x) → ((w : Word) × In w ws × (f w ≡ x)) ⊎ ((w : Word) → In w ws → ¬ (f w ≡ x))
        → ((w : Word) × In w (v ∷ ws) × (f w ≡ x)) ⊎ ((w : Word) → In w (v ∷ ws) → ¬ (f w ≡ x))
    go (yes e) r = inl (v, Memᴰ.head refl, e)
    go (no e) (inl r) = inl (r.0, Memᴰ.tail r.1, r.2)
    go (no e) (inr r) = inr (λ w i q. ⊎_elim (λ z. e (sym (ap f z) ∙ q)) (λ j. r w j q) (Memᴰ.cases_cons i))

module _ {ags : List Agent} {T : Table} {n : Net} {s s' : St}
    (all_cells : length (cells_of ags (net_terms n)) ≡ length (cells_of ags n.face) + length (cells_of ags (sides n.equations)))
    (A : LoadedSo ags T n s) (B : LoadedSo ags T n s') (h : Sound T s) (h' : Sound T s') where
  same_number : (w : Word) → In w (names_of ags (net_terms n)) → A.number w ≡ B.number w
  same_number =
      one_numbering A.number B.number (names_of ags (net_terms n)) A.apart B.apart A.names_met B.names_met

  face-terms : trees ags A.number (packed n.face) ≡ trees ags B.number (packed n.face)
  unfolding net_terms
  face-terms =
      trees_same ags A.number B.number (packed n.face)
      (λ w m e. same_number w (name_in ags (net_terms n) w
      (subst (In w) (sym (words-both n.face (sides n.equations))) (Memᴰ.append_left _ m)) e))

  waiting-terms : tree_equations ags A.number n.equations ≡ tree_equations ags B.number n.equations
  unfolding net_terms
  waiting-terms =
      equations_same ags A.number B.number n.equations
      (λ w m e. same_number w (name_in ags (net_terms n) w
      (subst (In w) (sym (words-both n.face (sides n.equations))) (Memᴰ.append_right (words_in (packed n.face)) m)) e))

  face_source : Source (mem_of T s) (mem_of T s') (Machine.sides s.face) (Machine.sides s'.face) (from 0 (length (cells_of ags n.face))) [] []
  face_source = one_source A.face B.face face-terms [] [] refl

  waiting_source : Sources (mem_of T s) (mem_of T s') (listed s.waiting) (listed s'.waiting)
      (from (length (cells_of ags n.face)) (length (cells_of ags (sides n.equations)))) [] []
  waiting_source =
      one_source_all
      A.waiting
      (subst
      (λ m. ReadsAll (mem_of T s') (listed s'.waiting) m (from (length (cells_of ags n.face)) (length (cells_of ags (sides n.equations)))))
      (sym waiting-terms)
      B.waiting)
      []
      []
      refl

  same_cell : (c : ℕ) → c < length (cells_of ags (net_terms n)) → mem_of T s c ≡ mem_of T s' c
  same_cell c o = go (dec_lt c (length (cells_of ags n.face)))
    where
      go : Dec (c < length (cells_of ags n.face)) → mem_of T s c ≡ mem_of T s' c
      go (yes p) =
          face_source.cells c (omega (arith, from_in (length (cells_of ags n.face)) 0 c (omega arith) (omega (arith, p))))
      go (no p) =
          waiting_source.cells c
          (omega (
            arith,
            from_in
                (length (cells_of ags (sides n.equations)))
                (length (cells_of ags n.face))
                c
                (omega (arith, p))
                (omega (arith, o, all_cells)),
          ))

  symbol_at : (c : ℕ) → get_or s.symbols c 0 ≡ get_or s'.symbols c 0
  symbol_at c = go (dec_lt c (length (cells_of ags (net_terms n))))
    where
      positive : (a b : ℕ) → 0 < a → 0 < b → pred a ≡ pred b → a ≡ b
      positive (ℕ.suc a) (ℕ.suc b) p q e = ap suc e
      positive (ℕ.suc a) ℕ.zero p q e = absurd (omega (arith, q))
      positive ℕ.zero b p q e = absurd (omega (arith, p))

      go : Dec (c < length (cells_of ags (net_terms n))) → get_or s.symbols c 0 ≡ get_or s'.symbols c 0
      go (yes o) = positive _ _ (A.cells_used c o) (B.cells_used c o) (ap (λ k. k.symbol) (same_cell c o))
      go (no o) = A.cells_free c (omega (arith, o)) ∙ sym (B.cells_free c (omega (arith, o)))

  symbols_same : s.symbols ≡ s'.symbols
  symbols_same =
      ext_get_or 0 s.symbols s'.symbols (h.sizes.symbols ∙ sym h'.sizes.symbols) (λ c o. symbol_at c)

  argument_at : (c k : ℕ) → k < arity_max → get_or s.arguments (arity_max * c + k) 0 ≡ get_or s'.arguments (arity_max * c + k) 0
  argument_at c k o = go (dec_lt k (width T.arities (get_or s.symbols c 0))) (dec_lt c (length (cells_of ags (net_terms n))))
    where
      blank : width T.arities (get_or s.symbols c 0) ≤ k
          → get_or s.arguments (arity_max * c + k) 0 ≡ get_or s'.arguments (arity_max * c + k) 0
      blank p =
          h.zeros.arguments c k o p
          ∙ sym (h'.zeros.arguments c k o (subst (λ v. width T.arities v ≤ k) (symbol_at c) p))

      go : Dec (k < width T.arities (get_or s.symbols c 0)) → Dec (c < length (cells_of ags (net_terms n)))
          → get_or s.arguments (arity_max * c + k) 0 ≡ get_or s'.arguments (arity_max * c + k) 0
      go (no p) d = blank (omega (arith, p))
      go (yes p) (no q) =
          absurd (omega (arith, p, ap (width T.arities) (A.cells_free c (omega (arith, q)))))
      go (yes p) (yes q) =
          sym (get_or-drop (arity_max * c) s.arguments k 0)
          ∙ row_words
          (width T.arities (get_or s.symbols c 0))
          (drop (arity_max * c) s.arguments)
          (drop (arity_max * c) s'.arguments)
          (ap (λ d. d.args) (same_cell c q)
          ∙ ap (λ v. map side (take (width T.arities v) (drop (arity_max * c) s'.arguments))) (sym (symbol_at c)))
          k
          p
          ∙ get_or-drop (arity_max * c) s'.arguments k 0

  arguments_same : s.arguments ≡ s'.arguments
  arguments_same =
      ext_get_or 0 s.arguments s'.arguments (h.sizes.arguments ∙ sym h'.sizes.arguments)
      (λ i o.
      let e : arity_max * (i / 4) + i % 4 ≡ i = omega (arith, div-add-mod' i 4) in
      subst
      (λ j. get_or s.arguments j 0 ≡ get_or s'.arguments j 0)
      e
      (argument_at (i / 4) (i % 4) (mod-lt i {m = 4} (omega arith))))

  names_same : s.names ≡ s'.names
  names_same =
      ext_get_or 0 s.names s'.names (h.sizes.names ∙ sym h'.sizes.names)
      (λ x o. go x (number-found A.number (names_of ags (net_terms n)) x))
    where
      go : (x : ℕ)
          → ((w : Word) × In w (names_of ags (net_terms n)) × (A.number w ≡ x)) ⊎ ((w : Word) → In w (names_of ags (net_terms n)) → ¬ (A.number w ≡ x))
          → get_or s.names x 0 ≡ get_or s'.names x 0
      go x (inl (w, i, e)) =
          ap (λ y. get_or s.names y 0) (sym e)
          ∙ A.names_bare w i
          ∙ sym (B.names_bare w i)
          ∙ ap (λ y. get_or s'.names y 0) (sym (same_number w i) ∙ e)
      go x (inr q) = A.names_free x q ∙ sym (B.names_free x (λ w i e. q w i (same_number w i ∙ e)))

  face-used : s.face.used ≡ s'.face.used
  face-used =
      sym (long s.face (omega (arith, h.sizes.faces, h.sizes.face)))
      ∙ ap length face_source.sides
      ∙ long s'.face (omega (arith, h'.sizes.faces, h'.sizes.face))
    where
      long : (l : Stack) → l.used ≤ length l.words → length (Machine.sides l) ≡ l.used
      long l o = length-map (take l.used l.words) side ∙ length-take-le l.used l.words o

  face_same : s.face ≡ s'.face
  face_same =
      stack-eq
      s.face
      s'.face
      (ext_get_or 0 s.face.words s'.face.words (h.sizes.face ∙ sym h'.sizes.face) (λ i o. go i (dec_lt i s.face.used)))
      face-used
    where
      go : (i : ℕ) → Dec (i < s.face.used) → get_or s.face.words i 0 ≡ get_or s'.face.words i 0
      go i (yes o) =
          row_words s.face.used s.face.words s'.face.words
          (face_source.sides ∙ ap (λ m. map side (take m s'.face.words)) (sym face-used)) i o
      go i (no o) = h.zeros.face i (omega (arith, o)) ∙ sym (h'.zeros.face i (omega (arith, o, face-used)))

  waiting-used : s.waiting.used ≡ s'.waiting.used
  waiting-used =
      sym (unpack-long s.waiting.used s.waiting.words)
      ∙ ap length waiting_source.equations
      ∙ unpack-long s'.waiting.used s'.waiting.words

  waiting_same : s.waiting ≡ s'.waiting
  waiting_same =
      stack-eq
      s.waiting
      s'.waiting
      (ext_get_or 0 s.waiting.words s'.waiting.words (h.sizes.waiting ∙ sym h'.sizes.waiting)
      (λ i o. go i (dec_lt i (2 * s.waiting.used))))
      waiting-used
    where
      pair_at : (k : ℕ) → k < s.waiting.used
          → (get_or s.waiting.words (2 * k) 0 ≡ get_or s'.waiting.words (2 * k) 0)
          × (get_or s.waiting.words (1 + 2 * k) 0 ≡ get_or s'.waiting.words (1 + 2 * k) 0)
      pair_at k o =
          unpack-words s.waiting.used s.waiting.words s'.waiting.words
          (waiting_source.equations ∙ ap (λ m. unpack m s'.waiting.words) (sym waiting-used)) k o

      within : (i r : ℕ) → i / 2 * 2 + r ≡ i → r < 2 → i < 2 * s.waiting.used
          → get_or s.waiting.words i 0 ≡ get_or s'.waiting.words i 0
      within i ℕ.zero e l o =
          let q : 2 * (i / 2) ≡ i = omega (arith, e) in
          subst (λ j. get_or s.waiting.words j 0 ≡ get_or s'.waiting.words j 0) q (pair_at (i / 2) (omega (arith, q, o))).0
      within i (ℕ.suc ℕ.zero) e l o =
          let q : 1 + 2 * (i / 2) ≡ i = omega (arith, e) in
          subst (λ j. get_or s.waiting.words j 0 ≡ get_or s'.waiting.words j 0) q (pair_at (i / 2) (omega (arith, q, o))).1
      within i (ℕ.suc (ℕ.suc r)) e l o = absurd (omega (arith, l))

      go : (i : ℕ) → Dec (i < 2 * s.waiting.used) → get_or s.waiting.words i 0 ≡ get_or s'.waiting.words i 0
      go i (yes o) = within i (i % 2) (div-add-mod' i 2) (mod-lt i {m = 2} (omega arith)) o
      go i (no o) = h.zeros.waiting i (omega (arith, o)) ∙ sym (h'.zeros.waiting i (omega (arith, o, waiting-used)))

  stuck_same : s.stuck ≡ s'.stuck
  stuck_same =
      stack-eq
      s.stuck
      s'.stuck
      (ext_get_or 0 s.stuck.words s'.stuck.words (h.sizes.stuck ∙ sym h'.sizes.stuck)
      (λ i o. h.zeros.stuck i (omega (arith, A.nothing_stuck)) ∙ sym (h'.zeros.stuck i (omega (arith, B.nothing_stuck)))))
      (A.nothing_stuck ∙ sym B.nothing_stuck)

  pub one_load : s ≡ s'
  one_load =
      ap₂ (λ x y. st x y s.names s.waiting s.stuck s.face s.loops) symbols_same arguments_same
      ∙ ap₂ (λ x y. st s'.symbols s'.arguments x y s.stuck s.face s.loops) names_same waiting_same
      ∙ ap₂ (λ x y. st s'.symbols s'.arguments s'.names s'.waiting x y s.loops) stuck_same face_same
      ∙ ap (λ x. st s'.symbols s'.arguments s'.names s'.waiting s'.stuck s'.face x) (A.no_loop ∙ sym B.no_loop)
