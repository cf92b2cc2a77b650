-- Sides and cells that pass the walk are those of some terms.
use Prim.Native.Nat.{ℕ, zero, suc, ◌+◌, ◌≤◌}
use Rattle.std.specs.Prelude.{◌≡◌, Bool, false, not, ◌&&◌, List, [], ◌∷◌, ◌++◌, map, ltb}
use Rattle.std.proofs.Math.Path.{refl, sym, ap}
use Rattle.std.proofs.Common.{◌∙◌, append_assoc, eq-eqb, le-ltb}
use Rattle.std.proofs.Math.Bool.{true}
use native.Mathlib.Omega.{arith}
use Rattle.std.proofs.Math.ListN.{length, length-append}
use Rattle.parts.specs.Limits.{identifier_max, level_max}
use Rattle.texts.specs.Bytes.{Word, any, all, keep}
use Rattle.texts.specs.Terms.{Terms, term, nil, cons, count, Node, nodes_at, nodes_in, identifier, worded, wordeds}
use Rattle.texts.specs.Books.{Agent, declared, takes}
use Rattle.texts.specs.RuleText.{wrong_args, big_node, is_too_long}
use Rattle.parts.specs.Sides.{Side, name, cell}
use Rattle.model.specs.Table.{Cell}
use Rattle.texts.specs.Coded.{symbol_of, size, code_at, codes, cells_at, cells_from}
use Rattle.texts.proofs.Beneath.Tools.{both, pair, neither, none_of, any_append, all_append, all_left, all_right}
use Rattle.texts.specs.Linear.{words, words_in}
use Rattle.texts.proofs.Beneath.Linear.{tally-append, size-words, takes-name}
use Rattle.texts.specs.TableTest.{tally, args_all, cell_ok, ahead, walk, met}
use Rattle.texts.proofs.Beneath.SideWalk.{met-name, met-cell, walk_induction}

-- Terms in a row.
infixr 50 ◌⊕◌
◌⊕◌ : Terms → Terms → Terms
nil ⊕ vs = vs
(cons t us) ⊕ vs = cons t (us ⊕ vs)

-- The first n, and the others.
firsts : ℕ → Terms → Terms
firsts zero ts = nil
firsts (suc n) nil = nil
firsts (suc n) (cons t ts) = cons t (firsts n ts)

others : ℕ → Terms → Terms
others zero ts = ts
others (suc n) nil = nil
others (suc n) (cons t ts) = others n ts

parted : (n : ℕ) (ts : Terms) → firsts n ts ⊕ others n ts ≡ ts
unfolding firsts others ◌⊕◌
parted zero ts = refl
parted (suc n) nil = refl
parted (suc n) (cons t ts) = ap (cons t) (parted n ts)

firsts-count : (n : ℕ) (ts : Terms) → n ≤ count ts → count (firsts n ts) ≡ n
unfolding firsts count
firsts-count zero ts h = refl
firsts-count (suc n) nil h = absurd (omega (arith, h))
firsts-count (suc n) (cons t ts) h = ap suc (firsts-count n ts (omega (arith, h)))

split_eq : {A : Type 0} (xs ys us vs : List A) → xs ++ ys ≡ us ++ vs → length xs ≡ length us → (xs ≡ us) × (ys ≡ vs)
split_eq [] ys [] vs e h = (refl, e)
split_eq [] ys (u ∷ us) vs e h = absurd (omega (arith, h))
split_eq (x ∷ xs) ys [] vs e h = absurd (omega (arith, h))
split_eq (x ∷ xs) ys (u ∷ us) vs e h =
    let a : x ≡ u = cc in
    let b : xs ++ ys ≡ us ++ vs = cc in
    let p = split_eq xs ys us vs b (omega (arith, h)) in
    (rw (a, p.0), p.1)

module _ (ags : List Agent) where
  tally-nil : tally (declared ags) [] ≡ 0
  unfolding tally keep
  tally-nil = refl

  -- how many cells
  sizes : Terms → ℕ
  sizes ts = tally (declared ags) (words_in ts)

  words_row : (us vs : Terms) → words_in (us ⊕ vs) ≡ words_in us ++ words_in vs
  unfolding ◌⊕◌ words
  words_row nil vs = refl
  words_row (cons t us) vs = rw (words_row us vs, append_assoc)

  module _ (number : Word → ℕ) where
    codes-row : (us vs : Terms) (m : ℕ) → codes ags number m (us ⊕ vs) ≡ codes ags number m us ++ codes ags number (m + sizes us) vs
    unfolding ◌⊕◌ codes words sizes
    codes-row nil vs m = let z : m + 0 ≡ m = omega arith in rw (tally-nil, z)
    codes-row (cons t us) vs m =
        let z : m + (tally (declared ags) (words t) + tally (declared ags) (words_in us)) ≡ m + tally (declared ags) (words t) + tally (declared ags) (words_in us) = omega arith in
        rw (size-words ags t, tally-append (declared ags) (words t) (words_in us), z) (ap (λ l. code_at ags number m t ∷ l) (codes-row us vs (m + tally (declared ags) (words t))))

    cells-row : (us vs : Terms) (m : ℕ) → cells_from ags number m (us ⊕ vs) ≡ cells_from ags number m us ++ cells_from ags number (m + sizes us) vs
    unfolding ◌⊕◌ cells_at words sizes
    cells-row nil vs m = let z : m + 0 ≡ m = omega arith in rw (tally-nil, z)
    cells-row (cons t us) vs m =
        let z : m + (tally (declared ags) (words t) + tally (declared ags) (words_in us)) ≡ m + tally (declared ags) (words t) + tally (declared ags) (words_in us) = omega arith in
        rw (size-words ags t, tally-append (declared ags) (words t) (words_in us), z)
        (ap (λ l. cells_at ags number m t ++ l) (cells-row us vs (m + tally (declared ags) (words t))) ∙ sym (append_assoc (cells_at ags number m t) _ _))

  nodes-row : (us vs : Terms) (l : ℕ) → nodes_in l (us ⊕ vs) ≡ nodes_in l us ++ nodes_in l vs
  unfolding ◌⊕◌ nodes_at
  nodes-row nil vs l = refl
  nodes-row (cons t us) vs l = rw (nodes-row us vs l, append_assoc)

  worded-row : (us vs : Terms) → wordeds (us ⊕ vs) ≡ true → (wordeds us ≡ true) × (wordeds vs ≡ true)
  unfolding ◌⊕◌ worded
  worded-row nil vs h = (refl, h)
  worded-row (cons t us) vs h =
      let p = both (worded t) (wordeds (us ⊕ vs)) h in
      let q = worded-row us vs p.1 in
      (pair (worded t) (wordeds us) p.0 q.0, q.1)

  codes-count : (number : Word → ℕ) (ts : Terms) (m : ℕ) → length (codes ags number m ts) ≡ count ts
  unfolding codes count
  codes-count number nil m = refl
  codes-count number (cons t ts) m = ap suc (codes-count number ts _)

  -- how codes are spelt: a name by a word that is no symbol
  module _ (word : ℕ → Word) (good : Side → Bool)
      (plain : (x : ℕ) → good (name x) ≡ true → (declared ags (word x) ≡ false) × (identifier (word x) ≡ true) × (length (word x) ≤ identifier_max))
      (agent : (d : Cell) → cell_ok ags d ≡ true → (w : Word) × (declared ags w ≡ true) × (symbol_of ags w ≡ d.symbol) × (identifier w ≡ true) × (length w ≤ identifier_max) × (takes ags w ≡ length d.args)) where
    -- a way of coding that undoes the spelling
    pub record Undoes (number : Word → ℕ) : Type 0 where
      pub undone : (x : ℕ) → good (name x) ≡ true → number (word x) ≡ x

    pub record Rebuilt (m : ℕ) (cs : List Side) (ds : List Cell) : Type 0 where
      pub terms : Terms
      pub counted : count terms ≡ length cs
      pub coded : (number : Word → ℕ) → Undoes number → codes ags number m terms ≡ cs
      pub celled : (number : Word → ℕ) → Undoes number → cells_from ags number m terms ≡ ds
      pub names : keep (λ w. not (declared ags w)) (words_in terms) ≡ map word (met cs ds)
      pub arities : (l : ℕ) → any (wrong_args ags) (nodes_in l terms) ≡ false
      pub spelt : wordeds terms ≡ true
      pub small : (l : ℕ) → l + length ds ≤ level_max → any big_node (nodes_in l terms) ≡ false

    on_nil : (m : ℕ) → Rebuilt m [] []
    unfolding codes cells_at count words keep nodes_at any worded met ahead
    on_nil m = record {
      terms = nil;
      counted = refl;
      coded = λ number u. refl;
      celled = λ number u. refl;
      names = refl;
      arities = λ l. refl;
      spelt = refl;
      small = λ l h. refl;
    }

    size-name : (w : Word) → declared ags w ≡ false → size ags (term w nil) ≡ 0
    unfolding words tally keep
    size-name w h = size-words ags (term w nil) ∙ rw h

    size-cell : (w : Word) (us : Terms) → declared ags w ≡ true → size ags (term w us) ≡ suc (sizes us)
    unfolding words tally keep sizes
    size-cell w us h = size-words ags (term w us) ∙ rw h

    short : (w : Word) (l n : ℕ) → length w ≤ identifier_max → l ≤ level_max → big_node (record { word = w; args = n; level = l }) ≡ false
    unfolding big_node is_too_long
    short w l n h k = none_of (ltb identifier_max (length w)) (ltb level_max l) (le-ltb identifier_max (length w) h) (le-ltb level_max l k)

    fits : (w : Word) (l n : ℕ) → takes ags w ≡ n → wrong_args ags (record { word = w; args = n; level = l }) ≡ false
    unfolding wrong_args
    fits w l n h = rw (eq-eqb n (takes ags w) (sym h))

    on_name : (m : ℕ) (x : ℕ) (cs : List Side) (ds : List Cell) → good (name x) ≡ true → Rebuilt m cs ds → Rebuilt m (name x ∷ cs) ds
    unfolding codes code_at cells_at count words keep nodes_at any worded
    on_name m x cs ds g b =
        let p = plain x g in
        let z : m + 0 ≡ m = omega arith in
        record {
          terms = cons (term (word x) nil) b.terms;
          counted = ap suc b.counted;
          coded = λ number u. rw (p.0, size-name (word x) p.0, z, u.undone x g) (ap (λ l. name x ∷ l) (b.coded number u));
          celled = λ number u. rw (p.0, size-name (word x) p.0, z) (b.celled number u);
          names = rw (p.0, met-name x cs ds) (ap (λ l. word x ∷ l) b.names);
          arities = λ l. none_of (wrong_args ags (record { word = word x; args = 0; level = l })) (any (wrong_args ags) (nodes_in l b.terms))
              (fits (word x) l 0 (takes-name ags (word x) p.0)) (b.arities l);
          spelt = pair (identifier (word x) && true) (wordeds b.terms) (pair (identifier (word x)) true p.1 refl) b.spelt;
          small = λ l h. none_of (big_node (record { word = word x; args = 0; level = l })) (any big_node (nodes_in l b.terms))
              (short (word x) l 0 p.2 (omega (arith, h))) (b.small l h);
        }

    row_count : (us vs : Terms) → count (us ⊕ vs) ≡ count us + count vs
    unfolding ◌⊕◌ count
    row_count nil vs = omega arith
    row_count (cons t us) vs = ap suc (row_count us vs) ∙ omega arith

    any-row : (f : Node → Bool) (l : ℕ) (us vs : Terms) (ts : Terms) → us ⊕ vs ≡ ts → any f (nodes_in l ts) ≡ false → (any f (nodes_in l us) ≡ false) × (any f (nodes_in l vs) ≡ false)
    any-row f l us vs ts e h =
        neither (any f (nodes_in l us)) (any f (nodes_in l vs)) (sym (any_append f (nodes_in l us) (nodes_in l vs)) ∙ (ap (any f) (sym (nodes-row us vs l)) ∙ (ap (λ t. any f (nodes_in l t)) e ∙ h)))

    any-cell : (f : Node → Bool) (l : ℕ) (w : Word) (us vs : Terms) → f (record { word = w; args = count us; level = l }) ≡ false → any f (nodes_in (suc l) us) ≡ false → any f (nodes_in l vs) ≡ false
        → any f (nodes_in l (cons (term w us) vs)) ≡ false
    unfolding nodes_at any
    any-cell f l w us vs a b c =
        none_of (f (record { word = w; args = count us; level = l })) (any f (nodes_in (suc l) us ++ nodes_in l vs)) a
        (any_append f (nodes_in (suc l) us) (nodes_in l vs) ∙ none_of (any f (nodes_in (suc l) us)) (any f (nodes_in l vs)) b c)

    module _ (m : ℕ) (d : Cell) (cs : List Side) (ds : List Cell) (o : cell_ok ags d ≡ true) (b : Rebuilt (suc m) (d.args ++ cs) ds)
        (us vs : Terms) (e : us ⊕ vs ≡ b.terms) (k : count us ≡ length d.args) where
      abbrev w : Word
      w = (agent d o).0

      next : m + size ags (term w us) ≡ suc m + sizes us
      next = let z = size-cell w us (agent d o).1 in omega (arith, z)

      both-codes : (number : Word → ℕ) → Undoes number → (codes ags number (suc m) us ≡ d.args) × (codes ags number (suc m + sizes us) vs ≡ cs)
      both-codes number u =
          split_eq (codes ags number (suc m) us) (codes ags number (suc m + sizes us) vs) d.args cs
          (sym (codes-row number us vs (suc m)) ∙ (ap (codes ags number (suc m)) e ∙ b.coded number u)) (codes-count number us (suc m) ∙ k)

      both-cells : (number : Word → ℕ) → Undoes number → cells_from ags number (suc m) us ++ cells_from ags number (suc m + sizes us) vs ≡ ds
      both-cells number u = sym (cells-row number us vs (suc m)) ∙ (ap (cells_from ags number (suc m)) e ∙ b.celled number u)

      part-counted : count (cons (term w us) vs) ≡ length (cell m ∷ cs)
      unfolding count
      part-counted =
          let x = row_count us vs in
          let y : count (us ⊕ vs) ≡ length (d.args ++ cs) = ap count e ∙ b.counted in
          let z = length-append d.args cs in
          omega (arith, x, y, z, k)

      part-coded : (number : Word → ℕ) → Undoes number → codes ags number m (cons (term w us) vs) ≡ cell m ∷ cs
      unfolding codes code_at
      part-coded number u = rw ((agent d o).1, next) (ap (λ l. cell m ∷ l) (both-codes number u).1)

      part-celled : (number : Word → ℕ) → Undoes number → cells_from ags number m (cons (term w us) vs) ≡ d ∷ ds
      unfolding cells_at
      part-celled number u = rw ((agent d o).1, next, (agent d o).2, (both-codes number u).0) (ap (λ l. d ∷ l) (both-cells number u))

      part-names : keep (λ v. not (declared ags v)) (words_in (cons (term w us) vs)) ≡ map word (met (cell m ∷ cs) (d ∷ ds))
      unfolding words keep
      part-names = rw ((agent d o).1, met-cell m d cs ds, ← words_row us vs, e) b.names

      part-spelt : wordeds (cons (term w us) vs) ≡ true
      unfolding worded
      part-spelt =
          let q = worded-row us vs (ap wordeds e ∙ b.spelt) in
          pair (identifier w && wordeds us) (wordeds vs) (pair (identifier w) (wordeds us) (agent d o).3 q.0) q.1

      from_parts : Rebuilt m (cell m ∷ cs) (d ∷ ds)
      from_parts = record {
        terms = cons (term w us) vs;
        counted = part-counted;
        coded = part-coded;
        celled = part-celled;
        names = part-names;
        arities = λ l. any-cell (wrong_args ags) l w us vs (fits w l (count us) ((agent d o).5 ∙ sym k))
            (any-row (wrong_args ags) (suc l) us vs b.terms e (b.arities (suc l))).0 (any-row (wrong_args ags) l us vs b.terms e (b.arities l)).1;
        spelt = part-spelt;
        small = λ l h. any-cell big_node l w us vs (short w l (count us) (agent d o).4 (omega (arith, h)))
            (any-row big_node (suc l) us vs b.terms e (b.small (suc l) (omega (arith, h)))).0 (any-row big_node l us vs b.terms e (b.small l (omega (arith, h)))).1;
      }

    on_cell : (m : ℕ) (d : Cell) (cs : List Side) (ds : List Cell) → cell_ok ags d ≡ true → Rebuilt (suc m) (d.args ++ cs) ds → Rebuilt m (cell m ∷ cs) (d ∷ ds)
    on_cell m d cs ds o b = made (firsts (length d.args) b.terms) (others (length d.args) b.terms) (parted (length d.args) b.terms)
        (firsts-count (length d.args) b.terms (let z = length-append d.args cs in let y = b.counted in omega (arith, z, y)))
      where
        made : (us vs : Terms) → us ⊕ vs ≡ b.terms → count us ≡ length d.args → Rebuilt m (cell m ∷ cs) (d ∷ ds)
        made us vs e k = from_parts m d cs ds o b us vs e k

    -- what passes the walk is rebuilt
    abbrev InRange : ℕ → List Side → List Cell → Type 0
    InRange m cs ds = all good cs ≡ true → all (cell_ok ags) ds ≡ true → all good (args_all ds) ≡ true → Rebuilt m cs ds

    begun : (m x : ℕ) (cs : List Side) (ds : List Cell) → InRange m cs ds → InRange m (name x ∷ cs) ds
    unfolding all
    begun m x cs ds ih g o a = let p = both (good (name x)) (all good cs) g in on_name m x cs ds p.0 (ih p.1 o a)

    opened : (m : ℕ) (d : Cell) (cs : List Side) (ds : List Cell) → InRange (suc m) (d.args ++ cs) ds → InRange m (cell m ∷ cs) (d ∷ ds)
    unfolding all args_all
    opened m d cs ds ih g o a =
        let p = both (good (cell m)) (all good cs) g in
        let q = both (cell_ok ags d) (all (cell_ok ags) ds) o in
        on_cell m d cs ds q.0 (ih (all_append good d.args cs (all_left good d.args (args_all ds) a) p.1) q.1 (all_right good d.args (args_all ds) a))

    pub rebuild : (ds : List Cell) (m : ℕ) (cs : List Side) → walk m cs ds ≡ true → all good cs ≡ true → all (cell_ok ags) ds ≡ true → all good (args_all ds) ≡ true → Rebuilt m cs ds
    rebuild = walk_induction InRange (λ m g o a. on_nil m) begun opened
