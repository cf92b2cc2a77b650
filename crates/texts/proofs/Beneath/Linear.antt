-- The codes of a term: each occurrence of a name gives its code once, and each cell its number once.
use Prim.Native.Nat.{ℕ, zero, suc, ◌+◌}
use Rattle.std.specs.Prelude.{◌≡◌, Bool, cond, not, ◌&&◌, ◌||◌}
use Rattle.std.proofs.Math.Path.{refl}
use Rattle.std.proofs.Common.{sym, ap, ◌∙◌, length-append}
use Rattle.std.proofs.Math.Bool.{true, false}
use mathlib.Core.List.{List, [], ◌∷◌, ◌++◌, append_assoc, append-nil}
use native.Mathlib.Omega.{arith}
use Rattle.std.proofs.Math.ListN.{length}
use Rattle.std.proofs.Math.Dec.{eqb}
use borrow.Author.Tests.{eqb-true, eq-eqb, not-false}
use Rattle.texts.specs.Bytes.{Word, any, keep, same}
use Rattle.texts.specs.Terms.{Term, Terms, term, nil, cons, Node, count, nodes_at, nodes_in, nodes, words_of}
use Rattle.texts.specs.Books.{Agent, declared, takes, cells_of, names_of}
use Rattle.texts.specs.RuleText.{wrong_args}
use Rattle.parts.specs.Sides.{Side, name, cell}
use Rattle.model.specs.Table.{Cell}
use Rattle.texts.specs.Coded.{symbol_of, packed, size, code_at, codes, cells_at, cells_from}
use Rattle.texts.specs.TableTest.{args_all, tally}
use Rattle.texts.proofs.Beneath.Tools.{both, pair, neither, any_append, keep_append}
use Rattle.texts.specs.Linear.{words, words_in, one}

pub words_append : (ns ms : List Node) → words_of (ns ++ ms) ≡ words_of ns ++ words_of ms
unfolding words_of
words_append [] ms = refl
words_append (n ∷ ns) ms = rw (words_append ns ms)

mutual
  unfolding words nodes_at words_of

  words-nodes : (t : Term) (l : ℕ) → words_of (nodes_at l t) ≡ words t
  words-nodes (term w ts) l = rw (words_in_lem ts (suc l))

  words_in_lem : (ts : Terms) (l : ℕ) → words_of (nodes_in l ts) ≡ words_in ts
  words_in_lem nil l = refl
  words_in_lem (cons t ts) l = rw (words_append, words-nodes t l, words_in_lem ts l)

pub words_all : (ts : List Term) → words_of (nodes ts) ≡ words_in (packed ts)
unfolding nodes packed words words_of
words_all [] = refl
words_all (t ∷ ts) = rw (words_append, words-nodes t 1, words_all ts)

module _ (ags : List Agent) where
  abbrev is_name : Word → Bool
  is_name w = not (declared ags w)

  pub size-words : (t : Term) → size ags t ≡ tally (declared ags) (words t)
  unfolding size cells_of nodes tally
  size-words t = rw (append-nil (nodes_at 1 t), words-nodes t 1)

  -- names have no arguments
  unfoldable mutual
    pub bare : Term → Bool
    bare (term w ts) = (declared ags w || eqb (count ts) 0) && bares ts

    pub bares : Terms → Bool
    bares nil = true
    bares (cons t ts) = bare t && bares ts

pub no_terms : (ts : Terms) → eqb (count ts) 0 ≡ true → ts ≡ nil
unfolding count
no_terms nil h = refl
no_terms (cons t ts) h = let z : suc (count ts) ≡ 0 = eqb-true (suc (count ts)) 0 h in absurd (omega arith)

keep-length : {A : Type 0} (p : A → Bool) (xs ys : List A) → length (keep p (xs ++ ys)) ≡ length (keep p xs) + length (keep p ys)
keep-length p xs ys = ap length (keep_append p xs ys) ∙ length-append (keep p xs) (keep p ys)

args-append : (cs ds : List Cell) → args_all (cs ++ ds) ≡ args_all cs ++ args_all ds
unfolding args_all
args-append [] ds = refl
args-append (c ∷ cs) ds = rw (args-append cs ds, append_assoc)

pub tally-cons : {A : Type 0} (p : A → Bool) (x : A) (xs : List A) → tally p (x ∷ xs) ≡ one (p x) + tally p xs
unfolding tally keep
tally-cons p x xs = go (p x)
  where
    go : (t : Bool) → length (cond t (x ∷ keep p xs) (keep p xs)) ≡ one t + length (keep p xs)
    go true = omega arith
    go false = omega arith

pub tally-append : {A : Type 0} (p : A → Bool) (xs ys : List A) → tally p (xs ++ ys) ≡ tally p xs + tally p ys
unfolding tally
tally-append p xs ys = keep-length p xs ys

module _ (p : Side → Bool) where
  -- how many of the n cells from m on have a number that passes
  unfoldable pub cell_tally : ℕ → ℕ → ℕ
  cell_tally m zero = 0
  cell_tally m (suc n) = one (p (cell m)) + cell_tally (suc m) n

  cell-add : (a b m : ℕ) → cell_tally m (a + b) ≡ cell_tally m a + cell_tally (m + a) b
  unfolding cell_tally
  cell-add zero b m = let x : 0 + b ≡ b = omega arith in let y : m + 0 ≡ m = omega arith in rw (x, y) (omega arith)
  cell-add (suc a) b m =
      let x : suc a + b ≡ suc (a + b) = omega arith in
      let y : m + suc a ≡ suc m + a = omega arith in
      rw (x, y, cell-add a b (suc m)) (omega arith)

module _ (ags : List Agent) (number : Word → ℕ) (p : Side → Bool) where
  -- the tests of the names of some words
  abbrev pub name_tally : List Word → ℕ
  name_tally ws = tally (λ w. p (name (number w))) (keep (λ w. not (declared ags w)) ws)

  name-append : (vs ws : List Word) → name_tally (vs ++ ws) ≡ name_tally vs + name_tally ws
  name-append vs ws =
      ap (tally (λ w. p (name (number w)))) (keep_append (λ w. not (declared ags w)) vs ws)
      ∙ tally-append (λ w. p (name (number w))) (keep (λ w. not (declared ags w)) vs) (keep (λ w. not (declared ags w)) ws)

  agent-words : (w : Word) (ws : List Word) → declared ags w ≡ true → (name_tally (w ∷ ws) ≡ name_tally ws) × (tally (declared ags) (w ∷ ws) ≡ suc (tally (declared ags) ws))
  unfolding keep tally
  agent-words w ws h = (rw h, rw h)

  name-words : (w : Word) → declared ags w ≡ false → (name_tally (w ∷ []) ≡ one (p (name (number w)))) × (tally (declared ags) (w ∷ []) ≡ 0)
  unfolding keep tally
  name-words w h = (rw h (go (p (name (number w)))), rw h)
    where
      go : (t : Bool) → length (cond t (w ∷ []) []) ≡ one t
      go true = refl
      go false = refl

  cells-suc : (m n : ℕ) → cell_tally p m (suc n) ≡ one (p (cell m)) + cell_tally p (suc m) n
  unfolding cell_tally
  cells-suc m n = refl

  nothing : (m : ℕ) → (tally p [] ≡ 0) × (name_tally [] ≡ 0) × (tally (declared ags) [] ≡ 0) × (cell_tally p m 0 ≡ 0)
  unfolding tally keep cell_tally
  nothing m = (refl, refl, refl, refl)

  mutual
    unfolding codes code_at cells_at words bare args_all

    count-term : (t : Term) (m : ℕ) → bare ags t ≡ true
        → one (p (code_at ags number m t)) + tally p (args_all (cells_at ags number m t)) ≡ name_tally (words t) + cell_tally p m (tally (declared ags) (words t))
    count-term (term w ts) m h =
        let q = both (declared ags w || eqb (count ts) 0) (bares ags ts) h in
        go (declared ags w) refl q.0 (count-terms ts (suc m) q.1)
      where
        go : (d : Bool) → declared ags w ≡ d → (d || eqb (count ts) 0) ≡ true
            → tally p (codes ags number (suc m) ts) + tally p (args_all (cells_from ags number (suc m) ts)) ≡ name_tally (words_in ts) + cell_tally p (suc m) (tally (declared ags) (words_in ts))
            → one (p (cond d (cell m) (name (number w)))) + tally p (args_all (cond d (record { symbol = symbol_of ags w; args = codes ags number (suc m) ts } ∷ cells_from ags number (suc m) ts) []))
            ≡ name_tally (w ∷ words_in ts) + cell_tally p m (tally (declared ags) (w ∷ words_in ts))
        go true e k ih =
            let a = agent-words w (words_in ts) e in
            rw (tally-append p (codes ags number (suc m) ts) (args_all (cells_from ags number (suc m) ts)), a.0, a.1, cells-suc m (tally (declared ags) (words_in ts))) (omega arith)
        go false e k ih =
            let a = name-words w e in
            let z = nothing m in
            rw (no_terms ts k, a.0, a.1) (omega (arith, z.0, z.3))

    count-terms : (ts : Terms) (m : ℕ) → bares ags ts ≡ true
        → tally p (codes ags number m ts) + tally p (args_all (cells_from ags number m ts)) ≡ name_tally (words_in ts) + cell_tally p m (tally (declared ags) (words_in ts))
    count-terms nil m h = let z = nothing m in rw (z.0, z.1, z.2, z.3)
    count-terms (cons t ts) m h =
        let q = both (bare ags t) (bares ags ts) h in
        let n : ℕ = tally (declared ags) (words t) in
        let x = count-term t m q.0 in
        let y = count-terms ts (m + tally (declared ags) (words t)) q.1 in
        rw (
          size-words ags t,
          tally-cons p (code_at ags number m t) (codes ags number (m + tally (declared ags) (words t)) ts),
          args-append (cells_at ags number m t) (cells_from ags number (m + tally (declared ags) (words t)) ts),
          tally-append p (args_all (cells_at ags number m t)) (args_all (cells_from ags number (m + tally (declared ags) (words t)) ts)),
          name-append (words t) (words_in ts),
          tally-append (declared ags) (words t) (words_in ts),
          cell-add p (tally (declared ags) (words t)) (tally (declared ags) (words_in ts)) m,
        ) (omega (arith, x, y))

-- The terms of a line whose argument counts are right.
pub takes-name : (ags : List Agent) (w : Word) → declared ags w ≡ false → takes ags w ≡ 0
unfolding declared takes any
takes-name [] w h = refl
takes-name (a ∷ ags) w h = let p = neither (same w a.symbol) _ h in rw p.0 (takes-name ags w p.1)

module _ (ags : List Agent) where
  no_args : (w : Word) (n l : ℕ) → wrong_args ags (record { word = w; args = n; level = l }) ≡ false → (declared ags w || eqb n 0) ≡ true
  unfolding wrong_args
  no_args w n l h = go (declared ags w) refl
    where
      go : (t : Bool) → declared ags w ≡ t → (t || eqb n 0) ≡ true
      go true e = refl
      go false e = eq-eqb n 0 (eqb-true n (takes ags w) (not-false _ h) ∙ takes-name ags w e)

  mutual
    unfolding nodes_at bare any

    bare_of : (t : Term) (l : ℕ) → any (wrong_args ags) (nodes_at l t) ≡ false → bare ags t ≡ true
    bare_of (term w ts) l h =
        let p = neither (wrong_args ags (record { word = w; args = count ts; level = l })) _ h in
        pair (declared ags w || eqb (count ts) 0) (bares ags ts) (no_args w (count ts) l p.0) (bares_of ts (suc l) p.1)

    bares_of : (ts : Terms) (l : ℕ) → any (wrong_args ags) (nodes_in l ts) ≡ false → bares ags ts ≡ true
    bares_of nil l h = refl
    bares_of (cons t ts) l h =
        let p = neither (any (wrong_args ags) (nodes_at l t)) (any (wrong_args ags) (nodes_in l ts)) (sym (any_append (wrong_args ags) (nodes_at l t) (nodes_in l ts)) ∙ h) in
        pair (bare ags t) (bares ags ts) (bare_of t l p.0) (bares_of ts l p.1)

  pub line-bare : (ts : List Term) → any (wrong_args ags) (nodes ts) ≡ false → bares ags (packed ts) ≡ true
  unfolding nodes packed bare any
  line-bare [] h = refl
  line-bare (t ∷ ts) h =
      let p = neither (any (wrong_args ags) (nodes_at 1 t)) (any (wrong_args ags) (nodes ts)) (sym (any_append (wrong_args ags) (nodes_at 1 t) (nodes ts)) ∙ h) in
      pair (bare ags t) (bares ags (packed ts)) (bare_of t 1 p.0) (line-bare ts p.1)

-- Every test of codes, over all codes of some terms: the codes of the terms themselves, and of the arguments of their cells.
pub code-count : (ags : List Agent) (number : Word → ℕ) (p : Side → Bool) (ts : List Term) (m : ℕ) → any (wrong_args ags) (nodes ts) ≡ false
    → tally p (codes ags number m (packed ts)) + tally p (args_all (cells_from ags number m (packed ts)))
    ≡ tally (λ w. p (name (number w))) (names_of ags ts) + cell_tally p m (length (cells_of ags ts))
unfolding names_of cells_of tally
code-count ags number p ts m h = rw (words_all ts) (count-terms ags number p (packed ts) m (line-bare ags ts h))

-- As many cells as occurrences of agents.
module _ (ags : List Agent) (number : Word → ℕ) where
  mutual
    unfolding cells_at words bare

    pub cells-term : (t : Term) (m : ℕ) → bare ags t ≡ true → length (cells_at ags number m t) ≡ tally (declared ags) (words t)
    cells-term (term w ts) m h =
        let q = both (declared ags w || eqb (count ts) 0) (bares ags ts) h in
        go (declared ags w) refl q.0 (cells-terms ts (suc m) q.1)
      where
        go : (d : Bool) → declared ags w ≡ d → (d || eqb (count ts) 0) ≡ true
            → length (cells_from ags number (suc m) ts) ≡ tally (declared ags) (words_in ts)
            → length (cond d (record { symbol = symbol_of ags w; args = codes ags number (suc m) ts } ∷ cells_from ags number (suc m) ts) []) ≡ tally (declared ags) (w ∷ words_in ts)
        go true e k ih = rw (tally-cons (declared ags) w (words_in ts), e) (omega arith)
        go false e k ih = rw (no_terms ts k, tally-cons (declared ags) w [], e) (sym ((nothing ags number (λ c. true) m).2 ∙ refl) ∙ omega arith)

    pub cells-terms : (ts : Terms) (m : ℕ) → bares ags ts ≡ true → length (cells_from ags number m ts) ≡ tally (declared ags) (words_in ts)
    cells-terms nil m h = sym (nothing ags number (λ c. true) m).2
    cells-terms (cons t ts) m h =
        let q = both (bare ags t) (bares ags ts) h in
        rw (
          length-append (cells_at ags number m t) (cells_from ags number (m + size ags t) ts),
          tally-append (declared ags) (words t) (words_in ts),
          cells-term t m q.0,
          cells-terms ts (m + size ags t) q.1,
        )

  pub cell-count : (ts : List Term) (m : ℕ) → any (wrong_args ags) (nodes ts) ≡ false → length (cells_from ags number m (packed ts)) ≡ length (cells_of ags ts)
  unfolding cells_of tally
  cell-count ts m h = rw (words_all ts) (cells-terms (packed ts) m (line-bare ags ts h))
