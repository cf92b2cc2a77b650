-- One word entered: the names are the grown ones, or they pass the limit. And which words are kept.
use Rattle.std.specs.Prelude.{ℕ, ◌+◌, ◌-◌, ◌≤◌, ◌<◌, ◌≡◌, Bool, cond, ◌&&◌, ◌||◌, List, [], ◌∷◌, ◌++◌, length, get_or, take, drop}
use Rattle.std.proofs.Math.Path.{refl, subst}
use Rattle.std.proofs.Common.{sym, ap, ◌∙◌, arith, length-append}
use Rattle.std.proofs.Math.Bool.{true, false}
use Rattle.std.proofs.Math.Dec.{ltb}
use borrow.Author.Tests.{lt-ltb, le-ltb, ltb-true, ltb-false, le-leb}
use Rattle.parts.specs.Limits.{text_max, identifier_max, net_names_max, level_max}
use Rattle.model.specs.Table.{Cell}
use Rattle.texts.specs.Bytes.{Word, any, keep, among, index_of}
use Rattle.texts.specs.Terms.{Term, Node, nodes, words_of}
use Rattle.texts.specs.Books.{Agent, declared, names_of}
use Rattle.texts.specs.RuleText.{is_too_long, big_node}
use Rattle.texts.proofs.Beneath.Tools.{neither}
use Rattle.terms.specs.Sheet.{Sheet, entered}
use Rattle.terms.specs.Words.{entries}
use Rattle.terms.specs.Reader.{Done, done}
use Rattle.terms.specs.Meaning.{Holds, grown}
use Rattle.terms.proofs.Beneath.Numbers.{index_in, index_out, grown_longer}
use Rattle.terms.proofs.Beneath.Written.{cells-kept, entered-sized, entered-count, entered-symbols, entered-arguments, entered-named}
use Rattle.lines.specs.Names.{between, kept, room_for, new_after, new_by, word_by}

-- a sheet on which one name more is entered
pub holds-entered : (text : List ℕ) (s : Sheet) (cs : List Cell) (ws : List Word) (at long : ℕ) (w : Word)
    → Holds text s cs ws → length ws < net_names_max → take long (drop at text) ≡ w
    → Holds text (entered s.names at long s) cs (ws ++ (w ∷ []))
holds-entered text s cs ws at long w h room e =
    let symbols = entered-symbols text s ws at long h.sized h.names room in
    let arguments = entered-arguments text s ws at long h.sized h.names room in
    record {
      sized = entered-sized text s ws at long h.sized h.names room;
      count = entered-count text s ws at long h.sized h.names room ∙ h.count;
      cells =
          cells-kept s (entered s.names at long s) 0 (length cs) cs h.narrow (omega arith)
          (λ i a b. ap (λ (l : List ℕ). get_or l i 0) symbols) (λ i a b. ap (λ (l : List ℕ). get_or l i 0) arguments) h.cells;
      narrow = h.narrow;
      names = entered-named text s ws at long h.sized h.names room w e;
    }

grown-step : (vs us : List Word) (w : Word) → grown vs (w ∷ us) ≡ grown (cond (among w vs) vs (vs ++ (w ∷ []))) us
unfolding grown
grown-step vs us w = refl

pub grown-done : (ags : List Agent) (vs : List Word) → grown vs (kept ags []) ≡ vs
unfolding grown kept keep
grown-done ags vs = refl

-- After a word: a sheet that holds names from which the others grow; or more names than the limit, whatever follows.
module _ (text : List ℕ) (ags : List Agent) (limit : ℕ) (cs : List Cell) (vs : List Word) (w : Word) where
  pub record Taken (s : Sheet) : Type 0 where
    pub names : List Word
    pub holds : Holds text s cs names
    pub few : length names ≤ limit
    pub grows : (us : List Word) → grown vs (kept ags (w ∷ us)) ≡ grown names (kept ags us)

  unfoldable pub After : Done Bool → Type 0
  After (done true s) = Taken s
  After (done false s) = (us : List Word) → limit < length (grown vs (kept ags (w ∷ us)))

module _ (text : List ℕ) (ags : List Agent) (limit : ℕ) (small : limit ≤ net_names_max) (s : Sheet)
    (cs : List Cell) (vs : List Word) (h : Holds text s cs vs) (few : length vs ≤ limit) (at end : ℕ) (near : at < text_max)
    (short : end - at ≤ identifier_max) where
  abbrev w : Word
  w = between text at end

  abbrev Next : Done Bool → Type 0
  Next = After text ags limit cs vs w

  -- a word left out
  out : declared ags w ≡ true → Next (done true s)
  unfolding After kept keep
  out e = record { names = vs; holds = h; few = few; grows = λ us. rw e }

  module _ (stays : declared ags w ≡ false) where
    keeps : (us : List Word) → kept ags (w ∷ us) ≡ w ∷ kept ags us
    unfolding kept keep
    keeps us = rw stays

    old : among w vs ≡ true → Next (done true s)
    unfolding After
    old e = record { names = vs; holds = h; few = few; grows = λ us. rw (keeps us, grown-step, e) }

    grows : among w vs ≡ false → (us : List Word) → grown vs (kept ags (w ∷ us)) ≡ grown (vs ++ (w ∷ [])) (kept ags us)
    grows e us = rw (keeps us, grown-step, e)

    longer : length (vs ++ (w ∷ [])) ≡ length vs + 1
    longer = length-append vs (w ∷ [])

    new : among w vs ≡ false → length vs < limit → Next (done true (entered s.names at (end - at) s))
    unfolding After
    new e room = record {
      names = vs ++ (w ∷ []);
      holds = holds-entered text s cs vs at (end - at) w h (omega arith) refl;
      few = omega (arith, longer);
      grows = grows e;
    }

    full : among w vs ≡ false → limit ≤ length vs → Next (done false s)
    unfolding After
    full e room us = rw (grows e us) (omega (arith, longer, grown_longer (vs ++ (w ∷ [])) (kept ags us)))

    index : index_of w (entries text s.places (length vs)) ≡ index_of w vs
    index = ap (index_of w) h.names.spelt

    counted : Next (new_after text limit at end (length vs) s)
    unfolding new_after room_for
    counted =
        rw (index, le-ltb limit (length vs) few, lt-ltb at text_max near, le-leb (end - at) identifier_max short)
        (go (among w vs) (ltb (length vs) limit) refl refl)
      where
        go : (t u : Bool) → among w vs ≡ t → ltb (length vs) limit ≡ u
            → Next (cond (ltb (index_of w vs) (length vs)) (done true s)
            (cond (ltb (length vs) limit && true && true) (done true (entered (length vs) at (end - at) s)) (done false s)))
        go true u e r = rw (lt-ltb (index_of w vs) (length vs) (index_in w vs e)) (old e)
        go false true e r =
            rw (index_out w vs e, le-ltb (length vs) (length vs) (omega arith), r)
            (subst (λ m. Next (done true (entered m at (end - at) s))) h.names.count (new e (ltb-true (length vs) limit r)))
        go false false e r =
            rw (index_out w vs e, le-ltb (length vs) (length vs) (omega arith), r) (full e (ltb-false (length vs) limit r))

    name_after : Next (new_by text limit at end s)
    unfolding new_by
    name_after = subst (λ m. Next (new_after text limit at end m s)) (sym h.names.count) counted

  pub word_after : Next (word_by text ags limit at end s)
  unfolding word_by
  word_after = go (declared ags w) refl
    where
      go : (t : Bool) → declared ags w ≡ t → Next (cond t (done true s) (new_by text limit at end s))
      go true e = out e
      go false e = name_after e

-- Of the words of terms, their names are kept.
pub kept-names : (ags : List Agent) (ts : List Term) → kept ags (words_of (nodes ts)) ≡ names_of ags ts
unfolding kept names_of
kept-names ags ts = refl

-- No identifier that is too long among the words of terms within their sizes.
pub small-words : (ns : List Node) → any big_node ns ≡ false → any is_too_long (words_of ns) ≡ false
unfolding any big_node words_of
small-words [] h = refl
small-words (n ∷ ns) h =
    let p = neither (is_too_long n.word || ltb level_max n.level) (any big_node ns) h in
    let q = neither (is_too_long n.word) (ltb level_max n.level) p.0 in
    rw q.0 (small-words ns p.1)
