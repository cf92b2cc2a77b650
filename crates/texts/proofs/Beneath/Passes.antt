-- Numbers 4 and 5 by flat passes over the bytes of the fields: no tree is needed before both are judged.
use Rattle.std.specs.Prelude.{◌≡◌, refl, Bool, true, false, not, ◌||◌, List, [], ◌∷◌, map}
use Rattle.std.proofs.Common.{sym, ap, ◌∙◌}
use Rattle.std.proofs.lemmas.List.{map-append}
use Rattle.std.proofs.Math.Option.{Option, none, some}
use Rattle.texts.specs.Bytes.{Word, any, all, keep}
use Rattle.texts.specs.Terms.{Term, spell, worded, Node, nodes_at, nodes, words_of}
use Rattle.texts.specs.Books.{Agent, declared, cells_of, names_of}
use Rattle.texts.specs.Answers.{absent, ◌>>=◌}
use Rattle.texts.specs.RuleText.{terms_of, rule_shape, record_of, big_node}
use Rattle.texts.proofs.Beneath.Tools.{never, both}
use Rattle.texts.specs.Scan.{want, scan, done}
use Rattle.texts.proofs.Beneath.Scan.{scan-exact}
use Rattle.texts.specs.Walk.{seen}
use Rattle.texts.proofs.Beneath.Walk.{walk-nodes}
use Rattle.texts.proofs.Beneath.Means.{nothing}
use Rattle.texts.specs.Reader.{term_of}
use Rattle.texts.specs.Passes.{misspelt, met_in, big_met}

term-absent : (f : Word) → absent (term_of f) ≡ misspelt f
unfolding misspelt absent
term-absent f = go (term_of f) (done (scan (want 0) f)) refl refl
  where
    go : (o : Option Term) (t : Bool) → term_of f ≡ o → done (scan (want 0) f) ≡ t → absent o ≡ not t
    go none true e h = let p = (scan-exact f).0 h in nothing (sym e ∙ p.1)
    go none false e h = refl
    go (some t) true e h = refl
    go (some t) false e h = never (sym h ∙ (scan-exact f).1 (t, e))

absent_bind : {A B : Type 0} (o : Option A) (f : A → Option B) (t : Bool) → ((a : A) → absent (f a) ≡ t) → absent (o >>= f) ≡ (absent o || t)
unfolding absent ◌>>=◌
absent_bind none f t h = refl
absent_bind (some a) f t h = h a

absent_some : {A B : Type 0} (o : Option A) (f : A → B) → absent (o >>= λ a. some (f a)) ≡ absent o
unfolding absent ◌>>=◌
absent_some none f = refl
absent_some (some a) f = refl

-- Some field of the terms is misspelt.
pub terms-absent : (fs : List Word) → absent (terms_of fs) ≡ any misspelt fs
unfolding terms_of any absent
terms-absent [] = refl
terms-absent (f ∷ fs) =
    absent_bind (term_of f) _ (absent (terms_of fs)) (λ t. absent_some (terms_of fs) (λ ts. t ∷ ts)) ∙ rw (term-absent f, terms-absent fs)

pub rule-absent : (f g : Word) (fs : List Word) → absent (record_of (rule_shape f g fs)) ≡ any misspelt (f ∷ g ∷ fs)
unfolding record_of any
rule-absent f g fs =
    absent_bind (term_of f) _ (absent (term_of g) || absent (terms_of fs)) (λ s. absent_bind (term_of g) _ (absent (terms_of fs)) (λ t. absent_some (terms_of fs) _))
    ∙ rw (term-absent f, term-absent g, terms-absent fs)

pub met-nodes : (ts : List Term) → all worded ts ≡ true → met_in (map spell ts) ≡ map seen (nodes ts)
unfolding met_in nodes all
met-nodes [] h = refl
met-nodes (t ∷ ts) h =
    let p = both (worded t) (all worded ts) h in
    rw (walk-nodes t p.0, met-nodes ts p.1, map-append seen (nodes_at 1 t) (nodes ts))

big-seen : (ns : List Node) → any big_met (map seen ns) ≡ any big_node ns
unfolding any big_met big_node seen
big-seen [] = refl
big-seen (n ∷ ns) = rw (big-seen ns)

pub words-seen : (ns : List Node) → map (λ m. m.word) (map seen ns) ≡ words_of ns
unfolding words_of seen
words-seen [] = refl
words-seen (n ∷ ns) = rw (words-seen ns)

-- Identifiers too long and levels too high.
pub big_met_lem : (ts : List Term) → all worded ts ≡ true → any big_met (met_in (map spell ts)) ≡ any big_node (nodes ts)
big_met_lem ts h = ap (any big_met) (met-nodes ts h) ∙ big-seen (nodes ts)

-- Cells and names so far.
pub cells-met : (ags : List Agent) (ts : List Term) → all worded ts ≡ true → keep (declared ags) (map (λ m. m.word) (met_in (map spell ts))) ≡ cells_of ags ts
unfolding cells_of
cells-met ags ts h = rw (met-nodes ts h, words-seen (nodes ts))

pub names_met : (ags : List Agent) (ts : List Term) → all worded ts ≡ true → keep (λ w. not (declared ags w)) (map (λ m. m.word) (met_in (map spell ts))) ≡ names_of ags ts
unfolding names_of
names_met ags ts h = rw (met-nodes ts h, words-seen (nodes ts))
