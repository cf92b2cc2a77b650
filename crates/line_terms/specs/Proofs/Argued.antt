-- The meaning of the test of number 7, of one field and of a line, from that of a term. Assumes nothing.
use Rattle.std.specs.Prelude.{ℕ, suc, ◌+◌, ◌-◌, ◌≤◌, ◌≡◌, refl, Bool, ◌||◌, take, true, false, not, List, [], ◌∷◌, ◌++◌, length, drop}
use Rattle.std.proofs.Common.{sym, ◌∙◌, arith, eq-eqb, le-ltb, ap, append-nil}
use Rattle.parts.specs.Limits.{level_max}
use Rattle.texts.specs.Bytes.{Word, any}
use Rattle.texts.specs.Terms.{Term, spell, Node, nodes_at, nodes}
use Rattle.texts.specs.Books.{Agent}
use Rattle.texts.specs.RuleText.{wrong_args, big_node}
use Rattle.texts.proofs.Beneath.Spelling.{spell-term}
use Rattle.terms.specs.Meaning.{Spells}
use Rattle.line_terms.specs.Fields.{field_end}
use Rattle.line_terms.specs.Arguments.{reaches, argued_by, fields_argued}
use Rattle.line_terms.specs.Meaning.{Written}
use Rattle.line_terms.specs.Proofs.Cut.{line-length, standing, First, no_terms, some_terms}
use Rattle.line_terms.specs.Proofs.Lines.{any-cons, none_cons}
use Rattle.line_terms.specs.Proofs.Passed.{verdict, term-passes}

one_term : (g : Node → Bool) (t : Term) → any g (nodes (t ∷ [])) ≡ any g (nodes_at 1 t)
unfolding nodes
one_term g t = rw (append-nil (nodes_at 1 t))

reaching : (b : Bool) (p to : ℕ) → p ≡ to → reaches to (verdict b p) ≡ not b
unfolding reaches
reaching true p to e = refl
reaching false p to e = eq-eqb p to e

module _ (text : List ℕ) (ags : List Agent) where
  pub field-argued : (from to : ℕ) (t : Term) → Spells text from to t → any big_node (nodes (t ∷ [])) ≡ false
      → argued_by text ags from to ≡ not (any (wrong_args ags) (nodes (t ∷ [])))
  unfolding argued_by
  field-argued from to t f small =
      let sp = spell-term (take (to - from) (drop from text)) t f.spells in
      let long : length (take (to - from) (drop from text)) ≡ to - from = line-length text from to f.order f.within in
      let d : drop from text ≡ spell t ++ drop to text = rw (← sp.0) at (standing text from to f.order f.within) in
      let D = (term-passes text ags t).run level_max 1 from (drop to text) (omega arith) sp.1 (sym (one_term big_node t) ∙ small) d f.stops in
      rw (D, one_term (wrong_args ags) t) (reaching (any (wrong_args ags) (nodes_at 1 t)) (from + length (spell t)) to (omega (arith, ap length sp.0, f.order)))

  -- one field more
  one_more : (from to n : ℕ) (a b : Bool) → from ≤ to → argued_by text ags from (field_end text from to) ≡ not a
      → fields_argued text ags to n (field_end text from to + 1) ≡ not b
      → fields_argued text ags to (suc n) from ≡ not (a || b)
  unfolding fields_argued
  one_more from to n true b h p q = rw (le-ltb to from h, p)
  one_more from to n false b h p q = rw (le-ltb to from h, p) q

  pub fields_argued_lem : (to : ℕ) (fs : List Word) (ts : List Term) (from : ℕ) → Written text from to fs ts
      → any big_node (nodes ts) ≡ false
      → fields_argued text ags to (length fs) from ≡ not (any (wrong_args ags) (nodes ts))
  unfolding fields_argued nodes any
  fields_argued_lem to [] ts from w small = rw (no_terms text from to ts w)
  fields_argued_lem to (f ∷ fs) ts from w small =
      let p = some_terms text from to f fs ts w in
      step p.0 p.1 ts p.2 p.3 small (fields_argued_lem to fs p.1)
    where
      step : (t : Term) (us ts : List Term) → ts ≡ t ∷ us → First text from to fs t us → any big_node (nodes ts) ≡ false
          → ((from : ℕ) → Written text from to fs us → any big_node (nodes us) ≡ false
          → fields_argued text ags to (length fs) from ≡ not (any (wrong_args ags) (nodes us)))
          → fields_argued text ags to (suc (length fs)) from ≡ not (any (wrong_args ags) (nodes ts))
      step t us ts q F small ih =
          let b = none_cons t us big_node (rw q at small) in
          rw (q, any-cons t us (wrong_args ags))
          (one_more from to (length fs) (any (wrong_args ags) (nodes (t ∷ []))) (any (wrong_args ags) (nodes us)) F.order
          (field-argued from (field_end text from to) t F.spells b.0) (ih (field_end text from to + 1) F.rest b.1))
