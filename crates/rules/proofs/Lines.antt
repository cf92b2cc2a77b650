-- A line: one law for each way out, number by number.
use Prim.Native.Nat.{ℕ, zero, suc, ◌<◌, ◌≤◌}
use mathlib.Core.Path.{◌≡◌, refl, sym, ap, ◌∙◌}
use mathlib.Core.Bool.{Bool, true, false}
use mathlib.Core.List.{List, [], ◌∷◌, ◌++◌}
use mathlib.Core.Option.{Option, none, some}
use native.Mathlib.Omega.{arith}
use lib.ListN.{length, drop, get_or}
use lib.Dec.{eqb}
use borrow.Author.Tests.{lt-ltb, le-ltb}
use Rattle.texts.specs.Bytes.{Word, fields, fault2}
use Rattle.texts.specs.Terms.{Term, spell}
use Rattle.texts.specs.Books.{Book, Rule, is_rule, add, pairs, lefts, rights}
use Rattle.texts.specs.Answers.{OfLine, fault, absent, need, refuse, ◌>>=◌}
use Rattle.texts.specs.RuleText.{Shape, agent_shape, rule_shape, even, ruleless, shape_of, shape, terms_of, record_of, judged, rule_line}
use Rattle.texts.specs.Good.{GoodBook}
use Rattle.texts.proofs.Beneath.Shapes.{Fits, shape_fields}
use Rattle.texts.specs.Reader.{term_of}
use Rattle.texts.proofs.Beneath.Tools.{never, never'}
use Rattle.texts.proofs.Beneath.Shapes.{to_shape}
use Rattle.texts.specs.Bytes.{ended_line}
use Rattle.texts.proofs.Beneath.Passes.{rule-absent, terms-absent}
use Rattle.texts.proofs.Beneath.Means.{spell-terms, sides-pairs, even-map}
use Rattle.scan.specs.Places.{bad_at}
use Rattle.scan.specs.Laws.Placing.{bad-fault}
use Rattle.table.specs.Layout.{rules_in, table_bytes}
use Rattle.rule_lines.specs.Laws.{rules-counted, judged_same}
use Rattle.rule_lines.specs.Kinds.{shape_by, shaped_of}
use Rattle.rule_lines.specs.Judged.{Judged, passed, failed, ShapeJudged}
use Rattle.rules.specs.Lines.{Stands, rule_of, RuleStands, LineJudged}
use Rattle.ruling.specs.Judged.{Meant}
use Rattle.ruling.specs.Judged as Ruling
use Rattle.rule_lines.specs.declared.kinds.Kind.{Kind}
use Rattle.rule_lines.specs.declared.kinds.Kind.TheVariants.{Agent}
use Rattle.rule_lines.specs.declared.kinds.Kind.TheVariants as Kinds
use Rattle.std.specs.Prelude as Prelude
use Rattle.std.specs.Prelude.{Some, None}

-- number 4 of a rule: what its fields mean, where every one of them is a term
record MeansRule (f g : Word) (hs : List Word) : Type 0 where
  rule : Rule
  is : record_of (rule_shape f g hs) ≡ some (is_rule rule)
  terms : terms_of (f ∷ g ∷ hs) ≡ some (lefts rule ++ rights rule)

even-terms : (hs : List Word) (ts : List Term) → terms_of hs ≡ some ts → even hs ≡ true → even ts ≡ true
even-terms hs ts e h =
    let p = (spell-terms hs ts e).0 in sym (even-map spell ts) ∙ rw p h

means-rule : (f g : Word) (hs : List Word) → even hs ≡ true → absent (record_of (rule_shape f g hs)) ≡ false
    → MeansRule f g hs
unfolding record_of terms_of ◌>>=◌ absent lefts rights
means-rule f g hs v h = go (term_of f) (term_of g) (terms_of hs) refl refl refl h
  where
    go : (s t : Option Term) (ts : Option (List Term)) → term_of f ≡ s → term_of g ≡ t → terms_of hs ≡ ts
        → absent (s >>= λ x. t >>= λ y. ts >>= λ zs. some (is_rule (record { first = x; second = y; right = pairs zs })))
        ≡ false
        → MeansRule f g hs
    go none t ts a b c h = never' h
    go (some x) none ts a b c h = never' h
    go (some x) (some y) none a b c h = never' h
    go (some x) (some y) (some zs) a b c h = record {
      rule = record { first = x; second = y; right = pairs zs };
      is = rw (a, b, c);
      terms = rw (a, b, c, sides-pairs zs (even-terms hs zs c v));
    }

absent-need : {A B : Type 0} (n : ℕ) (o : Option A) (f : A → OfLine B) → absent o ≡ true → need n o f ≡ fault n
unfolding absent need
absent-need n none f h = refl
absent-need n (some a) f h = never h

found-need : {A B : Type 0} (n : ℕ) (o : Option A) (a : A) (f : A → OfLine B) → o ≡ some a → need n o f ≡ f a
unfolding need
found-need n o a f e = rw e

-- the fields after the word are those of the rule, and those on the right stand in pairs
rule_fields : (b : Book) (fs : List Word) → shape_of b fs ≡ some (rule_of fs)
    → get_or fs 1 [] ∷ get_or fs 2 [] ∷ drop 3 fs ≡ drop 1 fs
unfolding shape_fields
rule_fields b fs s = ap (drop 1) (to_shape b fs (rule_of fs) s).0

rule-even : (b : Book) (fs : List Word) → shape_of b fs ≡ some (rule_of fs) → even (drop 3 fs) ≡ true
unfolding Fits
rule-even b fs s = (to_shape b fs (rule_of fs) s).1

rule-terms : (b : Book) (fs : List Word) → shape_of b fs ≡ some (rule_of fs)
    → absent (record_of (rule_of fs)) ≡ absent (terms_of (drop 1 fs))
rule-terms b fs s =
    rule-absent (get_or fs 1 []) (get_or fs 2 []) (drop 3 fs)
    ∙ (sym (terms-absent (get_or fs 1 [] ∷ get_or fs 2 [] ∷ drop 3 fs)) ∙ ap (λ l. absent (terms_of l)) (rule_fields b fs s))

module _ (v l : List ℕ) (t : Bool) (spelt : t ≡ absent (terms_of (drop 1 (fields l)))) where
  absent_is : (b : Book) → shape_of b (fields l) ≡ some (rule_of (fields l)) → absent (record_of (rule_of (fields l))) ≡ t
  absent_is b s = rule-terms b (fields l) s ∙ sym spelt

  pub rule-misspelt : t ≡ true → ShapeJudged v v (fields l) (rule_of (fields l)) 4
  rule-misspelt h = record {
    so =
        λ b g e s.
        failed (λ q. omega arith) (absent-need 4 (record_of (rule_of (fields l))) (judged b) (absent_is b s ∙ h)) refl;
  }

  module _ (h : t ≡ false) (at : RuleStands l v) where
    rule_is : (b : Book) → shape_of b (fields l) ≡ some (rule_of (fields l))
        → MeansRule (get_or (fields l) 1 []) (get_or (fields l) 2 []) (drop 3 (fields l))
    rule_is b s = means-rule _ _ _ (rule-even b (fields l) s) (absent_is b s ∙ h)

    meant_by : (b : Book) → GoodBook b → v ≡ table_bytes b → (s : shape_of b (fields l) ≡ some (rule_of (fields l)))
        → Meant b (rule_is b s).rule l v
    meant_by b g e s = record {
      good = g;
      table = e;
      terms = ap terms_of (sym (rule_fields b (fields l) s)) ∙ (rule_is b s).terms;
      short = at.short;
    }

    pub rule-meant : (b : Book) × (r : Rule) × Meant b r l v
    rule-meant =
        (at.book, (rule_is at.book at.shape_is_rule).rule, meant_by at.book at.good at.bytes at.shape_is_rule)

    settled : (b : Book) (r : Rule) (n : ℕ) (u : List ℕ) → Ruling.Judged b r n v u → Judged v u (judged b (is_rule r)) n
    settled b r zero u j = passed refl (add b (is_rule r)) j.answer j.table
    settled b r (suc n) u j = failed (λ q. omega arith) j.answer j.table

    pub rule-goes_on : (u : List ℕ) (n : ℕ) → ((b : Book) (r : Rule) → Meant b r l v → Ruling.Judged b r n v u)
        → ShapeJudged v u (fields l) (rule_of (fields l)) n
    rule-goes_on u n j = record {
      so =
          λ b g e s.
          let m = rule_is b s in
          judged_same v u _ _ n (sym (found-need 4 _ _ (judged b) m.is))
          (settled b m.rule n u (j b m.rule (meant_by b g e s)));
    }

-- number 3: the shape of a line, by the count of the rules in the table
shape-bare : (b : Book) (fs : List Word) → shape_of b fs ≡ shaped_of (ruleless b) fs
unfolding shape_of shaped_of
shape-bare b [] = refl
shape-bare b (w ∷ fs) = refl

rules_none : (b : Book) (v : List ℕ) (c : ℕ) → v ≡ table_bytes b → c ≡ rules_in v → ruleless b ≡ eqb c 0
unfolding ruleless
rules_none b v c e h = ap (λ n. eqb n 0) (sym (h ∙ rules-counted b v e))

shape-told : (b : Book) (v : List ℕ) (c : ℕ) → v ≡ table_bytes b → c ≡ rules_in v → (fs : List Word) (d : Prelude.Option Kind)
    → shape_by d fs ≡ shaped_of (eqb c 0) fs → shape_of b fs ≡ shape_by d fs
shape-told b v c e h fs d told = shape-bare b fs ∙ (ap (λ z. shaped_of z fs) (rules_none b v c e h) ∙ sym told)

-- number 2, then 3, then what follows
module _ (v l : List ℕ) (a : ℕ) (bad : a ≡ bad_at l) where
  pub line-bad : a < length l → LineJudged v v (ended_line l) 2
  unfolding rule_line refuse
  line-bad h = record { so = λ b g e. failed (λ q. omega arith) (rw (bad-fault l, ← bad, lt-ltb a (length l) h)) refl }

  module _ (h : length l ≤ a) where
    line-good : (b : Book)
        → rule_line b (ended_line l) ≡ need 3 (shape_of b (fields l)) (λ s. need 4 (record_of s) (judged b))
    unfolding rule_line refuse shape ended_line
    line-good b =
        let z : fault2 (ended_line l) ≡ false = bad-fault l ∙ rw (← bad, le-ltb a (length l) h) in
        ap (λ t. refuse 2 t (need 3 (shape_of b (fields l)) (λ s. need 4 (record_of s) (judged b)))) z

    module _ (c : ℕ) (counted : c ≡ rules_in v) (d : Prelude.Option Kind)
        (told : shape_by d (fields l) ≡ shaped_of (eqb c 0) (fields l)) where
      pub line_none : d ≡ None → LineJudged v v (ended_line l) 3
      unfolding need shape_by
      line_none z = record {
        so =
            λ b g e.
            failed (λ q. omega arith) (line-good b ∙ rw (shape-told b v c e counted (fields l) d told, z)) refl;
      }

      shaped : (u : List ℕ) (m : ℕ) (s : Shape) → shape_by d (fields l) ≡ some s → ShapeJudged v u (fields l) s m
          → LineJudged v u (ended_line l) m
      shaped u m s z j = record {
        so =
            λ b g e.
            let q : shape_of b (fields l) ≡ some s = shape-told b v c e counted (fields l) d told ∙ z in
            judged_same v u _ _ m (sym (line-good b ∙ found-need 3 _ _ (λ s. need 4 (record_of s) (judged b)) q))
            (j.so b g e q);
      }

      pub line-agent : (n : ℕ) → d ≡ Some (Agent n) → (u : List ℕ) (m : ℕ)
          → ShapeJudged v u (fields l) (agent_shape (get_or (fields l) 1 []) n) m → LineJudged v u (ended_line l) m
      unfolding shape_by
      line-agent n z u m j = shaped u m _ (rw z) j

      module _ (z : d ≡ Some Kinds.Rule) where
        pub rule-stands : Stands l v → RuleStands l v
        unfolding shape_by
        rule-stands s = record {
          book = s.given.0;
          good = s.given.1;
          bytes = s.given.2;
          shape_is_rule = shape-told s.given.0 v c s.given.2 counted (fields l) d told ∙ rw z;
          short = s.short;
        }

        pub line-rule : (u : List ℕ) (m : ℕ) → ShapeJudged v u (fields l) (rule_of (fields l)) m
            → LineJudged v u (ended_line l) m
        unfolding shape_by
        line-rule u m j = shaped u m _ (rw z) j
