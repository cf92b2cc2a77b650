-- Number 3 exactly: what a line is, and the record that it means.
use Rattle.std.specs.Prelude.{◌<◌, ◌≡◌, refl, Bool, true, false, cond, ◌&&◌, ◌↔◌, List, [], ◌∷◌, map}
use Rattle.std.proofs.Common.{sym, ap, ◌∙◌}
use Rattle.std.proofs.Math.Option.{Option, none, some}
use Rattle.texts.specs.Bytes.{Word, Line, all, same, fields, number_of, decimal}
use Rattle.texts.specs.Terms.{spell, worded, symbol}
use Rattle.texts.specs.Books.{Book, Record, is_agent, is_rule, sides, pairs, lefts, rights, word_agent, word_rule}
use Rattle.texts.specs.Answers.{absent, ◌>>=◌}
use Rattle.texts.specs.RuleText.{terms_of, even, Shape, agent_shape, rule_shape, agent_fields, rule_fields, ruleless, shape_of, record_of, shape, fault3}
use Rattle.texts.proofs.Beneath.Tools.{never, both, same_eq, found}
use Rattle.texts.proofs.Beneath.Splitting.{number-decimal, decimal-number}
use Rattle.texts.proofs.Beneath.Spelling.{term-spell, spell-term}
use Rattle.texts.proofs.Beneath.Means.{nothing, terms-spell, spell-terms, sides-pairs, pairs-sides, even-map}
use Rattle.texts.specs.Reader.{term_of}
use Rattle.texts.specs.Good.{Spelt}

-- The fields of an agent's line and of a rule's.
unfoldable pub shape_fields : Shape → List Word
shape_fields (agent_shape s n) = word_agent ∷ s ∷ decimal n ∷ []
shape_fields (rule_shape f g fs) = word_rule ∷ f ∷ g ∷ fs

-- An agent before all rules, its number written in 1 to 4 digits; and right sides as pairs of fields.
unfoldable pub Fits : Book → Shape → Type 0
Fits b (agent_shape s n) = (ruleless b ≡ true) × (n < 10000)
Fits b (rule_shape f g fs) = even fs ≡ true

-- How a record is written.
unfoldable pub shape_for : Record → Shape
shape_for (is_agent a) = agent_shape a.symbol a.arity
shape_for (is_rule r) = rule_shape (spell r.first) (spell r.second) (map spell (rights r))

pub agent_shape_lem : (b : Book) (fs : List Word) (s : Shape) → ruleless b ≡ true → agent_fields fs ≡ some s → (shape_fields s ≡ word_agent ∷ fs) × Fits b s
unfolding agent_fields shape_fields Fits
agent_shape_lem b [] s r h = nothing h
agent_shape_lem b (f ∷ []) s r h = nothing h
agent_shape_lem b (f ∷ n ∷ []) s r h =
    let p = found (number_of n) _ h in
    let a = decimal-number n p.0 p.1 in
    let z : agent_shape f p.0 ≡ s = cc p.2 in
    rw (← z) (rw a.0, (r, a.1))
agent_shape_lem b (f ∷ n ∷ g ∷ gs) s r h = nothing h

pub rule_shape_lem : (b : Book) (fs : List Word) (s : Shape) → rule_fields fs ≡ some s → (shape_fields s ≡ word_rule ∷ fs) × Fits b s
unfolding rule_fields shape_fields Fits
rule_shape_lem b [] s h = nothing h
rule_shape_lem b (f ∷ []) s h = nothing h
rule_shape_lem b (f ∷ g ∷ fs) s h = go (even fs) refl h
  where
    go : (t : Bool) → even fs ≡ t → cond t (some (rule_shape f g fs)) none ≡ some s → (shape_fields s ≡ word_rule ∷ f ∷ g ∷ fs) × Fits b s
    go true e k = let z : rule_shape f g fs ≡ s = cc in rw (← z) (refl, e)
    go false e k = nothing k

pub to_shape : (b : Book) (fs : List Word) (s : Shape) → shape_of b fs ≡ some s → (shape_fields s ≡ fs) × Fits b s
unfolding shape_of
to_shape b [] s h = nothing h
to_shape b (w ∷ fs) s h = go (same w word_agent && ruleless b) (same w word_rule) refl refl h
  where
    go : (t u : Bool) → (same w word_agent && ruleless b) ≡ t → same w word_rule ≡ u
        → cond t (agent_fields fs) (cond u (rule_fields fs) none) ≡ some s → (shape_fields s ≡ w ∷ fs) × Fits b s
    go true u e f k = let p = both (same w word_agent) (ruleless b) e in rw (same_eq w word_agent p.0) (agent_shape_lem b fs s p.1 k)
    go false true e f k = rw (same_eq w word_rule f) (rule_shape_lem b fs s k)
    go false false e f k = nothing k

pub from-shape : (b : Book) (s : Shape) → Fits b s → shape_of b (shape_fields s) ≡ some s
unfolding shape_of shape_fields Fits agent_fields rule_fields same ◌>>=◌
from-shape b (agent_shape s n) (r, h) = rw (r, number-decimal n h)
from-shape b (rule_shape f g fs) h = rw h

-- A line has a shape exactly where its fields are that shape's.
pub shape-exact : (b : Book) (fs : List Word) (s : Shape) → (shape_of b fs ≡ some s) ↔ ((shape_fields s ≡ fs) × Fits b s)
shape-exact b fs s = (to_shape b fs s, λ p. rw p.0 at (from-shape b s p.1))

-- Number 4: the records that a shape can mean.
pub to_record : (b : Book) (s : Shape) (r : Record) → Fits b s → record_of s ≡ some r → (shape_for r ≡ s) × Spelt r
unfolding record_of shape_for Spelt Fits lefts rights all
to_record b (agent_shape w n) r f h = go (symbol w) refl h
  where
    go : (t : Bool) → symbol w ≡ t → cond t (some (is_agent (record { symbol = w; arity = n }))) none ≡ some r → (shape_for r ≡ agent_shape w n) × Spelt r
    go true e k = let z : is_agent (record { symbol = w; arity = n }) ≡ r = cc in rw (← z) (refl, e)
    go false e k = nothing k
to_record b (rule_shape f g fs) r ev h =
    let p = found (term_of f) _ h in
    let q = found (term_of g) _ p.2 in
    let u = found (terms_of fs) _ q.2 in
    let a = spell-term f p.0 p.1 in
    let c = spell-term g q.0 q.1 in
    let d = spell-terms fs u.0 u.1 in
    let k : even u.0 ≡ true = sym (even-map spell u.0) ∙ (ap even d.0 ∙ ev) in
    let z : is_rule (record { first = p.0; second = q.0; right = pairs u.0 }) ≡ r = cc u.2 in
    rw (← z) (rw (a.0, c.0, sides-pairs u.0 k, d.0), rw (sides-pairs u.0 k, a.1, c.1) d.1)

pub from_record : (r : Record) → Spelt r → record_of (shape_for r) ≡ some r
unfolding record_of shape_for Spelt lefts rights all ◌>>=◌
from_record (is_agent a) h = rw h
from_record (is_rule r) h =
    let p = both (worded r.first) _ h in
    let q = both (worded r.second) _ p.1 in
    rw (term-spell r.first p.0, term-spell r.second q.0, terms-spell (sides r.right) q.1, pairs-sides r.right)

-- A line with a shape means a record exactly where the record is spelt so.
pub record_exact : (b : Book) (s : Shape) → Fits b s → (r : Record) → (record_of s ≡ some r) ↔ ((shape_for r ≡ s) × Spelt r)
record_exact b s f r = (to_record b s r f, λ p. rw p.0 at (from_record r p.1))

-- Numbers 3 and 4 by what can be written: no shape, and a shape of no record.
pub fault3-exact : (b : Book) (l : Line) → (fault3 b l ≡ true) ↔ (¬ ((s : Shape) × (shape_fields s ≡ fields l.bytes) × Fits b s))
unfolding fault3 shape absent
fault3-exact b l = (λ h p. to (shape_of b (fields l.bytes)) refl h p, λ n. from (shape_of b (fields l.bytes)) refl n)
  where
    to : (o : Option Shape) → shape_of b (fields l.bytes) ≡ o → absent o ≡ true → (s : Shape) × (shape_fields s ≡ fields l.bytes) × Fits b s → ⊥
    to none e h (s, f, k) = nothing (sym e ∙ (shape-exact b (fields l.bytes) s).1 (f, k))
    to (some s) e h p = never h

    from : (o : Option Shape) → shape_of b (fields l.bytes) ≡ o → ¬ ((s : Shape) × (shape_fields s ≡ fields l.bytes) × Fits b s) → absent o ≡ true
    from none e n = refl
    from (some s) e n = let p = (shape-exact b (fields l.bytes) s).0 e in absurd (n (s, p.0, p.1))
