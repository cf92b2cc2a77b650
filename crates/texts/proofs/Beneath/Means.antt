-- Headers and lists of term fields: what they mean is what they spell.
use Rattle.std.specs.Prelude.{ℕ, ◌<◌, Bool, cond, not, ◌↔◌, List, [], ◌∷◌, map}
use Rattle.std.proofs.Math.Path.{◌≡◌, refl}
use Rattle.std.proofs.Common.{sym, ap, ◌∙◌, arith}
use Rattle.std.proofs.Math.Bool.{true, false}
use Rattle.std.proofs.Math.Option.{Option, none, some}
use Rattle.std.proofs.lemmas.Bool.{not-false}
use Rattle.texts.specs.Bytes.{Word, Line, all, same, word_byte, fault2, fields, number_of, decimal}
use Rattle.texts.specs.Terms.{Term, spell, worded}
use Rattle.texts.specs.Books.{Equation, sides, pairs, write_header}
use Rattle.texts.specs.Answers.{OfLine, fine, absent, need, refuse, ◌>>=◌}
use Rattle.texts.specs.RuleText.{Counts, header_of, header_line, terms_of, even}
use Rattle.texts.proofs.Beneath.Tools.{never, both, pair, neither, same_refl, same_eq, found}
use Rattle.texts.specs.Bytes.{ended_line}
use Rattle.texts.proofs.Beneath.Splitting.{fields-line, line-fields, number-decimal, decimal-number}
use Rattle.texts.proofs.Beneath.Spelling.{term-spell, spell-term}
use Rattle.texts.proofs.Beneath.Plain.{in_field, Plain, Plains, word-plain, decimal-plain, line-tabs, line_bytes}
use Rattle.texts.specs.Reader.{term_of}

-- Steps of a line that is fine.
module _ {A : Type 0} where
  pub refuse-fine : (k : ℕ) (t : Bool) (r : OfLine A) {a : A} → refuse k t r ≡ fine a → (t ≡ false) × (r ≡ fine a)
  unfolding refuse
  refuse-fine k true r h = absurd (let z : ◌≡◌ {A = ℕ} 0 1 = cc in omega arith)
  refuse-fine k false r h = (refl, h)

module _ {A B : Type 0} where
  pub need-fine : (k : ℕ) (o : Option B) (f : B → OfLine A) {a : A} → need k o f ≡ fine a → (b : B) × (o ≡ some b) × (f b ≡ fine a)
  unfolding need
  need-fine k none f h = absurd (let z : ◌≡◌ {A = ℕ} 0 1 = cc in omega arith)
  need-fine k (some b) f h = (b, refl, h)

  pub nothing : {a : A} → ◌≡◌ {A = Option A} none (some a) → B
  nothing h = absurd (let z : ◌≡◌ {A = ℕ} 0 1 = cc in omega arith)

-- A line with no bad byte has ended.
pub line-ended : (l : Line) → fault2 l ≡ false → l ≡ ended_line l.bytes
unfolding fault2 ended_line
line-ended l h = let e = not-false l.ended (neither (not l.ended) _ h).0 in ap (λ (t : Bool). record { bytes = l.bytes; ended = t }) e

-- Terms.
pub terms-spell : (ts : List Term) → all worded ts ≡ true → terms_of (map spell ts) ≡ some ts
unfolding terms_of all ◌>>=◌
terms-spell [] h = refl
terms-spell (t ∷ ts) h = let p = both (worded t) (all worded ts) h in rw (term-spell t p.0, terms-spell ts p.1)

pub spell-terms : (fs : List Word) (ts : List Term) → terms_of fs ≡ some ts → (map spell ts ≡ fs) × (all worded ts ≡ true)
unfolding terms_of all
spell-terms [] ts h = let z : [] ≡ ts = cc in rw (← z) (refl, refl)
spell-terms (f ∷ fs) ts h =
    let p = found (term_of f) _ h in
    let q = found (terms_of fs) _ p.2 in
    let a = spell-term f p.0 p.1 in
    let b = spell-terms fs q.0 q.1 in
    let z : p.0 ∷ q.0 ≡ ts = cc q.2 in
    rw (← z) (rw (a.0, b.0), pair (worded p.0) (all worded q.0) a.1 b.1)

pub sides-pairs : (ts : List Term) → even ts ≡ true → sides (pairs ts) ≡ ts
unfolding even sides pairs
sides-pairs [] h = refl
sides-pairs (s ∷ []) h = never h
sides-pairs (s ∷ t ∷ ts) h = rw (sides-pairs ts h)

pub pairs-sides : (es : List Equation) → pairs (sides es) ≡ es
unfolding sides pairs
pairs-sides [] = refl
pairs-sides (e ∷ es) = rw (pairs-sides es)

pub even-sides : (es : List Equation) → even (sides es) ≡ true
unfolding even sides
even-sides [] = refl
even-sides (e ∷ es) = even-sides es

pub even-map : {A B : Type 0} (f : A → B) (xs : List A) → even (map f xs) ≡ even xs
unfolding even
even-map f [] = refl
even-map f (x ∷ []) = refl
even-map f (x ∷ y ∷ xs) = even-map f xs

-- Headers.
-- the counts can be written.
abbrev pub Small : Counts → Type 0
Small c = (c.upper < 10000) × (c.lower < 10000)

header_of_lem : (w : Word) (fs : List Word) (c : Counts) → header_of w fs ≡ some c → (w ∷ decimal c.upper ∷ decimal c.lower ∷ [] ≡ fs) × Small c
unfolding header_of
header_of_lem w [] c h = nothing h
header_of_lem w (f ∷ []) c h = nothing h
header_of_lem w (f ∷ m ∷ []) c h = nothing h
header_of_lem w (f ∷ m ∷ n ∷ []) c h = go (same f w) refl h
  where
    go : (t : Bool) → same f w ≡ t
        → cond t (number_of m >>= λ a. number_of n >>= λ b. some (record { upper = a; lower = b })) none ≡ some c
        → (w ∷ decimal c.upper ∷ decimal c.lower ∷ [] ≡ f ∷ m ∷ n ∷ []) × Small c
    go true e k =
        let p = found (number_of m) _ k in
        let q = found (number_of n) _ p.2 in
        let a = decimal-number m p.0 p.1 in
        let b = decimal-number n q.0 q.1 in
        let z : ◌≡◌ {A = Counts} (record { upper = p.0; lower = q.0 }) c = cc q.2 in
        rw (← z) (rw (a.0, b.0, same_eq f w e), (a.1, b.1))
    go false e k = nothing k
header_of_lem w (f ∷ m ∷ n ∷ g ∷ gs) c h = nothing h

of_header : (w : Word) (c : Counts) → Small c → header_of w (w ∷ decimal c.upper ∷ decimal c.lower ∷ []) ≡ some c
unfolding header_of ◌>>=◌
of_header w c s = rw (same_refl w, number-decimal c.upper s.0, number-decimal c.lower s.1)

-- No header's fields: a word and two numbers.
pub header-absent : (w : Word) (fs : List Word)
    → (absent (header_of w fs) ≡ true)
    ↔ (¬ ((m : ℕ) × (n : ℕ) × (m < 10000) × (n < 10000) × (fs ≡ w ∷ decimal m ∷ decimal n ∷ [])))
unfolding absent
header-absent w fs = (λ h (m, n, p, q, e). never (sym (ap absent (ap (header_of w) e ∙ of_header w (record { upper = m; lower = n }) (p, q))) ∙ h), from (header_of w fs) refl)
  where
    from : (o : Option Counts) → header_of w fs ≡ o → ¬ ((m : ℕ) × (n : ℕ) × (m < 10000) × (n < 10000) × (fs ≡ w ∷ decimal m ∷ decimal n ∷ []))
        → absent o ≡ true
    from none e k = refl
    from (some c) e k = let p = header_of_lem w fs c e in absurd (k (c.upper, c.lower, p.1.0, p.1.1, sym p.0))

pub some_plain : (w : Word) (ws : List Word) → Plain w → Plains ws → Plains (w ∷ ws)
unfolding all
some_plain w ws h k = pair (all in_field w) _ h k

pub two : (v w : Word) → Plain v → Plain w → Plains (v ∷ w ∷ [])
unfolding all
two v w h k = some_plain v (w ∷ []) h (some_plain w [] k refl)

pub header-fine : (w : Word) → all word_byte w ≡ true → (l : Line) (c : Counts)
    → (header_line w l ≡ fine c) ↔ ((l ≡ ended_line (write_header w c.upper c.lower)) × Small c)
unfolding header_line write_header refuse need ended_line
header-fine w ok l c = (to, from)
  where
    to : header_line w l ≡ fine c → (l ≡ ended_line (write_header w c.upper c.lower)) × Small c
    to h =
        let p = refuse-fine 2 (fault2 l) _ h in
        let q = need-fine 3 (header_of w (fields l.bytes)) fine p.1 in
        let z : q.0 ≡ c = cc q.2 in
        let r = header_of_lem w (fields l.bytes) c (q.1 ∙ ap some z) in
        (line-ended l p.0 ∙ ap ended_line (sym (line-fields l.bytes w _ (sym r.0))), r.1)

    from : (l ≡ ended_line (write_header w c.upper c.lower)) × Small c → header_line w l ≡ fine c
    from (e, s) =
        let d : Plains (decimal c.upper ∷ decimal c.lower ∷ []) = two (decimal c.upper) (decimal c.lower) (decimal-plain c.upper s.0) (decimal-plain c.lower s.1) in
        rw (
          e,
          line_bytes w (decimal c.upper ∷ decimal c.lower ∷ []) (word-plain w ok) d,
          fields-line w (decimal c.upper ∷ decimal c.lower ∷ []) (line-tabs _ (some_plain w _ (word-plain w ok) d)),
          of_header w c s,
        )
