-- What the place of number 4 means: none for the spelling of a term; else the first byte that no term has there.
use Rattle.std.specs.Prelude.{ℕ, zero, suc, ◌≤◌, ◌<◌, ◌≡◌, refl, Bool, true, false, cond, not, ◌↔◌, List, [], ◌∷◌, ◌++◌, length, take}
use Rattle.std.proofs.Common.{sym, ap, ◌∙◌, arith}
use Rattle.std.proofs.Math.Option.{Option, none, some}
use Rattle.texts.specs.Bytes.{letter, digit, word_byte}
use Rattle.texts.specs.Terms.{Term}
use Rattle.texts.specs.Reader.{term_of}
use Rattle.texts.specs.Scan.{Scan, after_term, next, scan, done}
use Rattle.texts.proofs.Beneath.Scan.{scan-exact}
use Rattle.texts.specs.Scan.{want, shut, lost}
use Rattle.texts.specs.Scan.{word}
use Rattle.texts.specs.Passes.{misspelt}
use Rattle.texts.proofs.Beneath.Tools.{never}
use Rattle.field_tests.specs.Spelled.{is_lost, lost_at, misspelt_at}

none_not_some : {A : Type 0} {n : ℕ} → ◌≡◌ {A = Option ℕ} none (some n) → A
none_not_some h = absurd (let z : ◌≡◌ {A = ℕ} 0 1 = cc in omega arith)

-- no place: the field spells a term
pub right_spelled : (l : List ℕ) → none ≡ misspelt_at l → misspelt l ≡ false
unfolding misspelt_at misspelt
right_spelled l h = go (done (scan (want 0) l)) h
  where
    go : (t : Bool) → none ≡ cond t none (some (lost_at (want 0) l)) → not t ≡ false
    go true k = refl
    go false k = none_not_some k

-- a place: it is misspelt
pub wrong-spelled : (l : List ℕ) (n : ℕ) → some n ≡ misspelt_at l → (misspelt l ≡ true) × (n ≡ lost_at (want 0) l)
unfolding misspelt_at misspelt
wrong-spelled l n h = go (done (scan (want 0) l)) h
  where
    go : (t : Bool) → some n ≡ cond t none (some (lost_at (want 0) l)) → (not t ≡ true) × (n ≡ lost_at (want 0) l)
    go true k = none_not_some (sym k)
    go false k = (refl, cc)

pub spelled-exact : (l : List ℕ) → (misspelt_at l ≡ none) ↔ ((t : Term) × (term_of l ≡ some t))
unfolding misspelt_at
spelled-exact l =
    (λ h. (scan-exact l).0 (go (done (scan (want 0) l)) h), λ p. rw ((scan-exact l).1 p))
  where
    go : (t : Bool) → cond t none (some (lost_at (want 0) l)) ≡ none → t ≡ true
    go true k = refl
    go false k = none_not_some (sym k)

pub lost_le : (q : Scan) (l : List ℕ) → lost_at q l ≤ length l
unfolding lost_at
lost_le q [] = omega arith
lost_le q (b ∷ bs) = go (is_lost (next q b)) (lost_le (next q b) bs)
  where
    go : (t : Bool) → lost_at (next q b) bs ≤ length bs → cond t 0 (suc (lost_at (next q b) bs)) ≤ suc (length bs)
    go true h = omega arith
    go false h = omega arith

-- the pass is lost at the place, and not before it
pub lost_on : (q : Scan) → is_lost q ≡ true → q ≡ lost
unfolding is_lost
lost_on (want d) h = never h
lost_on (word d) h = never h
lost_on (shut d) h = never h
lost_on lost h = refl

pub lost-scan : (l : List ℕ) → scan lost l ≡ lost
unfolding scan next
lost-scan [] = refl
lost-scan (b ∷ bs) = lost-scan bs

lost_at_lem : (q : Scan) (l s : List ℕ) → lost_at q l < length l → scan q (take (suc (lost_at q l)) l ++ s) ≡ lost
unfolding lost_at scan
lost_at_lem q [] s h = absurd (omega arith)
lost_at_lem q (b ∷ bs) s h = go (is_lost (next q b)) refl h (lost_at_lem (next q b) bs s)
  where
    go : (t : Bool) → is_lost (next q b) ≡ t → cond t 0 (suc (lost_at (next q b) bs)) < suc (length bs)
        → (lost_at (next q b) bs < length bs → scan (next q b) (take (suc (lost_at (next q b) bs)) bs ++ s) ≡ lost)
        → scan (next q b) (take (cond t 0 (suc (lost_at (next q b) bs))) bs ++ s) ≡ lost
    go true e k ih = ap (λ (p : Scan). scan p s) (lost_on (next q b) e) ∙ lost-scan s
    go false e k ih = ih (omega arith)

kept : (q : Scan) (l : List ℕ) → is_lost q ≡ false → is_lost (scan q (take (lost_at q l) l)) ≡ false
unfolding lost_at scan
kept q [] h = h
kept q (b ∷ bs) h = go (is_lost (next q b)) refl (kept (next q b) bs)
  where
    go : (t : Bool) → is_lost (next q b) ≡ t
        → (is_lost (next q b) ≡ false → is_lost (scan (next q b) (take (lost_at (next q b) bs) bs)) ≡ false)
        → is_lost (scan q (take (cond t 0 (suc (lost_at (next q b) bs))) (b ∷ bs))) ≡ false
    go true e ih = h
    go false e ih = ih e

scan-append : (q : Scan) (l s : List ℕ) → scan q (l ++ s) ≡ scan (scan q l) s
unfolding scan
scan-append q [] s = refl
scan-append q (b ∷ bs) s = scan-append (next q b) bs s

-- what ends a field from where the pass stands: a word where a term is wanted, and the brackets that are open
shuts : ℕ → List ℕ
shuts zero = []
shuts (suc d) = 41 ∷ shuts d

ending : Scan → List ℕ
ending (want d) = 97 ∷ shuts d
ending (word d) = shuts d
ending (shut d) = shuts d
ending lost = []

shut-done : (d : ℕ) → done (scan (shut d) (shuts d)) ≡ true
unfolding scan done shuts next after_term
shut-done zero = refl
shut-done (suc d) = shut-done d

word-done : (d : ℕ) → done (scan (word d) (shuts d)) ≡ true
unfolding scan done shuts next after_term word_byte letter digit
word-done zero = refl
word-done (suc d) = shut-done d

ending-done : (q : Scan) → is_lost q ≡ false → done (scan q (ending q)) ≡ true
unfolding ending is_lost scan next letter
ending-done (want d) h = word-done d
ending-done (word d) h = word-done d
ending-done (shut d) h = shut-done d
ending-done lost h = never (sym h)

-- what stands before the place begins the spelling of some term
pub begins-term : (l : List ℕ) → (s : List ℕ) × (t : Term) × (term_of (take (lost_at (want 0) l) l ++ s) ≡ some t)
unfolding is_lost
begins-term l =
    let p = take (lost_at (want 0) l) l in
    let q = scan (want 0) p in
    let e : done (scan (want 0) (p ++ ending q)) ≡ true =
    rw (scan-append (want 0) p (ending q)) (ending-done q (kept (want 0) l refl)) in
    let r = (scan-exact (p ++ ending q)).0 e in
    (ending q, r.0, r.1)

-- and with the byte at the place it begins none
pub begins_none : (l s : List ℕ) (t : Term) → lost_at (want 0) l < length l
    → term_of (take (suc (lost_at (want 0) l)) l ++ s) ≡ some t → ⊥
unfolding done
begins_none l s t h e =
    never (ap done (sym (lost_at_lem (want 0) l s h)) ∙ (scan-exact (take (suc (lost_at (want 0) l)) l ++ s)).1 (t, e))
