-- A sound table gives a sound book of rules: each entry reads as one rule only.
use Rattle.std.specs.Prelude.{◌≡◌, refl, List, ◌∷◌, ℕ}
use Rattle.std.proofs.Common.{sym, ◌∙◌, ap, ap₂, subst}
use Rattle.calculus.specs.Calculus.{Rule, Proper, SamePair}
use Rattle.calculus.proofs.Beneath.Count.{first_term, rest_terms}
use Rattle.calculus.specs.Terms.{Eqn, ◌≐◌}
use Rattle.parts.specs.Sides.{Pair}
use Rattle.model.specs.Table.{Cell, Entry, Table}
use Rattle.model.specs.Reading.{ReadsAll, no_pairs, pairs}
use Rattle.model.specs.Sound.{Means, book}
use Rattle.model.specs.SoundTable.{SoundTable}
use Rattle.model.proofs.Beneath.Cells.{one_outcome}
use Rattle.calculus.specs.Calculus as C

pub one_reading : {mem : ℕ → Cell} {l : List Pair} {m m' : List Eqn} {cs cs' : List ℕ} → ReadsAll mem l m cs
    → ReadsAll mem l m' cs' → m ≡ m'
one_reading no_pairs no_pairs = refl
one_reading (pairs {t = t} r w) (pairs r' w') =
    let o = one_outcome r r' in
    ap₂ ◌∷◌ (ap₂ ◌≐◌ (ap (λ ts. first_term ts t) o.the_terms) (ap (λ ts. first_term (rest_terms ts) t) o.the_terms)) (one_reading w w')

means_one : {T : Table} {e : Entry} {r r' : Rule} → Means T e r → Means T e r' → r ≡ r'
means_one {r = r} {r' = r'} a b =
    ap (λ v. record { left = v; right = r.right; xs = r.xs; ys = r.ys; new = r.new; body = r.body }) (a.left ∙ sym b.left)
    ∙ ap (λ v. record { left = r'.left; right = v; xs = r.xs; ys = r.ys; new = r.new; body = r.body }) (a.right ∙ sym b.right)
    ∙ ap (λ v. record { left = r'.left; right = r'.right; xs = v; ys = r.ys; new = r.new; body = r.body }) (a.xs ∙ sym b.xs)
    ∙ ap (λ v. record { left = r'.left; right = r'.right; xs = r'.xs; ys = v; new = r.new; body = r.body }) (a.ys ∙ sym b.ys)
    ∙ ap (λ v. record { left = r'.left; right = r'.right; xs = r'.xs; ys = r'.ys; new = v; body = r.body }) (a.new ∙ sym b.new)
    ∙ ap (λ v. record { left = r'.left; right = r'.right; xs = r'.xs; ys = r'.ys; new = r'.new; body = v }) (one_reading a.reads b.reads)

pub book-sound : {T : Table} (h : SoundTable T) → C.Sound (book T)
book-sound {T} h = record { proper = proper; single = single }
  where
    is : {i : ℕ} {r : Rule} → book T i r → r ≡ h.rule i
    is {i} b = means_one b.1 (h.entries i b.0).means

    proper : (i : ℕ) (r : Rule) → book T i r → Proper r
    proper i r b = subst Proper (sym (is b)) (h.entries i b.0).proper

    single : (i j : ℕ) (r s : Rule) → book T i r → book T j s → SamePair r s → (i ≡ j) × (r ≡ s)
    single i j r s b b' p =
        let e : i ≡ j = h.single i j b.0 b'.0 (subst (λ x. SamePair x (h.rule j)) (is b) (subst (λ x. SamePair r x) (is b') p)) in
        (e, is b ∙ ap h.rule e ∙ sym (is b'))
