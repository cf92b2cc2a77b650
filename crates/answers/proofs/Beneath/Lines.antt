-- How printed trees are spelt: after a head, and one after another in a line.
use Rattle.std.specs.Prelude.{◌≡◌, refl, List, [], ◌∷◌, ◌++◌, map, ℕ}
use Rattle.std.proofs.Common.{sym, ◌∙◌, ap, append_assoc, append-nil}
use Rattle.calculus.specs.Terms.{var, node, nil, cons, Terms}
use Rattle.texts.specs.Bytes.{tabbed}
use Rattle.texts.specs.Terms.{spell, brackets, closing}
use Rattle.texts.specs.Books.{Agent}
use Rattle.answers.specs.Text.{spelling, numeral, text, texts}

-- Some terms, the byte f before the first and the byte g before each other.
abbrev pub parted : List Agent → ℕ → ℕ → Terms → List ℕ
parted ags f g nil = []
parted ags f g (cons t ts) = f ∷ (spell (text ags t) ++ parted ags g g ts)

abbrev pub closed : Terms → List ℕ
closed nil = []
closed (cons t ts) = 41 ∷ []

pub spell-name : (ags : List Agent) (k : ℕ) → spell (text ags (var k)) ≡ numeral k
unfolding spell brackets
spell-name ags k = append-nil (numeral k)

pub spell-agent : (ags : List Agent) (a : ℕ) (ts : Terms)
    → spell (text ags (node a ts)) ≡ spelling ags a ++ (parted ags 40 44 ts ++ closed ts)
unfolding spell brackets closing
spell-agent ags a ts = ap (λ l. spelling ags a ++ l) (go ts)
  where
    rest : (us : Terms) → closing (text ags us) ≡ parted ags 44 44 us ++ (41 ∷ [])
    rest nil = refl
    rest (cons t us) =
        ap (λ l. 44 ∷ (spell (text ags t) ++ l)) (rest us)
        ∙ ap (λ l. 44 ∷ l) (sym (append_assoc (spell (text ags t)) (parted ags 44 44 us) (41 ∷ [])))

    go : (us : Terms) → brackets (text ags us) ≡ parted ags 40 44 us ++ closed us
    go nil = refl
    go (cons t us) =
        ap (λ l. 40 ∷ (spell (text ags t) ++ l)) (rest us)
        ∙ ap (λ l. 40 ∷ l) (sym (append_assoc (spell (text ags t)) (parted ags 44 44 us) (41 ∷ [])))

pub tabs : (ags : List Agent) (ts : Terms) → tabbed (map spell (texts ags ts)) ≡ parted ags 9 9 ts
unfolding tabbed
tabs ags nil = refl
tabs ags (cons t ts) = ap (λ l. 9 ∷ (spell (text ags t) ++ l)) (tabs ags ts)
