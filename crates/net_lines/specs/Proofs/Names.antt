-- Names by first occurrence, over terms and more terms.
use Rattle.std.specs.Prelude.{◌≡◌, refl, true, cond, List, [], ◌∷◌, ◌++◌}
use Rattle.std.proofs.Common.{sym, ap, ◌∙◌}
use mathlib.Core.List.Memᴰ
use Rattle.texts.specs.Bytes.{Word, among, different, In}
use Rattle.texts.specs.Terms.{Term}
use Rattle.texts.specs.Books.{Agent, names_of}
use Rattle.texts.proofs.Beneath.Tools.{in_among}
use Rattle.texts.proofs.Beneath.Places.{in_different}
use Rattle.texts.proofs.Beneath.NetMeans.{names-append}
use Rattle.terms.specs.Meaning.{grown}
use Rattle.terms.proofs.Main.{names-different}
use Rattle.terms.proofs.Beneath.Numbers.{grown-append, grown_on}
use Rattle.net_lines.specs.Draft.{named}

pub named-append : (ags : List Agent) (ts us : List Term) → grown (named ags ts) (names_of ags us) ≡ named ags (ts ++ us)
named-append ags ts us =
    ap (λ l. grown l (names_of ags us)) (sym (names-different (names_of ags ts)))
    ∙ sym (grown-append [] (names_of ags ts) (names_of ags us))
    ∙ names-different (names_of ags ts ++ names_of ags us)
    ∙ ap different (sym (names-append ags ts us))

pub named_on : (ags : List Agent) (ts us : List Term) → (zs : List Word) × (named ags (ts ++ us) ≡ named ags ts ++ zs)
named_on ags ts us = let g = grown_on (named ags ts) (names_of ags us) in (g.0, sym (named-append ags ts us) ∙ g.1)

stays : (ws vs : List Word) → ((v : Word) → In v vs → among v ws ≡ true) → grown ws vs ≡ ws
unfolding grown
stays ws [] h = refl
stays ws (v ∷ vs) h = ap (λ t. grown (cond t ws (ws ++ (v ∷ []))) vs) (h v (Memᴰ.head refl)) ∙ stays ws vs (λ x i. h x (Memᴰ.tail i))

in_right : (us : List Word) {vs : List Word} {v : Word} → In v vs → In v (us ++ vs)
in_right [] i = i
in_right (u ∷ us) i = Memᴰ.tail (in_right us i)

-- names that stand already bring nothing new
pub named_stays : (ags : List Agent) (ts us : List Term) → grown (named ags (ts ++ us)) (names_of ags us) ≡ named ags (ts ++ us)
named_stays ags ts us =
    stays (named ags (ts ++ us)) (names_of ags us)
    (λ v i. in_among v (named ags (ts ++ us)) (in_different v (names_of ags (ts ++ us)) (rw (names-append ags ts us) (in_right (names_of ags ts) i))))
