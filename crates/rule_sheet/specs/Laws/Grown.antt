-- Names that grow from a list: those that are not there yet, each once.
use Rattle.std.specs.Prelude.{◌≡◌, Bool, cond, not}
use Rattle.std.proofs.Math.Path.{refl}
use Rattle.std.proofs.Common.{sym, ap, ◌∙◌}
use Rattle.std.proofs.Math.Bool.{true, false}
use mathlib.Core.List.Memᴰ
use mathlib.Core.List.{List, [], ◌∷◌, ◌++◌, append-nil, append_assoc}
use Rattle.texts.specs.Bytes.{Word, keep, among, different, In}
use Rattle.texts.proofs.Beneath.Tools.{never}
use Rattle.texts.proofs.Beneath.Places.{keep_in}
use Rattle.texts.proofs.Beneath.TermLists.{among-append}
use Rattle.terms.specs.Meaning.{grown}
use Rattle.terms.proofs.Main.{names-different}

module _ (ws : List Word) where
  abbrev other : Word → Bool
  other w = not (among w ws)

  -- What is there makes no difference.
  skip : (us vs : List Word) → grown (ws ++ us) vs ≡ grown (ws ++ us) (keep other vs)
  unfolding grown keep
  skip us [] = refl
  skip us (v ∷ vs) = go (among v ws) refl (λ u. skip u vs)
    where
      go : (t : Bool) → among v ws ≡ t → ((u : List Word) → grown (ws ++ u) vs ≡ grown (ws ++ u) (keep other vs))
          → grown (cond (among v (ws ++ us)) (ws ++ us) ((ws ++ us) ++ (v ∷ []))) vs ≡ grown (ws ++ us) (cond (not t) (v ∷ keep other vs) (keep other vs))
      go true e ih = rw (among-append v ws us, e) (ih us)
      go false e ih = on (among v (ws ++ us)) refl
        where
          on : (u : Bool) → among v (ws ++ us) ≡ u
              → grown (cond (among v (ws ++ us)) (ws ++ us) ((ws ++ us) ++ (v ∷ []))) vs ≡ grown (cond (among v (ws ++ us)) (ws ++ us) ((ws ++ us) ++ (v ∷ []))) (keep other vs)
          on true q = rw q (ih us)
          on false q = rw (q, append_assoc ws us (v ∷ [])) (ih (us ++ (v ∷ [])))

  -- Words that are not there grow behind it as by themselves.
  behind : (us vs : List Word) → ((v : Word) → In v vs → among v ws ≡ false) → grown (ws ++ us) vs ≡ ws ++ grown us vs
  unfolding grown
  behind us [] h = refl
  behind us (v ∷ vs) h = go (among v us) refl (λ u. behind u vs (λ w m. h w (Memᴰ.tail m)))
    where
      go : (t : Bool) → among v us ≡ t → ((u : List Word) → grown (ws ++ u) vs ≡ ws ++ grown u vs)
          → grown (cond (among v (ws ++ us)) (ws ++ us) ((ws ++ us) ++ (v ∷ []))) vs ≡ ws ++ grown (cond t us (us ++ (v ∷ []))) vs
      go true e ih = rw (among-append v ws us, h v (Memᴰ.head refl), e) (ih us)
      go false e ih = rw (among-append v ws us, h v (Memᴰ.head refl), e, append_assoc ws us (v ∷ [])) (ih (us ++ (v ∷ [])))

  pub grown_new : (vs : List Word) → grown ws vs ≡ ws ++ different (keep other vs)
  grown_new vs =
      ap (λ (l : List Word). grown l vs) (sym (append-nil ws))
      ∙ (skip [] vs ∙ (behind [] (keep other vs) (λ v m. not_there v (keep_in other v vs m).1) ∙ ap (λ (l : List Word). ws ++ l) (names-different (keep other vs))))
    where
      not_there : (v : Word) → not (among v ws) ≡ true → among v ws ≡ false
      not_there v h = go (among v ws) h
        where
          go : (t : Bool) → not t ≡ true → t ≡ false
          go true k = never k
          go false k = refl

pub keep_same : (f g : Word → Bool) (xs : List Word) → ((x : Word) → In x xs → f x ≡ g x) → keep f xs ≡ keep g xs
unfolding keep
keep_same f g [] h = refl
keep_same f g (x ∷ xs) h = rw (h x (Memᴰ.head refl), keep_same f g xs (λ y m. h y (Memᴰ.tail m)))
