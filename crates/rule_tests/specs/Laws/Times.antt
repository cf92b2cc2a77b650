-- How often a word stands in a list.
use Rattle.std.specs.Prelude.{suc, ◌+◌, ◌≤◌, ◌≡◌, refl, Bool, true, false, cond, not, ◌&&◌, List, [], ◌∷◌, length}
use Rattle.std.proofs.Common.{sym, ap, subst, ◌∙◌, ⊎_elim, arith}
use mathlib.Core.List.Memᴰ
use Rattle.texts.specs.Bytes.{Word, any, keep, same, among, times, In, Distinct}
use Rattle.texts.specs.RuleText.{all_different}
use Rattle.texts.proofs.Beneath.Tools.{never, neither, same_eq, same_refl, among_in}
use Rattle.texts.proofs.Beneath.Places.{not_in, same_not}
use Rattle.texts.proofs.Beneath.RuleSound.{of_distinct}

times-cons : (w v : Word) (ws : List Word) → times w (v ∷ ws) ≡ cond (same w v) 1 0 + times w ws
unfolding times keep
times-cons w v ws = go (same w v)
  where
    go : (t : Bool) → length (cond t (v ∷ keep (same w) ws) (keep (same w) ws)) ≡ cond t 1 0 + length (keep (same w) ws)
    go true = omega arith
    go false = omega arith

times_first : (w : Word) (ws : List Word) → times w (w ∷ ws) ≡ suc (times w ws)
times_first w ws = times-cons w w ws ∙ rw (same_refl w) (omega arith)

times_other : (w v : Word) (ws : List Word) → same w v ≡ false → times w (v ∷ ws) ≡ times w ws
times_other w v ws e = times-cons w v ws ∙ rw e (omega arith)

pub times_in : (w : Word) (ws : List Word) → In w ws → 1 ≤ times w ws
times_in w [] m = absurd (Memᴰ.not-nil m)
times_in w (v ∷ ws) m = go (same w v) refl (times_in w ws)
  where
    go : (t : Bool) → same w v ≡ t → (In w ws → 1 ≤ times w ws) → 1 ≤ times w (v ∷ ws)
    go true e ih = rw (times-cons w v ws, e) (omega arith)
    go false e ih = rw (times_other w v ws e) (⊎_elim (λ q. never (sym e ∙ (ap (same w) (sym q) ∙ same_refl w))) ih (Memᴰ.cases_cons m))

pub times-out : (w : Word) (ws : List Word) → among w ws ≡ false → times w ws ≡ 0
unfolding among any times keep
times-out w [] h = refl
times-out w (v ∷ ws) h = let p = neither (same w v) (any (same w) ws) h in rw p.0 (times-out w ws p.1)

pub times-kept : (p : Word → Bool) (w : Word) (ws : List Word) → p w ≡ true → times w (keep p ws) ≡ times w ws
unfolding keep
times-kept p w [] h = refl
times-kept p w (v ∷ ws) h = go (p v) refl (same w v) refl (times-kept p w ws h)
  where
    go : (t : Bool) → p v ≡ t → (u : Bool) → same w v ≡ u → times w (keep p ws) ≡ times w ws → times w (cond t (v ∷ keep p ws) (keep p ws)) ≡ times w (v ∷ ws)
    go true e u f ih = times-cons w v (keep p ws) ∙ (ap (λ n. cond (same w v) 1 0 + n) ih ∙ sym (times-cons w v ws))
    go false e true f ih = never (sym e ∙ (ap p (sym (same_eq w v f)) ∙ h))
    go false e false f ih = ih ∙ sym (times_other w v ws f)

-- Once each, and all different.
pub distinct-once : (ws : List Word) (w : Word) → Distinct ws → In w ws → times w ws ≡ 1
unfolding Distinct
distinct-once [] w d m = absurd (Memᴰ.not-nil m)
distinct-once (v ∷ ws) w (n, d) m = go (same w v) refl (distinct-once ws w d)
  where
    gone : ¬ In w ws → among w ws ≡ false
    gone k = out (among w ws) refl
      where
        out : (t : Bool) → among w ws ≡ t → t ≡ false
        out true e = absurd (k (among_in w ws e))
        out false e = refl

    go : (t : Bool) → same w v ≡ t → (In w ws → times w ws ≡ 1) → times w (v ∷ ws) ≡ 1
    go true e ih =
        let z : times w ws ≡ 0 = times-out w ws (gone (λ k. n (subst (λ x. In x ws) (same_eq w v e) k))) in
        times-cons w v ws ∙ rw (e, z)
    go false e ih = times_other w v ws e ∙ ⊎_elim (λ q. never (sym e ∙ (ap (same w) (sym q) ∙ same_refl w))) ih (Memᴰ.cases_cons m)

once-distinct : (ws : List Word) → ((w : Word) → In w ws → times w ws ≡ 1) → Distinct ws
unfolding Distinct
once-distinct [] h = tt
once-distinct (v ∷ ws) h =
    let n : ¬ In v ws = λ m. omega (arith, h v (Memᴰ.head refl), times_first v ws, times_in v ws m) in
    (n, once-distinct ws (λ w m. sym (times_other w v ws (same_not w v (λ e. n (subst (λ x. In x ws) e m)))) ∙ h w (Memᴰ.tail m)))

pub once-different : (ws : List Word) → ((w : Word) → In w ws → times w ws ≡ 1) → all_different ws ≡ true
once-different ws h = of_distinct ws (once-distinct ws h)

pub different-distinct : (ws : List Word) → all_different ws ≡ true → Distinct ws
unfolding all_different Distinct
different-distinct [] h = tt
different-distinct (w ∷ ws) h = go (among w ws) refl h (different-distinct ws)
  where
    go : (t : Bool) → among w ws ≡ t → (not t && all_different ws) ≡ true → (all_different ws ≡ true → Distinct ws) → (¬ In w ws) × Distinct ws
    go true e k ih = never k
    go false e k ih = (not_in w ws e, ih k)
