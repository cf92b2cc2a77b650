-- As many words stand last as there are different ones.
use Rattle.std.specs.Prelude.{suc, ◌+◌, ◌≡◌, refl, Bool, true, false, cond, not, ◌&&◌, List, [], ◌∷◌, length}
use Rattle.std.proofs.Common.{sym, ap, subst, ◌∙◌, ⊎_elim, arith}
use mathlib.Core.List.Memᴰ
use Rattle.texts.specs.Bytes.{Word, keep, same, among, different, In, Distinct}
use Rattle.texts.proofs.Beneath.Tools.{never, same_eq, same_refl, among_in}
use Rattle.texts.proofs.Beneath.Places.{not_in, keep_in, in_keep, different_in, in_different, different-distinct, keep-every, same_not}
use Rattle.rule_tests.specs.Words.{last_ones}

abbrev other : Word → Word → Bool
other w v = not (same w v)

none_out : (w : Word) (ds : List Word) → ¬ In w ds → keep (other w) ds ≡ ds
none_out w ds n = keep-every (other w) ds (λ v m. ap not (same_not w v (λ e. n (subst (λ x. In x ds) (sym e) m))))

one_out : (w : Word) (ds : List Word) → Distinct ds → In w ds → suc (length (keep (other w) ds)) ≡ length ds
unfolding keep Distinct
one_out w [] d m = absurd (Memᴰ.not-nil m)
one_out w (v ∷ ds) (n, d) m = go (same w v) refl (one_out w ds d)
  where
    go : (t : Bool) → same w v ≡ t → (In w ds → suc (length (keep (other w) ds)) ≡ length ds)
        → suc (length (cond (not t) (v ∷ keep (other w) ds) (keep (other w) ds))) ≡ suc (length ds)
    go true e ih = ap suc (ap length (none_out w ds (λ k. n (subst (λ x. In x ds) (same_eq w v e) k))))
    go false e ih =
        ap suc (⊎_elim (λ q. never (sym e ∙ (ap (same w) (sym q) ∙ same_refl w))) ih (Memᴰ.cases_cons m))

pub lasts_different : (p : Word → Bool) (ws : List Word) → last_ones p ws ≡ length (different (keep p ws))
unfolding last_ones keep different
lasts_different p [] = refl
lasts_different p (w ∷ ws) = go (p w) (among w ws) refl refl (lasts_different p ws)
  where
    go : (t u : Bool) → p w ≡ t → among w ws ≡ u → last_ones p ws ≡ length (different (keep p ws))
        → cond (t && not u) 1 0 + last_ones p ws ≡ length (different (cond t (w ∷ keep p ws) (keep p ws)))
    go false u ep eu ih = omega (arith, ih)
    go true true ep eu ih =
        let m : In w (different (keep p ws)) = in_different w (keep p ws) (in_keep p w ws (among_in w ws eu) ep) in
        omega (arith, ih, one_out w (different (keep p ws)) (different-distinct (keep p ws)) m)
    go true false ep eu ih =
        let n : ¬ In w (different (keep p ws)) = λ m. not_in w ws eu (keep_in p w ws (different_in w (keep p ws) m)).0 in
        omega (arith, ih, ap length (none_out w (different (keep p ws)) n))
