-- Bytes stored over a part of a list.
use Rattle.std.specs.Prelude.{ℕ, ◌≡◌, List, ◌+◌, ◌≤◌, ◌++◌, length, take, drop}
use Rattle.std.proofs.Common.{sym, ap, ap₂, ◌∙◌, append_assoc}
use Rattle.std.proofs.lemmas.List.Edits.{sets, sets-eq}
use Rattle.std.proofs.lemmas.List.{drop-drop}
use borrow.Rule.Slice.PartMut.{put_mid}

-- v is what the part holds now: s, k bytes of it.
pub stored : (d s v : List ℕ) (at k : ℕ) → v ≡ s → k ≡ length s → at + length s ≤ length d → put_mid at k d v ≡ sets d at s
stored d s v at k e ek h =
    ap₂ (λ x n. take at d ++ (x ++ drop n (drop at d))) e ek
    ∙ (ap (λ r. take at d ++ (s ++ r)) (drop-drop (length s) at d) ∙ (sym (append_assoc (take at d) s (drop (at + length s) d)) ∙ sym (sets-eq s d at h)))
