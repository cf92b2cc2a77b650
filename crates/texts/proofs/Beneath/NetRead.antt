-- Number 16 in front of the net reader.
use Rattle.std.specs.Prelude.{ℕ, ◌≡◌, refl, Bool, true, false, ◌↔◌, ◌⊎◌, List}
use Rattle.std.proofs.Common.{inl, inr, arith}
use Rattle.texts.specs.Books.{Agent, Net}
use Rattle.texts.specs.Answers.{OfText, accepted, refused}
use Rattle.texts.specs.NetText.{read_net, net_read}
use Rattle.texts.proofs.Beneath.Tools.{never, never'}
use Rattle.texts.proofs.Beneath.NetRefusals.{net-refused}
use Rattle.texts.specs.Refused.{NetRefused}

refused-eq : {A : Type 0} {m n i j : ℕ} → ◌≡◌ {A = OfText A} (refused m i) (refused n j) → (n ≡ m) × (j ≡ i)
refused-eq h = (cc, cc)

not_accepted : {A : Type 0} {m i : ℕ} {a : A} → ◌≡◌ {A = OfText A} (refused m i) (accepted a) → ⊥
not_accepted h = let z : ◌≡◌ {A = ℕ} 0 1 = cc in omega arith

pub net_read-refused : (s : Bool) (ags : List Agent) (text : List ℕ) (n j : ℕ)
    → (net_read s ags text ≡ refused n j) ↔ (((s ≡ false) × (n ≡ 16) × (j ≡ 0)) ⊎ ((s ≡ true) × NetRefused ags text n j))
unfolding net_read
net_read-refused false ags text n j = (
  λ h. let p = refused-eq h in inl (refl, p.0, p.1),
  λ p. elim p [ inl q ↦ (let e = q.1 in let d = q.2 in rw (e, d)) | inr q ↦ never q.0 ],
)
net_read-refused true ags text n j = (
  λ h. inr (refl, (net-refused ags text n j).0 h),
  λ p. elim p [ inl q ↦ never' q.0 | inr q ↦ (net-refused ags text n j).1 q.1 ],
)

pub net_read-accepted : (s : Bool) (ags : List Agent) (text : List ℕ) (m : Net) → (net_read s ags text ≡ accepted m) ↔ ((s ≡ true) × (read_net ags text ≡ accepted m))
unfolding net_read
net_read-accepted false ags text m = (λ h. absurd (not_accepted h), λ p. never p.0)
net_read-accepted true ags text m = (λ h. (refl, h), λ p. p.1)
