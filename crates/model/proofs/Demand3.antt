-- Theorem 3, demand 3, for any picks: order changes neither how often each rule is used nor where it ends.
use Rattle.std.specs.Prelude.{◌≡◌, List, ℕ, ◌≤◌}
use Rattle.calculus.specs.Calculus.{Label}
use Rattle.calculus.specs.Nets.{◌≈◌}
use Rattle.calculus.specs.Terms.{Conf}
use Rattle.model.specs.State.{St}
use Rattle.model.specs.Table.{Table}
use Rattle.model.specs.Run.{ran}
use Rattle.model.specs.Sound.{Sound, meaning}
use Rattle.model.specs.SoundTable.{SoundTable}
use Rattle.model.specs.Load.{Net, loaded}
use Rattle.model.specs.NetReads.{NetReads}
use Rattle.model.specs.Agree.{Agrees, GoesOn, Finishes, uses_in}
use Rattle.model.specs.Walk.{Walk, made_in, EndsAt, Stopped}
use Rattle.model.proofs.Beneath.Agreed.{agreed, agreed-loaded, two_walks, picks_end}
use Rattle.model.proofs.Beneath.Runs.{run-stopped}

module _ {T : Table} (t : SoundTable T) where
  -- From any sound state whose net ends by the calculus, any walk agrees with that end: `Agrees` has the clauses.
  pub demand_3 : {s s' : St} (h : Sound T s) {M : List Label} {N : Conf} → EndsAt T (meaning h) M N
      → (w : Walk T s s') → Agrees w M N
  demand_3 h e w = agreed t h e w

  -- And any picks that go on while equations wait, and are never refused for room, end; the walk to that end agrees
  -- too.
  pub picks_agree : {s : St} (h : Sound T s) {M : List Label} {N : Conf} → EndsAt T (meaning h) M N → (f : ℕ → ℕ)
      → GoesOn T f s
      → (k : Finishes T f s) × Agrees k.walk M N
  picks_agree {s} h e f g =
      let k = picks_end T _ f s (λ s' w. (agreed t h e w).few_steps) g in (k, agreed t h e k.walk)

  -- The same for a loaded net.
  pub demand_3_loaded : {net : Net} {C N : Conf} {M : List Label} → NetReads T net C → EndsAt T C M N
      → {s' : St} (w : Walk T (loaded net) s') → Agrees w M N
  demand_3_loaded r e w = agreed-loaded t r e w

  pub picks-agree-loaded : {net : Net} {C N : Conf} {M : List Label} → NetReads T net C → EndsAt T C M N → (f : ℕ → ℕ)
      → GoesOn T f (loaded net)
      → (k : Finishes T f (loaded net)) × Agrees k.walk M N
  picks-agree-loaded {net} r e f g =
      let k = picks_end T _ f (loaded net) (λ s' w. (agreed-loaded t r e w).few_steps) g in
      (k, agreed-loaded t r e k.walk)

  -- So of two walks from one sound state, of which the first ends, the second makes no more interactions; and if it
  -- ends too, it has used each rule as often and is at the same net.
  pub walks_agree : {s s₁ s₂ : St} (h : Sound T s) (w : Walk T s s₁) → s₁.waiting.used ≡ 0 → (v : Walk T s s₂)
      → (made_in v ≤ made_in w)
      × (s₂.waiting.used ≡ 0
      → (made_in v ≡ made_in w)
      × ((i : ℕ) → uses_in i v ≡ uses_in i w)
      × ((h₁ : Sound T s₁) (h₂ : Sound T s₂) → meaning h₂ ≈ meaning h₁))
  walks_agree h w e v = two_walks t h w e v

  -- A run is such a walk: it makes no more interactions, and where it has ended, as many, at the same net.
  pub run_agrees : {s : St} (h : Sound T s) {M : List Label} {N : Conf} → EndsAt T (meaning h) M N → (budget : ℕ)
      → (k : Stopped T budget s (ran T budget s)) × Agrees k.walk M N
  run_agrees {s} h e budget = let k = run-stopped t budget s h in (k, agreed t h e k.walk)
