-- Two lent states that look alike are alike in every word: what is promised of a view is promised of every byte.
use Rattle.std.specs.Prelude.{ℕ, ◌+◌, ◌*◌, ◌≡◌, List, length}
use Rattle.std.proofs.Math.Path.{ap}
use Rattle.std.proofs.Common.{arith}
use Rattle.std.proofs.Math.ListN.{get_or}
use Rattle.parts.specs.Limits.{arity_max, cells_max, names_max, waiting_max, stuck_max, face_max}
use Rattle.parts.specs.SegmentLaws.{Agree, agree_none, agree-part, agree-word, agree_all}
use Rattle.state.specs.Layout.{waits_at, stucks_at, faces_at, loops_at, symbols_at, arguments_at, names_at, waiting_at, stuck_at, face_at, state_size, view}
use Rattle.state.specs.Whole.{Words}

module _ (v w : List ℕ) where
  agree : Words v → Words w → view v ≡ view w → Agree v w state_size
  unfolding view
  agree bv bw e =
      let l = ap (λ s. s.loops) e in
      let low : get_or v loops_at 0 ≡ get_or w loops_at 0 = omega (arith, l, bv loops_at, bw loops_at) in
      let high : get_or v (loops_at + 1) 0 ≡ get_or w (loops_at + 1) 0 = omega (arith, l, bv loops_at, bw loops_at) in
      let a₁ = agree-word v w waits_at (agree_none v w) (ap (λ s. s.waiting.used) e) in
      let a₂ = agree-word v w stucks_at a₁ (ap (λ s. s.stuck.used) e) in
      let a₃ = agree-word v w faces_at a₂ (ap (λ s. s.face.used) e) in
      let a₄ = agree-word v w (loops_at + 1) (agree-word v w loops_at a₃ low) high in
      let a₅ = agree-part v w symbols_at cells_max a₄ (ap (λ s. s.symbols) e) in
      let a₆ = agree-part v w arguments_at (arity_max * cells_max) a₅ (ap (λ s. s.arguments) e) in
      let a₇ = agree-part v w names_at names_max a₆ (ap (λ s. s.names) e) in
      let a₈ = agree-part v w waiting_at (2 * waiting_max) a₇ (ap (λ s. s.waiting.words) e) in
      let a₉ = agree-part v w stuck_at (2 * stuck_max) a₈ (ap (λ s. s.stuck.words) e) in
      agree-part v w face_at face_max a₉ (ap (λ s. s.face.words) e)

  pub whole : length v ≡ state_size → length w ≡ state_size → Words v → Words w → view v ≡ view w → v ≡ w
  whole hv hw bv bw e = agree_all v w state_size hv hw (agree bv bw e)
