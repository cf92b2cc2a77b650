-- One law for each way out of the test.
use Rattle.std.proofs.Common.{◌≡◌, sym, ◌∙◌, Bool, true, false, List, ◌↔◌, ℕ, arith}
use Rattle.model.specs.Test.{tested}
use Rattle.model.proofs.Tested.{tested-sound}
use Rattle.table.specs.Given.{Given}
use Rattle.state.specs.Layout.{view}
use Rattle.sound.specs.Lent.{under, Usable}
use Rattle.lent.specs.Both.{BothSound, given-usable, given-sound, table-given, sound-state, both_of}

module _ (w : List ℕ) (t : Bool) (e : (t ≡ true) ↔ Given w) where
  pub usable-table : t ≡ true → Usable w
  usable-table h = given-usable w (e.0 h)

  pub by_state : (v : List ℕ) (r : Bool) → t ≡ true → r ≡ tested (under w) (view v) → (r ≡ true) ↔ BothSound w v
  by_state v r h q =
      let g = e.0 h in
      let b = tested-sound (given-sound w g) (view v) in
      (λ k. both_of w v g (b.0 (sym q ∙ k)), λ k. q ∙ b.1 (sound-state k))

  pub no_table : (v : List ℕ) → t ≡ false → (false ≡ true) ↔ BothSound w v
  no_table v h =
      (λ k. absurd (let z : ◌≡◌ {A = ℕ} 0 1 = cc in omega arith), λ k. sym h ∙ e.1 (table-given k))
