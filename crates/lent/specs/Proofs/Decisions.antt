-- Why it is decided whether a lent table and state are sound: both have a test.
use Rattle.std.specs.Prelude.{◌≡◌, refl, Bool, true, false, List, [], ◌∷◌, ℕ}
use Rattle.std.proofs.Common.{sym, ap, ◌∙◌, arith}
use Rattle.std.proofs.Math.Decide.{ℕ_discrete}
use Rattle.model.specs.Test.{tested}
use Rattle.model.proofs.Tested.{tested-sound}
use Rattle.texts.proofs.Main.{table-book, table_test}
use Rattle.texts.specs.TableTest.{test_table}
use Rattle.table.specs.Layout.{bytes_of, table_bytes}
use Rattle.table.specs.Layout as Layout
use Rattle.table.specs.Given.{Given}
use Rattle.state.specs.Layout.{view}
use Rattle.sound.specs.Lent.{under}
use Rattle.lent.specs.Both.{BothSound, given-sound, given-tested, given-usable, table-given, sound-state, both_of}

bools : (b : Bool) → Dec (b ≡ true)
bools true = yes refl
bools false = no (λ e. let z : ◌≡◌ {A = ℕ} 0 1 = cc in absurd (omega arith))

lists : (a b : List ℕ) → Dec (a ≡ b)
lists [] [] = yes refl
lists [] (y ∷ b) = no (λ e. let z : ◌≡◌ {A = ℕ} 0 1 = cc in absurd (omega arith))
lists (x ∷ a) [] = no (λ e. let z : ◌≡◌ {A = ℕ} 0 1 = cc in absurd (omega arith))
lists (x ∷ a) (y ∷ b) = go (ℕ_discrete x y) (lists a b)
  where
    go : Dec (x ≡ y) → Dec (a ≡ b) → Dec ((x ∷ a) ≡ (y ∷ b))
    go (yes p) (yes q) = yes (cc)
    go (yes p) (no q) = no (λ e. q (cc))
    go (no p) q = no (λ e. p (cc))

given : (w : List ℕ) → Dec (Given w)
unfolding table_bytes
given w = go (bools (test_table (Layout.view w))) (lists w (bytes_of (Layout.view w)))
  where
    go : Dec (test_table (Layout.view w) ≡ true) → Dec (w ≡ bytes_of (Layout.view w)) → Dec (Given w)
    go (yes p) (yes q) =
        let b = (table-book (Layout.view w)).0 ((table_test (Layout.view w)).0 p) in
        yes (b.0, b.1, q ∙ ap bytes_of (sym b.2))
    go (yes p) (no q) = no (λ g. q (given-usable w g).exact)
    go (no p) q = no (λ g. p (given-tested w g))

pub both_decided : (w v : List ℕ) → Dec (BothSound w v)
both_decided w v = go (given w) (bools (tested (under w) (view v)))
  where
    go : Dec (Given w) → Dec (tested (under w) (view v) ≡ true) → Dec (BothSound w v)
    go (no g) t = no (λ h. g (table-given h))
    go (yes g) (yes t) = yes (both_of w v g ((tested-sound (given-sound w g) (view v)).0 t))
    go (yes g) (no t) = no (λ h. t ((tested-sound (given-sound w g) (view v)).1 (sound-state h)))

-- What a choice by a decision comes to.
module _ {P A : Type 0} (a b : A) where
  pub chosen : (d : Dec P) → P → elim d as (λ _. A) [ yes h ↦ a | no h ↦ b ] ≡ a
  chosen (yes k) h = refl
  chosen (no k) h = absurd (k h)

  pub refused : (d : Dec P) → ¬ P → elim d as (λ _. A) [ yes h ↦ a | no h ↦ b ] ≡ b
  refused (yes k) h = absurd (h k)
  refused (no k) h = refl
