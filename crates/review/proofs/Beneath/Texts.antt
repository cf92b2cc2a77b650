-- From the refusals of a text to those of the call that reads it.
use Rattle.std.specs.Prelude.{ℕ, ◌≡◌, refl, Bool, true, false, List, ◌↔◌}
use Rattle.std.proofs.Common.{sym, ap, subst, ◌∙◌}
use Rattle.parts.specs.Faults.{fault_number}
use Rattle.parts.specs.declared.faults.Fault.{Fault}
use Rattle.texts.specs.Books.{Book}
use Rattle.texts.specs.Coded.{table_of}
use Rattle.texts.specs.Good.{GoodBook}
use Rattle.texts.specs.Refused.{RulesRefused, NetRefused}
use Rattle.state.specs.Layout.{view}
use Rattle.table.specs.Layout.{agents_in, table_bytes}
use Rattle.table.specs.Given.{Given}
use Rattle.nets.specs.Answer.{kept, sound_table, net_call}
use Rattle.nets.specs.Proofs.Calls.{given-agents}
use Rattle.parts.specs.declared.faults.Fault.TheVariants as Why
use Rattle.nets.specs.Main as Nets
use Rattle.review.specs.Answers.{TextAnswer, refused_on}
use Rattle.review.specs.Promises.{StateArray, RulesCall, NetCall}
use Rattle.review.proofs.Beneath.Numbers as Numbers
use Rattle.review.proofs.Beneath.Numbers.{rule_fault, net_fault}
use Rattle.review.proofs.Beneath.Exist.{same_state}

pub rules-refused : (text table u : List ℕ) (f : Fault) (j : ℕ)
    → RulesCall text table (refused_on f j) u ↔ (RulesRefused text (fault_number f) j × (u ≡ table))
rules-refused = Numbers.rules-refused

-- By number: it is that of a fault.
pub rules_numbered : (text table u : List ℕ) (n j : ℕ)
    → ((f : Fault) × (fault_number f ≡ n) × RulesCall text table (refused_on f j) u) ↔ (RulesRefused text n j × (u ≡ table))
rules_numbered text table u n j = (
  λ (f, e, c). subst (λ m. RulesRefused text m j × (u ≡ table)) e ((rules-refused text table u f j).0 c),
  λ (k, q).
      let f = rule_fault k in
      (f.0, f.1, (rules-refused text table u f.0 j).1 (subst (λ m. RulesRefused text m j) (sym f.1) k, q)),
)

-- The agents of a book's table are the book's.
agents_of : (b : Book) → GoodBook b → agents_in (table_bytes b) ≡ b.agents
unfolding table_of
agents_of b g = given-agents (table_bytes b) (b, g, refl)

-- A refusal leaves the state as it was.
module _ (text : List ℕ) {v v' : List ℕ} (lent : StateArray v) (left : StateArray v') where
  kept_as : {w : List ℕ} {f : Fault} {j : ℕ} → NetCall text w v (refused_on f j) v'
      → (net_call text w (view v) ≡ kept (fault_number f) j (view v)) × (v' ≡ v)
  kept_as {w} {f} {j} c =
      let e = same_state left lent (Nets.refused_keeps text w (view v) (view v') (fault_number f) j (sym c.promised)) in
      (sym c.promised ∙ ap (λ u. kept (fault_number f) j (view u)) e, e)

  call_as : {w : List ℕ} (f : Fault) {j : ℕ} → net_call text w (view v) ≡ kept (fault_number f) j (view v) → v' ≡ v
      → NetCall text w v (refused_on f j) v'
  call_as f {j = j} e q = record { promised = ap (λ u. kept (fault_number f) j (view u)) q ∙ sym e }

  pub net-refused : (b : Book) → GoodBook b → (f : Fault) (j : ℕ)
      → NetCall text (table_bytes b) v (refused_on f j) v' ↔ (NetRefused b.agents text (fault_number f) j × (v' ≡ v))
  net-refused b g f j =
      let x = subst
      (λ ags. (net_call text (table_bytes b) (view v) ≡ kept (fault_number f) j (view v)) ↔ NetRefused ags text (fault_number f) j)
      (agents_of b g)
      (Nets.refused-exact text (table_bytes b) (view v) (b, g, refl) (fault_number f) j) in
      (λ c. let k = kept_as {f = f} c in (x.0 k.0, k.1), λ k. call_as f (x.1 k.0) k.1)

  pub net_numbered : (b : Book) → GoodBook b → (n j : ℕ)
      → ((f : Fault) × (fault_number f ≡ n) × NetCall text (table_bytes b) v (refused_on f j) v')
      ↔ (NetRefused b.agents text n j × (v' ≡ v))
  net_numbered b g n j = (
    λ (f, e, c). subst (λ m. NetRefused b.agents text m j × (v' ≡ v)) e ((net-refused b g f j).0 c),
    λ (k, q).
        let f = net_fault k in
        (f.0, f.1, (net-refused b g f.0 j).1 (subst (λ m. NetRefused b.agents text m j) (sym f.1) k, q)),
  )

  unsound : (w : List ℕ) → ¬ Given w → sound_table w ≡ false
  unsound w h = go (sound_table w) refl
    where
      go : (b : Bool) → sound_table w ≡ b → b ≡ false
      go true e = absurd (h ((Nets.sound-exact w).0 e))
      go false e = refl

  pub net_16 : (w : List ℕ) → ¬ Given w → (r : TextAnswer)
      → NetCall text w v r v' ↔ ((r ≡ refused_on Why.Unsound 0) × (v' ≡ v))
  net_16 w h r = (to, from)
    where
      answered : net_call text w (view v) ≡ kept 16 0 (view v)
      answered = Nets.unsound_16 text w (view v) (unsound w h)

      to : NetCall text w v r v' → (r ≡ refused_on Why.Unsound 0) × (v' ≡ v)
      to c =
          let k = Nets.one_answer r (refused_on Why.Unsound 0) (view v') (view v) (c.promised ∙ answered) in
          (k.0, same_state left lent k.1)

      from : (r ≡ refused_on Why.Unsound 0) × (v' ≡ v) → NetCall text w v r v'
      from (e, q) = subst (λ a. NetCall text w v a v') (sym e) (call_as Why.Unsound answered q)
