-- The theorems about the call, in one place.
use Rattle.std.specs.Prelude.{ℕ, ◌≤◌, ◌≡◌, true, false, ◌↔◌, List, length, Result, ⊤}
use Rattle.parts.specs.Limits.{text_max}
use Rattle.parts.specs.declared.faults.Refusal.{Refusal}
use Rattle.calculus.specs.Nets.{◌≈◌}
use Rattle.model.specs.State.{St}
use Rattle.model.specs.Load.{loaded}
use Rattle.model.specs.Sound as Machine
use Rattle.texts.specs.Books.{Book, Net, print_net}
use Rattle.texts.specs.Refused.{NetRefused}
use Rattle.texts.specs.Coded.{table_of, machine, load}
use Rattle.texts.specs.Meaning.{meant_net}
use Rattle.texts.specs.Good.{GoodBook, GoodNet}
use Rattle.table.specs.Layout.{agents_in, table_bytes}
use Rattle.table.specs.Given.{Given}
use Rattle.nets.specs.Answer.{filled, kept, told, sound_table, net_call}
use Rattle.nets.specs.Proofs.Calls as Calls
use Rattle.nets.specs.Proofs.Theorems as Theorems

-- The test in the definition is the document's: some rule text would give the table, if its length had no limit.
pub sound-exact : (w : List ℕ) → (sound_table w ≡ true) ↔ Given w
sound-exact w = (Calls.sound-given w, Calls.given-sound w)

-- An unsound table is answered with 16 on line 0, whatever the text is, and the state is as it was.
pub unsound_16 : (text w : List ℕ) (s : St) → sound_table w ≡ false → net_call text w s ≡ kept 16 0 s
unsound_16 text w s h = Theorems.unsound_16 text w s h

-- Over a sound table: which number on which line, exactly; and the state is as it was.
pub refused-exact : (text w : List ℕ) (s : St) → Given w → (n l : ℕ) → (net_call text w s ≡ kept n l s) ↔ NetRefused (agents_in w) text n l
refused-exact text w s g n l = Theorems.refused-exact text w s g n l

-- A refusal leaves the state as it was.
pub refused_keeps : (text w : List ℕ) (s s₁ : St) (n l : ℕ) → net_call text w s ≡ kept n l s₁ → s₁ ≡ s
refused_keeps text w s s₁ n l e = Theorems.refused_keeps text w s s₁ n l e

-- What an accepted text leaves: the text spells a good net, and the state is that net loaded. It is sound, and its reading is the net that
-- the text spells, up to names.
pub record Loads (text : List ℕ) (b : Book) (s : St) : Type 0 where
  pub net : Net
  pub good : GoodNet b.agents net
  pub spelt : text ≡ print_net net
  pub short : length text ≤ text_max
  pub state : s ≡ loaded (load b.agents net)
  pub sound : Machine.Sound (machine (table_of b)) (loaded (load b.agents net))
  pub means : Machine.meaning sound ≈ meant_net b.agents net

pub accepted-loads : (text : List ℕ) (b : Book) → GoodBook b → (s s₁ : St) → net_call text (table_bytes b) s ≡ filled s₁ → Loads text b s₁
accepted-loads text b g s s₁ e =
    let r = Theorems.loaded_by text b g s s₁ e in
    let h = Theorems.net-sound b g r.0 r.1 in
    record { net = r.0; good = r.1; spelt = r.2; short = r.3; state = r.4; sound = h.0; means = h.1 }

-- And every good net that fits is accepted.
pub good-accepted : (b : Book) → GoodBook b → (n : Net) → GoodNet b.agents n → length (print_net n) ≤ text_max → (s : St)
    → net_call (print_net n) (table_bytes b) s ≡ filled (loaded (load b.agents n))
good-accepted b g n h l s = Theorems.good-accepted b g n h l s

-- No second answer, and no second state, meets the promise.
pub one_answer : (a b : Result ⊤ Refusal) (s t : St) → told a s ≡ told b t → (a ≡ b) × (s ≡ t)
one_answer a b s t e = Theorems.one_answer a b s t e
