-- Why the theorems about the call hold.
use Rattle.std.specs.Prelude.{ℕ, ◌≤◌, ◌≡◌, refl, false, ◌↔◌, List, length, Result, Ok, Err, ⊤}
use Rattle.std.proofs.Common.{sym, ◌∙◌, arith}
use Rattle.std.proofs.Math.Path.{ap, ap₂}
use Rattle.parts.specs.Limits.{text_max}
use Rattle.parts.specs.Faults.{same_fault}
use Rattle.parts.specs.declared.faults.Refusal.{Refusal}
use Rattle.calculus.specs.Nets.{◌≈◌}
use Rattle.model.specs.State.{St}
use Rattle.model.specs.Load.{loaded}
use Rattle.model.proofs.Kept as Kept
use Rattle.model.specs.Sound as Machine
use Rattle.texts.specs.Books.{Book, Net, print_net}
use Rattle.texts.specs.Answers.{OfText, accepted, refused}
use Rattle.texts.specs.NetText.{read_net, net_read}
use Rattle.texts.specs.Refused.{NetRefused}
use Rattle.texts.specs.Coded.{table_of, machine, load}
use Rattle.texts.specs.Meaning.{meant_net}
use Rattle.texts.specs.Good.{GoodBook, GoodNet}
use Rattle.texts.proofs.Main.{net-text-refused, net-text-accepted, net-loads, table-sound}
use Rattle.table.specs.Layout.{agents_in, table_bytes}
use Rattle.table.specs.Given.{Given}
use Rattle.nets.specs.Answer.{Call, filled, kept, told, sound_table, call_by, net_call}
use Rattle.nets.specs.Proofs.Calls.{given-sound, given-agents}

-- The parts of a call.
call_number : Call → ℕ
call_number (filled s) = 0
call_number (kept n l s) = n

line_of : Call → ℕ
line_of (filled s) = 0
line_of (kept n l s) = l

state_of : Call → St
state_of (filled s) = s
state_of (kept n l s) = s

is_kept : Call → ℕ
is_kept (filled s) = 0
is_kept (kept n l s) = 1

pub unsound_16 : (text w : List ℕ) (s : St) → sound_table w ≡ false → net_call text w s ≡ kept 16 0 s
unfolding net_call net_read call_by
unsound_16 text w s h = rw h

over-sound : (text w : List ℕ) (s : St) → Given w → net_call text w s ≡ call_by (agents_in w) s (read_net (agents_in w) text)
unfolding net_call net_read
over-sound text w s g = rw (given-sound w g)

pub refused-exact : (text w : List ℕ) (s : St) → Given w → (n l : ℕ) → (net_call text w s ≡ kept n l s) ↔ NetRefused (agents_in w) text n l
unfolding call_by call_number line_of is_kept
refused-exact text w s g n l = (
  λ e. (net-text-refused (agents_in w) text n l).0 (back (read_net (agents_in w) text) (sym (over-sound text w s g) ∙ e)),
  λ r. over-sound text w s g ∙ ap (call_by (agents_in w) s) ((net-text-refused (agents_in w) text n l).1 r),
)
  where
    back : (o : OfText Net) → call_by (agents_in w) s o ≡ kept n l s → o ≡ refused n l
    back (accepted m) e = absurd (let z : ◌≡◌ {A = ℕ} 0 1 = ap is_kept e in omega arith)
    back (refused i j) e = rw (ap call_number e, ap line_of e)

pub refused_keeps : (text w : List ℕ) (s s₁ : St) (n l : ℕ) → net_call text w s ≡ kept n l s₁ → s₁ ≡ s
unfolding net_call call_by state_of is_kept
refused_keeps text w s s₁ n l e = go (net_read (sound_table w) (agents_in w) text) e
  where
    go : (o : OfText Net) → call_by (agents_in w) s o ≡ kept n l s₁ → s₁ ≡ s
    go (accepted m) q = absurd (let z : ◌≡◌ {A = ℕ} 0 1 = ap is_kept q in omega arith)
    go (refused i j) q = sym (ap state_of q)

-- The agents of a good book's table.
module _ (b : Book) (g : GoodBook b) where
  book_given : Given (table_bytes b)
  book_given = (b, g, refl)

  book-agents : agents_in (table_bytes b) ≡ b.agents
  unfolding table_of book_given
  book-agents = given-agents (table_bytes b) book_given

  called : (text : List ℕ) (s : St) → net_call text (table_bytes b) s ≡ call_by b.agents s (read_net b.agents text)
  called text s = over-sound text (table_bytes b) s book_given ∙ ap (λ a. call_by a s (read_net a text)) book-agents

  pub net-sound : (n : Net) → GoodNet b.agents n
      → (h : Machine.Sound (machine (table_of b)) (loaded (load b.agents n))) × (Machine.meaning h ≈ meant_net b.agents n)
  net-sound n h = let r = net-loads b g n h in (Kept.load_sound (table-sound b g) r, Kept.load-means (table-sound b g) r)

  pub good-accepted : (n : Net) → GoodNet b.agents n → length (print_net n) ≤ text_max → (s : St)
      → net_call (print_net n) (table_bytes b) s ≡ filled (loaded (load b.agents n))
  unfolding call_by
  good-accepted n h l s = called (print_net n) s ∙ ap (call_by b.agents s) ((net-text-accepted b.agents (print_net n) n).1 (refl, h, l))

pub loaded_by : (text : List ℕ) (b : Book) (g : GoodBook b) (s s₁ : St) → net_call text (table_bytes b) s ≡ filled s₁
    → (n : Net) × GoodNet b.agents n × (text ≡ print_net n) × (length text ≤ text_max) × (s₁ ≡ loaded (load b.agents n))
unfolding call_by state_of is_kept
loaded_by text b g s s₁ e = go (read_net b.agents text) refl (sym (called b g text s) ∙ e)
  where
    go : (o : OfText Net) → read_net b.agents text ≡ o → call_by b.agents s o ≡ filled s₁
        → (n : Net) × GoodNet b.agents n × (text ≡ print_net n) × (length text ≤ text_max) × (s₁ ≡ loaded (load b.agents n))
    go (accepted n) q r = let p = (net-text-accepted b.agents text n).0 q in (n, p.1, p.0, p.2, sym (ap state_of r))
    go (refused i j) q r = absurd (let z : ◌≡◌ {A = ℕ} 1 0 = ap is_kept r in omega arith)

pub one_answer : (a b : Result ⊤ Refusal) (s t : St) → told a s ≡ told b t → (a ≡ b) × (s ≡ t)
unfolding call_number line_of state_of
one_answer (Ok u) (Ok v) s t e = (refl, ap state_of e)
one_answer (Ok u) (Err r) s t e = absurd cc
one_answer (Err r) (Ok v) s t e = absurd cc
one_answer (Err r) (Err q) s t e = (ap Err (ap₂ (λ f l. record { fault = f; line = l }) (same_fault r.fault q.fault (ap call_number e)) (ap line_of e)), ap state_of e)
