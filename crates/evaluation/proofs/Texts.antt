-- The two texts: what is printed where one is refused, and that two accepted texts load a sound state.
use Rattle.std.proofs.Common.{ℕ, ◌≡◌, refl, sym, ap, ◌∙◌, subst, true, ◌&&◌, List, arith, Result, Ok, Err}
use Rattle.std.proofs.Math.Option.{Option, none, some}
use Rattle.model.proofs.Kept.{load_sound}
use Rattle.model.specs.Load.{loaded}
use Rattle.model.specs.Run.{ran}
use Rattle.model.specs.Sound.{Sound}
use Rattle.texts.specs.Answers.{OfText, accepted, refused}
use Rattle.texts.specs.Books.{Book, Net, word_rules, word_net}
use Rattle.texts.specs.Bytes.{same}
use Rattle.texts.specs.Coded.{table_of, machine, load}
use Rattle.texts.specs.Good.{GoodBook}
use Rattle.texts.proofs.Main.{rule-text-accepted, net-text-accepted, net-loads, table-sound}
use Rattle.texts.specs.NetText.{read_net, net_read}
use Rattle.texts.proofs.Beneath.Tools.{same_refl}
use Rattle.texts.specs.RuleText.{read_rules}
use Rattle.table.specs.Layout.{agents_in, bytes_of, table_bytes}
use Rattle.table.specs.Layout as Table
use Rattle.table.specs.Given.{Given}
use Rattle.state.specs.Layout.{view}
use Rattle.sound.specs.Lent.{under}
use Rattle.lent.specs.Both.{BothSound, stands_for, under_is, given-tested, given-usable}
use Rattle.parts.specs.Faults.{fault_number}
use Rattle.parts.specs.declared.faults.Refusal.{Refusal}
use Rattle.rules.specs.Answer as Said
use Rattle.rules.specs.Answer.{refusal, leaves, leaves_by, rules_read}
use Rattle.nets.specs.Answer.{filled, kept, told, sound_table, call_by, net_call}
use Rattle.report.specs.Begun.{Begun}
use Rattle.report.specs.Firsts as First
use Rattle.evaluation.specs.Evaluated.{budget, running, net_printed, rules_printed, evaluated}
use Rattle.evaluation.specs.Printed.{Printed}
use Rattle.evaluation.proofs.Runs.{begun-printed}

-- The agents of the table of a good book are the book's.
agents-are : (w : List ℕ) (b : Book) → GoodBook b → w ≡ table_bytes b → agents_in w ≡ b.agents
unfolding table_of Table.view
agents-are w b g e = ap (λ t. t.agents) (stands_for w b g e)

-- The net text. Over a table that some rule text would give, the call reads the text.
module _ (text w v v' : List ℕ) (given : Given w) (a : Result (Unit {0}) Refusal) (e : told a (view v') ≡ net_call text w (view v)) where
  is_sound : sound_table w ≡ true
  unfolding sound_table
  is_sound =
      ap (λ t. t && same w (bytes_of (Table.view w))) (given-tested w given)
      ∙ ap (λ l. same w l) (sym (given-usable w given).exact)
      ∙ same_refl w

  call_is : told a (view v') ≡ call_by (agents_in w) (view v) (read_net (agents_in w) text)
  unfolding net_call net_read
  call_is = e ∙ ap (λ t. call_by (agents_in w) (view v) (net_read t (agents_in w) text)) is_sound

  net-loaded : (u : Unit {0}) → a ≡ Ok u → (n : Net) × (read_net (agents_in w) text ≡ accepted n) × (view v' ≡ loaded (load (agents_in w) n))
  unfolding call_by
  net-loaded u q = go (read_net (agents_in w) text) refl (ap (λ x. told x (view v')) (sym q) ∙ call_is)
    where
      go : (x : OfText Net) → read_net (agents_in w) text ≡ x → filled (view v') ≡ call_by (agents_in w) (view v) x
          → (n : Net) × (read_net (agents_in w) text ≡ accepted n) × (view v' ≡ loaded (load (agents_in w) n))
      go (accepted n) r k = (n, r, cc)
      go (refused n l) r k = absurd (let z : ◌≡◌ {A = ℕ} 0 1 = cc in omega arith)

  net-fault : (x : Refusal) → a ≡ Err x → read_net (agents_in w) text ≡ refused (fault_number x.fault) x.line
  unfolding call_by
  net-fault f q = go (read_net (agents_in w) text) refl (ap (λ x. told x (view v')) (sym q) ∙ call_is)
    where
      go : (x : OfText Net) → read_net (agents_in w) text ≡ x → kept (fault_number f.fault) f.line (view v') ≡ call_by (agents_in w) (view v) x
          → read_net (agents_in w) text ≡ refused (fault_number f.fault) f.line
      go (accepted m) r k = absurd (let z : ◌≡◌ {A = ℕ} 0 1 = cc in omega arith)
      go (refused m j) r k = let x : m ≡ fault_number f.fault = cc in let y : j ≡ f.line = cc in r ∙ rw (x, y)

  pub net-sound : (u : Unit {0}) → a ≡ Ok u → BothSound w v'
  net-sound u q = by (net-loaded u q)
    where
      by : (n : Net) × (read_net (agents_in w) text ≡ accepted n) × (view v' ≡ loaded (load (agents_in w) n)) → BothSound w v'
      by (n, r, s) =
          let b = given.0 in
          let g = given.1 in
          let k = agents-are w b g given.2 in
          let r' = ap (λ x. read_net x text) (sym k) ∙ r in
          let good = ((net-text-accepted b.agents text n).0 r').1 in
          let h = load_sound (table-sound b g) (net-loads b g n good) in
          record {
            book = b;
            good = g;
            given = given.2;
            sound = subst (Sound (machine (table_of b))) (ap (λ x. loaded (load x n)) (sym k) ∙ sym s) h;
          }

  pub net-accepted : (o o' : List ℕ) (r : ℕ) (u : Unit {0}) → a ≡ Ok u
      → Printed (running (agents_in w) (under w) (ran (under w) budget (view v'))) o r o'
      → Printed (net_printed (agents_in w) (under w) (read_net (agents_in w) text)) o r o'
  unfolding net_printed
  net-accepted o o' r u q p = by (net-loaded u q)
    where
      by : (n : Net) × (read_net (agents_in w) text ≡ accepted n) × (view v' ≡ loaded (load (agents_in w) n))
          → Printed (net_printed (agents_in w) (under w) (read_net (agents_in w) text)) o r o'
      by (n, x, s) =
          subst (λ y. Printed (net_printed (agents_in w) (under w) y) o r o') (sym x)
          (subst (λ y. Printed (running (agents_in w) (under w) (ran (under w) budget y)) o r o') s p)

  pub net-refused : (o o' : List ℕ) (r n₀ n : ℕ) (f : Refusal) → a ≡ Err f → n₀ ≡ fault_number f.fault → n ≡ n₀
      → Begun (First.refusal word_net n f.line) o r o'
      → Printed (net_printed (agents_in w) (under w) (read_net (agents_in w) text)) o r o'
  unfolding net_printed
  net-refused o o' r n₀ n f q x y p =
      subst (λ y. Printed (net_printed (agents_in w) (under w) y) o r o') (sym (net-fault f q))
      (begun-printed (subst (λ m. Begun (First.refusal word_net m f.line) o r o') (y ∙ x) p))

-- The rule text.
module _ (text net w u : List ℕ) (a : Result (Unit {0}) Refusal) (e : leaves a u ≡ rules_read text w) where
  book-read : (k : Unit {0}) → a ≡ Ok k → (b : Book) × (read_rules text ≡ accepted b) × (u ≡ table_bytes b)
  unfolding leaves rules_read refusal leaves_by
  book-read k q = go (read_rules text) refl (ap (λ x. leaves x u) (sym q) ∙ e)
    where
      go : (x : OfText Book) → read_rules text ≡ x → record { said = none; table = u } ≡ leaves_by x w
          → (b : Book) × (read_rules text ≡ accepted b) × (u ≡ table_bytes b)
      go (accepted b) r k = (b, r, ap (λ s. s.table) k)
      go (refused n j) r k =
          absurd (let q : ◌≡◌ {A = Option Said.Refusal} none (some (record { number = n; line = j })) = ap (λ s. s.said) k in let z : ◌≡◌ {A = ℕ} 0 1 = cc in omega arith)

  rules-fault : (f : Refusal) → a ≡ Err f → read_rules text ≡ refused (fault_number f.fault) f.line
  unfolding leaves rules_read refusal leaves_by
  rules-fault f q = go (read_rules text) refl (ap (λ x. leaves x u) (sym q) ∙ e)
    where
      go : (x : OfText Book) → read_rules text ≡ x → record { said = some (record { number = fault_number f.fault; line = f.line }); table = u } ≡ leaves_by x w
          → read_rules text ≡ refused (fault_number f.fault) f.line
      go (accepted b) r k =
          absurd (let q : ◌≡◌ {A = Option Said.Refusal} (some (record { number = fault_number f.fault; line = f.line })) none = ap (λ s. s.said) k in let z : ◌≡◌ {A = ℕ} 0 1 = cc in omega arith)
      go (refused m i) r k =
          let q : ◌≡◌ {A = Option Said.Refusal} (some (record { number = fault_number f.fault; line = f.line })) (some (record { number = m; line = i })) = ap (λ s. s.said) k in
          let p : ◌≡◌ {A = Said.Refusal} (record { number = fault_number f.fault; line = f.line }) (record { number = m; line = i }) = cc in
          let x : m ≡ fault_number f.fault = sym (ap (λ s. s.number) p) in
          let y : i ≡ f.line = sym (ap (λ s. s.line) p) in
          r ∙ rw (x, y)

  pub rules-given : (k : Unit {0}) → a ≡ Ok k → Given u
  rules-given k q = by (book-read k q)
    where
      by : (b : Book) × (read_rules text ≡ accepted b) × (u ≡ table_bytes b) → Given u
      by (b, r, t) = (b, ((rule-text-accepted text b).0 r).1, t)

  pub rules-accepted : (o o' : List ℕ) (r : ℕ) (k : Unit {0}) → a ≡ Ok k
      → Printed (net_printed (agents_in u) (under u) (read_net (agents_in u) net)) o r o' → Printed (evaluated text net) o r o'
  unfolding evaluated rules_printed
  rules-accepted o o' r k q p = by (book-read k q)
    where
      by : (b : Book) × (read_rules text ≡ accepted b) × (u ≡ table_bytes b) → Printed (rules_printed (read_rules text) net) o r o'
      by (b, x, t) =
          let g = ((rule-text-accepted text b).0 x).1 in
          subst (λ y. Printed (rules_printed y net) o r o') (sym x)
          (subst (λ y. Printed (net_printed y (machine (table_of b)) (read_net y net)) o r o') (agents-are u b g t)
          (subst (λ y. Printed (net_printed (agents_in u) y (read_net (agents_in u) net)) o r o') (under_is u b g t) p))

  pub rules-refused : (o o' : List ℕ) (r n₀ n : ℕ) (f : Refusal) → a ≡ Err f → n₀ ≡ fault_number f.fault → n ≡ n₀
      → Begun (First.refusal word_rules n f.line) o r o'
      → Printed (evaluated text net) o r o'
  unfolding evaluated rules_printed
  rules-refused o o' r n₀ n f q x y p =
      subst (λ y. Printed (rules_printed y net) o r o') (sym (rules-fault f q))
      (begun-printed (subst (λ m. Begun (First.refusal word_rules m f.line) o r o') (y ∙ x) p))
