-- Accepted texts in the machine and in the calculus.
use Rattle.std.specs.Prelude.{ℕ, ◌*◌, ◌<◌, ◌≡◌, ◌↔◌, ◌⊎◌, List, length}
use Rattle.std.proofs.Common.{◌∙◌, inl, inr, arith}
use Rattle.std.proofs.Math.Decide.{dec_lt}
use Rattle.std.proofs.lemmas.List.{length-map}
use Rattle.calculus.specs.Terms.{names, eqs_names, δ, count, occurs}
use Rattle.calculus.proofs.Beneath.Count.{sum-append}
use Rattle.calculus.specs.Calculus.{Closed}
use Rattle.calculus.specs.Nets.{◌≈◌}
use Rattle.model.specs.Load.{loaded}
use Rattle.model.specs.NetReads.{NetReads}
use Rattle.model.proofs.Kept as Kept
use Rattle.model.specs.State.{from}
use Rattle.model.specs.Table.{arity}
use Rattle.model.specs.Sound.{Means, Sound, meaning}
use Rattle.model.specs.SoundTable as Machine
use Rattle.texts.specs.Books.{Rule, Book, Net}
use Rattle.texts.specs.Answers.{accepted}
use Rattle.texts.specs.RuleText.{read_rules}
use Rattle.texts.specs.NetText.{read_net}
use Rattle.texts.specs.Coded.{Table, template, table_of, machine, load, arity_at}
use Rattle.texts.specs.Meaning.{meant_rule, meant_net}
use Rattle.texts.specs.Bytes.{In}
use Rattle.texts.proofs.Beneath.RuleMeans.{rules-accepted}
use Rattle.texts.proofs.Beneath.NetMeans.{net-accepted}
use Rattle.texts.proofs.Beneath.BookSound.{good-sound}
use Rattle.texts.proofs.Beneath.TableSound.{rule-few}
use Rattle.texts.proofs.Beneath.Forward.{table_pass}
use Rattle.texts.proofs.Beneath.Exact.{test_sound}
use Rattle.texts.proofs.Beneath.Tables.{arity_is, test_machine, machine_test}
use Rattle.texts.proofs.Beneath.Nets.{rule-means, net-reads}
use Rattle.texts.specs.Good.{GoodBook, GoodNet, SoundTable}
use Rattle.texts.specs.Conditions.{SpeltAgents}
use Rattle.model.proofs.Beneath.Froms.{from_in, from_out}

pub sound-exact : (t : Table) → SoundTable t ↔ (SpeltAgents t.agents × Machine.SoundTable (machine t))
sound-exact t = (λ h. test_machine t ((test_sound t).1 h), λ p. (test_sound t).0 (machine_test t p.0 p.1))

module _ (b : Book) (g : GoodBook b) where
  pub book-sound : Machine.SoundTable (machine (table_of b))
  book-sound = (test_machine (table_of b) (table_pass b g)).1

  arities : (length (machine (table_of b)).arities ≡ length b.agents) × ((s : ℕ) → arity (machine (table_of b)) s ≡ arity_at b.agents s)
  unfolding machine table_of
  arities = (length-map b.agents (λ a. a.arity), arity_is b.agents)

  pub book-means : (r : Rule) → In r b.rules → Means (machine (table_of b)) (template b.agents r) (meant_rule b.agents r)
  book-means r m = rule-means b.agents (machine (table_of b)) arities.1 r ((good-sound b g).rules_sound r m) (rule-few b g r m)

  pub net-ready : (n : Net) → GoodNet b.agents n → NetReads (machine (table_of b)) (load b.agents n) (meant_net b.agents n)
  net-ready n h = net-reads b.agents (machine (table_of b)) arities.0 arities.1 n h

  pub net-closed : (n : Net) → GoodNet b.agents n → Closed (meant_net b.agents n)
  net-closed n h x =
      let t = (net-ready n h).twice x in
      let s = sum-append (δ x) (names (meant_net b.agents n).face) (eqs_names (meant_net b.agents n).eqs) in
      go (dec_lt x (load b.agents n).names) (s ∙ t)
    where
      go : Dec (x < (load b.agents n).names) → occurs x (meant_net b.agents n) ≡ 2 * count x (from 0 (load b.agents n).names)
          → (occurs x (meant_net b.agents n) ≡ 0) ⊎ (occurs x (meant_net b.agents n) ≡ 2)
      go (yes l) e = let c = from_in (load b.agents n).names 0 x (omega arith) (omega (arith, l)) in inr (e ∙ omega (arith, c))
      go (no l) e = let c = from_out (load b.agents n).names 0 x (λ i. omega (arith, l)) in inl (e ∙ omega (arith, c))

-- Two accepted texts load a sound state, which stands for the net that was written.
pub accepted-loads : (rules net : List ℕ) (b : Book) (n : Net) → read_rules rules ≡ accepted b → read_net b.agents net ≡ accepted n
    → (h : Sound (machine (table_of b)) (loaded (load b.agents n))) × (meaning h ≈ meant_net b.agents n)
accepted-loads rules net b n h k =
    let g = ((rules-accepted rules b).0 h).1 in
    let r = net-ready b g n ((net-accepted b.agents net n).0 k).1 in
    (Kept.load_sound (book-sound b g) r, Kept.load-means (book-sound b g) r)
