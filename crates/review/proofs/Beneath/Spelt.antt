-- What accepted texts spell, and what the bytes of their tables stand for.
use Rattle.std.specs.Prelude.{ℕ, ◌≤◌, ◌<◌, List, map, ◌↔◌, length, Ok}
use Rattle.std.proofs.Math.Path.{◌≡◌, refl, ap}
use Rattle.std.proofs.Common.{sym, ap₂, subst, ◌∙◌, arith}
use Rattle.std.proofs.Math.Decide.{dec_lt}
use Rattle.std.proofs.lemmas.List.{length-map}
use Rattle.parts.specs.Limits.{text_max}
use Rattle.texts.specs.Books.{Book, Net, print_book, print_net}
use Rattle.texts.specs.Answers.{OfText, accepted, refused}
use Rattle.texts.specs.RuleText.{read_rules}
use Rattle.texts.specs.Coded.{table_of, template, machine, load}
use Rattle.texts.specs.Meaning.{meant_net}
use Rattle.texts.specs.Good.{GoodBook, GoodNet}
use Rattle.texts.proofs.Main as Texts
use Rattle.calculus.specs.Calculus as Calculus
use Rattle.calculus.specs.Nets.{◌≈◌}
use Rattle.model.specs.State.{St}
use Rattle.model.specs.Load.{loaded}
use Rattle.model.specs.Sound.{Sound, meaning, book}
use Rattle.model.proofs.Kept.{load_sound, load-means, one_meaning}
use Rattle.state.specs.Layout.{view}
use Rattle.table.specs.Layout.{agents_in, bytes_of, table_bytes}
use Rattle.table.specs.Layout as Layout
use Rattle.sound.specs.Lent.{under}
use Rattle.lent.specs.Both.{stands_for, under_is}
use Rattle.review.specs.Answers.{TextAnswer}
use Rattle.rules.proofs.Main as ReadRules
use Rattle.rules.specs.Answer.{refusal, leaves, leaves_by, rules_read}
use Rattle.nets.specs.Answer.{filled}
use Rattle.nets.specs.Main as Nets
use Rattle.review.specs.Promises.{RulesCall, NetCall}
use Rattle.review.specs.Loads.{LoadedSo}
use Rattle.review.specs.Rulebook.{Written}
use Rattle.review.proofs.Beneath.Written.{to_written, from-written, rule_in, rule_before_end, only-table}
use Rattle.review.proofs.Beneath.LoadedSo.{net-loaded-so, only-loaded, loaded-sound}

pub same_refusal : {text table table' u u' : List ℕ} {r q : TextAnswer} → RulesCall text table r u
    → RulesCall text table' q u' → refusal r ≡ refusal q
unfolding leaves
same_refusal {text} {table} {table'} c d =
    ap (λ x. x.said) c.promised ∙ (ReadRules.text_decides text table table' ∙ sym (ap (λ x. x.said) d.promised))

module _ (text table u : List ℕ) where
  pub book-spelt : RulesCall text table (Ok tt) u
      → (b : Book) × (text ≡ print_book b) × GoodBook b × (length text ≤ text_max) × (u ≡ table_bytes b)
  unfolding leaves rules_read refusal leaves_by
  book-spelt c = go (read_rules text) refl c.promised
    where
      go : (x : OfText Book) → read_rules text ≡ x → leaves (Ok tt) u ≡ leaves_by x table
          → (b : Book) × (text ≡ print_book b) × GoodBook b × (length text ≤ text_max) × (u ≡ table_bytes b)
      go (accepted b) e k =
          let p = (Texts.rule-text-accepted text b).0 e in (b, p.0, p.1, p.2, ap (λ x. x.table) k)
      go (refused n j) e k = absurd (let z = ap (λ x. x.said) k in let y : ◌≡◌ {A = ℕ} 0 1 = cc in omega arith)

  pub spelt-book : (b : Book) → text ≡ print_book b → GoodBook b → length text ≤ text_max → u ≡ table_bytes b
      → RulesCall text table (Ok tt) u
  unfolding leaves rules_read refusal leaves_by
  spelt-book b p g l q = record { promised = rw ((Texts.rule-text-accepted text b).1 (p, g, l), q) }

pub spelt-net : (text : List ℕ) (b : Book) → GoodBook b → (v v' : List ℕ) (n : Net) → text ≡ print_net n
    → GoodNet b.agents n → length text ≤ text_max → view v' ≡ loaded (load b.agents n)
    → NetCall text (table_bytes b) v (Ok tt) v'
spelt-net text b g v v' n p h l q =
    record { promised = ap filled q ∙ rw p (sym (Nets.good-accepted b g n h (subst (λ t. length t ≤ text_max) p l) (view v))) }

pub net-spelt-so : (text : List ℕ) (b : Book) → GoodBook b → (v v' : List ℕ) → NetCall text (table_bytes b) v (Ok tt) v'
    → (n : Net)
    × (text ≡ print_net n)
    × GoodNet b.agents n
    × (length text ≤ text_max)
    × (view v' ≡ loaded (load b.agents n))
net-spelt-so text b g v v' c =
    let l = Nets.accepted-loads text b g (view v) (view v') (sym c.promised) in
    (l.net, l.spelt, l.good, l.short, l.state)

pub load_exactly : (b : Book) → GoodBook b → (n : Net) → GoodNet b.agents n → (s : St)
    → (s ≡ loaded (load b.agents n))
    ↔ (Sound (machine (table_of b)) s × LoadedSo b.agents (machine (table_of b)) n s)
load_exactly b g n k s = (
  λ e. rw e (loaded-sound b g n k, net-loaded-so b g n k),
  λ p. only-loaded b g n k s p.0 p.1,
)

pub load-means-net : (b : Book) → GoodBook b → (n : Net) → GoodNet b.agents n
    → (h : Sound (machine (table_of b)) (loaded (load b.agents n))) → meaning h ≈ meant_net b.agents n
load-means-net b g n k h =
    let t = Texts.table-sound b g in
    let r = Texts.net-loads b g n k in
    subst (λ C. C ≈ meant_net b.agents n) (one_meaning (load_sound t r) h) (load-means t r)

-- The bytes of the table of a good book stand for it.
module _ (b : Book) (g : GoodBook b) where
  pub bytes-under : under (table_bytes b) ≡ machine (table_of b)
  bytes-under = under_is (table_bytes b) b g refl

  pub bytes-agents : agents_in (table_bytes b) ≡ b.agents
  unfolding Layout.view table_of
  bytes-agents = ap (λ t. t.agents) (stands_for (table_bytes b) b g refl)

-- They are a code of the agents and of what the rules mean.
module _ (a b : Book) (good-a : GoodBook a) (good-b : GoodBook b) where
  abbrev SameRules : Type 0
  SameRules = (i : ℕ) (R : Calculus.Rule) → Written a i R ↔ Written b i R

  same_table : table_bytes a ≡ table_bytes b → table_of a ≡ table_of b
  same_table e =
      sym (stands_for (table_bytes a) a good-a refl) ∙ ap Layout.view e ∙ stands_for (table_bytes b) b good-b refl

  as_many : SameRules → length a.rules ≡ length b.rules
  as_many h = omega (arith, no_more a b (λ i R. (h i R).0), no_more b a (λ i R. (h i R).1))
    where
      no_more : (c d : Book) → ((i : ℕ) (R : Calculus.Rule) → Written c i R → Written d i R) → length c.rules ≤ length d.rules
      no_more c d h = go (dec_lt (length d.rules) (length c.rules))
        where
          go : Dec (length d.rules < length c.rules) → length c.rules ≤ length d.rules
          go (no o) = omega arith
          go (yes o) = let w = rule_in c (length d.rules) o in absurd (omega (arith, rule_before_end (h _ _ w.1)))

  pub bytes-code : (table_bytes a ≡ table_bytes b) ↔ ((a.agents ≡ b.agents) × SameRules)
  unfolding table_bytes table_of machine
  bytes-code = (
    λ e.
        let q = same_table e in (
          ap (λ t. t.agents) q,
          λ i R. (
            λ w. to_written b good-b i R (subst (λ t. book (machine t) i R) q (from-written a good-a i R w)),
            λ w. to_written a good-a i R (subst (λ t. book (machine t) i R) (sym q) (from-written b good-b i R w)),
          ),
        ),
    λ (e, h).
        let t =
        only-table b good-b (machine (table_of a)) (ap (map (λ x. x.arity)) e)
        (length-map a.rules (template a.agents) ∙ as_many h)
        (λ i R w. from-written a good-a i R ((h i R).1 w)) in
        ap bytes_of (ap₂ (λ x y. record { agents = x; rules = y }) e (ap (λ T. T.rules) t)),
  )
