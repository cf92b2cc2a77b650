-- What two accepted texts gave, and demand 3's premise over the written rules turned into one over the table.
use Rattle.std.specs.Prelude.{ℕ, ◌≡◌, List, Ok}
use Rattle.std.proofs.Common.{sym, ap, subst, ◌∙◌}
use Rattle.calculus.specs.Calculus.{Label, Step, Valid}
use Rattle.calculus.specs.Calculus as Calculus
use Rattle.calculus.specs.Descent.{Steps, Normal}
use Rattle.calculus.specs.Nets.{◌≈◌}
use Rattle.calculus.specs.Terms.{Conf}
use Rattle.calculus.proofs.Beneath.Compatible.{valid_same}
use Rattle.calculus.proofs.Beneath.UpTo.{UpTo, to_up, plain, plain_normal}
use Rattle.texts.specs.Books.{Book, Net}
use Rattle.texts.specs.Coded.{table_of, machine, load}
use Rattle.texts.specs.Good.{GoodBook, GoodNet}
use Rattle.texts.specs.Meaning.{meant_net}
use Rattle.texts.proofs.Main as Texts
use Rattle.model.specs.Load.{loaded}
use Rattle.model.specs.NetReads.{NetReads}
use Rattle.model.specs.Sound.{Sound, book}
use Rattle.model.specs.SoundTable.{SoundTable}
use Rattle.model.proofs.Kept.{load_sound, load-means}
use Rattle.model.specs.Walk.{EndsAt}
use Rattle.model.proofs.Beneath.Books.{book-sound}
use Rattle.model.proofs.Beneath.Walks.{sound-valid}
use Rattle.state.specs.Layout.{view}
use Rattle.table.specs.Layout.{table_bytes}
use Rattle.sound.specs.Lent.{under}
use Rattle.lent.specs.Both.{BothSound, under_is, both_of}
use Rattle.review.specs.Promises.{RulesCall, NetCall}
use Rattle.review.specs.Picks.{Accepted, Ends}
use Rattle.review.specs.Rulebook.{Written}
use Rattle.review.proofs.Beneath.Spelt.{book-spelt, net-spelt-so}
use Rattle.review.proofs.Beneath.Written.{to_written, from-written}

pub both-spelt : (rules table w net state v : List ℕ) → RulesCall rules table (Ok tt) w
    → NetCall net w state (Ok tt) v → Accepted rules net w v
both-spelt rules table w net state v r n =
    let (b, p, g, l, q) = book-spelt rules table w r in
    let m = net-spelt-so net b g state v (subst (λ u. NetCall net u state (Ok tt) v) q n) in
    record {
      book = b;
      spelt = m.0;
      good_book = g;
      good_net = m.2;
      rules_is = p;
      net_is = m.1;
      rules_read = (table, r);
      net_read = (state, n);
    }

-- Steps by the rules of one book are steps by those of another that has them all.
module _ (A B : Calculus.Book) (has : (i : ℕ) (R : Calculus.Rule) → A i R → B i R) where
  step_by : {C D : Conf} {l : Label} → Step A C l D → Step B C l D
  step_by (Step.communication c) = Step.communication c
  step_by (Step.interaction {i = i} {r = r} h c) = Step.interaction (has i r h) c

  steps_by : {C D : Conf} {M : List Label} → Steps (UpTo A) C M D → Steps (UpTo B) C M D
  steps_by Steps.done = Steps.done
  steps_by (Steps.more (C, e, s) w) = Steps.more (C, e, step_by s) (steps_by w)

  normal_by : {C : Conf} → Normal (Step B) C → Normal (Step A) C
  normal_by n l D s = n l D (step_by s)

module _ (b : Book) (g : GoodBook b) (n : Net) {M : List Label} {N : Conf} where
  pub ends-written : EndsAt (machine (table_of b)) (meant_net b.agents n) M N → Ends b n M N
  ends-written e =
      record {
        way = steps_by (book (machine (table_of b))) (Written b) (to_written b g) (to_up (book (machine (table_of b))) e.way);
        end = normal_by (Written b) (book (machine (table_of b))) (from-written b g) e.end;
      }

  pub ends_tabled : GoodNet b.agents n → Ends b n M N
      → (N' : Conf) × EndsAt (machine (table_of b)) (meant_net b.agents n) M N' × (N' ≈ N)
  ends_tabled k e =
      let T = machine (table_of b) in
      let t = Texts.table-sound b g in
      let r = Texts.net-loads b g n k in
      let v : Valid (meant_net b.agents n) = valid_same (load-means t r) (sound-valid t (load_sound t r)) in
      let p = plain (book T) (book-sound t) v (steps_by (Written b) (book T) (from-written b g) e.way) in (
        p.end,
        record {
          way = p.way;
          end = plain_normal (book T) (book-sound t) v p (normal_by (book T) (Written b) (to_written b g) e.end);
        },
        p.equal,
      )

module _ {rules net w v : List ℕ} (a : Accepted rules net w v) where
  table_is : w ≡ table_bytes a.book
  table_is =
      let (b, p, g, l, q) = book-spelt rules a.rules_read.0 w a.rules_read.1 in
      q ∙ ap table_bytes (Texts.book_unique b a.book g a.good_book (sym p ∙ a.rules_is))

  pub state_is : view v ≡ loaded (load a.book.agents a.spelt)
  state_is =
      let c = subst (λ u. NetCall net u a.net_read.0 (Ok tt) v) table_is a.net_read.1 in
      let (n, p, g, l, q) = net-spelt-so net a.book a.good_book a.net_read.0 v c in
      q
      ∙ ap (λ m. loaded (load a.book.agents m)) (Texts.net_unique a.book.agents n a.spelt g a.good_net (sym p ∙ a.net_is))

  same_table : under w ≡ machine (table_of a.book)
  same_table = under_is w a.book a.good_book table_is

  pub start_table : SoundTable (under w)
  start_table = rw same_table (Texts.table-sound a.book a.good_book)

  pub start_reads : NetReads (under w) (load a.book.agents a.spelt) (meant_net a.book.agents a.spelt)
  start_reads = rw same_table (Texts.net-loads a.book a.good_book a.spelt a.good_net)

  pub start_sound : BothSound w v
  start_sound =
      both_of
      w
      v
      (a.book, a.good_book, table_is)
      (subst (Sound (under w)) (sym state_is) (load_sound start_table start_reads))

  pub start_ends : {M : List Label} {N : Conf} → Ends a.book a.spelt M N
      → (N' : Conf) × EndsAt (under w) (meant_net a.book.agents a.spelt) M N' × (N' ≈ N)
  start_ends e = rw same_table (ends_tabled a.book a.good_book a.spelt a.good_net e)
