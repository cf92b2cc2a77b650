-- The rules of the table of a good book are the written ones.
use Rattle.std.specs.Prelude.{ℕ, suc, ◌<◌, ◌≡◌, refl, List, [], ◌∷◌, ◌++◌, map, ◌↔◌, length}
use Rattle.std.proofs.Common.{sym, ap₂, subst, ◌∙◌, inl, arith, length-append, ext_get_or}
use Rattle.std.proofs.Math.Path.{ap}
use mathlib.Core.List.Memᴰ
use Rattle.std.proofs.Math.ListN.{get_or, length-map}
use Rattle.calculus.specs.Calculus as Calculus
use Rattle.model.specs.Table.{Table, no_entry, entry}
use Rattle.model.specs.Sound.{Means, book}
use Rattle.model.proofs.Beneath.Books as Books
use Rattle.model.proofs.Beneath.Sources.{one_entry}
use Rattle.texts.specs.Bytes.{In}
use Rattle.texts.specs.Books.{Agent, Rule, Book}
use Rattle.texts.specs.Coded.{template, table_of, machine}
use Rattle.texts.specs.Meaning.{meant_rule}
use Rattle.texts.specs.Good.{GoodBook}
use Rattle.texts.proofs.Main as Texts
use Rattle.review.specs.Rulebook.{Written}

-- A place in a list of rules.
record Placed (l : List Rule) (i : ℕ) : Type 0 where
  before : List Rule
  rule : Rule
  after : List Rule
  rules : l ≡ before ++ (rule ∷ after)
  number : length before ≡ i

placed : (l : List Rule) (i : ℕ) → i < length l → Placed l i
placed [] i h = absurd (omega arith)
placed (r ∷ l) ℕ.zero h = record { before = []; rule = r; after = l; rules = refl; number = refl }
placed (r ∷ l) (ℕ.suc i) h =
    let p = placed l i (omega arith) in
    record { before = r ∷ p.before; rule = p.rule; after = p.after; rules = ap (λ m. r ∷ m) p.rules; number = ap suc p.number }

coded_at : (ags : List Agent) (before : List Rule) (r : Rule) (after : List Rule)
    → get_or (map (template ags) (before ++ (r ∷ after))) (length before) no_entry ≡ template ags r
coded_at ags [] r after = refl
coded_at ags (q ∷ before) r after = coded_at ags before r after

stands : (before : List Rule) (r : Rule) (after : List Rule) → In r (before ++ (r ∷ after))
stands [] r after = Memᴰ.head refl
stands (q ∷ before) r after = Memᴰ.tail (stands before r after)

module _ (b : Book) (g : GoodBook b) where
  many : length (machine (table_of b)).rules ≡ length b.rules
  unfolding machine table_of
  many = length-map b.rules (template b.agents)

  module _ (before : List Rule) (r : Rule) (after : List Rule) (e : b.rules ≡ before ++ (r ∷ after)) where
    entry_is : entry (machine (table_of b)) (length before) ≡ template b.agents r
    unfolding machine table_of
    entry_is =
        ap (λ l. get_or (map (template b.agents) l) (length before) no_entry) e ∙ coded_at b.agents before r after

    meant_at : book (machine (table_of b)) (length before) (meant_rule b.agents r)
    meant_at = (
      omega (arith, many, ap length e, length-append before (r ∷ after)),
      subst
          (λ x. Means (machine (table_of b)) x (meant_rule b.agents r))
          (sym entry_is)
          (Texts.rule-meant b g r (subst (In r) (sym e) (stands before r after))),
    )

  -- Two rules of one number are one.
  one_rule : (i : ℕ) (R Q : Calculus.Rule) → book (machine (table_of b)) i R → book (machine (table_of b)) i Q → R ≡ Q
  one_rule i R Q h k =
      ((Books.book-sound (Texts.table-sound b g)).single i i R Q h k
      (inl (h.1.left ∙ sym k.1.left, h.1.right ∙ sym k.1.right))).1

  pub to_written : (i : ℕ) (R : Calculus.Rule) → book (machine (table_of b)) i R → Written b i R
  to_written i R h =
      let p = placed b.rules i (omega (arith, h.0, many)) in
      record {
        before = p.before;
        rule = p.rule;
        after = p.after;
        rules = p.rules;
        number = p.number;
        means =
            one_rule i R (meant_rule b.agents p.rule) h
            (subst
            (λ j. book (machine (table_of b)) j (meant_rule b.agents p.rule))
            p.number
            (meant_at p.before p.rule p.after p.rules));
      }

  pub from-written : (i : ℕ) (R : Calculus.Rule) → Written b i R → book (machine (table_of b)) i R
  from-written i R w =
      subst
      (book (machine (table_of b)) i)
      (sym w.means)
      (subst
      (λ j. book (machine (table_of b)) j (meant_rule b.agents w.rule))
      w.number
      (meant_at w.before w.rule w.after w.rules))

-- Each place of a book has a rule, and no rule stands further on.
pub rule_in : (b : Book) (i : ℕ) → i < length b.rules → (R : Calculus.Rule) × Written b i R
rule_in b i h =
    let p = placed b.rules i h in
    (meant_rule b.agents p.rule, record { before = p.before; rule = p.rule; after = p.after; rules = p.rules; number = p.number; means = refl })

pub rule_before_end : {b : Book} {i : ℕ} {R : Calculus.Rule} → Written b i R → i < length b.rules
rule_before_end w = omega (arith, ap length w.rules, length-append w.before (w.rule ∷ w.after), w.number)

-- The table of a book is the only one with its arities, as many rules, and the written rules.
pub only-table : (b : Book) → GoodBook b → (T : Table) → T.arities ≡ map (λ a. a.arity) b.agents
    → length T.rules ≡ length b.rules → ((i : ℕ) (R : Calculus.Rule) → Written b i R → book T i R)
    → T ≡ machine (table_of b)
unfolding machine table_of
only-table b g T e l h = ap₂ (λ x y. record { arities = x; rules = y }) e same
  where
    at : (i : ℕ) → i < length T.rules → entry T i ≡ entry (machine (table_of b)) i
    at i o =
        let w = rule_in b i (omega (arith, o, l)) in one_entry (h i _ w.1).1 (from-written b g i _ w.1).1

    same : T.rules ≡ map (template b.agents) b.rules
    same = ext_get_or no_entry T.rules (map (template b.agents) b.rules) (l ∙ sym (length-map b.rules (template b.agents))) at

-- So a table is that of the book exactly if it has these arities, as many rules, and no rules but the written ones.
pub table_exactly : (b : Book) → GoodBook b → (T : Table)
    → (T ≡ machine (table_of b))
    ↔ ((T.arities ≡ map (λ a. a.arity) b.agents)
    × (length T.rules ≡ length b.rules)
    × ((i : ℕ) (R : Calculus.Rule) → book T i R ↔ Written b i R))
unfolding machine table_of
table_exactly b g T = (
  λ e.
      rw e (refl, length-map b.rules (template b.agents), λ i R. (to_written b g i R, from-written b g i R)),
  λ (e, l, h). only-table b g T e l (λ i R. (h i R).1),
)
