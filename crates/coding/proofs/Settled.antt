-- Each way out of the functions that settle a rule.
use Prim.Native.Nat.{ℕ}
use mathlib.Core.Path.{◌≡◌, refl, sym, ap, ap₂, ◌∙◌}
use mathlib.Core.Bool.{Bool, true, false, not, ◌&&◌}
use mathlib.Core.List.{List, [], ◌∷◌, map-append}
use lib.Dec.{eqb}
use borrow.Author.Tests.{eq-eqb}
use Rattle.model.specs.Table.{none, find}
use Rattle.texts.specs.Bytes.{any}
use Rattle.texts.specs.Books.{Agent, Book, is_rule, add}
use Rattle.texts.specs.Books as Books
use Rattle.texts.specs.Answers.{refuse}
use Rattle.texts.specs.RuleText.{fault9, fault10}
use Rattle.texts.specs.Coded.{Table, template, table_of}
use Rattle.texts.specs.TableTest.{pair_test, is_two_sided}
use Rattle.table.specs.declared.Rule.{Rule}
use Rattle.table.specs.Layout.{entry_of, bytes_of, table_bytes}
use Rattle.table.specs.Rule.{row, stands}
use Rattle.table.specs.Put.{with_rule}
use Rattle.table.specs.Laws.Whole.{FitAgents}
use Rattle.coding.specs.Settled.{Ready, Settled}
use Rattle.table.specs.Laws.Finding.{found-any, none_found}
use Rattle.coding.specs.Laws.Pairs.{pair-fault}
use Rattle.coding.specs.Laws.Selves.{self-fault}

-- A rule of a symbol with itself; q is its row.
pub one_self : (q : List ℕ) (rule : Rule) (t : Bool) → rule.left ≡ rule.right → q ≡ row rule → ((ags : List Agent) → t ≡ is_two_sided (entry_of ags q))
    → (ags : List Agent) → not t ≡ (eqb rule.left rule.right && not (is_two_sided (stands ags rule)))
unfolding stands
one_self q rule t e eq h ags = rw (eq-eqb rule.left rule.right e) (ap not (h ags ∙ ap (λ l. is_two_sided (entry_of ags l)) eq))

-- The numbers 9 and 10, and the table with the rule.
module _ (w : List ℕ) (rule : Rule) (h : Bool) (has : (t : Table) → w ≡ bytes_of t → h ≡ any (pair_test rule.left rule.right) t.rules) where
  module _ (b : Book) (r : Books.Rule) (ready : Ready b r w rule) where
    lent : w ≡ bytes_of (table_of b)
    unfolding table_bytes
    lent = ready.table

    symbols : (rule.left ≡ (template b.agents r).left) × (rule.right ≡ (template b.agents r).right)
    unfolding stands entry_of
    symbols = (ap (λ e. e.left) ready.coded, ap (λ e. e.right) ready.coded)

    nine : h ≡ fault9 b (is_rule r)
    nine =
        has (table_of b) lent
        ∙ (ap₂ (λ x y. any (pair_test x y) (table_of b).rules) symbols.0 symbols.1 ∙ pair-fault b r ready.sound ready.others)

    ten : (o : Bool) → ((ags : List Agent) → o ≡ (eqb rule.left rule.right && not (is_two_sided (stands ags rule)))) → o ≡ fault10 b (is_rule r)
    ten o one =
        one b.agents
        ∙ (ap (λ u. eqb rule.left rule.right && not (is_two_sided u)) ready.coded
        ∙ (ap₂ (λ x y. eqb x y && not (is_two_sided (template b.agents r))) symbols.0 symbols.1 ∙ self-fault b r ready.sound ready.few))

    unmatched : h ≡ false → find (table_of b).rules 0 rule.left rule.right ≡ none
    unmatched e =
        none_found (find (table_of b).rules 0 rule.left rule.right)
        (sym (found-any (table_of b).rules 0 rule.left rule.right) ∙ (sym (has (table_of b) lent) ∙ e))

    agents_of : (table_of b).agents ≡ b.agents
    unfolding table_of
    agents_of = refl

    more : with_rule (template b.agents r) (table_of b) ≡ table_of (add b (is_rule r))
    unfolding table_of add
    more = ap (λ l. record { agents = b.agents; rules = l }) (sym (map-append (template b.agents) b.rules (r ∷ [])))

  pub settled-nine : h ≡ true → (b : Book) (r : Books.Rule) → Ready b r w rule → Settled b r 9 w w
  unfolding refuse
  settled-nine e b r ready = record { answer = rw (← nine b r ready, e); table = refl }

  module _ (e : h ≡ false) (o : Bool) (one : (ags : List Agent) → o ≡ (eqb rule.left rule.right && not (is_two_sided (stands ags rule)))) where
    pub settled-ten : o ≡ true → (b : Book) (r : Books.Rule) → Ready b r w rule → Settled b r 10 w w
    unfolding refuse
    settled-ten f b r ready = record { answer = rw (← nine b r ready, e, ← ten b r ready o one, f); table = refl }

    pub settled_put : o ≡ false → (v : List ℕ)
        → ((t : Table) → w ≡ bytes_of t → FitAgents t.agents → find t.rules 0 rule.left rule.right ≡ none → v ≡ bytes_of (with_rule (stands t.agents rule) t))
        → (b : Book) (r : Books.Rule) → Ready b r w rule → Settled b r 0 w v
    unfolding refuse table_bytes table_of
    settled_put f v put b r ready = record {
      answer = rw (← nine b r ready, e, ← ten b r ready o one, f);
      table =
          put (table_of b) (lent b r ready) (rw (agents_of b r ready) ready.agents) (unmatched b r ready e)
          ∙ ap bytes_of (rw (agents_of b r ready, ready.coded) (more b r ready));
    }
