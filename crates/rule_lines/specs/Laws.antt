-- Laws of books and of judges that more than one judge needs.
use Rattle.std.specs.Prelude.{ℕ, suc, ◌≡◌, refl, true, List, [], ◌∷◌, length, eqb}
use Rattle.std.proofs.Common.{sym, ap, ◌∙◌, arith, eqb-true}
use Rattle.std.proofs.lemmas.List.{length-map}
use Rattle.texts.specs.Books.{Rule, Book}
use Rattle.texts.specs.Answers.{OfLine}
use Rattle.texts.specs.Coded.{table_of, template}
use Rattle.table.specs.Layout.{rules_in, agents_in, table_bytes}
use Rattle.table.specs.Laws.Lists.{length-tab}
use Rattle.table.specs.Laws.Whole.{symbols_in, rules_in_lem}
use Rattle.rule_lines.specs.Judged.{Judged, passed, failed}

-- The counts of a table are those of its book.
pub agents-counted : (b : Book) (v : List ℕ) → v ≡ table_bytes b → length (agents_in v) ≡ length b.agents
unfolding agents_in table_bytes table_of
agents-counted b v e = rw e (length-tab _ _ ∙ symbols_in (table_of b))

pub rules-counted : (b : Book) (v : List ℕ) → v ≡ table_bytes b → rules_in v ≡ length b.rules
unfolding table_bytes table_of
rules-counted b v e = ap rules_in e ∙ (rules_in_lem (table_of b) ∙ length-map b.rules (template b.agents))

-- A count of 0 is of no rules.
pub no_rules : (rs : List Rule) → eqb (length rs) 0 ≡ true → rs ≡ []
no_rules [] h = refl
no_rules (r ∷ rs) h = let z : suc (length rs) ≡ 0 = eqb-true (suc (length rs)) 0 h in absurd (omega arith)

-- Of what is the same the same is judged.
pub judged_same : (v u : List ℕ) (x y : OfLine Book) (n : ℕ) → x ≡ y → Judged v u x n → Judged v u y n
judged_same v u x y n e (passed z b f t) = passed z b (sym e ∙ f) t
judged_same v u x y n e (failed z f t) = failed z (sym e ∙ f) t
