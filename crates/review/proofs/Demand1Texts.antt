-- Demand 1 of the two texts: each refusal exactly under its condition, on its line; what was lent is then as it was. The
-- condition of each number is on the page crates/texts/specs/Refused.antt, in the words of document 01's table.
use Rattle.std.specs.Prelude.{refl}
use Rattle.texts.proofs.Main as Texts
use Rattle.texts.specs.Refused as Refusing
use Rattle.parts.specs.declared.faults.Fault.TheVariants as Why
use Rattle.std.specs.Prelude.{◌≡◌, ◌↔◌}
use Rattle.review.specs.Words.{ℕ, List, [], length, Line, Book, Net, no_book, Begins, BadLine, records, rules_written, RulesRight, RuleWrong, RulesRefused, headed, faced, net_written, NetRight, NetWrong, NetRefused, GoodBook, table_bytes, Given, Fault, fault_number, TextAnswer, refused_on}
use Rattle.review.specs.Promises.{StateArray, RulesCall, NetCall}
use Rattle.review.proofs.Beneath.Texts as Proof

-- READ_RULES, lent a text and a table, that leaves the table u. The number of a refusal is that of its fault.
pub rules-refused : (text table u : List ℕ) (n j : ℕ)
    → ((f : Fault) × (fault_number f ≡ n) × RulesCall text table (refused_on f j) u) ↔ (RulesRefused text n j × (u ≡ table))
rules-refused = Proof.rules_numbered

-- READ_NET, lent a text, a table and a state v, that leaves the state v'.
module _ (text : List ℕ) {v v' : List ℕ} (lent : StateArray v) (after : StateArray v') where
  -- Over the table of a book, and so by its agents.
  pub net-refused : (b : Book) → GoodBook b → (n j : ℕ)
      → ((f : Fault) × (fault_number f ≡ n) × NetCall text (table_bytes b) v (refused_on f j) v')
      ↔ (NetRefused b.agents text n j × (v' ≡ v))
  net-refused = Proof.net_numbered text lent after

  -- 16: "A net reader lent an unsound table answers 16, line 0, before all else."
  pub net_16 : (w : List ℕ) → ¬ Given w → (r : TextAnswer) → NetCall text w v r v' ↔ ((r ≡ refused_on Why.Unsound 0) × (v' ≡ v))
  net_16 = Proof.net_16 text lent after

-- "A header's count is only compared with the records found." Of two rule texts that differ in the counts of their headers
-- alone, the bad line of one is that of the other, by the same number;
pub bad_line_wins : (text text' table : List ℕ) (m k m' k' : ℕ) (ls : List Line)
    → Begins rules_written RulesRight text (records m k no_book) ls
    → Begins rules_written RulesRight text' (records m' k' no_book) ls
    → (n j : ℕ) → BadLine rules_written RulesRight text RuleWrong n j
    → (f : Fault) × (fault_number f ≡ n) × RulesCall text' table (refused_on f j) table
bad_line_wins text text' table m k m' k' ls g h n j d =
    (rules-refused text' table table n j).1 (Refusing.RulesRefused.bad_line (Texts.bad_line_wins text text' m k m' k' ls g h n j d), refl)

-- and where all lines are good, a count that is not that of the records found gives 11 on line 1.
pub header_lies : (text table : List ℕ) (m k : ℕ) (b : Book) → Begins rules_written RulesRight text (records m k b) []
    → ¬ ((m ≡ length b.agents) × (k ≡ length b.rules)) → RulesCall text table (refused_on Why.CountsDiffer 1) table
header_lies text table m k b g u =
    (Proof.rules-refused text table table Why.CountsDiffer 1).1 (Refusing.RulesRefused.miscounted g u, refl)

-- The same of net texts, over the table of a book.
module _ (b : Book) (good : GoodBook b) {v : List ℕ} (lent : StateArray v) where
  pub net-bad_line_wins : (text text' : List ℕ) (m k m' k' : ℕ) (ls : List Line)
      → Begins net_written (NetRight b.agents) text (headed m k) ls
      → Begins net_written (NetRight b.agents) text' (headed m' k') ls
      → (n j : ℕ) → BadLine net_written (NetRight b.agents) text (NetWrong b.agents) n j
      → (f : Fault) × (fault_number f ≡ n) × NetCall text' (table_bytes b) v (refused_on f j) v
  net-bad_line_wins text text' m k m' k' ls g h n j d =
      (net-refused text' lent lent b good n j).1
      (Refusing.NetRefused.bad_line (Texts.net-bad_line_wins b.agents text text' m k m' k' ls g h n j d), refl)

  pub net-header_lies : (text : List ℕ) (m k : ℕ) (t : Net)
      → Begins net_written (NetRight b.agents) text (faced m k t) []
      → ¬ ((m ≡ length t.face) × (k ≡ length t.equations)) → NetCall text (table_bytes b) v (refused_on Why.CountsDiffer 1) v
  net-header_lies text m k t g u =
      (Proof.net-refused text lent lent b good Why.CountsDiffer 1).1 (Refusing.NetRefused.miscounted g u, refl)
