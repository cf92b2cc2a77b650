-- The theorems, in one place.
use Rattle.std.specs.Prelude.{ℕ, ◌<◌, ◌≤◌, ◌≡◌, Bool, true, false, ◌↔◌, ◌⊎◌, List, [], ◌++◌, length}
use Rattle.std.proofs.Math.Option.{some}
use Rattle.parts.specs.Limits.{text_max}
use Rattle.calculus.specs.Calculus.{Closed}
use Rattle.calculus.specs.Nets.{◌≈◌}
use Rattle.model.specs.Load.{loaded}
use Rattle.model.specs.NetReads.{NetReads}
use Rattle.model.specs.Sound.{Means}
use Rattle.model.specs.Sound as Machine
use Rattle.model.specs.SoundTable as SoundTable
use Rattle.texts.specs.Bytes.{Word, Line, number_of, decimal, In}
use Rattle.texts.specs.Terms.{Term, spell, worded}
use Rattle.texts.specs.Books.{Agent, Rule, Book, Record, no_book, Net, lefts, rights, print_book, print_net}
use Rattle.texts.specs.Answers.{accepted, refused}
use Rattle.texts.specs.RuleText.{fault7, fault8, fault10, read_rules}
use Rattle.texts.specs.NetText.{net_fault7, read_net, net_read}
use Rattle.texts.specs.Coded.{Table, table_of, template, machine, load}
use Rattle.texts.specs.Meaning.{meant_rule, meant_net}
use Rattle.texts.specs.TableTest.{test_table}
use Rattle.texts.specs.Refused.{Begins, BadLine, records, rules_written, RulesRight, RuleWrong, RulesRefused, headed, faced, net_written, NetRight, NetWrong, NetRefused, miscounted}
use Rattle.texts.specs.Good.{GoodBook, GoodNet, SoundTable}
use Rattle.texts.specs.Conditions.{OfRule, Argued, WellNamed, TwoSided, SpeltAgents}
use Rattle.texts.specs.Reader.{term_of}
use Rattle.texts.proofs.Beneath.Spelling.{term-exact}
use Rattle.texts.proofs.Beneath.Splitting.{number-exact}
use Rattle.texts.specs.Scan.{want, scan, done}
use Rattle.texts.proofs.Beneath.Scan.{scan-exact}
use Rattle.texts.proofs.Beneath.RuleRefusals as Rules
use Rattle.texts.proofs.Beneath.RuleMeans.{rules-accepted, print_unique}
use Rattle.texts.proofs.Beneath.BookSound.{sound_table_lem}
use Rattle.texts.proofs.Beneath.Exact.{test_sound}
use Rattle.texts.proofs.Beneath.RuleSound.{fault7-exact, net_fault7-exact, fault8-exact}
use Rattle.texts.proofs.Beneath.TwoSided.{fault10-exact}
use Rattle.texts.proofs.Beneath.NetRefusals as Nets
use Rattle.texts.proofs.Beneath.NetMeans.{net-accepted, net_print_unique}
use Rattle.texts.proofs.Beneath.NetRead.{net_read-refused, net_read-accepted}
use Rattle.texts.proofs.Beneath.Link.{sound-exact, book-sound, book-means, net-ready, net-closed, accepted-loads}

-- Spelling. A field means t exactly if t is spelt so and every head in it is an identifier.
pub field-means : (s : List ℕ) (t : Term) → (term_of s ≡ some t) ↔ ((spell t ≡ s) × (worded t ≡ true))
field-means = term-exact

-- A number field means n exactly if n is written so in at most four digits.
pub number-means : (s : Word) (n : ℕ) → (number_of s ≡ some n) ↔ ((decimal n ≡ s) × (n < 10000))
number-means = number-exact

-- The flat pass over a field ends well exactly if the field spells a term, at any depth.
pub flat_pass : (s : List ℕ) → (done (scan (want 0) s) ≡ true) ↔ ((t : Term) × (term_of s ≡ some t))
flat_pass = scan-exact

-- Number 7: a rule has it exactly if some argument count in it is wrong, and an agent never.
pub number_7 : (b : Book) (r : Record)
    → (fault7 b r ≡ false) ↔ OfRule (λ q. Argued b.agents (lefts q ++ rights q)) r
number_7 = fault7-exact

-- The same of a line of a net text.
pub net_number_7 : (ags : List Agent) (ts : List Term) → (net_fault7 ags ts ≡ false) ↔ Argued ags ts
net_number_7 = net_fault7-exact

-- Number 8: a rule has it exactly if it does not meet the rule conditions, and an agent never.
pub number_8 : (b : Book) (r : Record) → (fault8 b r ≡ false) ↔ OfRule (WellNamed b.agents) r
number_8 = fault8-exact

-- Number 10: a rule that has neither 7 nor 8 has it exactly if it is one of a symbol with itself and does not read the
-- same from both sides, and an agent never.
pub number_10 : (b : Book) (r : Record)
    → OfRule (λ q. Argued b.agents (lefts q ++ rights q)) r → OfRule (WellNamed b.agents) r
    → (fault10 b r ≡ false) ↔ OfRule (TwoSided b.agents) r
number_10 = fault10-exact

-- A text is refused with number n on line j exactly where `RulesRefused` and `NetRefused` say so.
pub rule-text-refused : (text : List ℕ) (n j : ℕ) → (read_rules text ≡ refused n j) ↔ RulesRefused text n j
rule-text-refused = Rules.rules-refused

-- The same of a net text, over the agents of a table.
pub net-text-refused : (ags : List Agent) (text : List ℕ) (n j : ℕ)
    → (read_net ags text ≡ refused n j) ↔ NetRefused ags text n j
net-text-refused = Nets.net-refused

-- Number 16 is given on line 0 exactly if the lent table is not sound, before all else.
pub net_call-refused : (sound : Bool) (ags : List Agent) (text : List ℕ) (n j : ℕ)
    → (net_read sound ags text ≡ refused n j)
    ↔ (((sound ≡ false) × (n ≡ 16) × (j ≡ 0)) ⊎ ((sound ≡ true) × NetRefused ags text n j))
net_call-refused = net_read-refused

-- With a sound table the call reads the net text.
pub net_call-accepted : (sound : Bool) (ags : List Agent) (text : List ℕ) (n : Net)
    → (net_read sound ags text ≡ accepted n) ↔ ((sound ≡ true) × (read_net ags text ≡ accepted n))
net_call-accepted = net_read-accepted

-- Header counts are only compared. Texts that differ in them alone have the same bad line, wrong by the same number;
pub bad_line_wins : (text text' : List ℕ) (m k m' k' : ℕ) (ls : List Line)
    → Begins rules_written RulesRight text (records m k no_book) ls
    → Begins rules_written RulesRight text' (records m' k' no_book) ls
    → (n j : ℕ) → BadLine rules_written RulesRight text RuleWrong n j
    → BadLine rules_written RulesRight text' RuleWrong n j
bad_line_wins = Rules.bad_line_stays

-- and where all lines are good, a count that is not that of the records found gives 11 on line 1.
pub header_lies : (text : List ℕ) (m k : ℕ) (b : Book) → Begins rules_written RulesRight text (records m k b) []
    → ¬ ((m ≡ length b.agents) × (k ≡ length b.rules)) → read_rules text ≡ refused 11 1
header_lies text m k b g u = (Rules.rules-refused text 11 1).1 (miscounted g u)

-- The same of net texts.
pub net-bad_line_wins : (ags : List Agent) (text text' : List ℕ) (m k m' k' : ℕ) (ls : List Line)
    → Begins net_written (NetRight ags) text (headed m k) ls → Begins net_written (NetRight ags) text' (headed m' k') ls
    → (n j : ℕ) → BadLine net_written (NetRight ags) text (NetWrong ags) n j
    → BadLine net_written (NetRight ags) text' (NetWrong ags) n j
net-bad_line_wins = Nets.bad_line_stays

pub net-header_lies : (ags : List Agent) (text : List ℕ) (m k : ℕ) (t : Net)
    → Begins net_written (NetRight ags) text (faced m k t) []
    → ¬ ((m ≡ length t.face) × (k ≡ length t.equations)) → read_net ags text ≡ refused 11 1
net-header_lies ags text m k t g u = (Nets.net-refused ags text 11 1).1 (miscounted g u)

-- Meaning. A text is accepted with meaning b exactly if it is b printed, b is good and the length fits.
pub rule-text-accepted : (text : List ℕ) (b : Book)
    → (read_rules text ≡ accepted b) ↔ ((text ≡ print_book b) × GoodBook b × (length text ≤ text_max))
rule-text-accepted = rules-accepted

-- The same of a net text, over the agents of a table.
pub net-text-accepted : (ags : List Agent) (text : List ℕ) (n : Net)
    → (read_net ags text ≡ accepted n) ↔ ((text ≡ print_net n) × GoodNet ags n × (length text ≤ text_max))
net-text-accepted = net-accepted

-- So a meaning is unique: good books, and good nets, that are printed alike are one.
pub book_unique : (a b : Book) → GoodBook a → GoodBook b → print_book a ≡ print_book b → a ≡ b
book_unique = print_unique

-- The same of nets.
pub net_unique : (ags : List Agent) (m n : Net) → GoodNet ags m → GoodNet ags n → print_net m ≡ print_net n → m ≡ n
net_unique = net_print_unique

-- Sound tables. A table is sound exactly if it is that of a good book, exactly if it passes the test, and exactly if
-- its symbols are properly spelt and different and the machine's table in it is sound as the model has it.
pub table-book : (t : Table) → SoundTable t ↔ ((b : Book) × GoodBook b × (table_of b ≡ t))
table-book = sound_table_lem

-- The executable test is exact.
pub table_test : (t : Table) → (test_table t ≡ true) ↔ SoundTable t
table_test = test_sound

-- What is asked beside the machine's own soundness is the spelling of the symbols.
pub table-machine : (t : Table) → SoundTable t ↔ (SpeltAgents t.agents × SoundTable.SoundTable (machine t))
table-machine = sound-exact

-- The calculus. The machine's table of a good book is sound, so its rules are proper rules of the calculus, one for
-- each pair.
pub table-sound : (b : Book) → GoodBook b → SoundTable.SoundTable (machine (table_of b))
table-sound = book-sound

-- Each coded rule means the rule that was written.
pub rule-meant : (b : Book) → GoodBook b → (r : Rule) → In r b.rules
    → Means (machine (table_of b)) (template b.agents r) (meant_rule b.agents r)
rule-meant = book-means

-- A good net loads as the model's load theorem asks, and reads as the net that was written.
pub net-loads : (b : Book) → GoodBook b → (n : Net) → GoodNet b.agents n
    → NetReads (machine (table_of b)) (load b.agents n) (meant_net b.agents n)
net-loads = net-ready

-- In it each name occurs exactly twice.
pub net-valid : (b : Book) → GoodBook b → (n : Net) → GoodNet b.agents n → Closed (meant_net b.agents n)
net-valid = net-closed

-- So two accepted texts load a sound state, which stands for the net that was written.
pub texts-load : (rules net : List ℕ) (b : Book) (n : Net)
    → read_rules rules ≡ accepted b → read_net b.agents net ≡ accepted n
    → (h : Machine.Sound (machine (table_of b)) (loaded (load b.agents n)))
    × (Machine.meaning h ≈ meant_net b.agents n)
texts-load = accepted-loads
