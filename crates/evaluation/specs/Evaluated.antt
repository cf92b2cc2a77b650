-- What is printed of a rule text and a net text: document 01, "A listing, complete".
use Rattle.std.specs.Prelude.{ℕ, ◌+◌, cond, List, ◌++◌, leb, length}
use Rattle.model.specs.Load.{loaded}
use Rattle.model.specs.Run.{ran}
use Rattle.model.specs.Walk.{Stop, ended, paused, noroom, Ran}
use Rattle.model.specs.State.{St}
use Rattle.model.specs.Table.{Table}
use Rattle.texts.specs.Answers.{OfText, accepted, refused}
use Rattle.texts.specs.Books.{Agent, Book, Net, word_rules, word_net}
use Rattle.texts.specs.Coded.{table_of, machine, load}
use Rattle.texts.specs.NetText.{read_net}
use Rattle.texts.specs.RuleText.{read_rules}
use Rattle.answers.specs.Answer.{Answer}
use Rattle.answers.specs.Printer.{state_answer}
use Rattle.answers.specs.Text.{answer_text}
use Rattle.report.specs.Firsts.{word_paused, word_noroom, word_answer, refusal, stopped, first_max}
use Rattle.report.specs.Firsts as First

-- "with budget 100,000 and a 65,536 byte output", which takes the lines after the first.
abbrev pub budget : ℕ
budget = 100000

abbrev pub output_max : ℕ
output_max = 65536

abbrev pub output_size : ℕ
output_size = output_max + first_max

-- Of a run that ended with an answer, the first line, "then `face` with its terms, then one `eq` for each stuck pair".
-- 15: "answer longer than the output buffer".
unfoldable pub ending : List Agent → ℕ → Answer → List ℕ
ending ags made A =
    cond (leb (length (answer_text ags A)) output_max)
    (First.ended made A.loops A.stuck A.knot ++ answer_text ags A)
    (refusal word_answer 15 0)

-- Of a run: "for paused and noroom only the first line".
abbrev pub stopping : List Agent → Table → Stop → ℕ → St → List ℕ
stopping ags T ended made s = ending ags made (state_answer T s)
stopping ags T paused made s = stopped word_paused made s.loops
stopping ags T noroom made s = stopped word_noroom made s.loops

unfoldable pub running : List Agent → Table → Ran → List ℕ
running ags T r = stopping ags T r.stop r.made r.state

-- Of a net text that was read over a table: the run of the loaded net.
unfoldable pub net_printed : List Agent → Table → OfText Net → List ℕ
net_printed ags T (accepted n) = running ags T (ran T budget (loaded (load ags n)))
net_printed ags T (refused n k) = refusal word_net n k

-- Of a rule text that was read: if it is refused, the net text is not looked at.
unfoldable pub rules_printed : OfText Book → List ℕ → List ℕ
rules_printed (accepted b) net = net_printed b.agents (machine (table_of b)) (read_net b.agents net)
rules_printed (refused n k) net = refusal word_rules n k

unfoldable pub evaluated : List ℕ → List ℕ → List ℕ
evaluated rules net = rules_printed (read_rules rules) net
