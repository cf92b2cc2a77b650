-- The words of the statements, and the page on which each is defined.
pub use Prim.Native.{Nat.ℕ, Nat.zero, Nat.suc, String.String}
pub use mathlib.Core.{Bool.Bool, Bool.true, List.List, List.[]}
pub use lib.{ListN.length, ListN.drop, Seq.sets}
pub use Rattle.parts.specs.Limits.{budget_max, text_max}
pub use Rattle.parts.specs.Faults.{fault_number}
pub use Rattle.parts.specs.declared.faults.Fault.{Fault}
pub use Rattle.calculus.specs.Nets.{◌≈◌}
pub use Rattle.calculus.specs.Calculus.{Label, Step}
pub use Rattle.calculus.specs.Terms.{Conf, count}
pub use Rattle.calculus.specs.Descent.{Steps, Normal}
pub use Rattle.texts.specs.Bytes.{bytes, Line}
pub use Rattle.texts.specs.Books.{Book, Net, no_book, word_rules, word_net, print_book, print_net}
pub use Rattle.texts.specs.Refused.{Begins, BadLine, records, rules_written, RulesRight, RuleWrong, RulesRefused, headed, faced, net_written, NetRight, NetWrong, NetRefused}
pub use Rattle.texts.specs.Coded.{table_of, machine, load}
pub use Rattle.texts.specs.Meaning.{meant_net}
pub use Rattle.texts.specs.Good.{GoodBook, GoodNet}
pub use Rattle.model.specs.Step.{picked, place, taken_out, rule_at}
pub use Rattle.model.specs.Rows.{NoRoom, Row}
pub use Rattle.model.specs.State.{St, used, empty}
pub use Rattle.model.specs.Load.{loaded}
pub use Rattle.model.specs.Sound.{Sound, meaning, book}
pub use Rattle.model.specs.Table.{Table, Found}
pub use Rattle.model.specs.Walk.{Stop, ended, paused, noroom, over, right}
pub use Rattle.table.specs.Layout.{table_bytes, agents_in, bytes_of}
pub use Rattle.table.specs.Given.{Given}
pub use Rattle.table.specs.Put.{no_table}
pub use Rattle.state.specs.Layout.{view, state_size}
pub use Rattle.state.specs.Whole.{Words}
pub use Rattle.sound.specs.Lent.{under}
pub use Rattle.lent.specs.Both.{BothSound, sound_table_lem, sound-state}
pub use Rattle.answers.specs.Answer.{agents, tied_agents, net_agents, answer}
pub use Rattle.answers.specs.Collected.{Collected, Substituted}
pub use Rattle.answers.specs.Knots.{Knotted}
pub use Rattle.answers.specs.Text.{answer_text}
pub use Rattle.rules.specs.Answer.{leaves, rules_read}
pub use Rattle.nets.specs.Answer.{told, net_call}
pub use Rattle.machine.specs.Calls.{run_told, out, step_told, step_called, run_called}
pub use Rattle.answer.specs.Called.{called, given, end_told}
pub use Rattle.evaluation.specs.Evaluated.{evaluated}
pub use Rattle.review.specs.Answers.{TextAnswer, refused_on, StepAnswer, RunAnswer, EndAnswer, end_of}
