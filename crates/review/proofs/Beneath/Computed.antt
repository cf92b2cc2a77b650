-- The bench cases and the run of the Ackermann net, computed.
use Rattle.std.proofs.Math.Decide.{ℕ_discrete, dec_lt, dec_le}
use Rattle.std.specs.Prelude.{◌≡◌, refl, true, ltb, ℕ}
use Prim.Native.String.{String}
use Rattle.std.proofs.Common.{ltb-true}
use Rattle.calculus.specs.Terms.{if_eq}
use Rattle.parts.specs.Sides.{side}
use Rattle.texts.specs.Bytes.{bytes, any, all, keep, same, among, times, different, index_of, letter, digit, word_byte, allowed, on_line, lines, fault2, on_field, fields, is_number, value, number_of, decimal, text_of, tabbed, line_of}
use Rattle.texts.specs.Terms.{identifier, symbol, count, nodes, words_of, nodes_at, spell, brackets, closing}
use Rattle.texts.specs.Books.{declared, takes, cells_of, names_of, sides, pairs, lefts, rights, head_of, heads, args_of, left_args, new_names_of, net_terms, add, write_face, write_equation}
use Rattle.texts.specs.Answers.{need, ◌>>=◌, absent, holds, refuse, after, after_line, read_lines}
use Rattle.texts.specs.RuleText.{header_of, agent_fields, even, rule_fields, ruleless, shape_of, shape, fault3, terms_of, record_of, meant, fault4, is_too_long, big_node, big_record, big_book, fault5, fault6, wrong_args, fault7, over_names, all_different, right_times, wrong_times, fault8, same_pair, fault9, wire_of, same_wire, within, word_at, mirror, mirrored, one_sided, fault10, header_line, judged, rule_line, counted, rules_of_lines, read_rules}
use Rattle.texts.specs.NetText.{face_fields, eq_fields, big_net, net_fault5, net_fault7, net_judged, face_net, more_net, face_line, eq_line, loose, net_lines, loose_line, unless_loose, names_twice, net_counted, face_and_eqs, net_of_lines, read_net, net_read}
use Rattle.texts.specs.Coded.{symbol_of, packed, twos, size, code_at, codes, cells_at, cells_from, rule_number, template, table_of, machine, net_number, load}
use Rattle.texts.specs.Reader.{at_comma, at_open, at_close, on_part, part_of, whole, term_of}
use Rattle.model.specs.Stepped.{stepped}
use Rattle.model.specs.Run.{run, ran}
use Rattle.model.specs.Load.{loaded}
use Rattle.answers.specs.Printer.{state_answer}
use Rattle.answers.specs.Text.{spelling, numeral, answer_text}
use Rattle.report.specs.Numbers.{spelt, digits}
use Rattle.report.specs.Firsts.{ended, stopped, refusal}
use Rattle.evaluation.specs.Evaluated.{ending, running, net_printed, rules_printed, evaluated}
use Rattle.review.specs.Examples.{text, rules, Comes, Bench, ackermann_rules, ackermann_net}
use Rattle.review.proofs.Beneath.Shown.{of_net, of_texts, steps_from, came_of, came, run_shows}

comes : {net : String} {i l s c : ℕ} {o : String} → evaluated (text rules) (bytes net) ≡ bytes o
    → came 100 (text rules) (bytes net) ≡ came_of i l s c 0 → ltb s 100 ≡ true → Comes net i l s c o
comes {net} {i} {l} {s} {c} p q o =
    let k = run_shows (text rules) (bytes net) 100 (came_of i l s c 0) q refl in
    record { printed = p; premise = k.premise; cells_loaded = k.cells_loaded; by_head = k.by_head (ltb-true s 100 o); cells_at_end = k.cells_at_end }

pub both : Bench × (came 0 (text ackermann_rules) (bytes ackermann_net) ≡ came_of 133 8 0 10 0)
unfolding text of_net of_texts steps_from came any all keep same among times different index_of letter digit word_byte allowed on_line lines
    fault2 on_field fields is_number value number_of identifier symbol count nodes words_of nodes_at declared takes
    cells_of names_of sides pairs lefts rights head_of heads args_of left_args new_names_of net_terms add need ◌>>=◌
    absent holds refuse after after_line read_lines header_of agent_fields even rule_fields ruleless shape_of shape
    fault3 terms_of record_of meant fault4 is_too_long big_node big_record big_book fault5 fault6 wrong_args fault7
    over_names all_different right_times wrong_times fault8 same_pair fault9 wire_of same_wire within word_at mirror
    mirrored one_sided fault10 header_line judged rule_line counted rules_of_lines read_rules face_fields eq_fields
    big_net net_fault5 net_fault7 net_judged face_net more_net face_line eq_line loose net_lines loose_line unless_loose
    names_twice net_counted face_and_eqs net_of_lines read_net net_read at_comma at_open at_close on_part part_of whole term_of
    symbol_of packed twos size code_at codes cells_at cells_from rule_number template table_of machine net_number load
    stepped run ran loaded state_answer spelling numeral answer_text spelt digits ended stopped refusal ending
    running net_printed rules_printed evaluated if_eq side ℕ_discrete dec_lt dec_le decimal text_of tabbed line_of
    spell brackets closing write_face write_equation
both = (
  record {
    P1 = comes refl refl refl;
    P2 = comes refl refl refl;
    P3 = comes refl refl refl;
    P4 = comes refl refl refl;
    P5 = comes refl refl refl;
    P6 = comes refl refl refl;
    P7 = comes refl refl refl;
    P8 = comes refl refl refl;
    P9 = comes refl refl refl;
    P10 = comes refl refl refl;
  },
  refl,
)
