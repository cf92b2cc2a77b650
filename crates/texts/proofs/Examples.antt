-- Texts and their answers, computed by the checker: one for each refusal number at least, and document 01's listing.
use Rattle.std.specs.Prelude.{ℕ, ◌≡◌, refl, Bool, true, false, ◌&&◌, List, [], ◌∷◌, replicate, eqb}
use Prim.Native.String.{String}
use Rattle.texts.specs.Bytes.{bytes, any, all, keep, same, among, times, different, index_of, letter, digit, word_byte, allowed, on_line, lines, fault2, on_field, fields, is_number, value, number_of}
use Rattle.texts.specs.Terms.{identifier, symbol, count, nodes, words_of, nodes_at}
use Rattle.texts.specs.Books.{Agent, Book, Net, declared, takes, cells_of, names_of, sides, pairs, lefts, rights, head_of, heads, args_of, left_args, new_names_of, net_terms, add}
use Rattle.texts.specs.Answers.{OfText, accepted, refused, need, ◌>>=◌, absent, holds, refuse, after, after_line, read_lines}
use Rattle.texts.specs.RuleText.{header_of, agent_fields, even, rule_fields, ruleless, shape_of, shape, fault3, terms_of, record_of, meant, fault4, is_too_long, big_node, big_record, big_book, fault5, fault6, wrong_args, fault7, over_names, all_different, right_times, wrong_times, fault8, same_pair, fault9, wire_of, same_wire, within, word_at, mirror, mirrored, one_sided, fault10, header_line, judged, rule_line, counted, rules_of_lines, read_rules}
use Rattle.texts.specs.NetText.{face_fields, eq_fields, big_net, net_fault5, net_fault7, net_judged, face_net, more_net, face_line, eq_line, loose, net_lines, loose_line, unless_loose, names_twice, net_counted, face_and_eqs, net_of_lines, read_net, net_read}
use Rattle.texts.specs.Reader.{at_comma, at_open, at_close, on_part, part_of, whole, term_of}

-- An answer has this number on this line; twice 0 stands for an accepted text.
pub gives : {A : Type 0} → ℕ → ℕ → OfText A → Bool
gives n j (accepted a) = eqb n 0 && eqb j 0
gives n j (refused m k) = eqb n m && eqb j k

pub rules : String → OfText Book
rules s = read_rules (bytes s)

-- Over the agents of the listing.
pub listed : List Agent
listed =
    record { symbol = bytes "add"; arity = 2 }
    ∷ record { symbol = bytes "S"; arity = 1 }
    ∷ record { symbol = bytes "Z"; arity = 0 }
    ∷ []

pub net : Bool → String → OfText Net
net sound s = net_read sound listed (bytes s)

pub cases : List Bool
cases =
    gives 0 0 (rules "rules\t3\t2\nagent\tadd\t2\nagent\tS\t1\nagent\tZ\t0\nrule\tadd(x,y)\tS(z)\tx\tS(w)\tz\tadd(w,y)\nrule\tadd(x,y)\tZ\tx\ty\n")
    ∷ gives 0 0 (rules "rules\t1\t1\nagent\tD\t2\nrule\tD(a,b)\tD(c,d)\ta\tc\tb\td\n")
    ∷ gives 1 0 (read_rules (replicate 65537 10))
    ∷ gives 2 1 (rules "rules\t0\t0")
    ∷ gives 2 2 (rules "rules\t1\t0\nagent\tS{\t0\n")
    ∷ gives 3 1 (rules "rules\t0\t007\n")
    ∷ gives 4 2 (rules "rules\t1\t0\nagent\t_S\t1\n")
    ∷ gives 5 2 (rules "rules\t1\t0\nagent\tS\t5\n")
    ∷ gives 6 3 (rules "rules\t2\t0\nagent\tS\t1\nagent\tS\t0\n")
    ∷ gives 7 3 (rules "rules\t1\t1\nagent\tS\t1\nrule\tS\tS(x)\n")
    ∷ gives 8 3 (rules "rules\t1\t1\nagent\tS\t1\nrule\tS(x)\tS(x)\n")
    ∷ gives 9 5 (rules "rules\t2\t2\nagent\tS\t1\nagent\tZ\t0\nrule\tS(x)\tZ\tx\tZ\nrule\tZ\tS(x)\tx\tZ\n")
    ∷ gives 10 3 (rules "rules\t1\t1\nagent\tT\t3\nrule\tT(a,b,c)\tT(d,e,f)\ta\te\tb\tf\tc\td\n")
    ∷ gives 11 1 (rules "rules\t1\t0\n")
    ∷ gives 0 0 (net true "net\t1\t1\nface\tr\neq\tadd(r,S(Z))\tS(Z)\n")
    ∷ gives 3 2 (net true "net\t0\t0\n")
    ∷ gives 8 2 (net true "net\t1\t0\nface\tx\n")
    ∷ gives 16 0 (net false "")
    ∷ []

pub the_answers : all (λ c. c) cases ≡ true
unfolding gives rules listed net cases any all keep same among times different index_of letter digit word_byte
    allowed on_line lines fault2 on_field fields is_number value number_of identifier symbol count nodes words_of
    nodes_at declared takes cells_of names_of sides pairs lefts rights head_of heads args_of left_args new_names_of
    net_terms add need ◌>>=◌ absent holds refuse after after_line read_lines header_of agent_fields even
    rule_fields ruleless shape_of shape fault3 terms_of record_of meant fault4 is_too_long big_node big_record big_book
    fault5 fault6 wrong_args fault7 over_names all_different right_times wrong_times fault8 same_pair fault9 wire_of
    same_wire within word_at mirror mirrored one_sided fault10 header_line judged rule_line counted rules_of_lines
    read_rules face_fields eq_fields big_net net_fault5 net_fault7 net_judged face_net more_net face_line eq_line loose
    net_lines loose_line unless_loose names_twice net_counted face_and_eqs net_of_lines read_net net_read at_comma at_open
    at_close on_part part_of whole term_of
the_answers = refl
