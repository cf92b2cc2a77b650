-- Net texts, over the agents of a book: the condition of each refusal number, and the answer for a whole text.
use Rattle.std.specs.Prelude.{ℕ, suc, Bool, cond, not, ◌&&◌, ◌||◌, List, [], ◌∷◌, ◌++◌, map, length, ltb, eqb}
use Rattle.std.proofs.Math.Option.{Option, none, some}
use Rattle.parts.specs.Limits.{text_max, face_max, net_equations_max, net_cells_max, net_names_max}
use Rattle.texts.specs.Bytes.{Word, Line, any, same, times, different, lines, fault2, fields}
use Rattle.texts.specs.Terms.{Term, nodes}
use Rattle.texts.specs.Books.{Agent, Net, pairs, cells_of, names_of, net_terms, word_net, word_face, word_eq}
use Rattle.texts.specs.Answers.{OfLine, fine, OfText, accepted, refused, need, refuse, read_lines, after, after_line}
use Rattle.texts.specs.RuleText.{Counts, header_line, terms_of, big_node, wrong_args}

-- 3: "wrong, missing or misplaced record; wrong field count". The fields after `face` and after `eq`.
unfoldable pub face_fields : List Word → Option (List Word)
face_fields [] = none
face_fields (w ∷ fs) = cond (same w word_face) (some fs) none

unfoldable pub eq_fields : List Word → Option (List Word)
eq_fields [] = none
eq_fields (w ∷ []) = none
eq_fields (w ∷ f ∷ []) = none
eq_fields (w ∷ f ∷ g ∷ []) = cond (same w word_eq) (some (f ∷ g ∷ [])) none
eq_fields (w ∷ f ∷ g ∷ h ∷ hs) = none

-- 5: "an identifier, [..] term or record, or a net's cells or names so far, passes a size above": so far is after the
-- whole line.
unfoldable pub big_net : List Agent → Net → Bool
big_net ags n =
    ltb face_max (length n.face)
    || ltb net_equations_max (length n.equations)
    || ltb net_cells_max (length (cells_of ags (net_terms n)))
    || ltb net_names_max (length (different (names_of ags (net_terms n))))

unfoldable pub net_fault5 : List Agent → List Term → Net → Bool
net_fault5 ags ts n = any big_node (nodes ts) || big_net ags n

-- 7: "argument count differs from arity, or brackets after a name".
unfoldable pub net_fault7 : List Agent → List Term → Bool
net_fault7 ags ts = any (wrong_args ags) (nodes ts)

-- A line: 2 to 7 rising, each over the whole line before the next. ts are the line's terms, n is the net with them.
unfoldable pub net_judged : List Agent → List Term → Net → OfLine Net
net_judged ags ts n = refuse 5 (net_fault5 ags ts n) (refuse 7 (net_fault7 ags ts) (fine n))

-- The net of a face; and with one equation more.
unfoldable pub face_net : List Term → Net
face_net ts = record { face = ts; equations = [] }

unfoldable pub more_net : Net → List Term → Net
more_net n ts = record { face = n.face; equations = n.equations ++ pairs ts }

unfoldable pub face_line : List Agent → Line → OfLine Net
face_line ags l =
    refuse 2 (fault2 l) (need 3 (face_fields (fields l.bytes)) λ fs. need 4 (terms_of fs) λ ts.
    net_judged ags ts (face_net ts))

unfoldable pub eq_line : List Agent → Net → Line → OfLine Net
eq_line ags n l =
    refuse 2 (fault2 l) (need 3 (eq_fields (fields l.bytes)) λ fs. need 4 (terms_of fs) λ ts.
    net_judged ags ts (more_net n ts))

-- 8: "each name occurs exactly twice"; the line "where the earliest offending name first occurs".
unfoldable pub loose : List Word → Word → Bool
loose all w = not (eqb (times w all) 2)

-- The terms of each line, from line 2 on.
unfoldable pub net_lines : Net → List (List Term)
net_lines n = n.face ∷ map (λ e. e.left ∷ e.right ∷ []) n.equations

unfoldable pub loose_line : List Agent → List Word → ℕ → List (List Term) → Option ℕ
loose_line ags all k [] = none
loose_line ags all k (ts ∷ tss) = cond (any (loose all) (names_of ags ts)) (some k) (loose_line ags all (suc k) tss)

-- "Order: 1; then the earliest bad line, an absent first or `face` record counting as number 3 on the line after the
-- last; [..] after all lines 11, on line 1; then, for nets, 8".
unfoldable pub unless_loose : Option ℕ → Net → OfText Net
unless_loose none n = accepted n
unless_loose (some k) n = refused 8 k

unfoldable pub names_twice : List Agent → Net → OfText Net
names_twice ags n = unless_loose (loose_line ags (names_of ags (net_terms n)) 2 (net_lines n)) n

unfoldable pub net_counted : List Agent → Counts → Net → OfText Net
net_counted ags c n =
    cond (eqb c.upper (length n.face) && eqb c.lower (length n.equations)) (names_twice ags n) (refused 11 1)

unfoldable pub face_and_eqs : List Agent → Counts → List Line → OfText Net
face_and_eqs ags c [] = refused 3 2
face_and_eqs ags c (l ∷ ls) = after_line 2 (face_line ags l) λ n. after (read_lines (eq_line ags) 3 n ls) (net_counted ags c)

unfoldable pub net_of_lines : List Agent → List Line → OfText Net
net_of_lines ags [] = refused 3 1
net_of_lines ags (l ∷ ls) = after_line 1 (header_line word_net l) λ c. face_and_eqs ags c ls

unfoldable pub read_net : List Agent → List ℕ → OfText Net
read_net ags text = cond (ltb text_max (length text)) (refused 1 0) (net_of_lines ags (lines text))

-- "A net reader lent an unsound table answers 16, line 0, before all else": the first argument says whether the table
-- is sound.
unfoldable pub net_read : Bool → List Agent → List ℕ → OfText Net
net_read sound ags text = cond sound (read_net ags text) (refused 16 0)
