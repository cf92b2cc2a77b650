-- Rule texts: the condition of each refusal number, and the answer for a whole text.
use Rattle.std.specs.Prelude.{ℕ, zero, suc, Bool, true, false, cond, not, ◌&&◌, ◌||◌, List, [], ◌∷◌, ◌++◌, map, length, ltb, eqb}
use Rattle.std.proofs.Math.Option.{Option, none, some}
use Rattle.parts.specs.Limits.{text_max, identifier_max, symbols_max, arity_max, rules_max, rule_equations_max, rule_cells_max, rule_names_max, level_max}
use Rattle.texts.specs.Bytes.{Word, Line, any, all, same, among, times, index_of, lines, fault2, fields, number_of}
use Rattle.texts.specs.Terms.{Term, symbol, Node, nodes}
use Rattle.texts.specs.Books.{Agent, Rule, Equation, Book, Record, is_agent, is_rule, add, no_book, declared, takes, cells_of, names_of, lefts, rights, pairs, head_of, args_of, left_args, new_names_of, word_rules, word_agent, word_rule}
use Rattle.texts.specs.Answers.{OfLine, fine, OfText, accepted, refused, absent, need, ◌>>=◌, refuse, read_lines, after, after_line}
use Rattle.texts.specs.Reader.{term_of}

-- 3: "wrong, missing or misplaced record; wrong field count; bad number". What a line is, before its terms are read.
-- The header's two counts: of the upper part of the text (agents; the terms of `face`), and of the lower part (rules;
-- equations).
pub record Counts : Type 0 where
  pub upper : ℕ
  pub lower : ℕ

unfoldable pub header_of : Word → List Word → Option Counts
header_of w [] = none
header_of w (f ∷ []) = none
header_of w (f ∷ m ∷ []) = none
header_of w (f ∷ m ∷ n ∷ []) =
    cond (same f w) (number_of m >>= λ a. number_of n >>= λ b. some (record { upper = a; lower = b })) none
header_of w (f ∷ m ∷ n ∷ g ∷ gs) = none

pub data Shape : Type 0 where
  agent_shape : (name : Word) → (arity : ℕ) → Shape
  rule_shape : (first second : Word) → (right : List Word) → Shape

-- The fields after `agent` and after `rule`: right-hand fields stand in pairs.
unfoldable pub agent_fields : List Word → Option Shape
agent_fields [] = none
agent_fields (s ∷ []) = none
agent_fields (s ∷ n ∷ []) = number_of n >>= λ a. some (agent_shape s a)
agent_fields (s ∷ n ∷ g ∷ gs) = none

unfoldable pub even : {A : Type 0} → List A → Bool
even [] = true
even (f ∷ []) = false
even (f ∷ g ∷ fs) = even fs

unfoldable pub rule_fields : List Word → Option Shape
rule_fields [] = none
rule_fields (f ∷ []) = none
rule_fields (f ∷ g ∷ fs) = cond (even fs) (some (rule_shape f g fs)) none

unfoldable pub ruleless : Book → Bool
ruleless b = eqb (length b.rules) 0

-- All agents stand before all rules; a header's counts decide no places.
unfoldable pub shape_of : Book → List Word → Option Shape
shape_of b [] = none
shape_of b (w ∷ fs) =
    cond (same w word_agent && ruleless b) (agent_fields fs) (cond (same w word_rule) (rule_fields fs) none)

unfoldable pub shape : Book → Line → Option Shape
shape b l = shape_of b (fields l.bytes)

unfoldable pub fault3 : Book → Line → Bool
fault3 b l = absent (shape b l)

-- 4: "identifier or term misspelt, empty fields and empty brackets included". The record that a line means. A field f
-- means the term that it spells: `term_of f ≡ some t` exactly if `spell t ≡ f` and every head in t is an identifier
-- (`field-means`, Main.antt), whatever way `term_of` takes to find it.
unfoldable pub terms_of : List Word → Option (List Term)
terms_of [] = some []
terms_of (f ∷ fs) = term_of f >>= λ t. terms_of fs >>= λ ts. some (t ∷ ts)

unfoldable pub record_of : Shape → Option Record
record_of (agent_shape s n) = cond (symbol s) (some (is_agent (record { symbol = s; arity = n }))) none
record_of (rule_shape f g fs) =
    term_of f >>= λ s. term_of g >>= λ t. terms_of fs >>= λ ts.
    some (is_rule (record { first = s; second = t; right = pairs ts }))

unfoldable pub meant : Book → Line → Option Record
meant b l = shape b l >>= record_of

unfoldable pub fault4 : Book → Line → Bool
fault4 b l = not (fault3 b l) && absent (meant b l)

-- 5: "an identifier, arity, term or record [..] passes a size above; a header's count never gives it".
unfoldable pub is_too_long : Word → Bool
is_too_long w = ltb identifier_max (length w)

unfoldable pub big_node : Node → Bool
big_node n = is_too_long n.word || ltb level_max n.level

unfoldable pub big_record : List Agent → Record → Bool
big_record ags (is_agent a) = is_too_long a.symbol || ltb arity_max a.arity
big_record ags (is_rule r) =
    any big_node (nodes (lefts r ++ rights r))
    || ltb rule_equations_max (length r.right)
    || ltb rule_cells_max (length (cells_of ags (rights r)))
    || ltb rule_names_max (length (new_names_of ags r))

unfoldable pub big_book : Book → Bool
big_book b = ltb symbols_max (length b.agents) || ltb rules_max (length b.rules)

unfoldable pub fault5 : Book → Record → Bool
fault5 b r = big_record b.agents r || big_book (add b r)

-- 6: "symbol declared twice", whatever the arity.
unfoldable pub fault6 : Book → Record → Bool
fault6 b (is_agent a) = declared b.agents a.symbol
fault6 b (is_rule r) = false

-- 7: "argument count differs from arity, or brackets after a name".
unfoldable pub wrong_args : List Agent → Node → Bool
wrong_args ags n = not (eqb n.args (takes ags n.word))

unfoldable pub fault7 : Book → Record → Bool
fault7 b (is_agent a) = false
fault7 b (is_rule r) = any (wrong_args b.agents) (nodes (lefts r ++ rights r))

-- 8: "a left field is not an agent over different names, or a name occurs the wrong number of times".
unfoldable pub over_names : List Agent → Term → Bool
over_names ags t = declared ags (head_of t) && all (λ w. not (declared ags w)) (args_of t)

unfoldable pub all_different : List Word → Bool
all_different [] = true
all_different (w ∷ ws) = not (among w ws) && all_different ws

-- On the right a left argument occurs once, and any other name twice.
unfoldable pub right_times : Rule → Word → ℕ
right_times r w = cond (among w (left_args r)) 1 2

unfoldable pub wrong_times : List Agent → Rule → Word → Bool
wrong_times ags r w = not (eqb (times w (names_of ags (rights r))) (right_times r w))

unfoldable pub fault8 : Book → Record → Bool
fault8 b (is_agent a) = false
fault8 b (is_rule r) =
    not (all (over_names b.agents) (lefts r))
    || not (all_different (left_args r))
    || any (wrong_times b.agents r) (left_args r ++ names_of b.agents (rights r))

-- 9: "the pair already has a rule", whichever symbol is written first.
unfoldable pub same_pair : Rule → Rule → Bool
same_pair r q =
    same (head_of r.first) (head_of q.first) && same (head_of r.second) (head_of q.second)
    || same (head_of r.first) (head_of q.second) && same (head_of r.second) (head_of q.first)

unfoldable pub fault9 : Book → Record → Bool
fault9 b (is_agent a) = false
fault9 b (is_rule r) = any (same_pair r) b.rules

-- 10: "a symbol's rule with itself is one-sided". Two-sided: "its right side has no agents and no new names, and its
-- set of unordered pairs is unchanged when the two left argument lists change places".
pub record Wire : Type 0 where
  pub one : Word
  pub other : Word

unfoldable pub wire_of : Equation → Wire
wire_of e = record { one = head_of e.left; other = head_of e.right }

unfoldable pub same_wire : Wire → Wire → Bool
same_wire u v =
    same u.one v.one && same u.other v.other || same u.one v.other && same u.other v.one

-- Every wire of us is one of vs.
unfoldable pub within : List Wire → List Wire → Bool
within us vs = all (λ u. any (same_wire u) vs) us

-- The word at a place.
unfoldable pub word_at : ℕ → List Word → Word
word_at n [] = []
word_at zero (w ∷ ws) = w
word_at (suc n) (w ∷ ws) = word_at n ws

-- The argument that takes the place of w when the two lists change places.
unfoldable pub mirror : List Word → List Word → Word → Word
mirror xs ys w = cond (among w xs) (word_at (index_of w xs) ys) (word_at (index_of w ys) xs)

unfoldable pub mirrored : Rule → Wire → Wire
mirrored r u =
    let m : Word → Word = mirror (args_of r.first) (args_of r.second) in
    record { one = m u.one; other = m u.other }

unfoldable pub one_sided : List Agent → Rule → Bool
one_sided ags r =
    let us : List Wire = map wire_of r.right in
    let vs : List Wire = map (mirrored r) us in
    ltb 0 (length (cells_of ags (rights r))) || ltb 0 (length (new_names_of ags r)) || not (within us vs && within vs us)

unfoldable pub fault10 : Book → Record → Bool
fault10 b (is_agent a) = false
fault10 b (is_rule r) = same (head_of r.first) (head_of r.second) && one_sided b.agents r

-- "Within a line 2 to 10 rising, each over the whole line before the next."
unfoldable pub header_line : Word → Line → OfLine Counts
header_line w l = refuse 2 (fault2 l) (need 3 (header_of w (fields l.bytes)) fine)

unfoldable pub judged : Book → Record → OfLine Book
judged b r =
    refuse 5 (fault5 b r) (refuse 6 (fault6 b r) (refuse 7 (fault7 b r) (refuse 8 (fault8 b r) (refuse 9 (fault9 b r)
    (refuse 10 (fault10 b r) (fine (add b r)))))))

unfoldable pub rule_line : Book → Line → OfLine Book
rule_line b l = refuse 2 (fault2 l) (need 3 (shape b l) λ s. need 4 (record_of s) (judged b))

-- "Order: 1; then the earliest bad line, an absent first [..] record counting as number 3 on the line after the last;
-- [..] after all lines 11, on line 1": a header count differs from the records found.
unfoldable pub counted : Counts → Book → OfText Book
counted c b =
    cond (eqb c.upper (length b.agents) && eqb c.lower (length b.rules)) (accepted b) (refused 11 1)

unfoldable pub rules_of_lines : List Line → OfText Book
rules_of_lines [] = refused 3 1
rules_of_lines (l ∷ ls) = after_line 1 (header_line word_rules l) λ c. after (read_lines rule_line 2 no_book ls) (counted c)

unfoldable pub read_rules : List ℕ → OfText Book
read_rules text = cond (ltb text_max (length text)) (refused 1 0) (rules_of_lines (lines text))
