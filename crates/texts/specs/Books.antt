-- What the two texts mean: books of agents and rules, and nets; and how each is written.
use Rattle.std.specs.Prelude.{ℕ, Bool, cond, not, List, [], ◌∷◌, ◌++◌, map, length}
use Rattle.texts.specs.Bytes.{Word, bytes, keep, any, same, among, different, decimal, text_of, line_of}
use Rattle.texts.specs.Terms.{Term, Terms, term, nil, cons, spell, nodes, words_of}

pub record Agent : Type 0 where
  pub symbol : Word
  pub arity : ℕ

pub record Equation : Type 0 where
  pub left : Term
  pub right : Term

-- Two left agents, and the right-hand equations.
pub record Rule : Type 0 where
  pub first : Term
  pub second : Term
  pub right : List Equation

pub record Book : Type 0 where
  pub agents : List Agent
  pub rules : List Rule

pub record Net : Type 0 where
  pub face : List Term
  pub equations : List Equation

-- "A declared identifier is an agent; any other is a name."
unfoldable pub declared : List Agent → Word → Bool
declared ags w = any (λ a. same w a.symbol) ags

-- The arguments that an identifier takes: an agent its arity, a name none.
unfoldable pub takes : List Agent → Word → ℕ
takes [] w = 0
takes (a ∷ ags) w = cond (same w a.symbol) a.arity (takes ags w)

-- The occurrences of agents, each of which is a cell, and of names, in reading order; also where an argument count is
-- wrong.
unfoldable pub cells_of : List Agent → List Term → List Word
cells_of ags ts = keep (declared ags) (words_of (nodes ts))

unfoldable pub names_of : List Agent → List Term → List Word
names_of ags ts = keep (λ w. not (declared ags w)) (words_of (nodes ts))

-- The terms of a record.
unfoldable pub sides : List Equation → List Term
sides [] = []
sides (e ∷ es) = e.left ∷ e.right ∷ sides es

-- Terms taken two by two.
unfoldable pub pairs : List Term → List Equation
pairs [] = []
pairs (s ∷ []) = []
pairs (s ∷ t ∷ ts) = record { left = s; right = t } ∷ pairs ts

unfoldable pub lefts : Rule → List Term
lefts r = r.first ∷ r.second ∷ []

unfoldable pub rights : Rule → List Term
rights r = sides r.right

unfoldable pub head_of : Term → Word
head_of (term w ts) = w

unfoldable pub heads : Terms → List Word
heads nil = []
heads (cons t ts) = head_of t ∷ heads ts

-- The heads of a term's arguments.
unfoldable pub args_of : Term → List Word
args_of (term w ts) = heads ts

-- The left arguments: of the first agent, then of the second.
unfoldable pub left_args : Rule → List Word
left_args r = args_of r.first ++ args_of r.second

-- The different names on the right that stand nowhere in the two left fields, at any depth.
unfoldable pub new_names_of : List Agent → Rule → List Word
new_names_of ags r = different (keep (λ w. not (among w (names_of ags (lefts r)))) (names_of ags (rights r)))

-- All terms of a net, in reading order.
unfoldable pub net_terms : Net → List Term
net_terms n = n.face ++ sides n.equations

-- Writing. The first words of the records.
abbrev pub word_rules : Word
word_rules = bytes "rules"

abbrev pub word_agent : Word
word_agent = bytes "agent"

abbrev pub word_rule : Word
word_rule = bytes "rule"

abbrev pub word_net : Word
word_net = bytes "net"

abbrev pub word_face : Word
word_face = bytes "face"

abbrev pub word_eq : Word
word_eq = bytes "eq"

unfoldable pub write_header : Word → ℕ → ℕ → List ℕ
write_header w m n = line_of w (decimal m ∷ decimal n ∷ [])

unfoldable pub write_agent : Agent → List ℕ
write_agent a = line_of word_agent (a.symbol ∷ decimal a.arity ∷ [])

unfoldable pub write_rule : Rule → List ℕ
write_rule r = line_of word_rule (map spell (lefts r ++ rights r))

unfoldable pub write_face : List Term → List ℕ
write_face ts = line_of word_face (map spell ts)

unfoldable pub write_equation : Equation → List ℕ
write_equation e = line_of word_eq (map spell (e.left ∷ e.right ∷ []))

-- The records of a book: its agents, then its rules.
pub data Record : Type 0 where
  is_agent : Agent → Record
  is_rule : Rule → Record

unfoldable pub records_of : Book → List Record
records_of b = map is_agent b.agents ++ map is_rule b.rules

unfoldable pub write_record : Record → List ℕ
write_record (is_agent a) = write_agent a
write_record (is_rule r) = write_rule r

-- The book with one record more.
unfoldable pub add : Book → Record → Book
add b (is_agent a) = record { agents = b.agents ++ (a ∷ []); rules = b.rules }
add b (is_rule r) = record { agents = b.agents; rules = b.rules ++ (r ∷ []) }

abbrev pub no_book : Book
no_book = record { agents = []; rules = [] }

-- "Rule text: `rules`, agent count, rule count; then `agent`, symbol, arity; then `rule`, two left agents, and the
-- right-hand equations as pairs of fields (none is allowed)."
unfoldable pub print_book : Book → List ℕ
print_book b = text_of (write_header word_rules (length b.agents) (length b.rules) ∷ map write_record (records_of b))

-- "Net text: `net`, interface count, equation count; then one `face` with its terms (none is allowed); then `eq` with
-- two terms."
unfoldable pub print_net : Net → List ℕ
print_net n =
    text_of
    (write_header word_net (length n.face) (length n.equations) ∷ write_face n.face ∷ map write_equation n.equations)
