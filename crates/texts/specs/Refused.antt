-- When a text is refused, said of what is written: its good lines are a book or a net so far, printed, and the earliest bad
-- line is wrong by a number. The theorems show that the readers answer so.
use Rattle.std.specs.Prelude.{ℕ, ◌+◌, ◌<◌, ◌≤◌, ◌≡◌, true, List, [], ◌∷◌, ◌++◌, map, length}
use Rattle.std.proofs.Math.Option.{some}
use Rattle.parts.specs.Limits.{text_max}
use Rattle.texts.specs.Bytes.{Word, Line, ended_line, all, lines, fields, fault2, decimal}
use Rattle.texts.specs.Terms.{Term, worded}
use Rattle.texts.specs.Books.{Agent, Equation, Book, Record, Net, records_of, names_of, net_terms, write_header, write_record, write_face, write_equation, word_rules, word_agent, word_rule, word_net, word_face, word_eq}
use Rattle.texts.specs.RuleText.{even, ruleless, fault5, fault6, fault7, fault8, fault9, fault10}
use Rattle.texts.specs.NetText.{net_fault5, net_fault7, face_net, more_net, net_lines, loose_line}
use Rattle.texts.specs.Good.{Spelt, GoodBook, GoodTerms, terms_in, GoodEquations}

-- Either text. S is what lines mean: `written s` are those lines, and `Right s` says that they are good.
module _ {S : Type 0} (written : S → List (List ℕ)) (Right : S → Type 0) (text : List ℕ) where
  -- The text is not too long; it begins with the good lines of s, and ls are its other lines.
  pub record Begins (s : S) (ls : List Line) : Type 0 where
    pub short : length text ≤ text_max
    pub right : Right s
    pub cut : lines text ≡ map ended_line (written s) ++ ls

  -- "The earliest bad line": it is line j, and wrong by number n after the lines before it; "within a line 2 to 10 rising,
  -- each over the whole line before the next".
  pub record BadLine (Wrong : S → Line → ℕ → Type 0) (n j : ℕ) : Type 0 where
    pub before : S
    pub line : Line
    pub rest : List Line
    pub begins : Begins before (line ∷ rest)
    pub place : j ≡ 1 + length (written before)
    pub wrong : Wrong before line n
    pub no_lower : (m : ℕ) → m < n → ¬ Wrong before line m

-- A rule text: nothing so far; or a header with its two counts, and the records of a book.
pub data RulesSoFar : Type 0 where
  nothing : RulesSoFar
  records : (agents rules : ℕ) → Book → RulesSoFar

abbrev pub rules_written : RulesSoFar → List (List ℕ)
rules_written nothing = []
rules_written (records m n b) = write_header word_rules m n ∷ map write_record (records_of b)

abbrev pub RulesRight : RulesSoFar → Type 0
RulesRight nothing = Unit {0}
RulesRight (records m n b) = (m < 10000) × (n < 10000) × GoodBook b

-- The fields of a line that may stand next: a number has 1 to 4 digits, agents stand before rules, and right-hand fields are
-- pairs.
pub data RuleFields : RulesSoFar → List Word → Type 0 where
  header : (m n : ℕ) → m < 10000 → n < 10000 → RuleFields nothing (word_rules ∷ decimal m ∷ decimal n ∷ [])
  agent : {i k : ℕ} {b : Book} {s : Word} (n : ℕ) → ruleless b ≡ true → n < 10000
      → RuleFields (records i k b) (word_agent ∷ s ∷ decimal n ∷ [])
  rule : {i k : ℕ} {b : Book} {f g : Word} {fs : List Word} → even fs ≡ true
      → RuleFields (records i k b) (word_rule ∷ f ∷ g ∷ fs)

-- The bytes of a line are the well-spelt record r, written, and b is the book before it.
pub data Stands : RulesSoFar → List ℕ → Book → Record → Type 0 where
  stands : {i k : ℕ} {b : Book} {r : Record} → Spelt r → Stands (records i k b) (write_record r) b r

pub data RuleWrong (s : RulesSoFar) (l : Line) : ℕ → Type 0 where
  -- 2: "byte not allowed, or last line unended"
  two : fault2 l ≡ true → RuleWrong s l 2
  -- 3: "wrong, missing or misplaced record; wrong field count; bad number"
  three : ¬ RuleFields s (fields l.bytes) → RuleWrong s l 3
  -- 4: "identifier or term misspelt, empty fields and empty brackets included"; a header has neither
  four : ¬ (s ≡ nothing) → ¬ ((b : Book) × (r : Record) × Stands s l.bytes b r) → RuleWrong s l 4
  -- 5: "an identifier, arity, term or record [..] passes a size above; a header's count never gives it"
  five : {b : Book} {r : Record} → Stands s l.bytes b r → fault5 b r ≡ true → RuleWrong s l 5
  -- 6: "symbol declared twice"
  six : {b : Book} {r : Record} → Stands s l.bytes b r → fault6 b r ≡ true → RuleWrong s l 6
  -- 7: "argument count differs from arity, or brackets after a name"
  seven : {b : Book} {r : Record} → Stands s l.bytes b r → fault7 b r ≡ true → RuleWrong s l 7
  -- 8: "a left field is not an agent over different names, or a name occurs the wrong number of times"
  eight : {b : Book} {r : Record} → Stands s l.bytes b r → fault8 b r ≡ true → RuleWrong s l 8
  -- 9: "the pair already has a rule"
  nine : {b : Book} {r : Record} → Stands s l.bytes b r → fault9 b r ≡ true → RuleWrong s l 9
  -- 10: "a symbol's rule with itself is one-sided"
  ten : {b : Book} {r : Record} → Stands s l.bytes b r → fault10 b r ≡ true → RuleWrong s l 10

pub data RulesRefused (text : List ℕ) : ℕ → ℕ → Type 0 where
  -- 1: "text longer than 65,536"
  too_long : text_max < length text → RulesRefused text 1 0
  bad_line : {n j : ℕ} → BadLine rules_written RulesRight text RuleWrong n j → RulesRefused text n j
  -- "an absent first [..] record counting as number 3 on the line after the last"
  absent : Begins rules_written RulesRight text nothing [] → RulesRefused text 3 1
  -- "After all lines 11, on line 1": "a header count differs from the records found"
  miscounted : {m n : ℕ} {b : Book} → Begins rules_written RulesRight text (records m n b) []
      → ¬ ((m ≡ length b.agents) × (n ≡ length b.rules)) → RulesRefused text 11 1

-- A net text: nothing so far; a header with its two counts; or that, and a face with its equations.
pub data NetSoFar : Type 0 where
  nothing : NetSoFar
  headed : (terms equations : ℕ) → NetSoFar
  faced : (terms equations : ℕ) → Net → NetSoFar

abbrev pub net_written : NetSoFar → List (List ℕ)
net_written nothing = []
net_written (headed m n) = write_header word_net m n ∷ []
net_written (faced m n t) = write_header word_net m n ∷ write_face t.face ∷ map write_equation t.equations

pub data NetFields : NetSoFar → List Word → Type 0 where
  header : (m n : ℕ) → m < 10000 → n < 10000 → NetFields nothing (word_net ∷ decimal m ∷ decimal n ∷ [])
  face : {m n : ℕ} {fs : List Word} → NetFields (headed m n) (word_face ∷ fs)
  eq : {m n : ℕ} {t : Net} {f g : Word} → NetFields (faced m n t) (word_eq ∷ f ∷ g ∷ [])

-- The bytes of a line are the well-spelt terms ts, written, and t is the net with them.
pub data NetTerms : NetSoFar → List ℕ → List Term → Net → Type 0 where
  face : {m n : ℕ} {ts : List Term} → all worded ts ≡ true → NetTerms (headed m n) (write_face ts) ts (face_net ts)
  eq : {m n : ℕ} {t : Net} (e : Equation) → all worded (terms_in e) ≡ true
      → NetTerms (faced m n t) (write_equation e) (terms_in e) (more_net t (terms_in e))

-- Over the agents of a table.
module _ (ags : List Agent) where
  abbrev pub NetRight : NetSoFar → Type 0
  NetRight nothing = Unit {0}
  NetRight (headed m n) = (m < 10000) × (n < 10000)
  NetRight (faced m n t) =
      (m < 10000) × (n < 10000)
      × GoodTerms ags t.face (face_net t.face) × GoodEquations ags (face_net t.face) t.equations

  -- The numbers mean what they do in a rule text; 5 is also given where "a net's cells or names so far" pass a size.
  pub data NetWrong (s : NetSoFar) (l : Line) : ℕ → Type 0 where
    two : fault2 l ≡ true → NetWrong s l 2
    three : ¬ NetFields s (fields l.bytes) → NetWrong s l 3
    four : ¬ (s ≡ nothing) → ¬ ((ts : List Term) × (t : Net) × NetTerms s l.bytes ts t) → NetWrong s l 4
    five : {ts : List Term} {t : Net} → NetTerms s l.bytes ts t → net_fault5 ags ts t ≡ true → NetWrong s l 5
    seven : {ts : List Term} {t : Net} → NetTerms s l.bytes ts t → net_fault7 ags ts ≡ true → NetWrong s l 7

  pub data NetRefused (text : List ℕ) : ℕ → ℕ → Type 0 where
    too_long : text_max < length text → NetRefused text 1 0
    bad_line : {n j : ℕ} → BadLine net_written NetRight text NetWrong n j → NetRefused text n j
    -- "an absent first or `face` record counting as number 3 on the line after the last"
    absent : Begins net_written NetRight text nothing [] → NetRefused text 3 1
    absent_face : {m n : ℕ} → Begins net_written NetRight text (headed m n) [] → NetRefused text 3 2
    miscounted : {m n : ℕ} {t : Net} → Begins net_written NetRight text (faced m n t) []
        → ¬ ((m ≡ length t.face) × (n ≡ length t.equations)) → NetRefused text 11 1
    -- "then, for nets, 8, on the line where the earliest offending name first occurs"; the counts are those found
    loose_name : {j : ℕ} {t : Net}
        → Begins net_written NetRight text (faced (length t.face) (length t.equations) t) []
        → loose_line ags (names_of ags (net_terms t)) 2 (net_lines t) ≡ some j → NetRefused text 8 j
