-- Where a reader stops, said of the lines and of its tests.
use Rattle.std.specs.Prelude.{ℕ, ◌+◌, ◌<◌, ◌≡◌, Bool, true, false, List, [], ◌∷◌, ◌++◌, length, get_or}
use Rattle.std.proofs.Math.Option.{some}
use Rattle.texts.specs.Bytes.{Line}
use Rattle.texts.specs.Books.{Agent, Book, no_book, Net, names_of, net_terms, word_rules, word_net}
use Rattle.texts.specs.Answers.{OfLine, fine, fault}
use Rattle.texts.specs.RuleText.{Counts, header_line, rule_line}
use Rattle.texts.specs.NetText.{face_line, eq_line, net_lines, loose_line}
use Rattle.texts.proofs.Beneath.LineTests.{header_tests, face_tests, Reads, Counted, NetCounted}

-- A line. The n-th condition holds, and none before it.
pub record First (ts : List Bool) (n : ℕ) : Type 0 where
  pub holds : get_or ts n false ≡ true
  pub least : (m : ℕ) → m < n → get_or ts m false ≡ false

-- Lines, each over what those before it mean.
module _ {S : Type 0} (step : S → Line → OfLine S) where
  -- the first bad line stands after i good ones, and has fault n
  pub record Stops (s : S) (ls : List Line) (n i : ℕ) : Type 0 where
    pub good : List Line
    pub bad : Line
    pub rest : List Line
    pub before : S
    pub parts : ls ≡ good ++ (bad ∷ rest)
    pub reads : Reads step s good before
    pub faulty : step before bad ≡ fault n
    pub place : i ≡ length good

-- A rule text: what stands wrong with the lines of a text.
pub data RuleLinesRefused (ls : List Line) (n j : ℕ) : Type 0 where
  no_line : ls ≡ [] → n ≡ 3 → j ≡ 1 → RuleLinesRefused ls n j
  bad_header : (h : Line) → (rest : List Line) → ls ≡ h ∷ rest → First (header_tests word_rules h) n → j ≡ 1
      → RuleLinesRefused ls n j
  bad_line_lem : (h : Line) → (rest : List Line) → ls ≡ h ∷ rest → (c : Counts) → header_line word_rules h ≡ fine c
      → (i : ℕ) → Stops rule_line no_book rest n i → j ≡ 2 + i → RuleLinesRefused ls n j
  bad_count : (h : Line) → (rest : List Line) → ls ≡ h ∷ rest → (c : Counts) → header_line word_rules h ≡ fine c
      → (b : Book) → Reads rule_line no_book rest b → ¬ Counted c b → n ≡ 11 → j ≡ 1 → RuleLinesRefused ls n j

-- A net text: what stands wrong with the lines of a text.
pub data NetLinesRefused (ags : List Agent) (ls : List Line) (n j : ℕ) : Type 0 where
  no_line : ls ≡ [] → n ≡ 3 → j ≡ 1 → NetLinesRefused ags ls n j
  bad_header : (h : Line) → (rest : List Line) → ls ≡ h ∷ rest → First (header_tests word_net h) n → j ≡ 1
      → NetLinesRefused ags ls n j
  no_face : (h : Line) → ls ≡ h ∷ [] → (c : Counts) → header_line word_net h ≡ fine c → n ≡ 3 → j ≡ 2
      → NetLinesRefused ags ls n j
  bad_face : (h f : Line) → (rest : List Line) → ls ≡ h ∷ f ∷ rest → (c : Counts) → header_line word_net h ≡ fine c
      → First (face_tests ags f) n → j ≡ 2 → NetLinesRefused ags ls n j
  bad_line_lem : (h f : Line) → (rest : List Line) → ls ≡ h ∷ f ∷ rest → (c : Counts) → header_line word_net h ≡ fine c
      → (m : Net) → face_line ags f ≡ fine m → (i : ℕ) → Stops (eq_line ags) m rest n i → j ≡ 3 + i
      → NetLinesRefused ags ls n j
  bad_count : (h f : Line) → (rest : List Line) → ls ≡ h ∷ f ∷ rest → (c : Counts) → header_line word_net h ≡ fine c
      → (m : Net) → face_line ags f ≡ fine m → (net : Net) → Reads (eq_line ags) m rest net
      → ¬ NetCounted c net → n ≡ 11 → j ≡ 1
      → NetLinesRefused ags ls n j
  bad_name : (h f : Line) → (rest : List Line) → ls ≡ h ∷ f ∷ rest → (c : Counts) → header_line word_net h ≡ fine c
      → (m : Net) → face_line ags f ≡ fine m → (net : Net) → Reads (eq_line ags) m rest net → NetCounted c net
      → loose_line ags (names_of ags (net_terms net)) 2 (net_lines net) ≡ some j → n ≡ 8 → NetLinesRefused ags ls n j
