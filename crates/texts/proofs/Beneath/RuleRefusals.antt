-- A rule text is refused exactly where its good lines are a book so far, printed, and the next line is wrong by that number.
use Rattle.std.specs.Prelude.{ℕ, ◌+◌, ◌<◌, ◌≤◌, ◌↔◌, ◌⊎◌}
use Rattle.std.proofs.Math.Path.{◌≡◌, refl, ap}
use Rattle.std.proofs.Common.{sym, ◌∙◌, inr, arith}
use Rattle.std.proofs.Math.Logic.{inl, ⊎_elim}
use mathlib.Core.List.{List, [], ◌∷◌, ◌++◌, map, append-nil}
use Rattle.std.proofs.Math.ListN.{length}
use Rattle.std.proofs.lemmas.List.{length-map}
use Rattle.parts.specs.Limits.{text_max}
use Rattle.texts.specs.Bytes.{Line, ended_line, lines}
use Rattle.texts.specs.Books.{Book, no_book, records_of, write_record, write_header, word_rules}
use Rattle.texts.specs.Answers.{fine, fault, refused}
use Rattle.texts.specs.RuleText.{Counts, header_line, rule_line, rules_of_lines, read_rules}
use Rattle.texts.specs.Refused.{Begins, BadLine, RulesSoFar, records, rules_written, RulesRight, RuleWrong, RulesRefused, too_long, bad_line, absent, miscounted}
use Rattle.texts.specs.Good.{GoodBook}
use Rattle.texts.proofs.Beneath.Tools.{cons-eq}
use Rattle.texts.proofs.Beneath.Means.{header-fine}
use Rattle.texts.proofs.Beneath.LineTests.{Reads, Counted}
use Rattle.texts.proofs.Beneath.Firsts.{Least}
use Rattle.texts.proofs.Beneath.Stops.{RuleLinesRefused, no_line, bad_header, bad_line_lem, bad_count}
use Rattle.texts.proofs.Beneath.RuleExact.{header-exact, rule_line-exact, rule-lines-refused, length-exact}
use Rattle.texts.proofs.Beneath.RuleMeans.{book-lines, lines-map, word_rules_lem}
use Rattle.texts.proofs.Beneath.RuleWrongs.{header_first, rule_first}

abbrev record_lines : Book → List Line
record_lines b = map ended_line (map write_record (records_of b))

-- Lines are read as a book exactly where they are its records, and it is good.
reads-book : (ls : List Line) (b : Book) → Reads rule_line no_book ls b ↔ ((ls ≡ record_lines b) × GoodBook b)
reads-book ls b = (
  λ h. let p = (book-lines ls b).0 h in (p.0 ∙ sym (lines-map (records_of b)), p.1),
  λ p. (book-lines ls b).1 (p.0 ∙ lines-map (records_of b), p.1),
)

module _ (text : List ℕ) where
  abbrev Starts : RulesSoFar → List Line → Type 0
  Starts s ls = Begins rules_written RulesRight text s ls

  -- From the reader's lines.
  starts : (h : Line) (ls good rest : List Line) (c : Counts) (b : Book) → length text ≤ text_max → lines text ≡ h ∷ ls
      → header_line word_rules h ≡ fine c → Reads rule_line no_book good b → ls ≡ good ++ rest
      → Starts (records c.upper c.lower b) rest
  starts h ls good rest c b short e k r z =
      let p = (header-fine word_rules word_rules_lem h c).0 k in
      let g = (reads-book good b).0 r in
      record {
        short = short;
        right = (p.1.0, p.1.1, g.1);
        cut = e ∙ cons-eq p.0 (z ∙ ap (λ x. x ++ rest) g.0);
      }

  places : (good : List Line) (b : Book) (i j : ℕ) → Reads rule_line no_book good b → i ≡ length good → j ≡ 2 + i
      → j ≡ 1 + length (rules_written (records 0 0 b))
  places good b i j r p q =
      let z : length good ≡ length (map write_record (records_of b)) = ap length ((reads-book good b).0 r).0 ∙ length-map (map write_record (records_of b)) ended_line in
      omega arith

  to_refused : length text ≤ text_max → (n j : ℕ) → RuleLinesRefused (lines text) n j → RulesRefused text n j
  unfolding Counted
  to_refused short n j (no_line e x y) = rw (x, y) (absent (record { short = short; right = tt; cut = e }))
  to_refused short n j (bad_header h rest e f y) =
      let w = (header_first h n).0 f in
      bad_line (record {
        before = RulesSoFar.nothing;
        line = h;
        rest = rest;
        begins = record { short = short; right = tt; cut = e };
        place = y;
        wrong = w.0;
        no_lower = w.1;
      })
  to_refused short n j (bad_line_lem h ls e c k i st y) =
      let w = (rule_first c.upper c.lower st.before st.bad n).0 ((rule_line-exact st.before st.bad n).0 st.faulty) in
      bad_line (record {
        before = records c.upper c.lower st.before;
        line = st.bad;
        rest = st.rest;
        begins = starts h ls st.good (st.bad ∷ st.rest) c st.before short e k st.reads st.parts;
        place = places st.good st.before i j st.reads st.place y;
        wrong = w.0;
        no_lower = w.1;
      })
  to_refused short n j (bad_count h ls e c k b r u x y) =
      rw (x, y) (miscounted (starts h ls ls [] c b short e k r (sym (append-nil ls))) u)

  -- And to them.
  header_read : {m k : ℕ} {b : Book} {ls : List Line} → Starts (records m k b) ls
      → header_line word_rules (ended_line (write_header word_rules m k)) ≡ fine (record { upper = m; lower = k })
  header_read g = (header-fine word_rules word_rules_lem _ _).1 (refl, (g.right.0, g.right.1))

  from-bad : (n j : ℕ) (s : RulesSoFar) (l : Line) (rest : List Line) → Starts s (l ∷ rest) → j ≡ 1 + length (rules_written s)
      → Least (RuleWrong s l) n → RuleLinesRefused (lines text) n j
  from-bad n j RulesSoFar.nothing l rest g y w = bad_header l rest g.cut ((header_first l n).1 w) y
  from-bad n j (records m k b) l rest g y w =
      let z : length (record_lines b) ≡ length (map write_record (records_of b)) = length-map (map write_record (records_of b)) ended_line in
      bad_line_lem (ended_line (write_header word_rules m k)) (record_lines b ++ (l ∷ rest)) g.cut (record { upper = m; lower = k }) (header_read g)
      (length (record_lines b))
      (record {
        good = record_lines b;
        bad = l;
        rest = rest;
        before = b;
        parts = refl;
        reads = (reads-book (record_lines b) b).1 (refl, g.right.2);
        faulty = (rule_line-exact b l n).1 ((rule_first m k b l n).1 w);
        place = refl;
      })
      (omega arith)

  abbrev Known : ℕ → ℕ → Type 0
  Known n j = ((text_max < length text) × (n ≡ 1) × (j ≡ 0)) ⊎ ((length text ≤ text_max) × (rules_of_lines (lines text) ≡ refused n j))

  known : {s : RulesSoFar} {ls : List Line} (n j : ℕ) → Starts s ls → RuleLinesRefused (lines text) n j → Known n j
  known n j g r = inr (g.short, (rule-lines-refused (lines text) n j).1 r)

  from-refused : {n j : ℕ} → RulesRefused text n j → Known n j
  unfolding Counted
  from-refused (too_long h) = inl (h, refl, refl)
  from-refused (bad_line {n} {j} p) =
      known n j p.begins (from-bad n j p.before p.line p.rest p.begins p.place (p.wrong, p.no_lower))
  from-refused (absent g) = known 3 1 g (no_line g.cut refl refl)
  from-refused (miscounted {m} {n} {b} g u) =
      known 11 1 g
      (bad_count (ended_line (write_header word_rules m n)) (record_lines b) (g.cut ∙ ap (λ x. ended_line (write_header word_rules m n) ∷ x) (append-nil (record_lines b)))
      (record { upper = m; lower = n }) (header_read g) b ((reads-book (record_lines b) b).1 (refl, g.right.2)) u refl refl)

  pub rules-refused : (n j : ℕ) → (read_rules text ≡ refused n j) ↔ RulesRefused text n j
  unfolding read_rules
  rules-refused n j = (
    λ h. ⊎_elim long short ((length-exact text n j (rules_of_lines (lines text))).0 h),
    λ r. (length-exact text n j (rules_of_lines (lines text))).1 (from-refused r),
  )
    where
      long : (text_max < length text) × (n ≡ 1) × (j ≡ 0) → RulesRefused text n j
      long (h, x, y) = rw (x, y) (too_long h)

      short : (length text ≤ text_max) × (rules_of_lines (lines text) ≡ refused n j) → RulesRefused text n j
      short (h, e) = to_refused h n j ((rule-lines-refused (lines text) n j).0 e)

-- Header counts are only compared: with other counts the same line is bad, by the same number.
module _ (text text' : List ℕ) (m k m' k' : ℕ) (ls : List Line) (g : Begins rules_written RulesRight text (records m k no_book) ls)
    (g' : Begins rules_written RulesRight text' (records m' k' no_book) ls) where
  bad_in_both : (n j : ℕ) (s : RulesSoFar) (l : Line) (rest : List Line) → Begins rules_written RulesRight text s (l ∷ rest)
      → j ≡ 1 + length (rules_written s) → Least (RuleWrong s l) n
      → BadLine rules_written RulesRight text' RuleWrong n j
  unfolding records_of
  bad_in_both n j RulesSoFar.nothing l rest p y w =
      let e : ended_line (write_header word_rules m k) ≡ l = cc (g.cut, p.cut) in
      let h : header_line word_rules (ended_line (write_header word_rules m k)) ≡ fault n = rw e ((header-exact word_rules l n).1 ((header_first l n).1 w)) in
      let f = header_read text g in
      absurd (let z : ◌≡◌ {A = ℕ} 0 1 = cc in omega arith)
  bad_in_both n j (records a c b) l rest p y w =
      let e : ls ≡ record_lines b ++ (l ∷ rest) = cc (g.cut, p.cut) in
      let v = (rule_first m' k' b l n).0 ((rule_first a c b l n).1 w) in
      record {
        before = records m' k' b;
        line = l;
        rest = rest;
        begins = record { short = g'.short; right = (g'.right.0, g'.right.1, p.right.2); cut = g'.cut ∙ ap (λ x. ended_line (write_header word_rules m' k') ∷ x) e };
        place = y;
        wrong = v.0;
        no_lower = v.1;
      }

  pub bad_line_stays : (n j : ℕ) → BadLine rules_written RulesRight text RuleWrong n j → BadLine rules_written RulesRight text' RuleWrong n j
  bad_line_stays n j p = bad_in_both n j p.before p.line p.rest p.begins p.place (p.wrong, p.no_lower)
