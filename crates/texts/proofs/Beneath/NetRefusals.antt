-- A net text is refused exactly where its good lines are a net so far, printed, and the next line is wrong by that number.
use Rattle.std.specs.Prelude.{ℕ, ◌+◌, ◌<◌, ◌≤◌, ◌≡◌, ◌↔◌, ◌⊎◌}
use Rattle.std.proofs.Math.Path.{refl, ap}
use Rattle.std.proofs.Common.{sym, ◌∙◌, inr, arith}
use Rattle.std.proofs.Math.Logic.{inl, ⊎_elim}
use mathlib.Core.List.{List, [], ◌∷◌, ◌++◌, map, append-nil}
use Rattle.std.proofs.Math.ListN.{length, length-map}
use Rattle.parts.specs.Limits.{text_max}
use Rattle.texts.specs.Bytes.{Line, ended_line, lines}
use Rattle.texts.specs.Books.{Agent, Net, write_header, write_face, write_equation, word_net}
use Rattle.texts.specs.Answers.{fine, fault, refused}
use Rattle.texts.specs.RuleText.{Counts, header_line}
use Rattle.texts.specs.NetText.{face_line, eq_line, net_of_lines, read_net}
use Rattle.texts.specs.Refused.{Begins, BadLine, NetSoFar, headed, faced, net_written, NetRight, NetWrong, NetRefused, too_long, bad_line, absent, absent_face, miscounted, loose_name}
use Rattle.texts.proofs.Beneath.Tools.{cons-eq}
use Rattle.texts.proofs.Beneath.Means.{header-fine}
use Rattle.texts.proofs.Beneath.LineTests.{Reads, NetCounted}
use Rattle.texts.proofs.Beneath.Firsts.{Least}
use Rattle.texts.proofs.Beneath.Stops.{NetLinesRefused, no_line, bad_header, no_face, bad_face, bad_line_lem, bad_count, bad_name}
use Rattle.texts.proofs.Beneath.RuleExact.{header-exact, length-exact}
use Rattle.texts.proofs.Beneath.NetExact.{eq-exact, net_lines-refused}
use Rattle.texts.proofs.Beneath.NetMeans.{FaceAndEquations, lines_of_net, word_net_lem}
use Rattle.texts.proofs.Beneath.NetWrongs.{header_first, face_first, eq_first}

abbrev equation_lines : Net → List Line
equation_lines t = map ended_line (map write_equation t.equations)

module _ (ags : List Agent) (text : List ℕ) where
  abbrev Starts : NetSoFar → List Line → Type 0
  Starts s ls = Begins net_written (NetRight ags) text s ls

  -- From the reader's lines.
  starts_headed : (h : Line) (ls : List Line) (c : Counts) → length text ≤ text_max → lines text ≡ h ∷ ls
      → header_line word_net h ≡ fine c → Starts (headed c.upper c.lower) ls
  starts_headed h ls c short e k =
      let p = (header-fine word_net word_net_lem h c).0 k in
      record { short = short; right = (p.1.0, p.1.1); cut = e ∙ cons-eq p.0 refl }

  starts_faced : (h f : Line) (ls good rest : List Line) (c : Counts) (t : Net) → length text ≤ text_max → lines text ≡ h ∷ f ∷ ls
      → header_line word_net h ≡ fine c → FaceAndEquations ags f good t → ls ≡ good ++ rest
      → Starts (faced c.upper c.lower t) rest
  starts_faced h f ls good rest c t short e k g z =
      let p = (header-fine word_net word_net_lem h c).0 k in
      record {
        short = short;
        right = (p.1.0, p.1.1, g.good_face, g.good_equations);
        cut = e ∙ cons-eq p.0 (cons-eq g.line_of_face (z ∙ ap (λ x. x ++ rest) g.equation_lines_lem));
      }

  to_refused : length text ≤ text_max → (n j : ℕ) → NetLinesRefused ags (lines text) n j → NetRefused ags text n j
  unfolding NetCounted
  to_refused short n j (no_line e x y) = rw (x, y) (absent (record { short = short; right = tt; cut = e }))
  to_refused short n j (bad_header h rest e f y) =
      let w = (header_first ags h n).0 f in
      bad_line (record {
        before = NetSoFar.nothing;
        line = h;
        rest = rest;
        begins = record { short = short; right = tt; cut = e };
        place = y;
        wrong = w.0;
        no_lower = w.1;
      })
  to_refused short n j (no_face h e c k x y) = rw (x, y) (absent_face (starts_headed h [] c short e k))
  to_refused short n j (bad_face h f rest e c k t y) =
      let w = (face_first ags c.upper c.lower f n).0 t in
      bad_line (record {
        before = headed c.upper c.lower;
        line = f;
        rest = rest;
        begins = starts_headed h (f ∷ rest) c short e k;
        place = y;
        wrong = w.0;
        no_lower = w.1;
      })
  to_refused short n j (bad_line_lem h f ls e c k m fe i st y) =
      let t = st.before in
      let g = (lines_of_net ags f st.good t).0 (m, fe, st.reads) in
      let w = (eq_first ags c.upper c.lower t st.bad n).0 ((eq-exact ags t st.bad n).0 st.faulty) in
      let z : length st.good ≡ length (map write_equation t.equations) = ap length g.equation_lines_lem ∙ length-map (map write_equation t.equations) ended_line in
      let p : j ≡ 1 + length (net_written (faced c.upper c.lower t)) = omega (arith, st.place) in
      bad_line (record {
        before = faced c.upper c.lower t;
        line = st.bad;
        rest = st.rest;
        begins = starts_faced h f ls st.good (st.bad ∷ st.rest) c t short e k g st.parts;
        place = p;
        wrong = w.0;
        no_lower = w.1;
      })
  to_refused short n j (bad_count h f ls e c k m fe t r u x y) =
      rw (x, y) (miscounted (starts_faced h f ls ls [] c t short e k ((lines_of_net ags f ls t).0 (m, fe, r)) (sym (append-nil ls))) u)
  to_refused short n j (bad_name h f ls e c k m fe t r w l x) =
      let g = starts_faced h f ls ls [] c t short e k ((lines_of_net ags f ls t).0 (m, fe, r)) (sym (append-nil ls)) in
      rw x (loose_name (rw (w.0, w.1) at g) l)

  -- And to them.
  header_read : (m k : ℕ) → m < 10000 → k < 10000
      → header_line word_net (ended_line (write_header word_net m k)) ≡ fine (record { upper = m; lower = k })
  header_read m k p q = (header-fine word_net word_net_lem _ _).1 (refl, (p, q))

  net_read : {m k : ℕ} {t : Net} {ls : List Line} → Starts (faced m k t) ls
      → (a : Net) × (face_line ags (ended_line (write_face t.face)) ≡ fine a) × Reads (eq_line ags) a (equation_lines t) t
  net_read {t = t} g =
      (lines_of_net ags (ended_line (write_face t.face)) (equation_lines t) t).1
      (record { line_of_face = refl; equation_lines_lem = refl; good_face = g.right.2; good_equations = g.right.3 })

  from-bad : (n j : ℕ) (s : NetSoFar) (l : Line) (rest : List Line) → Starts s (l ∷ rest) → j ≡ 1 + length (net_written s)
      → Least (NetWrong ags s l) n → NetLinesRefused ags (lines text) n j
  from-bad n j NetSoFar.nothing l rest g y w = bad_header l rest g.cut ((header_first ags l n).1 w) y
  from-bad n j (headed m k) l rest g y w =
      bad_face (ended_line (write_header word_net m k)) l rest g.cut (record { upper = m; lower = k }) (header_read m k g.right.0 g.right.1)
      ((face_first ags m k l n).1 w) y
  from-bad n j (faced m k t) l rest g y w =
      let r = net_read g in
      let z : length (equation_lines t) ≡ length (map write_equation t.equations) = length-map (map write_equation t.equations) ended_line in
      bad_line_lem (ended_line (write_header word_net m k)) (ended_line (write_face t.face)) (equation_lines t ++ (l ∷ rest)) g.cut
      (record { upper = m; lower = k }) (header_read m k g.right.0 g.right.1) r.0 r.1 (length (equation_lines t))
      (record {
        good = equation_lines t;
        bad = l;
        rest = rest;
        before = t;
        parts = refl;
        reads = r.2;
        faulty = (eq-exact ags t l n).1 ((eq_first ags m k t l n).1 w);
        place = refl;
      })
      (omega arith)

  -- after all lines
  ends : {m k : ℕ} {t : Net} → Starts (faced m k t) []
      → lines text ≡ ended_line (write_header word_net m k) ∷ ended_line (write_face t.face) ∷ equation_lines t
  ends {m} {k} {t} g =
      g.cut ∙ ap (λ x. ended_line (write_header word_net m k) ∷ ended_line (write_face t.face) ∷ x) (append-nil (equation_lines t))

  abbrev Known : ℕ → ℕ → Type 0
  Known n j = ((text_max < length text) × (n ≡ 1) × (j ≡ 0)) ⊎ ((length text ≤ text_max) × (net_of_lines ags (lines text) ≡ refused n j))

  known : {s : NetSoFar} {ls : List Line} (n j : ℕ) → Starts s ls → NetLinesRefused ags (lines text) n j → Known n j
  known n j g r = inr (g.short, (net_lines-refused ags (lines text) n j).1 r)

  from-refused : {n j : ℕ} → NetRefused ags text n j → Known n j
  unfolding NetCounted
  from-refused (too_long h) = inl (h, refl, refl)
  from-refused (bad_line {n} {j} p) =
      known n j p.begins (from-bad n j p.before p.line p.rest p.begins p.place (p.wrong, p.no_lower))
  from-refused (absent g) = known 3 1 g (no_line g.cut refl refl)
  from-refused (absent_face {m} {n} g) =
      known 3 2 g (no_face (ended_line (write_header word_net m n)) g.cut (record { upper = m; lower = n }) (header_read m n g.right.0 g.right.1) refl refl)
  from-refused (miscounted {m} {n} {t} g u) =
      let r = net_read g in
      known 11 1 g (bad_count (ended_line (write_header word_net m n)) (ended_line (write_face t.face)) (equation_lines t) (ends g)
      (record { upper = m; lower = n }) (header_read m n g.right.0 g.right.1) r.0 r.1 t r.2 u refl refl)
  from-refused (loose_name {j} {t} g l) =
      let m = length t.face in
      let n = length t.equations in
      let r = net_read g in
      known 8 j g (bad_name (ended_line (write_header word_net m n)) (ended_line (write_face t.face)) (equation_lines t) (ends g)
      (record { upper = m; lower = n }) (header_read m n g.right.0 g.right.1) r.0 r.1 t r.2 (refl, refl) l refl)

  pub net-refused : (n j : ℕ) → (read_net ags text ≡ refused n j) ↔ NetRefused ags text n j
  unfolding read_net
  net-refused n j = (
    λ h. ⊎_elim long short ((length-exact text n j (net_of_lines ags (lines text))).0 h),
    λ r. (length-exact text n j (net_of_lines ags (lines text))).1 (from-refused r),
  )
    where
      long : (text_max < length text) × (n ≡ 1) × (j ≡ 0) → NetRefused ags text n j
      long (h, x, y) = rw (x, y) (too_long h)

      short : (length text ≤ text_max) × (net_of_lines ags (lines text) ≡ refused n j) → NetRefused ags text n j
      short (h, e) = to_refused h n j ((net_lines-refused ags (lines text) n j).0 e)

-- Header counts are only compared: with other counts the same line is bad, by the same number.
module _ (ags : List Agent) (text text' : List ℕ) (m k m' k' : ℕ) (ls : List Line)
    (g : Begins net_written (NetRight ags) text (headed m k) ls) (g' : Begins net_written (NetRight ags) text' (headed m' k') ls) where
  bad_in_both : (n j : ℕ) (s : NetSoFar) (l : Line) (rest : List Line) → Begins net_written (NetRight ags) text s (l ∷ rest)
      → j ≡ 1 + length (net_written s) → Least (NetWrong ags s l) n → BadLine net_written (NetRight ags) text' (NetWrong ags) n j
  bad_in_both n j NetSoFar.nothing l rest p y w =
      let e : ended_line (write_header word_net m k) ≡ l = cc (g.cut, p.cut) in
      let h : header_line word_net (ended_line (write_header word_net m k)) ≡ fault n = rw e ((header-exact word_net l n).1 ((header_first ags l n).1 w)) in
      let f = header_read ags text m k g.right.0 g.right.1 in
      absurd (let z : ◌≡◌ {A = ℕ} 0 1 = cc in omega arith)
  bad_in_both n j (headed a c) l rest p y w =
      let e : ls ≡ l ∷ rest = cc (g.cut, p.cut) in
      let v = (face_first ags m' k' l n).0 ((face_first ags a c l n).1 w) in
      record {
        before = headed m' k';
        line = l;
        rest = rest;
        begins = record { short = g'.short; right = g'.right; cut = g'.cut ∙ ap (λ x. ended_line (write_header word_net m' k') ∷ x) e };
        place = y;
        wrong = v.0;
        no_lower = v.1;
      }
  bad_in_both n j (faced a c t) l rest p y w =
      let e : ls ≡ ended_line (write_face t.face) ∷ (equation_lines t ++ (l ∷ rest)) = cc (g.cut, p.cut) in
      let v = (eq_first ags m' k' t l n).0 ((eq_first ags a c t l n).1 w) in
      record {
        before = faced m' k' t;
        line = l;
        rest = rest;
        begins = record {
          short = g'.short;
          right = (g'.right.0, g'.right.1, p.right.2, p.right.3);
          cut = g'.cut ∙ ap (λ x. ended_line (write_header word_net m' k') ∷ x) e;
        };
        place = y;
        wrong = v.0;
        no_lower = v.1;
      }

  pub bad_line_stays : (n j : ℕ) → BadLine net_written (NetRight ags) text (NetWrong ags) n j
      → BadLine net_written (NetRight ags) text' (NetWrong ags) n j
  bad_line_stays n j p = bad_in_both n j p.before p.line p.rest p.begins p.place (p.wrong, p.no_lower)
