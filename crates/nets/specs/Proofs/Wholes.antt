-- Each way out of a whole text: after its lines number 11, then number 8.
use Rattle.std.specs.Prelude as Prelude
use Rattle.std.specs.Prelude.{ℕ, suc, ◌+◌, ◌*◌, ◌≤◌, ◌<◌, ◌≡◌, Bool, ◌&&◌, length, drop, Some, None, Result, Ok, Err, List, [], ◌++◌}
use Rattle.std.proofs.Math.Path.{refl, sym, ap, ap₂}
use Rattle.std.proofs.Common.{◌∙◌, arith, lt-ltb, le-ltb, eq-eqb, ne_eqb}
use Rattle.std.proofs.Math.Bool.{true, false, cond}
use Rattle.std.proofs.Math.Option.{none, some}
use Rattle.std.proofs.Math.Dec.{ltb, eqb}
use Rattle.parts.specs.Limits.{net_cells_max}
use Rattle.parts.specs.Faults.{fault_number}
use Rattle.parts.specs.declared.faults.Fault.{Fault}
use Rattle.parts.specs.declared.faults.Fault.TheVariants.{CountsDiffer, WrongNames}
use Rattle.parts.specs.declared.faults.Refusal.{Refusal}
use Rattle.texts.specs.Bytes.{lines, different}
use Rattle.texts.specs.Books.{Agent, Net, names_of, net_terms}
use Rattle.texts.specs.Answers.{OfText, accepted, refused, read_lines, after}
use Rattle.texts.specs.RuleText.{Counts}
use Rattle.texts.specs.NetText.{eq_line, loose_line, net_lines, unless_loose, names_twice, net_counted, net_of_lines}
use Rattle.texts.proofs.Beneath.Linear.{cell-count}
use Rattle.table.specs.Layout.{agents_in}
use Rattle.terms.specs.Sheet.{Sheet}
use Rattle.terms.specs.Meaning.{number}
use Rattle.loading.specs.OnSheet.{face_on}
use Rattle.twice.specs.Counting.{loose_on, first_loose, passed}
use Rattle.twice.specs.Marks.{marks_from}
use Rattle.twice.specs.Meaning.{loose_is, loose_line_lem}
use Rattle.net_lines.specs.Draft.{named}
use Rattle.net_lines.specs.Proofs.Whole.{net-length}
use Rattle.nets.specs.Drafted.{marked, Drafted}
use Rattle.nets.specs.Reading.{EqsRead, FirstRead, SecondRead, Begun, loose_at, TextRead}
use Rattle.nets.specs.Proofs.OnSheet.{cells_on_lem, codes_on, names_on}
use Rattle.nets.specs.Heading.{plain}
use Rattle.nets.specs.declared.front.First.{First}

-- The line of number 8.
module _ (ags : List Agent) (s : Sheet) (cs ms : List ℕ) (f k x j : ℕ) (ex : x ≡ first_loose (loose_on ags s cs (f + 2 * k)) 0 s.names) (ej : j ≡ passed x (marked ms (k + 1))) where
  j_is : j ≡ passed (first_loose (loose_on ags s cs (f + 2 * k)) 0 s.names) (marked ms (k + 1))
  j_is = ej ∙ ap (λ y. passed y (marked ms (k + 1))) ex

  pub loose-yes : j ≤ k → Some (2 + j) ≡ loose_at ags s cs ms f k
  unfolding loose_at
  loose-yes h = rw (← j_is, lt-ltb j (k + 1) (omega arith))

  pub loose_no : k < j → None ≡ loose_at ags s cs ms f k
  unfolding loose_at
  loose_no h = rw (← j_is, le-ltb j (k + 1) (omega arith))

module _ (text : List ℕ) (ags : List Agent) (s : Sheet) (cs ms : List ℕ) (m : Net) (d : Drafted text ags s cs ms m) where
  pub cells-few : s.cells ≤ net_cells_max
  cells-few =
      let a = (d.draft.holds []).count in
      let b = cell-count ags (number (named ags (net_terms m) ++ [])) (net_terms m) 0 d.draft.right in
      let c = d.draft.few in omega (arith, a, b, c)

  -- the line that the marks give is that of the first line with a loose name
  loose-told : (f k : ℕ) → f ≡ length m.face → k ≡ length m.equations
      → loose_line ags (names_of ags (net_terms m)) 2 (net_lines m)
      ≡ cond (ltb (passed (first_loose (loose_on ags s cs (f + 2 * k)) 0 s.names) (marked ms (k + 1))) (k + 1))
      (some (2 + passed (first_loose (loose_on ags s cs (f + 2 * k)) 0 s.names) (marked ms (k + 1)))) none
  loose-told f k ef ek =
      let n : length (net_terms m) ≡ f + 2 * k = (let a = net-length m in omega (arith, a, ef, ek)) in
      let c : k + 1 ≡ suc (length m.equations) = omega (arith, ek) in
      loose_line_lem ags m (loose_on ags s cs (f + 2 * k))
      (λ i h. loose_is ags m s cs (f + 2 * k) d.draft.right (ap (face_on cs) (sym n) ∙ codes_on text ags s cs m d.draft) (cells_on_lem text ags s cs m d.draft) i h)
      ∙ whole (length (different (names_of ags (net_terms m)))) s.names (marks_from ags [] (net_lines m)) (marked ms (k + 1)) (suc (length m.equations)) (k + 1)
      (loose_on ags s cs (f + 2 * k)) (sym (names_on text ags s cs m d.draft)) (sym (ap (marked ms) c ∙ d.marks)) (sym c)
    where
      whole : (a b : ℕ) (u v : List ℕ) (x y : ℕ) (p : ℕ → Bool) → a ≡ b → u ≡ v → x ≡ y
          → cond (ltb (passed (first_loose p 0 a) u) x) (some (2 + passed (first_loose p 0 a) u)) none
          ≡ cond (ltb (passed (first_loose p 0 b) v) y) (some (2 + passed (first_loose p 0 b) v)) none
      whole a b u v x y p e q r = rw (e, q, r)

  module _ (f k : ℕ) (ef : f ≡ length m.face) (ek : k ≡ length m.equations) where
    pub twice_8 : {l : ℕ} → Some l ≡ loose_at ags s cs ms f k → names_twice ags m ≡ refused 8 l
    unfolding names_twice unless_loose loose_at
    twice_8 {l} el = ap (λ o. unless_loose o m) (loose-told f k ef ek) ∙ go (ltb (passed (first_loose (loose_on ags s cs (f + 2 * k)) 0 s.names) (marked ms (k + 1))) (k + 1)) el
      where
        go : (t : Bool) → Some l ≡ cond t (Some (2 + passed (first_loose (loose_on ags s cs (f + 2 * k)) 0 s.names) (marked ms (k + 1)))) None
            → unless_loose (cond t (some (2 + passed (first_loose (loose_on ags s cs (f + 2 * k)) 0 s.names) (marked ms (k + 1)))) none) m ≡ refused 8 l
        go true e = let z : 2 + passed (first_loose (loose_on ags s cs (f + 2 * k)) 0 s.names) (marked ms (k + 1)) ≡ l = cc in ap (refused 8) z
        go false e = absurd cc

    pub twice-fine : None ≡ loose_at ags s cs ms f k → names_twice ags m ≡ accepted m
    unfolding names_twice unless_loose loose_at
    twice-fine el = ap (λ o. unless_loose o m) (loose-told f k ef ek) ∙ go (ltb (passed (first_loose (loose_on ags s cs (f + 2 * k)) 0 s.names) (marked ms (k + 1))) (k + 1)) el
      where
        go : (t : Bool) → None ≡ cond t (Some (2 + passed (first_loose (loose_on ags s cs (f + 2 * k)) 0 s.names) (marked ms (k + 1)))) None
            → unless_loose (cond t (some (2 + passed (first_loose (loose_on ags s cs (f + 2 * k)) 0 s.names) (marked ms (k + 1)))) none) m ≡ accepted m
        go true e = absurd cc
        go false e = refl

-- A refusal says nothing of the net.
refusal : (text : List ℕ) (ags : List Agent) (answer : OfText Net) (r : Refusal) (s : Sheet) (cs ms : List ℕ) → answer ≡ refused (fault_number r.fault) r.line
    → TextRead text ags answer (Err r) s cs ms
refusal text ags answer r s cs ms e =
    record { net = record { face = []; equations = [] }; told = e; drafted = Prim.tt; faces = Prim.tt; equations = Prim.tt }

-- After the `face` line.
module _ (text : List ℕ) (ags : List Agent) (table : List ℕ) (at : ℕ) (counts : Counts) (f : ℕ) (m : Net) (s : Sheet) (cs ms : List ℕ) (b : Begun text ags table f m s cs ms)
    (s₁ : Sheet) (cs₁ ms₁ : List ℕ) where
  abbrev answer : OfText Net
  answer = after (read_lines (eq_line ags) 3 m (lines (drop at text))) (net_counted ags counts)

  pub face-faulty : {r : Refusal} {s₂ : Sheet} {cs₂ ms₂ : List ℕ} → EqsRead text ags at m (Err r) s₁ cs₁ ms₁ → TextRead text ags answer (Err r) s₂ cs₂ ms₂
  unfolding after
  face-faulty {r} {s₂} {cs₂} {ms₂} e = refusal text ags answer r s₂ cs₂ ms₂ (ap (λ o. after o (net_counted ags counts)) e.told)

  module _ {k : ℕ} (e : EqsRead text ags at m (Ok k) s₁ cs₁ ms₁) where
    ef : f ≡ length e.net.face
    ef = b.many ∙ sym (ap length e.face)

    answer_is : answer ≡ cond (eqb counts.upper f && eqb counts.lower k) (names_twice ags e.net) (refused 11 1)
    unfolding after net_counted
    answer_is =
        ap (λ o. after o (net_counted ags counts)) e.told
        ∙ ap₂ (λ x y. cond (eqb counts.upper x && eqb counts.lower y) (names_twice ags e.net) (refused 11 1)) (sym ef) (sym e.many)

    pub count-upper : {s₂ : Sheet} {cs₂ ms₂ : List ℕ} → ¬ (counts.upper ≡ f) → TextRead text ags answer (Err (record { fault = CountsDiffer; line = 1 })) s₂ cs₂ ms₂
    count-upper {s₂} {cs₂} {ms₂} h = refusal text ags answer (record { fault = CountsDiffer; line = 1 }) s₂ cs₂ ms₂ (answer_is ∙ rw (ne_eqb counts.upper f h))

    pub count-lower : {s₂ : Sheet} {cs₂ ms₂ : List ℕ} → counts.upper ≡ f → ¬ (counts.lower ≡ k) → TextRead text ags answer (Err (record { fault = CountsDiffer; line = 1 })) s₂ cs₂ ms₂
    count-lower {s₂} {cs₂} {ms₂} g h = refusal text ags answer (record { fault = CountsDiffer; line = 1 }) s₂ cs₂ ms₂ (answer_is ∙ rw (eq-eqb counts.upper f g, ne_eqb counts.lower k h))

    pub eqs-few : s₁.cells ≤ net_cells_max
    eqs-few = cells-few text ags s₁ cs₁ ms₁ e.net e.drafted

    module _ (ea : counts.upper ≡ f) (eb : counts.lower ≡ k) where
      here : {l : Prelude.Option ℕ} → l ≡ loose_at (agents_in table) s₁ cs₁ ms₁ f k → l ≡ loose_at ags s₁ cs₁ ms₁ f k
      here el = el ∙ ap (λ a. loose_at a s₁ cs₁ ms₁ f k) b.same

      twice_is : answer ≡ names_twice ags e.net
      twice_is = answer_is ∙ rw (eq-eqb counts.upper f ea, eq-eqb counts.lower k eb)

      pub text_8 : {l : ℕ} {s₂ : Sheet} {cs₂ ms₂ : List ℕ} → Some l ≡ loose_at (agents_in table) s₁ cs₁ ms₁ f k → TextRead text ags answer (Err (record { fault = WrongNames; line = l })) s₂ cs₂ ms₂
      text_8 {l} {s₂} {cs₂} {ms₂} el =
          refusal text ags answer (record { fault = WrongNames; line = l }) s₂ cs₂ ms₂ (twice_is ∙ twice_8 text ags s₁ cs₁ ms₁ e.net e.drafted f k ef e.many (here el))

      pub text-fine : None ≡ loose_at (agents_in table) s₁ cs₁ ms₁ f k → TextRead text ags answer (Ok (record { faces = f; equations = k })) s₁ cs₁ ms₁
      text-fine el =
          record {
            net = e.net;
            told = twice_is ∙ twice-fine text ags s₁ cs₁ ms₁ e.net e.drafted f k ef e.many (here el);
            drafted = e.drafted;
            faces = ef;
            equations = e.many;
          }

-- The whole text.
module _ (text : List ℕ) (ags : List Agent) where
  pub text_first : {f : Fault} → FirstRead text (Err f) → (s : Sheet) (cs ms : List ℕ) → TextRead text ags (net_of_lines ags (lines text)) (Err (record { fault = f; line = 1 })) s cs ms
  text_first {f} q s cs ms = refusal text ags (net_of_lines ags (lines text)) (record { fault = f; line = 1 }) s cs ms (q ags)

  module _ (a : First) (fr : FirstRead text (Ok a)) (s : Sheet) (cs ms : List ℕ) where
    pub text-second : {f : Fault} → SecondRead text ags a.next (Err f) s cs ms → TextRead text ags (net_of_lines ags (lines text)) (Err (record { fault = f; line = 2 })) s cs ms
    text-second {f} q = refusal text ags (net_of_lines ags (lines text)) (record { fault = f; line = 2 }) s cs ms (fr.0 ags ∙ q (plain a.counts))
