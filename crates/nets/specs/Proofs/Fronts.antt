-- Each way out of the header and of the `face` line.
use Rattle.std.specs.Prelude as Prelude
use Rattle.std.specs.Prelude.{ℕ, suc, ◌+◌, ◌-◌, ◌≤◌, ◌<◌, ◌≡◌, false, take, drop, set, Result, Ok, Err, ok_or, ⊤, List, [], ◌∷◌, ◌++◌, map}
use Rattle.std.proofs.Common.{sym, ap, ◌∙◌, arith, append-nil, lt-ltb, le-ltb}
use Rattle.std.proofs.Math.Option.{Option, none, some}
use Rattle.std.proofs.Math.ListN.{length, length-set}
use Rattle.std.proofs.Math.Seq.{get_or-set_same}
use Rattle.parts.specs.Limits.{face_max, net_equations_max}
use Rattle.parts.specs.Faults.{fault_number}
use Rattle.parts.specs.declared.faults.Fault.{Fault}
use Rattle.parts.specs.declared.faults.Fault.TheVariants.{BadByte, BadRecord}
use Rattle.texts.specs.Bytes.{lines, fault2, fields, different}
use Rattle.texts.specs.Books.{Agent, Net, names_of, net_terms, sides, word_net}
use Rattle.texts.specs.Answers.{fine, refused, need, refuse, after_line}
use Rattle.texts.specs.RuleText.{Counts, header_of, header_line}
use Rattle.texts.specs.NetText.{face_line, face_and_eqs, net_of_lines, net_lines}
use Rattle.texts.specs.Bytes.{ended_line}
use Rattle.scan.specs.Places.{bad_at}
use Rattle.scan.specs.Laws.Placing.{bad-fault}
use Rattle.scan.specs.Cutting.{next_line}
use Rattle.scan.proofs.Beneath.Cutting.{unended_line, unended_fault, no_line}
use Rattle.lines.specs.Fields.{counts_of}
use Rattle.lines.specs.declared.Counts.{Counts as Read}
use Rattle.table.specs.Lists.{tab}
use Rattle.terms.specs.Sheet.{Sheet}
use Rattle.lines.specs.Names.{between}
use Rattle.twice.specs.Marks.{marks_from}
use Rattle.net_lines.specs.Draft.{Draft}
use Rattle.net_lines.specs.Judging.{Stands, Fit}
use Rattle.net_lines.specs.Records.{FaceRead}
use Rattle.nets.specs.Drafted.{marked}
use Rattle.nets.specs.Heading.{Headed}
use Rattle.nets.specs.Reading.{FirstRead, FaceHere}
use Rattle.nets.specs.Proofs.Stepping.{ended-stands, ended_here, unended}

-- The header's line.
module _ (line : List ℕ) (b : ℕ) (eb : b ≡ bad_at line) where
  pub head_2 : b < length line → Headed line (Err BadByte)
  unfolding header_line refuse
  head_2 h = rw (bad-fault line ∙ lt-ltb (bad_at line) (length line) (let e = eb in omega (arith, e)))

  module _ (ok : length line ≤ b) (h : Prelude.Option Read) (eh : counts_of h ≡ header_of word_net (fields line)) where
    no_2 : fault2 (ended_line line) ≡ false
    no_2 = bad-fault line ∙ le-ltb (bad_at line) (length line) (let e = eb in omega (arith, e))

    head_by : (o : Option Counts) → header_of word_net (fields line) ≡ o → header_line word_net (ended_line line) ≡ need 3 o fine
    unfolding header_line refuse ended_line need
    head_by o e = ap (λ t. refuse 2 t (need 3 (header_of word_net (fields line)) fine)) no_2 ∙ ap (λ x. need 3 x fine) e

    pub head-counts : Headed line (ok_or h BadRecord)
    unfolding need
    head-counts = go h eh
      where
        go : (h : Prelude.Option Read) → counts_of h ≡ header_of word_net (fields line) → Headed line (ok_or h BadRecord)
        go Prelude.None e = head_by none (sym e)
        go (Prelude.Some c) e = head_by (some (record { upper = c.upper; lower = c.lower })) (sym e)

module _ (text : List ℕ) (r : Result (Prelude.Option ℕ) Fault) (er : r ≡ next_line text 0) where
  pub first_none : r ≡ Ok Prelude.None → FirstRead text (Err BadRecord)
  unfolding net_of_lines
  first_none h ags = ap (net_of_lines ags) (no_line text 0 er h)

  pub first_unended : {f : Fault} → r ≡ Err f → FirstRead text (Err f)
  unfolding net_of_lines header_line refuse after_line
  first_unended {f} h ags = ap (net_of_lines ags) (unended_line text 0 er h) ∙ rw (unended text, unended_fault text 0 er h)

  module _ (e : ℕ) (h : r ≡ Ok (Prelude.Some e)) where
    here : lines text ≡ ended_line (take e text) ∷ lines (drop (e + 1) text)
    here = ended_here text 0 r er h ∙ ap (λ l. ended_line l ∷ lines (drop (e + 1) text)) (ap (λ n. take n text) (let z : e - 0 ≡ e = omega arith in z))

    pub first-bad : (f : Fault) → Headed (take e text) (Err f) → FirstRead text (Err f)
    unfolding net_of_lines after_line
    first-bad f y ags = ap (net_of_lines ags) here ∙ rw y

    pub first_ended : {c : Read} → Headed (take e text) (Ok c) → FirstRead text (Ok (record { counts = c; next = e + 1 }))
    unfolding net_of_lines after_line
    first_ended {c} y = (λ ags. ap (net_of_lines ags) here ∙ rw y, (let w = (ended-stands text 0 r er h).within in omega (arith, w)))

-- The `face` line.
module _ (text : List ℕ) (ags : List Agent) (at : ℕ) (r : Result (Prelude.Option ℕ) Fault) (er : r ≡ next_line text at) where
  pub second_none : r ≡ Ok Prelude.None → (c : Counts) → face_and_eqs ags c (lines (drop at text)) ≡ refused 3 2
  unfolding face_and_eqs
  second_none h c = ap (face_and_eqs ags c) (no_line text at er h)

  pub second_unended : {f : Fault} → r ≡ Err f → (c : Counts) → face_and_eqs ags c (lines (drop at text)) ≡ refused (fault_number f) 2
  unfolding face_and_eqs face_line refuse after_line
  second_unended {f} h c = ap (face_and_eqs ags c) (unended_line text at er h) ∙ rw (unended (drop at text), unended_fault text at er h)

  module _ (e : ℕ) (h : r ≡ Ok (Prelude.Some e)) (s s₁ : Sheet) (cs cs₁ : List ℕ) (fit : Fit text ags) (d : Draft text ags s cs []) where
    -- what the reader of the `face` line says where it is called
    read : {q : Result ⊤ Fault} → (Stands text at e → Fit text ags → Draft text ags s cs [] → FaceRead text ags (between text at e) q s₁ cs₁)
        → FaceRead text ags (between text at e) q s₁ cs₁
    read j = j (ended-stands text at r er h) fit d

    pub second-bad : {f : Fault} → (Stands text at e → Fit text ags → Draft text ags s cs [] → FaceRead text ags (between text at e) (Err f) s₁ cs₁)
        → (c : Counts) → face_and_eqs ags c (lines (drop at text)) ≡ refused (fault_number f) 2
    unfolding face_and_eqs after_line
    second-bad {f} j c = ap (face_and_eqs ags c) (ended_here text at r er h) ∙ rw (read j).told

    bare-lines : (m : Net) → m.equations ≡ [] → (net_lines m ≡ m.face ∷ []) × (net_terms m ≡ m.face)
    unfolding net_lines net_terms sides
    bare-lines m e = (ap (λ l. m.face ∷ map (λ e. e.left ∷ e.right ∷ []) l) e, ap (λ l. m.face ++ sides l) e ∙ append-nil m.face)

    module _ {u : ⊤} (j : Stands text at e → Fit text ags → Draft text ags s cs [] → FaceRead text ags (between text at e) (Ok u) s₁ cs₁)
        (v : ℕ) (ms : List ℕ) (long : length ms ≡ suc net_equations_max) (ev : v ≡ s₁.names) where
      abbrev face : FaceRead text ags (between text at e) (Ok u) s₁ cs₁
      face = read j

      one_mark : marked (set ms 0 v) (suc (length face.net.equations)) ≡ marks_from ags [] (net_lines face.net)
      unfolding tab marks_from
      one_mark =
          let b = bare-lines face.net face.bare in
          ap (λ l. marked (set ms 0 v) (suc (length l))) face.bare
          ∙ ap (λ x. x ∷ [])
          (get_or-set_same ms 0 v 0 (omega (arith, long)) ∙ ev ∙ (face.draft.holds []).names.count ∙ ap (λ l. length (different (names_of ags l))) b.1)
          ∙ sym (ap (marks_from ags []) b.0)

      pub second-face : (f : ℕ) → suc f ≡ length (fields (between text at e)) → FaceHere text ags at f (e + 1) s₁ cs₁ (set ms 0 v)
      unfolding face_and_eqs after_line
      second-face f ef =
          record {
            net = face.net;
            goes = λ c. ap (face_and_eqs ags c) (ended_here text at r er h) ∙ rw face.told;
            drafted = record { draft = face.draft; marks = one_mark; long = length-set ms 0 v ∙ long };
            many = (let a = face.many in omega (arith, a, ef));
            bare = face.bare;
          }

pub within-face : (text : List ℕ) (at : ℕ) (r : Result (Prelude.Option ℕ) Fault) (e f : ℕ) → r ≡ next_line text at → r ≡ Ok (Prelude.Some e)
    → length (fields (between text at e)) ≤ suc face_max → suc f ≡ length (fields (between text at e)) → (f ≤ face_max) × (e + 1 ≤ length text)
within-face text at r e f er h few ef =
    let w = (ended-stands text at r er h).within in
    (omega (arith, few, ef), omega (arith, w))
