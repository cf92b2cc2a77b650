-- What each part of the reader of net texts says of the text.
use Rattle.std.specs.Prelude.{ℕ, suc, ◌+◌, ◌*◌, ◌≤◌, ◌<◌, cond, ltb, ◌≡◌, List, [], ◌∷◌, length, drop, Option, Some, None, IfSome, Result, Ok, Err, OnOk, IfOk}
use Rattle.parts.specs.Limits.{face_max, net_equations_max}
use Rattle.parts.specs.Faults.{fault_number}
use Rattle.parts.specs.declared.faults.Fault.{Fault}
use Rattle.parts.specs.declared.faults.Refusal.{Refusal}
use Rattle.texts.specs.Bytes.{Line, lines}
use Rattle.texts.specs.Books.{Agent, Net}
use Rattle.texts.specs.Answers.{OfText, fine, fault, accepted, refused, read_lines, after}
use Rattle.texts.specs.RuleText.{Counts}
use Rattle.texts.specs.NetText.{eq_line, net_counted, face_and_eqs, net_of_lines}
use Rattle.terms.specs.Sheet.{Sheet}
use Rattle.table.specs.Layout.{agents_in}
use Rattle.twice.specs.Counting.{loose_on, first_loose, passed}
use Rattle.net_lines.specs.Draft.{Draft}
use Rattle.net_lines.specs.Judging.{Fit}
use Rattle.nets.specs.Drafted.{marked, Drafted}
use Rattle.nets.specs.Heading.{plain}
use Rattle.nets.specs.declared.front.First.{First}
use Rattle.nets.specs.declared.front.Second.{Second}
use Rattle.nets.specs.declared.whole.Lengths.{Lengths}

-- What an answer says of a text: it is accepted; or the number and the line of its refusal.
abbrev pub outcome : {A B : Type 0} → Result B Refusal → A → OfText A
outcome (Ok b) a = accepted a
outcome (Err r) a = refused (fault_number r.fault) r.line

-- The next `eq` line after the net m, from a place on: there is none; it has a fault; or there is one equation more.
pub record StepFault (text : List ℕ) (ags : List Agent) (at : ℕ) (m : Net) (f : Fault) : Type 0 where
  pub line : Line
  pub rest : List Line
  pub here : lines (drop at text) ≡ line ∷ rest
  pub faulty : eq_line ags m line ≡ fault (fault_number f)

pub record StepNext (text : List ℕ) (ags : List Agent) (at : ℕ) (m : Net) (next : ℕ) (s : Sheet) (cs ms : List ℕ) : Type 0 where
  pub line : Line
  pub net : Net
  pub here : lines (drop at text) ≡ line ∷ lines (drop next text)
  pub fair : eq_line ags m line ≡ fine net
  pub drafted : Drafted text ags s cs ms net
  pub face : net.face ≡ m.face
  pub one : length net.equations ≡ suc (length m.equations)

abbrev pub Stepped : List ℕ → List Agent → ℕ → Net → Result (Option ℕ) Fault → Sheet → List ℕ → List ℕ → Type 0
Stepped text ags at m (Ok None) s cs ms = (lines (drop at text) ≡ []) × Drafted text ags s cs ms m
Stepped text ags at m (Ok (Some next)) s cs ms = StepNext text ags at m next s cs ms
Stepped text ags at m (Err f) s cs ms = StepFault text ags at m f

-- whatever stands there: where the reader goes on, and that there is room for one more
abbrev pub Moved : List ℕ → ℕ → ℕ → Result (Option ℕ) Fault → Type 0
Moved text at k r = IfOk r (λ o. IfSome o (λ next. (at < next) × (next ≤ length text) × (k < net_equations_max)))

-- All `eq` lines from a place on, after the net m, which has none.
pub record EqsRead (text : List ℕ) (ags : List Agent) (at : ℕ) (m : Net) (r : Result ℕ Refusal) (s : Sheet) (cs ms : List ℕ) : Type 0 where
  pub net : Net
  pub told : read_lines (eq_line ags) 3 m (lines (drop at text)) ≡ outcome r net
  pub drafted : OnOk r (Drafted text ags s cs ms net)
  pub face : net.face ≡ m.face
  pub many : IfOk r (λ k. k ≡ length net.equations)

-- The header: its fault; or its counts, and where the next line begins.
abbrev pub FirstRead : List ℕ → Result First Fault → Type 0
FirstRead text (Ok a) =
    ((ags : List Agent) → net_of_lines ags (lines text) ≡ face_and_eqs ags (plain a.counts) (lines (drop a.next text)))
    × (a.next ≤ length text)
FirstRead text (Err f) = (ags : List Agent) → net_of_lines ags (lines text) ≡ refused (fault_number f) 1

-- The `face` line: its fault; or the net of it, and where the next line begins.
pub record FaceHere (text : List ℕ) (ags : List Agent) (at f next : ℕ) (s : Sheet) (cs ms : List ℕ) : Type 0 where
  pub net : Net
  pub goes : (c : Counts) → face_and_eqs ags c (lines (drop at text)) ≡ after (read_lines (eq_line ags) 3 net (lines (drop next text))) (net_counted ags c)
  pub drafted : Drafted text ags s cs ms net
  pub many : f ≡ length net.face
  pub bare : net.equations ≡ []

abbrev pub SecondRead : List ℕ → List Agent → ℕ → Result Second Fault → Sheet → List ℕ → List ℕ → Type 0
SecondRead text ags at (Ok a) s cs ms = FaceHere text ags at a.terms a.next s cs ms
SecondRead text ags at (Err f) s cs ms = (c : Counts) → face_and_eqs ags c (lines (drop at text)) ≡ refused (fault_number f) 2

abbrev pub Within : List ℕ → Result Second Fault → Type 0
Within text r = IfOk r (λ a. (a.terms ≤ face_max) × (a.next ≤ length text))

-- Before the first line is read: nothing stands on the sheet, and the agents are those of the table.
pub record Start (text : List ℕ) (ags : List Agent) (table : List ℕ) (s : Sheet) (cs ms : List ℕ) : Type 0 where
  pub fit : Fit text ags
  pub same : agents_in table ≡ ags
  pub draft : Draft text ags s cs []
  pub long : length ms ≡ suc net_equations_max

-- Before the first `eq` line is read: the net of the `face` line.
pub record Begun (text : List ℕ) (ags : List Agent) (table : List ℕ) (f : ℕ) (m : Net) (s : Sheet) (cs ms : List ℕ) : Type 0 where
  pub fit : Fit text ags
  pub same : agents_in table ≡ ags
  pub drafted : Drafted text ags s cs ms m
  pub many : f ≡ length m.face
  pub bare : m.equations ≡ []

-- The line of number 8, if there is one.
unfoldable pub loose_at : List Agent → Sheet → List ℕ → List ℕ → ℕ → ℕ → Option ℕ
loose_at ags s cs ms f k =
    let j = passed (first_loose (loose_on ags s cs (f + 2 * k)) 0 s.names) (marked ms (k + 1)) in
    cond (ltb j (k + 1)) (Some (2 + j)) None

-- The whole text: its answer, and where it is accepted the net.
pub record TextRead (text : List ℕ) (ags : List Agent) (answer : OfText Net) (r : Result Lengths Refusal) (s : Sheet) (cs ms : List ℕ) : Type 0 where
  pub net : Net
  pub told : answer ≡ outcome r net
  pub drafted : OnOk r (Drafted text ags s cs ms net)
  pub faces : IfOk r (λ n. n.faces ≡ length net.face)
  pub equations : IfOk r (λ n. n.equations ≡ length net.equations)
