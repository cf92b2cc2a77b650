-- One line of a net text after another: what the line cutter says of it, the marks, and each way out of a step.
use Rattle.std.specs.Prelude.{ℕ, suc, ◌+◌, ◌≤◌, ◌<◌, ◌≡◌, refl, Bool, true, false, cond, List, [], ◌∷◌, ◌++◌, leb, ltb, length, get_or, take, drop, set, Option, Some, None, Result, Ok, Err, ⊤}
use Rattle.std.proofs.Common.{sym, ap, ap₂, ◌∙◌, arith, length-set, drop-drop, drop_at, length-take-le, get_or-set_same, get_or-set_other, ltb-true}
use Rattle.parts.specs.Limits.{net_equations_max}
use Rattle.parts.specs.declared.faults.Fault.{Fault}
use Rattle.parts.specs.declared.faults.Fault.TheVariants.{BadByte}
use Rattle.texts.specs.Bytes.{lines, fault2, different}
use Rattle.texts.specs.Terms.{Term}
use Rattle.texts.specs.Books.{Agent, Net, net_terms}
use Rattle.texts.specs.Answers.{refuse}
use Rattle.texts.specs.NetText.{eq_line, net_lines}
use Rattle.texts.specs.Bytes.{ended_line}
use Rattle.scan.specs.Places.{place, is}
use Rattle.scan.specs.Cutting.{up_to, next_line}
use Rattle.scan.proofs.Beneath.Cutting.{cut-mark, ended_line_lem, unended_line, unended_fault, no_line}
use Rattle.table.specs.Laws.Lists.{tab_cong, tab-snoc}
use Rattle.terms.specs.Sheet.{Sheet}
use Rattle.lines.specs.Names.{between}
use Rattle.twice.specs.Marks.{marks_from}
use Rattle.twice.specs.Proofs.Lines.{names_all, net-names, marks_more}
use Rattle.net_lines.specs.Draft.{Draft}
use Rattle.net_lines.specs.Judging.{Stands, Fit}
use Rattle.net_lines.specs.Records.{EqRead}
use Rattle.nets.specs.Drafted.{marked, Drafted}
use Rattle.nets.specs.Reading.{StepFault, StepNext, Stepped, Moved}

-- A newline stands where an ended line ends.
mark_at : (l : List ℕ) → place (is 10) l < length l → drop (place (is 10) l) l ≡ 10 ∷ drop (suc (place (is 10) l)) l
unfolding up_to
mark_at l h =
    sym (ap (drop (place (is 10) l)) (cut-mark 10 l h))
    ∙ drop_at (take (place (is 10) l) l) (10 ∷ drop (suc (place (is 10) l)) l) (place (is 10) l) (length-take-le (place (is 10) l) l (omega (arith, h)))

newline : (text : List ℕ) (at e : ℕ) → next_line text at ≡ Ok (Some e) → drop e text ≡ 10 ∷ drop (suc e) text
unfolding next_line
newline text at e h = go (leb (length text) at) (ltb (place (is 10) (drop at text)) (length (drop at text))) refl h
  where
    go : (t u : Bool) → ltb (place (is 10) (drop at text)) (length (drop at text)) ≡ u
        → cond t (Ok None) (cond u (Ok (Some (at + place (is 10) (drop at text)))) (Err BadByte)) ≡ Ok (Some e) → drop e text ≡ 10 ∷ drop (suc e) text
    go true u k q = absurd cc
    go false true k q =
        let z : e ≡ at + place (is 10) (drop at text) = cc in
        ap (λ n. drop n text) z
        ∙ sym (drop-drop (place (is 10) (drop at text)) at text)
        ∙ mark_at (drop at text) (ltb-true (place (is 10) (drop at text)) (length (drop at text)) k)
        ∙ ap (λ l. 10 ∷ l) (drop-drop (suc (place (is 10) (drop at text))) at text ∙ ap (λ n. drop n text) (let y : at + suc (place (is 10) (drop at text)) ≡ suc e = omega (arith, z) in y))
    go false false k q = absurd cc

module _ (text : List ℕ) (at : ℕ) (r : Result (Option ℕ) Fault) (er : r ≡ next_line text at) where
  pub ended-stands : {e : ℕ} → r ≡ Ok (Some e) → Stands text at e
  ended-stands {e} h =
      let l = ended_line_lem text at er h in
      record { begins = l.begins; within = l.within; ended = newline text at e (sym er ∙ h) }

  pub ended_here : {e : ℕ} → r ≡ Ok (Some e) → lines (drop at text) ≡ ended_line (between text at e) ∷ lines (drop (e + 1) text)
  ended_here {e} h =
      let l = ended_line_lem text at er h in
      l.rest ∙ ap₂ (λ b n. ended_line b ∷ lines (drop n text)) l.bytes (let z : suc e ≡ e + 1 = omega arith in z)

  pub ended-begins : (e : ℕ) → r ≡ Ok (Some e) → at ≤ e
  ended-begins e h = (ended-stands h).begins

  pub ended-within : (e : ℕ) → r ≡ Ok (Some e) → e ≤ length text
  ended-within e h = let l = (ended-stands h).within in omega (arith, l)

  pub ended-next : (e : ℕ) → r ≡ Ok (Some e) → e + 1 ≤ length text
  ended-next e h = let l = (ended-stands h).within in omega (arith, l)

-- An unended line has number 2.
pub unended : (l : List ℕ) → fault2 (record { bytes = l; ended = false }) ≡ true
unfolding fault2
unended l = refl

-- One mark more.
module _ (text : List ℕ) (ags : List Agent) (s s₁ : Sheet) (cs cs₁ ms ms₁ : List ℕ) (m net : Net) (us : List Term) (v : ℕ) where
  pub drafted_more : Drafted text ags s cs ms m → Draft text ags s₁ cs₁ (net_terms net) → net_lines net ≡ net_lines m ++ (us ∷ [])
      → length net.equations ≡ suc (length m.equations) → length m.equations < net_equations_max
      → ms₁ ≡ set ms (suc (length m.equations)) v → v ≡ s₁.names → Drafted text ags s₁ cs₁ ms₁ net
  drafted_more d e el en h em ev =
      let j = length m.equations in
      let p : suc (length m.equations) < length ms = (let z = d.long in omega (arith, z, h)) in
      record {
        draft = e;
        marks =
            ap (λ n. marked ms₁ (suc n)) en
            ∙ tab-snoc (suc (length m.equations)) (λ k. get_or ms₁ k 0)
            ∙ ap₂ (λ l x. l ++ (x ∷ []))
            (tab_cong (suc (length m.equations)) (λ k. get_or ms₁ k 0) (λ k. get_or ms k 0)
            (λ k q. ap (λ l. get_or l k 0) em ∙ get_or-set_other ms (suc (length m.equations)) k v 0 (λ z. omega (arith, q, z))) ∙ d.marks)
            (ap (λ l. get_or l (suc (length m.equations)) 0) em ∙ get_or-set_same ms (suc (length m.equations)) v 0 p ∙ ev ∙ (e.holds []).names.count
            ∙ ap (λ l. length (different l)) (net-names ags net ∙ ap (names_all ags) el))
            ∙ sym (ap (marks_from ags []) el ∙ marks_more ags (net_lines m) us []);
        long = ap length em ∙ length-set ms (suc (length m.equations)) v ∙ d.long;
      }

-- Each way out of a step.
module _ (text : List ℕ) (ags : List Agent) (at f k : ℕ) (r : Result (Option ℕ) Fault) (er : r ≡ next_line text at) (m : Net) where
  pub step-done : (s : Sheet) (cs ms : List ℕ) → r ≡ Ok None → Drafted text ags s cs ms m → Stepped text ags at m (Ok None) s cs ms
  step-done s cs ms h d = (no_line text at er h, d)

  pub step_unended : {g : Fault} → r ≡ Err g → StepFault text ags at m g
  unfolding eq_line refuse
  step_unended {g} h =
      record {
        line = record { bytes = drop at text; ended = false };
        rest = [];
        here = unended_line text at er h;
        faulty = rw (unended (drop at text), unended_fault text at er h);
      }

  module _ (e : ℕ) (h : r ≡ Ok (Some e)) (s s₁ : Sheet) (cs cs₁ ms : List ℕ) (fit : Fit text ags) (d : Drafted text ags s cs ms m) (ef : f ≡ length m.face) (ek : k ≡ length m.equations) where
    -- what the reader of an `eq` line says where it is called
    read : {q : Result ⊤ Fault}
        → ((m : Net) → Stands text at e → Fit text ags → Draft text ags s cs (net_terms m) → f ≡ length m.face → k ≡ length m.equations → EqRead text ags m (between text at e) q s₁ cs₁)
        → EqRead text ags m (between text at e) q s₁ cs₁
    read j = j m (ended-stands text at r er h) fit d.draft ef ek

    pub step-fault : {g : Fault}
        → ((m : Net) → Stands text at e → Fit text ags → Draft text ags s cs (net_terms m) → f ≡ length m.face → k ≡ length m.equations → EqRead text ags m (between text at e) (Err g) s₁ cs₁)
        → StepFault text ags at m g
    step-fault {g} j =
        record { line = ended_line (between text at e); rest = lines (drop (e + 1) text); here = ended_here text at r er h; faulty = (read j).told }

    pub step-next : {u : ⊤}
        → ((m : Net) → Stands text at e → Fit text ags → Draft text ags s cs (net_terms m) → f ≡ length m.face → k ≡ length m.equations → EqRead text ags m (between text at e) (Ok u) s₁ cs₁)
        → k < net_equations_max → (v : ℕ) → v ≡ s₁.names → StepNext text ags at m (e + 1) s₁ cs₁ (set ms (k + 1) v)
    step-next {u} j few v ev =
        let o : EqRead text ags m (between text at e) (Ok u) s₁ cs₁ = read j in
        record {
          line = ended_line (between text at e);
          net = o.net;
          here = ended_here text at r er h;
          fair = o.told;
          drafted =
              drafted_more text ags s s₁ cs cs₁ ms (set ms (k + 1) v) m o.net o.terms v d o.draft o.more o.one
              (omega (arith, few, ek)) (ap (λ i. set ms i v) (let y : k + 1 ≡ suc (length m.equations) = omega (arith, ek) in y)) ev;
          face = o.face;
          one = o.one;
        }

pub moved-next : (text : List ℕ) (at k : ℕ) (r : Result (Option ℕ) Fault) (e : ℕ) → r ≡ next_line text at → r ≡ Ok (Some e) → k < net_equations_max → Moved text at k (Ok (Some (e + 1)))
moved-next text at k r e er h few =
    let st = ended-stands text at r er h in
    let a = st.begins in
    let b = st.within in
    (omega (arith, a), omega (arith, b), few)
