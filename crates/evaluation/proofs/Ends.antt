-- The answer of an ended sound state: the call is not refused, unless the answer is too long, and what is printed of it.
use Rattle.std.proofs.Common.{ℕ, zero, suc, ◌+◌, ◌≤◌, ◌≡◌, refl, sym, ap, ◌∙◌, subst, Bool, true, false, cond, Result, Ok, Err, List, ◌++◌, arith, leb, length, take, drop, length-take, length-drop, length-append, take_at, leb-true}
use Rattle.model.specs.State.{St}
use Rattle.model.specs.Table.{Table}
use Rattle.texts.specs.Books.{Agent}
use Rattle.table.specs.Layout.{agents_in}
use Rattle.state.specs.Layout.{view}
use Rattle.sound.specs.Lent.{under}
use Rattle.lent.specs.Both.{sound_table_lem, sound-state}
use Rattle.lent.specs.Decided.{where_sound}
use Rattle.answers.specs.Answer.{Answer}
use Rattle.answers.proofs.Main.{bytes-printed}
use Rattle.answers.specs.Printer.{state_answer, answer_bytes}
use Rattle.answers.specs.Printing.{Written, answer_written}
use Rattle.answers.specs.Text.{answer_text}
use Rattle.answer.specs.Called.{Told, number, lines, end_told, Called, given, fitted, called}
use Rattle.answer.specs.Called as Calls
use Rattle.parts.specs.Faults.{fault_number}
use Rattle.parts.specs.declared.faults.Fault.{Fault}
use Rattle.answer.specs.declared.End.{End}
use Rattle.printing.specs.Puts.{Puts, far}
use Rattle.report.specs.Begun.{Begun}
use Rattle.report.specs.Firsts.{word_answer, refusal}
use Rattle.report.specs.Firsts as First
use Rattle.printing.proofs.Stores.{puts_then}
use Rattle.evaluation.specs.Evaluated.{output_max, ending}
use Rattle.evaluation.specs.Printed.{Printed, Endable}
use Rattle.evaluation.proofs.Runs.{begun-printed}

impossible : {A : Type 0} → ◌≡◌ {A = ℕ} 0 1 → A
impossible e = absurd (omega arith)

-- The part of some lines that is printed after the first.
module _ (lines : List ℕ) (h : length lines ≤ output_max) where
  pub part-fits : (a x i : ℕ) (p bs u u' : List ℕ) → p ≡ take x (drop i lines) → Begun bs u a u' → a + length p ≤ far
  part-fits a x i p bs u u' c b =
      omega (arith, b.within, ap length c, length-take x (drop i lines), length-drop i lines, h)

  pub read_way : (made a r : ℕ) (e : End) (p u u₁ u₂ : List ℕ) → p ≡ take e.length (drop 0 lines)
      → Begun (First.ended made e.loops e.stuck e.knot) u a u₁ → Puts p a u₁ r u₂
      → Printed (First.ended made e.loops e.stuck e.knot ++ take e.length lines) u r u₂
  read_way made a r e p u u₁ u₂ c b t =
      record {
        puts = subst (λ x. Puts (First.ended made e.loops e.stuck e.knot ++ x) 0 u r u₂) c (puts_then b.puts t);
        within = omega (arith, b.within, t.place, ap length c, length-take e.length lines, h);
      }

-- What a call that reads an end has found: the lines W of a state s, in an output that was o and is o'.
record Found (s : St) (W : Written) (o o' : List ℕ) (e : End) : Type 0 where
  fits : leb (length W.bytes) output_max ≡ true
  low : length W.bytes ≤ output_max
  size : e.length ≡ length W.bytes
  loops : e.loops ≡ s.loops
  stuck : e.stuck ≡ s.stuck.used
  knot : e.knot ≡ W.after.left
  lines : o' ≡ W.bytes ++ drop (length W.bytes) o

module _ (s : St) (W : Written) (o o' : List ℕ) (long : length o ≡ output_max) where
  abbrev fits : Called
  fits = given (lines (length W.bytes) s.loops s.stuck.used W.after.left) (W.bytes ++ drop (length W.bytes) o)

  found : (d : End) → given (end_told (Ok d)) o' ≡ fitted s W o → Found s W o o' d
  unfolding fitted
  found d e = go (leb (length W.bytes) (length o)) refl e
    where
      go : (t : Bool) → leb (length W.bytes) (length o) ≡ t → given (end_told (Ok d)) o' ≡ cond t fits (given (number 15) o) → Found s W o o' d
      go true c e =
          let a : end_told (Ok d) ≡ lines (length W.bytes) s.loops s.stuck.used W.after.left = ap (λ x. x.told) e in
          record {
            fits = ap (leb (length W.bytes)) (sym long) ∙ c;
            low = leb-true (length W.bytes) output_max (ap (leb (length W.bytes)) (sym long) ∙ c);
            size = cc;
            loops = cc;
            stuck = cc;
            knot = cc;
            lines = ap (λ x. x.out) e;
          }
      go false c e = let a : end_told (Ok d) ≡ number 15 = ap (λ x. x.told) e in impossible (cc)

  found-fit : {d : End} → Found s W o o' d → length o' ≤ output_max
  found-fit f =
      omega (arith, ap length f.lines, length-append W.bytes (drop (length W.bytes) o), length-drop (length W.bytes) o, f.low, long)

  -- It is refused for nothing but a long answer.
  record Long (f : Fault) : Type 0 where
    number_is : fault_number f ≡ 15
    longer : leb (length W.bytes) output_max ≡ false

  too_long : (f : Fault) → given (end_told (Err f)) o' ≡ fitted s W o → Long f
  unfolding fitted
  too_long f e = go (leb (length W.bytes) (length o)) refl e
    where
      go : (t : Bool) → leb (length W.bytes) (length o) ≡ t → given (end_told (Err f)) o' ≡ cond t fits (given (number 15) o) → Long f
      go true c e =
          let a : number (fault_number f) ≡ lines (length W.bytes) s.loops s.stuck.used W.after.left = ap (λ x. x.told) e in
          impossible (cc)
      go false c e =
          let a : number (fault_number f) ≡ number 15 = ap (λ x. x.told) e in
          record { number_is = cc; longer = ap (leb (length W.bytes)) (sym long) ∙ c }

-- The answer of a state has its loops and its stuck pairs.
loops_of : (T : Table) (s : St) → s.loops ≡ (state_answer T s).loops
unfolding state_answer
loops_of T s = refl

stuck_of : (T : Table) (s : St) → s.stuck.used ≡ (state_answer T s).stuck
unfolding state_answer
stuck_of T s = refl

ending_is : (ags : List Agent) (made : ℕ) (A : Answer) (n k m : ℕ) (p : List ℕ)
    → leb (length (answer_text ags A)) output_max ≡ true → n ≡ A.loops → k ≡ A.stuck → m ≡ A.knot → p ≡ answer_text ags A
    → ending ags made A ≡ First.ended made n k m ++ p
unfolding ending
ending_is ags made A n k m p f a b c d = rw (f, a, b, c, d)

module _ (w v o o' : List ℕ) (h : Endable w v) (long : length o ≡ output_max) (g : Result End Fault) (e : given (end_told g) o' ≡ called w v o) where
  called_is : called w v o ≡ fitted (view v) (answer_written (agents_in w) (under w) (view v)) o
  unfolding called Calls.ended
  called_is = where_sound w v _ _ h.sound ∙ go (view v).waiting.used h.waits
    where
      go : (n : ℕ) → n ≡ 0
          → elim n as (λ _. Called) [
            | zero ↦ fitted (view v) (answer_written (agents_in w) (under w) (view v)) o
            | suc n ↦ given (number 14) o
          ] ≡ fitted (view v) (answer_written (agents_in w) (under w) (view v)) o
      go zero z = refl
      go (suc n) z = absurd (omega arith)

  fitted_is : given (end_told g) o' ≡ fitted (view v) (answer_written (agents_in w) (under w) (view v)) o
  fitted_is = e ∙ called_is

  text_is : (answer_written (agents_in w) (under w) (view v)).bytes ≡ answer_text (agents_in w) (state_answer (under w) (view v))
  unfolding answer_bytes
  text_is = (bytes-printed (sound_table_lem h.sound) (agents_in w) (sound-state h.sound) h.waits).0

  knot_is : (answer_written (agents_in w) (under w) (view v)).after.left ≡ (state_answer (under w) (view v)).knot
  knot_is = (bytes-printed (sound_table_lem h.sound) (agents_in w) (sound-state h.sound) h.waits).1

  -- The lines after the first, by the first bytes of what the call left.
  module _ (d : End) (q : g ≡ Ok d) where
    here : Found (view v) (answer_written (agents_in w) (under w) (view v)) o o' d
    here =
        found (view v) (answer_written (agents_in w) (under w) (view v)) o o' long d (ap (λ x. given (end_told x) o') (sym q) ∙ fitted_is)

    part_is : take d.length o' ≡ answer_text (agents_in w) (state_answer (under w) (view v))
    part_is = ap (λ x. take x o') here.size ∙ ap (take (length W)) here.lines ∙ take_at W _ (length W) refl ∙ text_is
      where
        W : List ℕ
        W = (answer_written (agents_in w) (under w) (view v)).bytes

    whole : (made : ℕ)
        → ending (agents_in w) made (state_answer (under w) (view v)) ≡ First.ended made d.loops d.stuck d.knot ++ take d.length o'
    whole made =
        ending_is (agents_in w) made (state_answer (under w) (view v)) d.loops d.stuck d.knot (take d.length o')
        (ap (λ x. leb (length x) output_max) (sym text_is) ∙ here.fits)
        (here.loops ∙ loops_of (under w) (view v))
        (here.stuck ∙ stuck_of (under w) (view v))
        (here.knot ∙ knot_is)
        part_is

    pub lines_fit : length o' ≤ output_max
    lines_fit = found-fit (view v) (answer_written (agents_in w) (under w) (view v)) o o' long here

    pub end_read : (made r : ℕ) (u u₁ : List ℕ) → Printed (First.ended made d.loops d.stuck d.knot ++ take d.length o') u r u₁
        → Printed (ending (agents_in w) made (state_answer (under w) (view v))) u r u₁
    end_read made r u u₁ p = subst (λ x. Printed x u r u₁) (sym (whole made)) p

  pub end_long : (made n₀ n r : ℕ) (u u₁ : List ℕ) (f : Fault) → g ≡ Err f → n₀ ≡ fault_number f → n ≡ n₀ → Begun (refusal word_answer n 0) u r u₁
      → Printed (ending (agents_in w) made (state_answer (under w) (view v))) u r u₁
  unfolding ending
  end_long made n₀ n r u u₁ f q y z b =
      let l = too_long (view v) (answer_written (agents_in w) (under w) (view v)) o o' long f (ap (λ x. given (end_told x) o') (sym q) ∙ fitted_is) in
      let t = ap (λ x. leb (length x) output_max) (sym text_is) ∙ l.longer in
      rw t (begun-printed (subst (λ m. Begun (refusal word_answer m 0) u r u₁) (z ∙ y ∙ l.number_is) b))
