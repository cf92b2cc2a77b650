-- The header, number 11 and the whole text: one law for each way out.
use Prim.Native.Nat.{ℕ, suc, ◌+◌, ◌-◌, ◌<◌, ◌≤◌}
use mathlib.Core.Path.{◌≡◌, refl, sym, ap, ◌∙◌}
use mathlib.Core.Bool.{false}
use mathlib.Core.List.{List, ◌∷◌}
use native.Mathlib.Omega.{arith}
use native.Mathlib.Numerals.{add-one}
use lib.ListN.{length, take, drop}
use borrow.Author.Tests.{eq-eqb, ne_eqb, lt-ltb, le-ltb}
use Rattle.parts.specs.Limits.{text_max}
use Rattle.texts.specs.Bytes.{lines, fields, fault2}
use Rattle.texts.specs.Books.{Book, word_rules}
use Rattle.texts.specs.Answers.{OfText, OfLine, need, refuse, fine, after, after_line}
use Rattle.texts.specs.RuleText.{Counts, header_of, header_line, counted, rules_of_lines, read_rules}
use Rattle.texts.specs.Bytes.{ended_line}
use Rattle.scan.specs.Places.{bad_at}
use Rattle.scan.specs.Cutting.{next_line}
use Rattle.scan.specs.Laws.Placing.{bad-fault}
use Rattle.scan.specs.Laws.Cutting.{EndedAt}
use Rattle.scan.proofs.Beneath.Cutting.{ended_line_lem, unended_line, unended_fault, no_line}
use Rattle.std.specs.Prelude as Prelude
use Rattle.std.specs.Prelude.{Some, None, Result, Ok, Err}
use Rattle.parts.specs.Faults.{fault_number}
use Rattle.parts.specs.declared.faults.Fault.{Fault}
use Rattle.parts.specs.declared.faults.Fault.TheVariants.{LongText, BadByte, BadRecord, CountsDiffer}
use Rattle.parts.specs.declared.faults.Refusal.{Refusal}
use Rattle.lines.specs.Fields.{counts_of}
use Rattle.lines.specs.declared.Counts.{Counts as Read}
use Rattle.table.specs.Layout.{rules_in, agents_in, table_bytes}
use Rattle.rule_lines.specs.Laws.{agents-counted, rules-counted}
use Rattle.rules.specs.Answer.{refusal, leaves, leaves_by, rules_read}
use Rattle.rules.specs.Told.{Answer, first, refuses, Told, yes, no, counts, Compared}
use Rattle.rules.proofs.Reading.{answer}

-- number 11
module _ (m n : ℕ) (v : List ℕ) (a c : ℕ) (is : a ≡ length (agents_in v)) (same : c ≡ a) (k d : ℕ) (are : k ≡ rules_in v) (alike : d ≡ k) where
  pub other_agents : (m ≡ c → ⊥) → (q : Refusal) → q ≡ first CountsDiffer → Compared (record { upper = m; lower = n }) (Err q) v
  unfolding counted
  other_agents h q eq = record {
    so =
        λ b e.
        no CountsDiffer 1 (rw (ne_eqb m (length b.agents) (λ q. h (q ∙ sym (same ∙ (is ∙ agents-counted b v e)))))) (ap Err eq);
  }

  module _ (eq : m ≡ c) where
    same_agents : (b : Book) → v ≡ table_bytes b → m ≡ length b.agents
    same_agents b e = eq ∙ (same ∙ (is ∙ agents-counted b v e))

    pub other_rules : (n ≡ d → ⊥) → (q : Refusal) → q ≡ first CountsDiffer → Compared (record { upper = m; lower = n }) (Err q) v
    unfolding counted
    other_rules h q eq = record {
      so =
          λ b e.
          no CountsDiffer 1
          (rw
          (eq-eqb m (length b.agents) (same_agents b e), ne_eqb n (length b.rules) (λ q. h (q ∙ sym (alike ∙ (are ∙ rules-counted b v e))))))
          (ap Err eq);
    }

    pub same_counts : n ≡ d → Compared (record { upper = m; lower = n }) (Ok tt) v
    unfolding counted
    same_counts h = record {
      so =
          λ b e.
          yes b
          (rw (eq-eqb m (length b.agents) (same_agents b e), eq-eqb n (length b.rules) (h ∙ (alike ∙ (are ∙ rules-counted b v e)))))
          refl e;
    }

-- the records, and then number 11
module _ (x : OfText Book) (c : Counts) (r : Answer) (v : List ℕ) (t : Told x r v) where
  pub records-refused : (e : Refusal) → r ≡ Err e → (q : Answer) → q ≡ Err e → Told (after x (counted c)) q v
  unfolding after
  records-refused e h q eq = go t
    where
      go : Told x r v → Told (after x (counted c)) q v
      go (yes b i s m) = absurd (let z : ◌≡◌ {A = ℕ} 0 1 = cc in omega arith)
      go (no f j i s) = no f j (rw i) (eq ∙ (sym h ∙ s))

  pub records_compared : (y : Unit {0}) → r ≡ Ok y → (q : Answer) → Compared c q v → Told (after x (counted c)) q v
  unfolding after
  records_compared y h q p = go t
    where
      go : Told x r v → Told (after x (counted c)) q v
      go (yes b e s m) = rw e (p.so b m)
      go (no f j e s) = absurd (let z : ◌≡◌ {A = ℕ} 0 1 = cc in omega arith)

-- the first line
module _ (text : List ℕ) (e : ℕ) (l : EndedAt text 0 e) (k : List ℕ) (cut : k ≡ take e (drop 0 text))
    (a : ℕ) (bad : a ≡ bad_at k) where
  first_lines : lines text ≡ ended_line k ∷ lines (drop (suc e) text)
  first_lines =
      let z : e - 0 ≡ e = omega arith in
      l.rest ∙ ap (λ s. ended_line s ∷ lines (drop (suc e) text)) (l.bytes ∙ rw (z, cut))

  refused-header : (v : List ℕ) (f : Fault) → header_line word_rules (ended_line k) ≡ OfLine.fault (fault_number f)
      → (q : Refusal) → q ≡ first f → Told (rules_of_lines (lines text)) (Err q) v
  unfolding rules_of_lines after_line
  refused-header v f h q eq = no f 1 (rw (first_lines, h)) (ap Err eq)

  pub header-bad : (v : List ℕ) → a < length k → (q : Refusal) → q ≡ first BadByte → Told (rules_of_lines (lines text)) (Err q) v
  unfolding header_line refuse
  header-bad v h q eq = refused-header v BadByte (rw (bad-fault k, ← bad, lt-ltb a (length k) h)) q eq

  module _ (h : length k ≤ a) (d : Prelude.Option Read) (told : counts_of d ≡ header_of word_rules (fields k)) where
    header-good : header_line word_rules (ended_line k) ≡ need 3 (counts_of d) fine
    unfolding header_line refuse ended_line
    header-good =
        let z : fault2 (ended_line k) ≡ false = bad-fault k ∙ rw (← bad, le-ltb a (length k) h) in
        ap (λ t. refuse 2 t (need 3 (header_of word_rules (fields k)) fine)) z ∙ rw (← told)

    pub header-wrong : (v : List ℕ) → d ≡ None → (q : Refusal) → q ≡ first BadRecord → Told (rules_of_lines (lines text)) (Err q) v
    unfolding need
    header-wrong v w q eq = refused-header v BadRecord (header-good ∙ rw w) q eq

    pub header-counts : (c : Read) → d ≡ Some c → (r : Answer) (v : List ℕ)
        → Told (after (answer text (e + 1)) (counted (counts c))) r v → Told (rules_of_lines (lines text)) r v
    unfolding need rules_of_lines after_line
    header-counts c w r v t =
        let z : header_line word_rules (ended_line k) ≡ fine (counts c) = header-good ∙ rw w in
        rw (first_lines, z, ← add-one e) t

-- the whole text
module _ (text : List ℕ) (r : Result (Prelude.Option ℕ) Fault) (is : r ≡ next_line text 0) where
  pub no_first : (v : List ℕ) → r ≡ Ok None → (q : Refusal) → q ≡ first BadRecord → Told (rules_of_lines (lines text)) (Err q) v
  unfolding rules_of_lines
  no_first v e q eq = no BadRecord 1 (rw (no_line text 0 is e)) (ap Err eq)

  pub first_unended : (v : List ℕ) (f : Fault) → r ≡ Err f → (q : Refusal) → q ≡ first f → Told (rules_of_lines (lines text)) (Err q) v
  unfolding rules_of_lines after_line header_line fault2 refuse
  first_unended v f e q eq = no f 1 (rw (unended_line text 0 is e, unended_fault text 0 is e)) (ap Err eq)

  pub first_ended : (e : ℕ) → r ≡ Ok (Some e) → EndedAt text 0 e
  first_ended e h = ended_line_lem text 0 is h

-- the call
pub too_long-text : (text v : List ℕ) → text_max < length text → leaves (refuses LongText 0) v ≡ rules_read text v
unfolding leaves refusal rules_read leaves_by read_rules
too_long-text text v h = rw (lt-ltb text_max (length text) h)

module _ (text v : List ℕ) (h : length text ≤ text_max) (r : Answer) (u : List ℕ)
    (t : Told (rules_of_lines (lines text)) r u) where
  short-text : read_rules text ≡ rules_of_lines (lines text)
  unfolding read_rules
  short-text = rw (le-ltb text_max (length text) h)

  pub text-refused : (e : Refusal) → r ≡ Err e → (q : Answer) → q ≡ Err e → leaves q v ≡ rules_read text v
  unfolding leaves refusal rules_read leaves_by
  text-refused e er q eq = go t
    where
      go : Told (rules_of_lines (lines text)) r u → leaves q v ≡ rules_read text v
      go (yes b x s m) = absurd (let z : ◌≡◌ {A = ℕ} 0 1 = cc in omega arith)
      go (no f j x s) =
          let p : q ≡ refuses f j = eq ∙ (sym er ∙ s) in
          rw (short-text, x, p)

  pub text-accepted : (y : Unit {0}) → r ≡ Ok y → leaves (Ok tt) u ≡ rules_read text v
  unfolding leaves refusal rules_read leaves_by
  text-accepted y e = go t
    where
      go : Told (rules_of_lines (lines text)) r u → leaves (Ok tt) u ≡ rules_read text v
      go (yes b x s m) = rw (short-text, x, m)
      go (no f j x s) = absurd (let z : ◌≡◌ {A = ℕ} 0 1 = cc in omega arith)
