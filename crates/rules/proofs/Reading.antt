-- The loop over the lines: what it has shown after some of them, and one law for each way on and out.
use Prim.Native.Nat.{ℕ, suc, ◌+◌, ◌-◌, ◌<◌, ◌≤◌}
use mathlib.Core.Path.{◌≡◌, refl, sym, ap, ◌∙◌}
use mathlib.Core.Bool.{false}
use mathlib.Core.List.{List, [], ◌∷◌}
use native.Mathlib.Numerals.{add-one}
use native.Mathlib.Omega.{arith}
use lib.ListN.{length, take, drop, length-take}
use Rattle.parts.specs.Limits.{text_max}
use Rattle.texts.specs.Bytes.{lines, fault2}
use Rattle.texts.specs.Books.{Book, no_book}
use Rattle.texts.specs.Answers.{OfText, refused, fault, refuse, read_lines}
use Rattle.texts.specs.Coded.{table_of}
use Rattle.texts.specs.RuleText.{rule_line}
use Rattle.texts.specs.Good.{GoodBook}
use Rattle.texts.specs.Bytes.{ended_line}
use Rattle.texts.proofs.Beneath.Reading.{read-fine, read-fault}
use Rattle.scan.specs.Cutting.{next_line}
use Rattle.scan.proofs.Beneath.Cutting.{ended_line_lem, unended_line, unended_fault as unended_number, no_line}
use Rattle.table.specs.Layout.{bytes_of, table_bytes}
use Rattle.table.specs.Put.{no_table}
use Rattle.rules.specs.Told.{Told, refuses, yes, no}
use Rattle.rule_lines.specs.Judged.{Judged, passed, failed}
use Rattle.rules.specs.Lines.{Stands, LineJudged}
use Rattle.std.specs.Prelude.{Option, Some, None, Result, Ok, Err}
use Rattle.parts.specs.Faults.{fault_number, number_told}
use Rattle.parts.specs.declared.faults.Fault.{Fault}
use Rattle.coding.specs.Laws.Numbers.{fault_some}
use Rattle.rules.proofs.Goods.{good-next, good_none}

-- number 2 on a line that has not ended
unended_fault : (b : Book) (l : List ℕ) → rule_line b (record { bytes = l; ended = false }) ≡ fault 2
unfolding rule_line fault2 refuse
unended_fault b l = refl

-- the lines from `from` on, as the reader answers for them
abbrev pub answer : List ℕ → ℕ → OfText Book
answer text from = read_lines rule_line 2 no_book (lines (drop from text))

-- the table is that of a good book, and line k at place `at` is the next to be read over it
pub record Reading (text : List ℕ) (from : ℕ) (table : List ℕ) (at k : ℕ) : Type 0 where
  pub book : Book
  pub good : GoodBook book
  pub bytes : table ≡ table_bytes book
  pub rest : answer text from ≡ read_lines rule_line k book (lines (drop at text))
  pub within : at ≤ length text
  pub numbered : k ≤ 2 + at

pub reading_none : (text : List ℕ) (from : ℕ) (table : List ℕ) → from ≤ length text → table ≡ bytes_of no_table
    → Reading text from table from 2
unfolding table_bytes table_of
reading_none text from table h e = record {
  book = no_book;
  good = good_none;
  bytes = e;
  rest = refl;
  within = h;
  numbered = omega arith;
}

module _ (text : List ℕ) (from : ℕ) (table : List ℕ) (at k : ℕ) (s : Reading text from table at k) where
  module _ (r : Result (Option ℕ) Fault) (is : r ≡ next_line text at) where
    pub reading_end : r ≡ Ok None → Told (answer text from) (Ok tt) table
    unfolding read_lines
    reading_end e = yes s.book (s.rest ∙ rw (no_line text at is e)) refl s.bytes

    pub reading_unended : (f : Fault) → r ≡ Err f → Told (answer text from) (refuses f k) table
    reading_unended f e =
        no f k
        (s.rest
        ∙ (ap (read_lines rule_line k s.book) (unended_line text at is e)
        ∙ (read-fault rule_line k 2 s.book _ [] (unended_fault s.book (drop at text))
        ∙ ap (λ (i : ℕ). refused i k) (sym (ap fault_number (unended_number text at is e))))))
        refl

    module _ (e : ℕ) (ended : r ≡ Ok (Some e)) where
      pub end_begins : at ≤ e
      end_begins = (ended_line_lem text at is ended).begins

      -- the next line begins further on, and its number fits
      pub end_fits : length text ≤ text_max → e + 1 < 18446744073709551616
      end_fits short = omega (arith, (ended_line_lem text at is ended).within)

      pub end_less : length text ≤ text_max → length text - (e + 1) < length text - at
      end_less short = omega (arith, (ended_line_lem text at is ended).within, end_begins)

      pub number_fits : length text ≤ text_max → k + 1 < 18446744073709551616
      number_fits short = omega (arith, s.numbered, s.within)

      pub line-stands : length text ≤ text_max → (l : List ℕ) → l ≡ take (e - at) (drop at text) → Stands l table
      line-stands short l cut = record {
        given = (s.book, s.good, s.bytes);
        short =
            let p = ended_line_lem text at is ended in
            let z : length (take (e - at) (drop at text)) < text_max =
            omega (arith, length-take (e - at) (drop at text), p.within) in
            rw cut z;
      }

      -- the line itself, and those after it
      next-lines : lines (drop at text) ≡ ended_line (take (e - at) (drop at text)) ∷ lines (drop (suc e) text)
      next-lines = let l = ended_line_lem text at is ended in l.rest ∙ rw l.bytes

      module _ (l : List ℕ) (cut : l ≡ take (e - at) (drop at text)) (u : List ℕ) (m : Result (Unit {0}) Fault)
          (j : LineJudged table u (ended_line l) (number_told m)) where
        line-lines : lines (drop at text) ≡ ended_line l ∷ lines (drop (suc e) text)
        line-lines = rw cut next-lines

        pub reading_bad : (f : Fault) → m ≡ Err f → Told (answer text from) (refuses f k) u
        reading_bad f h = go (j.so s.book s.good s.bytes)
          where
            go : Judged table u (rule_line s.book (ended_line l)) (number_told m) → Told (answer text from) (refuses f k) u
            go (passed z b g t) = absurd (fault_some f (sym (ap number_told h) ∙ z))
            go (failed z g t) =
                no f k
                (s.rest
                ∙ (ap (read_lines rule_line k s.book) line-lines
                ∙ (read-fault rule_line k (number_told m) s.book _ _ g ∙ ap (λ (i : ℕ). refused i k) (ap number_told h))))
                refl

        pub reading_more : (x : Unit {0}) → m ≡ Ok x → Reading text from u (e + 1) (k + 1)
        reading_more x h = go (j.so s.book s.good s.bytes)
          where
            go : Judged table u (rule_line s.book (ended_line l)) (number_told m) → Reading text from u (e + 1) (k + 1)
            go (failed z f t) = absurd (z (ap number_told h))
            go (passed z b f t) =
                let p = ended_line_lem text at is ended in
                record {
                  book = b;
                  good = good-next s.book b _ s.good f;
                  bytes = t;
                  rest =
                      s.rest
                      ∙ (ap (read_lines rule_line k s.book) line-lines
                      ∙ rw (add-one e, add-one k) (read-fine rule_line k s.book b _ _ f));
                  within = omega (arith, p.within);
                  numbered = omega (arith, s.numbered, p.begins);
                }
