-- The marks of a net's lines, and why the first loose name and the marks give the line of number 8.
use Rattle.std.specs.Prelude.{ℕ, suc, ◌+◌, ◌<◌, ◌≡◌, Bool, cond, false, List, [], length, ltb}
use Rattle.std.proofs.Math.Option.{none, some}
use Rattle.texts.specs.Bytes.{any, different}
use Rattle.texts.specs.Terms.{nodes}
use Rattle.texts.specs.Books.{Agent, Net, names_of, net_terms}
use Rattle.texts.specs.RuleText.{word_at, wrong_args}
use Rattle.texts.specs.NetText.{loose, loose_line, net_lines}
use Rattle.texts.specs.Coded.{packed, codes, cells_from, net_number}
use Rattle.terms.specs.Sheet.{Sheet}
use Rattle.loading.specs.OnSheet.{cells_on, face_on}
use Rattle.twice.specs.Counting.{loose_on, first_loose, passed}
use Rattle.twice.specs.Marks.{marks_from}
use Rattle.twice.specs.Proofs.Lines as Lines
use Rattle.twice.specs.Proofs.Stands as Stands

-- The codes and the cells of a net whose argument counts are right: a name's number is loose exactly if the name is.
pub loose_is : (ags : List Agent) (m : Net) (s : Sheet) (ws : List ℕ) (n : ℕ) → any (wrong_args ags) (nodes (net_terms m)) ≡ false
    → face_on ws n ≡ codes ags (net_number ags m) 0 (packed (net_terms m)) → cells_on ags s ≡ cells_from ags (net_number ags m) 0 (packed (net_terms m))
    → (k : ℕ) → k < length (different (names_of ags (net_terms m)))
    → loose_on ags s ws n k ≡ loose (names_of ags (net_terms m)) (word_at k (different (names_of ags (net_terms m))))
loose_is ags m s ws n ok ec ek k h = Stands.loose_is ags m s ws n ok ec ek k h

-- "the line where the earliest offending name first occurs": the lines whose mark does not pass the first loose name stand before it.
pub loose_line_lem : (ags : List Agent) (m : Net) (p : ℕ → Bool)
    → ((k : ℕ) → k < length (different (names_of ags (net_terms m))) → p k ≡ loose (names_of ags (net_terms m)) (word_at k (different (names_of ags (net_terms m)))))
    → let x = first_loose p 0 (length (different (names_of ags (net_terms m)))) in
    let j = passed x (marks_from ags [] (net_lines m)) in
    loose_line ags (names_of ags (net_terms m)) 2 (net_lines m) ≡ cond (ltb j (suc (length m.equations))) (some (2 + j)) none
loose_line_lem ags m p e = Lines.loose_line_lem ags m p e
