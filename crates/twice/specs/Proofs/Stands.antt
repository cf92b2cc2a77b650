-- A name stands among the codes and the arguments as often as in the text.
use Rattle.std.specs.Prelude.{ℕ, ◌+◌, ◌<◌, ◌≡◌, false, List, length, eqb}
use Rattle.std.proofs.Common.{◌∙◌, arith}
use Rattle.std.proofs.Math.Path.{ap, ap₂}
use Rattle.std.proofs.Math.Bool.{not}
use Rattle.parts.specs.Sides.{name}
use Rattle.texts.specs.Bytes.{Word, any, same, times, different, index_of}
use Rattle.texts.specs.Terms.{nodes}
use Rattle.texts.specs.Books.{Agent, Net, cells_of, names_of, net_terms}
use Rattle.texts.specs.RuleText.{word_at, wrong_args}
use Rattle.texts.specs.NetText.{loose}
use Rattle.texts.specs.Coded.{packed, codes, cells_from, net_number}
use Rattle.texts.specs.TableTest.{tally, same_side, args_all}
use Rattle.texts.proofs.Beneath.Linear.{code-count}
use Rattle.texts.proofs.Beneath.Places.{index_all, different-distinct}
use Rattle.texts.proofs.Beneath.Templates.{tally_ext, cell_none, name-cell, name-name}
use Rattle.terms.specs.Sheet.{Sheet}
use Rattle.loading.specs.OnSheet.{cells_on, face_on}
use Rattle.twice.specs.Counting.{stands_on, loose_on}

module _ (ags : List Agent) (m : Net) (s : Sheet) (ws : List ℕ) (n : ℕ) (ok : any (wrong_args ags) (nodes (net_terms m)) ≡ false)
    (ec : face_on ws n ≡ codes ags (net_number ags m) 0 (packed (net_terms m))) (ek : cells_on ags s ≡ cells_from ags (net_number ags m) 0 (packed (net_terms m)))
    (k : ℕ) (h : k < length (different (names_of ags (net_terms m)))) where
  abbrev ds : List Word
  ds = different (names_of ags (net_terms m))

  by_name : tally (λ w. same_side (name k) (name (net_number ags m w))) (names_of ags (net_terms m)) ≡ tally (same (word_at k ds)) (names_of ags (net_terms m))
  unfolding net_number
  by_name =
      tally_ext (λ w. same_side (name k) (name (index_of w ds))) (same (word_at k ds)) (names_of ags (net_terms m))
      (λ w i. name-name k (index_of w ds) ∙ index_all ds k w h (different-distinct (names_of ags (net_terms m))))

  stands : stands_on ags s ws n k ≡ times (word_at k ds) (names_of ags (net_terms m))
  unfolding stands_on times tally
  stands =
      let p = same_side (name k) in
      let c = code-count ags (net_number ags m) (same_side (name k)) (net_terms m) 0 ok in
      let z = cell_none (same_side (name k)) (length (cells_of ags (net_terms m))) 0 (λ j l i. (name-cell k j).0) in
      let b = by_name in
      ap₂ (λ x y. tally (same_side (name k)) x + tally (same_side (name k)) (args_all y)) ec ek ∙ c ∙ omega (arith, z, b)

  pub loose_is : loose_on ags s ws n k ≡ loose (names_of ags (net_terms m)) (word_at k ds)
  unfolding loose_on loose
  loose_is = ap (λ x. not (eqb x 2)) stands
