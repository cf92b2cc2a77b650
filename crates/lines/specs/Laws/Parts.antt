-- What entering the names of a line's fields means, where they spell terms.
use Rattle.std.specs.Prelude.{ℕ, zero, suc, ◌+◌, ◌-◌, ◌≤◌, ◌≡◌, Bool, false, List, [], ◌∷◌, length, take, drop}
use Rattle.std.proofs.Common.{sym, ap, ◌∙◌, arith, drop-drop}
use Rattle.std.proofs.Math.Option.{some}
use Rattle.std.proofs.Math.Seq.{take-nil}
use Rattle.parts.specs.Limits.{text_max}
use Rattle.model.specs.Table.{Cell}
use Rattle.texts.specs.Bytes.{Word, any, fields}
use Rattle.texts.specs.Terms.{Term, nodes, words_of}
use Rattle.texts.specs.Books.{Agent, names_of}
use Rattle.texts.specs.RuleText.{terms_of, big_node}
use Rattle.scan.specs.Cutting.{field_start}
use Rattle.scan.specs.Words.{words_in}
use Rattle.terms.specs.Sheet.{Sheet}
use Rattle.terms.specs.Meaning.{Holds, grown}
use Rattle.lines.specs.Names.{between, kept, Ready, Within, Entered}
use Rattle.lines.specs.Laws.Words.{part-words}
use Rattle.lines.specs.Laws.Names.{kept-names, small-words}

pub drop-take : (b m : ℕ) (l : List ℕ) → drop b (take m l) ≡ take (m - b) (drop b l)
drop-take zero m l = let z : m - 0 ≡ m = omega arith in rw z
drop-take (suc b) zero l = let z : 0 - suc b ≡ 0 = omega arith in rw z
drop-take (suc b) (suc m) [] = sym (take-nil (suc m - suc b))
drop-take (suc b) (suc m) (x ∷ l) = let z : suc m - suc b ≡ m - b = omega arith in rw z (drop-take b m l)

-- A line that stands in the text from `at` to `end`.
module _ (text line : List ℕ) (at end : ℕ) (is : line ≡ between text at end) where
  -- its part from a place on
  pub rest_of : (i : ℕ) → between text (at + i) end ≡ drop i line
  rest_of i =
      let z : end - (at + i) ≡ end - at - i = omega arith in
      rw (z, ← drop-drop i at text) (sym (drop-take i (end - at) (drop at text))) ∙ ap (drop i) (sym is)

  module _ (ags : List Agent) (limit : ℕ) (r : Bool) (s s₁ : Sheet) (cs : List Cell) (ws : List Word)
      (h : Holds text s cs ws) (short : length text ≤ text_max) where
    -- the part from field k on
    module _ (k : ℕ) (ts : List Term) (spelt : terms_of (drop k (fields line)) ≡ some ts)
        (small : any big_node (nodes ts) ≡ false) where
      words : words_in (between text (at + field_start line k) end) ≡ words_of (nodes ts)
      words = ap words_in (rest_of (field_start line k)) ∙ part-words line k ts spelt

      ready : Ready text (between text (at + field_start line k) end) s cs ws
      ready = record { holds = h; short = short; small = rw words (small-words (nodes ts) small) }

      -- the names of the terms are entered
      pub names-entered : Entered text ags limit (between text (at + field_start line k) end) r s s₁
          → Within text limit r s₁ cs (grown ws (names_of ags ts))
      names-entered e =
          let q : kept ags (words_in (between text (at + field_start line k) end)) ≡ names_of ags ts = rw words (kept-names ags ts) in
          rw (← q) (e.means cs ws ready)
