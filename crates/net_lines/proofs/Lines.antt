-- The loops and the small tests of a line.
use Rattle.std.specs.Prelude.{◌≡◌, ℕ, suc, ◌+◌, ◌-◌, ◌*◌, ◌<◌, ◌≤◌, Bool, true, false, List, [], ◌∷◌, ◌++◌, length, take, drop, Ok, Err}
use Rattle.std.proofs.Common.{refl, sym, ap, ap₂, ◌∙◌, arith, append_assoc, length-take, length-take-le}
use Rattle.std.proofs.lemmas.List.Edits.{sets-eq}
use borrow.Rule.Slice.PartMut.{put_mid, Post-is}
use mir.Syntax.{w64}
use mir.Val.{Fits}
use Rattle.parts.specs.Limits.{rule_equations_max, face_max, net_equations_max}
use Rattle.parts.specs.declared.faults.Fault.TheVariants.{WrongArguments}
use Rattle.texts.specs.Bytes.{fields}
use Rattle.texts.specs.Books.{Agent}
use Rattle.texts.proofs.Beneath.Tools.{never}
use Rattle.scan.specs.Cutting.{field_start}
use Rattle.scan.proofs.Beneath.Cutting.{count-cons, start_le}
use Rattle.terms.specs.Sheet.{Sheet}
use Rattle.lines.specs.Names.{between}
use Rattle.line_terms.specs.Fields.{ran, fields_by}
use Rattle.net_lines.specs.Taking.{put, Numbered}

some_field : (l : List ℕ) → 1 ≤ length (fields l)
unfolding fields
some_field [] = omega arith
some_field (b ∷ bs) = omega (arith, count-cons b bs, some_field bs)

pub one_first : (l : List ℕ) (n : ℕ) → n ≡ length (fields l) → 1 ≤ n
one_first l n e = let q = some_field l in omega (arith, q)

pub after_first : (l : List ℕ) (n : ℕ) → n ≡ length (fields l) → suc (n - 1) ≡ length (fields l)
after_first l n e = let q = some_field l in omega (arith, q)

pub put_is : (cs ys new : List ℕ) (used n : ℕ) → ys ≡ take n new → n ≤ length new → used + n ≤ length cs → put_mid used (used + n - used) cs ys ≡ put cs used n new
put_is cs ys new used n e m r =
    let k : length (take n new) ≡ n = length-take-le n new m in
    ap₂ (λ x y. take used cs ++ (x ++ y)) e (Post-is used (used + n) cs (omega arith) ∙ ap (λ j. drop (used + j) cs) (sym k))
    ∙ sym (append_assoc (take used cs) (take n new) (drop (used + length (take n new)) cs))
    ∙ sym (sets-eq (take n new) cs used (omega (arith, k)))

-- The terms of a line taken.
module _ (text : List ℕ) (ags : List Agent) (from to n : ℕ) (s : Sheet) (cs : List ℕ) (used : ℕ) (r : Bool) (s₁ : Sheet) (cs₁ old new : List ℕ)
    (wide : length old ≡ 2 * rule_equations_max) (e : ran r s₁ new ≡ fields_by text ags to n 0 from s old) where
  pub took_all : r ≡ true → cs₁ ≡ put cs used n new → Numbered text ags from to n s cs used (Ok Prim.tt) s₁ cs₁
  took_all t p = record { number = Prim.tt; took = record { old = old; new = new; wide = wide; reads = ap (λ b. ran b s₁ new) (sym t) ∙ e; puts = λ z. p } }

  pub took_none : r ≡ false → Numbered text ags from to n s cs used (Err WrongArguments) s₁ cs₁
  took_none t = record { number = refl; took = record { old = old; new = new; wide = wide; reads = ap (λ b. ran b s₁ new) (sym t) ∙ e; puts = λ z. never z } }

-- Where the fields after the first begin.
module _ (text line : List ℕ) (at end f : ℕ) (is : line ≡ between text at end) (ef : f ≡ field_start line 1) (h : at ≤ end) where
  pub from_le : at + f ≤ end
  from_le =
      let a = start_le line 1 in let b = ap length is in let d = length-take (end - at) (drop at text) in
      omega (arith, a, b, d)

  pub from-fits : end ≤ length text → Fits w64 (length text) → Fits w64 (at + f)
  from-fits k z = let l = from_le in omega (arith, l, z)

-- What is asked where the line's terms are taken.
module _ (text line : List ℕ) (at end n : ℕ) (is : line ≡ between text at end) (e : suc n ≡ length (fields line)) where
  pub line-narrow : (most : ℕ) → length (fields (between text at end)) ≤ suc most → n ≤ most
  line-narrow most h = let b = ap (λ l. length (fields l)) is in omega (arith, h, b)

  pub line-room : (used most : ℕ) → used + length (fields (between text at end)) ≤ suc most → used + n ≤ most
  line-room used most h = let b = ap (λ l. length (fields l)) is in omega (arith, h, b)

module _ (text line : List ℕ) (at end : ℕ) (is : line ≡ between text at end) where
  pub few-fields : (n : ℕ) → suc n ≡ length (fields line) → n ≤ face_max → length (fields (between text at end)) ≤ suc face_max
  few-fields n e h = let b = ap (λ l. length (fields l)) is in omega (arith, b, e, h)

  pub face-narrow : (n : ℕ) → suc n ≡ length (fields line) → n ≤ face_max → length (fields (between text at end)) ≤ suc (2 * rule_equations_max)
  face-narrow n e h = let b = ap (λ l. length (fields l)) is in omega (arith, b, e, h)

  pub face-room : (n : ℕ) → suc n ≡ length (fields line) → n ≤ face_max → 0 + length (fields (between text at end)) ≤ suc (face_max + 2 * net_equations_max)
  face-room n e h = let b = ap (λ l. length (fields l)) is in omega (arith, b, e, h)

  pub eq-narrow : length (fields line) ≡ 3 → length (fields (between text at end)) ≤ suc (2 * rule_equations_max)
  eq-narrow c = let b = ap (λ l. length (fields l)) is in omega (arith, b, c)

  pub eq-room : (f k : ℕ) → length (fields line) ≡ 3 → f ≤ face_max → k < net_equations_max → f + 2 * k + length (fields (between text at end)) ≤ suc (face_max + 2 * net_equations_max)
  eq-room f k c h q = let b = ap (λ l. length (fields l)) is in omega (arith, b, c)
