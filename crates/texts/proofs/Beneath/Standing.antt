-- Where each name of a coded rule stands, and how often it is then to occur.
use Rattle.std.specs.Prelude.{ℕ, ◌+◌, ◌*◌, ◌-◌, ◌<◌, ◌≤◌, ◌≡◌, List, ◌++◌, map}
use Rattle.std.proofs.Common.{sym, ap, ◌∙◌, inl, inr, arith}
use Rattle.std.proofs.Math.Decide.{dec_lt}
use Rattle.parts.specs.Limits.{arity_max}
use Rattle.calculus.specs.Terms.{Eqn, eqs_names, δ, count}
use Rattle.calculus.proofs.Beneath.Count.{sum-append}
use Rattle.model.specs.Table.{Entry}
use Rattle.model.specs.State.{from}
use Rattle.model.proofs.Beneath.Froms.{from_out, from_in}
use Rattle.texts.specs.Books.{Agent}
use Rattle.texts.specs.Coded.{second_from, new_from, arity_at}
use Rattle.texts.proofs.Beneath.Clauses.{Place, on_left, on_right, is_new}
use Rattle.texts.proofs.Beneath.Wires.{Wire, eqn_of, ends, ends-names, Arg, Once}

module _ (ags : List Agent) (few : (n : ℕ) → arity_at ags n ≤ arity_max) (e : Entry) where
  abbrev a : ℕ
  a = arity_at ags e.left

  abbrev b : ℕ
  b = arity_at ags e.right

  -- the names of the rule: each argument once, each new name twice
  abbrev pub right_names : List ℕ
  right_names = from 0 a ++ (from second_from b ++ (from new_from e.fresh ++ from new_from e.fresh))

  pub counts : (x : ℕ) → count x right_names ≡ count x (from 0 a) + count x (from second_from b) + 2 * count x (from new_from e.fresh)
  counts x =
      let p = sum-append (δ x) (from 0 a) (from second_from b ++ (from new_from e.fresh ++ from new_from e.fresh)) in
      let q = sum-append (δ x) (from second_from b) (from new_from e.fresh ++ from new_from e.fresh) in
      let r = sum-append (δ x) (from new_from e.fresh) (from new_from e.fresh) in
      omega (arith, p, q, r)

  -- where a number is
  pub data Where (x : ℕ) : Type 0 where
    inside : Place ags e x → Where x
    outside : a ≤ x → (second_from ≤ x → second_from + b ≤ x) → (new_from ≤ x → new_from + e.fresh ≤ x) → Where x

  pub find : (x : ℕ) → Where x
  find x = go (dec_lt x a) (dec_lt x second_from) (dec_lt x (second_from + b)) (dec_lt x new_from) (dec_lt x (new_from + e.fresh))
    where
      go : Dec (x < a) → Dec (x < second_from) → Dec (x < second_from + b) → Dec (x < new_from) → Dec (x < new_from + e.fresh) → Where x
      go (yes l) q r s t = inside (on_left l)
      go (no l) (no m) (yes n) s t = inside (on_right (x - second_from) (omega (arith, m)) (omega (arith, m, n)))
      go (no l) (yes m) r s t = outside (omega (arith, l)) (λ o. absurd (omega (arith, o, m))) (λ o. absurd (omega (arith, o, m)))
      go (no l) (no m) (no n) (no o) (yes p) = inside (is_new (x - new_from) (omega (arith, o)) (omega (arith, o, p)))
      go (no l) (no m) (no n) (yes o) t = outside (omega (arith, l)) (λ i. omega (arith, n)) (λ i. absurd (omega (arith, i, o)))
      go (no l) (no m) (no n) (no o) (no p) = outside (omega (arith, l)) (λ i. omega (arith, n)) (λ i. omega (arith, p))

  -- how often, by place
  unfoldable pub often : {x : ℕ} → Place ags e x → ℕ
  often (on_left l) = 1
  often (on_right j z l) = 1
  often (is_new k z l) = 2

  pub place-counts : (x : ℕ) (p : Place ags e x) → (count x right_names ≡ often p) × (count x (from 0 a) + count x (from second_from b) + count x (from new_from e.fresh) ≡ 1)
  unfolding often
  place-counts x (on_left l) =
      let f = few e.left in
      let p = from_in a 0 x (omega arith) (omega (arith, l)) in
      let q = from_out b second_from x (λ o. absurd (omega (arith, o, l, f))) in
      let r = from_out e.fresh new_from x (λ o. absurd (omega (arith, o, l, f))) in
      let c = counts x in
      (omega (arith, c, p, q, r), omega (arith, p, q, r))
  place-counts x (on_right j z l) =
      let f = few e.left in
      let g = few e.right in
      let p = from_out a 0 x (λ o. omega (arith, z, f)) in
      let q = from_in b second_from x (omega (arith, z)) (omega (arith, z, l)) in
      let r = from_out e.fresh new_from x (λ o. absurd (omega (arith, o, z, l, g))) in
      let c = counts x in
      (omega (arith, c, p, q, r), omega (arith, p, q, r))
  place-counts x (is_new k z l) =
      let f = few e.left in
      let g = few e.right in
      let p = from_out a 0 x (λ o. omega (arith, z, f)) in
      let q = from_out b second_from x (λ o. omega (arith, z, g)) in
      let r = from_in e.fresh new_from x (omega (arith, z)) (omega (arith, z, l)) in
      let c = counts x in
      (omega (arith, c, p, q, r), omega (arith, p, q, r))

  pub out-counts : (x : ℕ) → a ≤ x → (second_from ≤ x → second_from + b ≤ x) → (new_from ≤ x → new_from + e.fresh ≤ x)
      → (count x (from 0 a) ≡ 0) × (count x (from second_from b) ≡ 0) × (count x (from new_from e.fresh) ≡ 0)
  out-counts x h k l = (from_out a 0 x (λ o. omega (arith, h)), from_out b second_from x k, from_out e.fresh new_from x l)

  pub once : (x : ℕ) → count x (from 0 a ++ (from second_from b ++ from new_from e.fresh)) ≤ 1
  once x =
      let p = sum-append (δ x) (from 0 a) (from second_from b ++ from new_from e.fresh) in
      let q = sum-append (δ x) (from second_from b) (from new_from e.fresh) in
      go (find x) p q
    where
      go : Where x → count x (from 0 a ++ (from second_from b ++ from new_from e.fresh)) ≡ count x (from 0 a) + count x (from second_from b ++ from new_from e.fresh)
          → count x (from second_from b ++ from new_from e.fresh) ≡ count x (from second_from b) + count x (from new_from e.fresh)
          → count x (from 0 a ++ (from second_from b ++ from new_from e.fresh)) ≤ 1
      go (inside i) p q = let z = (place-counts x i).1 in omega (arith, p, q, z)
      go (outside h k l) p q = let z = out-counts x h k l in let u = z.0 in let v = z.1 in let w = z.2 in omega (arith, p, q, u, v, w)

  -- a rule of wires alone
  pub wired : (es : List Eqn) → e.left ≡ e.right → e.fresh ≡ 0 → ((x : ℕ) → count x (eqs_names es) ≡ count x right_names) → (ws : List Wire) → es ≡ map eqn_of ws
      → ((x : ℕ) → 0 < count x (ends ws) → Arg a (few e.left) x) × Once (ends ws)
  wired es same none_new c ws w = (
    λ x k. go x (find x) (let z = c x in let y = n x in omega (arith, k, z, y)),
    λ x. at x (find x) (c x) (n x),
  )
    where
      n : (x : ℕ) → count x (eqs_names es) ≡ count x (ends ws)
      n x = ap (λ l. count x (eqs_names l)) w ∙ ap (count x) (ends-names ws)

      equal : b ≡ a
      equal = ap (arity_at ags) (sym same)

      go : (x : ℕ) → Where x → 0 < count x right_names → Arg a (few e.left) x
      go x (inside (on_left l)) k = inl l
      go x (inside (on_right j z l)) k = inr (omega (arith, z), omega (arith, z, l, equal))
      go x (inside (is_new i z l)) k = absurd (omega (arith, l, none_new))
      go x (outside h i l) k = let z = out-counts x h i l in let u = z.0 in let v = z.1 in let y = z.2 in let q = counts x in absurd (omega (arith, k, q, u, v, y))

      at : (x : ℕ) → Where x → count x (eqs_names es) ≡ count x right_names → count x (eqs_names es) ≡ count x (ends ws) → count x (ends ws) ≤ 1
      at x (inside p) i j =
          let u = (place-counts x p).1 in
          let o = from_out e.fresh new_from x (λ y. omega (arith, y, none_new)) in
          let q = counts x in
          omega (arith, i, j, u, o, q)
      at x (outside h k l) i j = let z = out-counts x h k l in let u = z.0 in let v = z.1 in let y = z.2 in let q = counts x in omega (arith, i, j, u, v, y, q)
