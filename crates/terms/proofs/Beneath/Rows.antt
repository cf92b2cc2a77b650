-- An array that is laid out for some agents stands for them. Assumes nothing.
use Rattle.std.specs.Prelude.{ℕ, zero, suc, ◌+◌, ◌-◌, ◌*◌, ◌≤◌, ◌≡◌, true, eqb, leb, get_or, refl, not, List, [], ◌∷◌, ◌++◌, length, drop, replicate}
use Rattle.std.proofs.Common.{ap, sym, ◌∙◌, length-append, drop-drop, drop_at, get_or-drop, append_assoc, arith, take_at, leb-true, ne_eqb, eq-eqb}
use Rattle.std.proofs.lemmas.List.{length-replicate, get_or_at}
use borrow.Author.Tests.{not-true}
use Rattle.parts.specs.Limits.{identifier_max, symbols_max, agent_size}
use Rattle.texts.specs.Bytes.{Word, all}
use Rattle.texts.specs.Books.{Agent}
use Rattle.texts.proofs.Beneath.Tools.{both}
use Rattle.scan.specs.Places.{place}
use Rattle.scan.specs.Cutting.{up_to}
use Rattle.terms.specs.Agents.{spelling_at, agents_from, agents_of, row_of, rows_of, lettered, Listed}

zeros_get : (n i : ℕ) → ◌≡◌ {A = ℕ} (get_or (replicate n 0) i 0) 0
zeros_get zero i = refl
zeros_get (suc n) zero = refl
zeros_get (suc n) (suc i) = zeros_get n i

until_zeros : (n : ℕ) → up_to 0 (replicate n 0) ≡ []
unfolding up_to place
until_zeros zero = refl
until_zeros (suc n) = refl

until_filled : (w : Word) (n : ℕ) → all (λ b. not (eqb b 0)) w ≡ true → up_to 0 (w ++ replicate n 0) ≡ w
unfolding up_to place all
until_filled [] n h = until_zeros n
until_filled (b ∷ bs) n h =
    let p = both (not (eqb b 0)) (all (λ c. not (eqb c 0)) bs) h in
    rw (not-true (eqb b 0) p.0) (ap (λ (l : List ℕ). b ∷ l) (until_filled bs n p.1))

module _ (bytes : List ℕ) where
  -- a row of zeros is no symbol's
  none_on : (n k : ℕ) → get_or bytes (agent_size * k + identifier_max) 0 ≡ 0 → agents_from n k bytes ≡ []
  unfolding agents_from
  none_on zero k h = refl
  none_on (suc n) k h = rw (eq-eqb (get_or bytes (agent_size * k + identifier_max) 0) 0 h)

  -- one row, and what stands after it
  module _ (k : ℕ) (a : Agent) (rest : List ℕ) (ok : lettered a ≡ true) (h : drop
      (agent_size * k) bytes ≡ row_of a ++ rest) where
    abbrev front : List ℕ
    front = a.symbol ++ replicate (identifier_max - length a.symbol) 0

    fit : (length a.symbol ≤ identifier_max) × (all (λ b. not (eqb b 0)) a.symbol ≡ true)
    unfolding lettered
    fit = let p = both (leb (length a.symbol) identifier_max) (all (λ b. not (eqb b 0)) a.symbol) ok in (leb-true _ _ p.0, p.1)

    wide : length front ≡ identifier_max
    wide = omega (arith, length-append a.symbol (replicate (identifier_max - length a.symbol) 0), length-replicate {A = ℕ} (identifier_max - length a.symbol) 0, fit.0)

    split : drop (agent_size * k) bytes ≡ front ++ ((a.arity + 1) ∷ rest)
    unfolding row_of
    split = h ∙ append_assoc front ((a.arity + 1) ∷ []) rest

    row-spelling : spelling_at (agent_size * k) bytes ≡ a.symbol
    unfolding spelling_at
    row-spelling = rw (split, take_at front ((a.arity + 1) ∷ rest) identifier_max wide) (until_filled a.symbol (identifier_max - length a.symbol) fit.1)

    row-arity : get_or bytes (agent_size * k + identifier_max) 0 ≡ a.arity + 1
    row-arity = sym (get_or-drop (agent_size * k) bytes identifier_max 0) ∙ rw split (get_or_at front (a.arity + 1) rest 0 identifier_max wide)

    row_next : drop (agent_size * (k + 1)) bytes ≡ rest
    row_next =
        let z : agent_size * (k + 1) ≡ agent_size * k + (identifier_max + 1) = omega arith in
        let l : length (front ++ ((a.arity + 1) ∷ [])) ≡ identifier_max + 1 = omega (arith, length-append front ((a.arity + 1) ∷ []), wide) in
        rw (z, ← drop-drop (identifier_max + 1) (agent_size * k) bytes, split, ← append_assoc front ((a.arity + 1) ∷ []) rest) (drop_at (front ++ ((a.arity + 1) ∷ [])) rest (identifier_max + 1) l)

    one_on : (n : ℕ) → agents_from (suc n) k bytes ≡ a ∷ agents_from n (k + 1) bytes
    unfolding agents_from
    one_on n =
        let z : a.arity + 1 - 1 ≡ a.arity = omega arith in
        rw (row-arity, row-spelling, ne_eqb (a.arity + 1) 0 (λ e. omega arith), z)

  all_on : (ags : List Agent) (n k m : ℕ) → length ags ≤ n → all lettered ags ≡ true
      → drop (agent_size * k) bytes ≡ rows_of ags ++ replicate m 0 → agents_from n k bytes ≡ ags
  unfolding rows_of all
  all_on [] n k m f ok h = none_on n k (sym (get_or-drop (agent_size * k) bytes identifier_max 0) ∙ rw h (zeros_get m identifier_max))
  all_on (a ∷ ags) zero k m f ok h = absurd (omega arith)
  all_on (a ∷ ags) (suc n) k m f ok h =
      let p = both (lettered a) (all lettered ags) ok in
      let h' : drop (agent_size * k) bytes ≡ row_of a ++ (rows_of ags ++ replicate m 0) = h ∙ append_assoc (row_of a) (rows_of ags) (replicate m 0) in
      one_on k a (rows_of ags ++ replicate m 0) p.0 h' n
      ∙ ap (λ (l : List Agent). a ∷ l) (all_on ags n (k + 1) m (omega arith) p.1 (row_next k a (rows_of ags ++ replicate m 0) p.0 h'))

pub listed : (ags : List Agent) (bytes : List ℕ) → Listed ags bytes → agents_of bytes ≡ ags
unfolding agents_of
listed ags bytes l = all_on bytes ags symbols_max 0 (agent_size * (symbols_max - length ags)) l.few l.spelled l.laid
