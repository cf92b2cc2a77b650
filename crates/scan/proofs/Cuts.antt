-- The cutters: one law for each way out, and the loop that looks for a field over a line's tabs.
use Rattle.std.specs.Prelude.{ℕ, zero, suc, ◌+◌, ◌-◌, ◌≤◌, ◌<◌, ◌≡◌, refl, cond, List, [], ◌∷◌, length, take, drop, get_or, Some, None, Ok, Err, count_by}
use Rattle.std.proofs.Common.{sym, ap, ◌∙◌, arith, drop_of_length-le, length-take-le, add-one, drop-cons, eq-eqb, ne_eqb, lt-ltb, le-ltb, le-leb}
use Rattle.std.proofs.lemmas.Bool.{lt-leb}
use Rattle.std.proofs.lemmas.List.Sums.{sum_by-cons}
use Rattle.texts.specs.Bytes.{fields}
use Rattle.parts.specs.declared.faults.Fault.TheVariants.{BadByte}
use Rattle.scan.specs.Places.{place, is}
use Rattle.scan.specs.Cutting.{up_to, next_line, tabs, field_start}
use Rattle.scan.specs.Laws.Placing.{place_le}
use Rattle.scan.proofs.Scans.{from_on}
use Rattle.scan.proofs.Beneath.Cutting.{count-cons, start_le, field_cut}

-- a part up to a byte has as many bytes as its place says
pub part_length : (b : ℕ) (l : List ℕ) (n : ℕ) → n ≡ place (is b) l → n ≡ length (take n l)
part_length b l n e = sym (length-take-le n l (omega (arith, place_le (is b) l)))

pub part_cut : (b at : ℕ) (l : List ℕ) (n : ℕ) → n ≡ place (is b) (take (length l - at) (drop at l))
    → take n (take (length l - at) (drop at l)) ≡ up_to b (drop at l)
unfolding up_to
part_cut b at l n e = let e' = rw from_on at e in rw (from_on, e')

module _ (text : List ℕ) (at : ℕ) where
  pub line-nothing : length text ≤ at → Ok None ≡ next_line text at
  unfolding next_line
  line-nothing h = rw (le-leb (length text) at h)

  module _ (h : at < length text) {n : ℕ} (e : n ≡ place (is 10) (take (length text - at) (drop at text))) where
    pub line-ended : n < length (take (length text - at) (drop at text)) → Ok (Some (at + n)) ≡ next_line text at
    unfolding next_line
    line-ended k =
        let e' = rw from_on at e in let k' = rw from_on at k in
        rw (lt-leb (length text) at h, ← e', lt-ltb n (length (drop at text)) k')

    pub line_unended : length (take (length text - at) (drop at text)) ≤ n → Err BadByte ≡ next_line text at
    unfolding next_line
    line_unended k =
        let e' = rw from_on at e in let k' = rw from_on at k in
        rw (lt-leb (length text) at h, ← e', le-ltb n (length (drop at text)) k')

-- a field more than tabs
pub fields_count : (l : List ℕ) (n : ℕ) → n ≡ count_by (is 9) l → 1 + n ≡ length (fields l)
unfolding fields tabs
fields_count [] n e = omega (arith, e)
fields_count (b ∷ bs) n e =
    let p : n ≡ tabs b + count_by (is 9) bs = e ∙ sum_by-cons (λ x. cond (is 9 x) 1 0) b bs in
    omega (arith, p, count-cons b bs, fields_count bs (count_by (is 9) bs) refl)

-- the loop that looks for the start of field k: it is i and the start of field `left` of what is left
pub record Started (l : List ℕ) (k left i : ℕ) : Type 0 where
  pub rest : field_start l k ≡ i + field_start (drop i l) left

start_zero : (l : List ℕ) → field_start l 0 ≡ 0
unfolding field_start
start_zero [] = refl
start_zero (b ∷ bs) = refl

start_cons : (b : ℕ) (bs : List ℕ) (k : ℕ) → (k ≡ 0 → ⊥) → field_start (b ∷ bs) k ≡ suc (field_start bs (k - tabs b))
unfolding field_start
start_cons b bs zero h = absurd (h refl)
start_cons b bs (suc k) h = refl

module _ (l : List ℕ) (k left i : ℕ) (s : Started l k left i) where
  pub started_here : left ≡ 0 → i ≡ field_start l k
  started_here e = let p : field_start (drop i l) left ≡ 0 = rw (e, start_zero) in omega (arith, s.rest)

  started_more : i < length l → (left ≡ 0 → ⊥) → {t : ℕ} → tabs (get_or l i 0) ≡ t → Started l k (left - t) (i + 1)
  started_more h ne {t} e =
      let p : field_start (drop i l) left ≡ suc (field_start (drop (i + 1) l) (left - t)) =
      rw (add-one, drop-cons l i 0, ← e) (start_cons (get_or l i 0) (drop (suc i) l) left ne) in
      record { rest = omega (arith, s.rest) }

  -- past a tab, and past another byte
  pub started_tab : i < length l → (left ≡ 0 → ⊥) → get_or l i 0 ≡ 9 → {m : ℕ} → m ≡ left - 1 → Started l k m (i + 1)
  unfolding tabs
  started_tab h ne e g = rw g (started_more h ne {t = 1} (rw (eq-eqb (get_or l i 0) 9 e)))

  pub started_other : i < length l → (left ≡ 0 → ⊥) → (get_or l i 0 ≡ 9 → ⊥) → {m : ℕ} → m ≡ left → Started l k m (i + 1)
  unfolding tabs
  started_other h ne e g =
      let z : left - 0 ≡ left = omega arith in
      rw (g, ← z) (started_more h ne {t = 0} (rw (ne_eqb (get_or l i 0) 9 e)))

  pub started_end : length l ≤ i → i ≤ length l → length l ≡ field_start l k
  unfolding field_start
  started_end h m =
      let p : field_start (drop i l) left ≡ 0 = rw (drop_of_length-le l h) in omega (arith, s.rest)

pub start_fits : (l : List ℕ) (k n : ℕ) → n ≡ field_start l k → n ≤ length l
start_fits l k n e = omega (arith, start_le l k)

pub field_found : (l : List ℕ) (k n : ℕ) → n ≡ field_start l k → (r : List ℕ) → r ≡ up_to 9 (drop n l)
    → r ≡ get_or (fields l) k []
field_found l k n e r h = h ∙ (ap (λ m. up_to 9 (drop m l)) e ∙ field_cut l k)
