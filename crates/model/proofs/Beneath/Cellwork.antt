-- Two cells freed and zeroed, and others written to places that are then free.
use Rattle.std.specs.Prelude.{◌≡◌, List, map, ◌⊎◌, ℕ, suc, ◌+◌, ◌*◌, ◌≤◌, ◌<◌, pred, length, get_or, take, drop, set}
use Rattle.std.proofs.Common.{sym, ◌∙◌, ap, inl, inr, arith, length-set, length-drop, get_or-set_same, get_or-set_other, get_or-drop}
use Rattle.std.proofs.Math.Decide.{ℕ_discrete, dec_lt}
use Rattle.std.proofs.lemmas.List.{length-map}
use Rattle.std.proofs.Math.ListN.{get_or-eq_default}
use Rattle.calculus.proofs.Beneath.Count.{δ_same, δ-cases}
use Rattle.calculus.specs.Terms.{δ, count}
use Rattle.parts.specs.Sides.{code, side}
use Rattle.model.specs.State.{used}
use Rattle.model.specs.Table.{Cell, no_cell}
use Rattle.model.specs.Step.{write_symbols, write_arguments, zero_cell}
use Rattle.model.specs.Sound.{width, cell_at, live}
use Rattle.model.proofs.Beneath.Facts.{used-set}
use Rattle.model.proofs.Beneath.Pool.{in_range}
use Rattle.model.proofs.Beneath.Store.{Free, count-get_or, Small, write_symbols-length, write_arguments-length}
use Rattle.model.proofs.Beneath.Store.{write_symbols_other, write_arguments_other, write_symbols_at}
use Rattle.model.proofs.Beneath.Store.{write_arguments_at, sides-are, cell-kept, used-written, live_written}
use Rattle.model.proofs.Beneath.Store.{Index, index, zero_here, zero_other, zero-length}

pub width_small : (ar : List ℕ) → ((s : ℕ) → get_or ar s 0 ≤ 4) → (v : ℕ) → width ar v ≤ 4
width_small ar h ℕ.zero = omega arith
width_small ar h (ℕ.suc s) = h s

-- Cells written to free places.
module _ (ar ss l : List ℕ) (size : length l ≡ 4 * length ss) (small : (s : ℕ) → get_or ar s 0 ≤ 4) (zeros : (c k : ℕ) → k < 4 → width ar (get_or ss c 0) ≤ k → get_or l (4 * c + k) 0 ≡ 0) (ps : List ℕ) (ks : List Cell) (free : Free ps ss) (many : length ps ≡ length ks) (sm : Small ks) (fit : (m : ℕ) → m < length ks → length (get_or ks m no_cell).args ≡ get_or ar (get_or ks m no_cell).symbol 0) where
  abbrev ssʷ : List ℕ
  ssʷ = write_symbols ps ks ss

  abbrev lʷ : List ℕ
  lʷ = write_arguments ps ks l

  inside : (c : ℕ) → 0 < count c ps → c < length ss
  inside c h = go (dec_lt c (length ss))
    where
      go : Dec (c < length ss) → c < length ss
      go (yes p) = p
      go (no p) = absurd (omega (arith, h, free.inside c (omega arith)))

  empty : (c : ℕ) → 0 < count c ps → get_or ss c 0 ≡ 0
  empty c h = omega (arith, free.once c)

  blank : (c i : ℕ) → 0 < count c ps → i < 4 → get_or l (4 * c + i) 0 ≡ 0
  blank c i h k = zeros c i k (omega (arith, ap (width ar) (empty c h)))

  symbolʷ : (j : ℕ) → j < length ks → get_or ssʷ (get_or ps j 0) 0 ≡ suc (get_or ks j no_cell).symbol
  symbolʷ j h = write_symbols_at ps ks ss j free (omega arith) h

  argsʷ : (j k : ℕ) → j < length ks → k < 4
      → get_or lʷ (4 * get_or ps j 0 + k) 0 ≡ get_or (map code (get_or ks j no_cell).args) k 0
  argsʷ j k h o =
      write_arguments_at ps ks l j k sm (λ c. omega (arith, free.once c)) (λ c q. omega (arith, inside c q, size)) blank o (omega arith) h

  pub copiedʷ : (j : ℕ) → j < length ks → cell_at ar ssʷ lʷ (get_or ps j 0) ≡ get_or ks j no_cell
  copiedʷ j h =
      ap (λ v. record { symbol = pred v; args = map side (take (width ar v) (drop (4 * p) lʷ)) }) (symbolʷ j h)
      ∙ ap (λ n. record { symbol = k.symbol; args = map side (take n (drop (4 * p) lʷ)) }) (sym (fit j h))
      ∙ ap (λ w. record { symbol = k.symbol; args = w }) same
    where
      p : ℕ
      p = get_or ps j 0

      k : Cell
      k = get_or ks j no_cell

      p-inside : p < length ss
      p-inside = inside p (count-get_or ps j (omega arith))

      same : map side (take (length k.args) (drop (4 * p) lʷ)) ≡ k.args
      same =
          sides-are
          k.args
          (drop (4 * p) lʷ)
          (omega (arith, sm j, p-inside, size, write_arguments-length ps ks l, length-drop (4 * p) lʷ))
          (λ i o. get_or-drop (4 * p) lʷ i 0 ∙ argsʷ j i h (omega (arith, sm j)))

  pub zerosʷ : (c k : ℕ) → k < 4 → width ar (get_or ssʷ c 0) ≤ k → get_or lʷ (4 * c + k) 0 ≡ 0
  zerosʷ c k h w = go (dec_lt 0 (count c ps))
    where
      go : Dec (0 < count c ps) → get_or lʷ (4 * c + k) 0 ≡ 0
      go (no n) =
          write_arguments_other ps ks l c k sm (omega arith) h
          ∙ zeros c k h (omega (arith, w, ap (width ar) (write_symbols_other ps ks ss c (omega arith))))
      go (yes n) = on (index c ps n)
        where
          on : Index c ps → get_or lʷ (4 * c + k) 0 ≡ 0
          on i = ap (λ d. get_or lʷ (4 * d + k) 0) (sym i.is) ∙ argsʷ i.at k (omega (arith, i.inside)) h ∙ past
            where
              kk : Cell
              kk = get_or ks i.at no_cell

              word : get_or ssʷ c 0 ≡ suc kk.symbol
              word = ap (λ d. get_or ssʷ d 0) (sym i.is) ∙ symbolʷ i.at (omega (arith, i.inside))

              past : get_or (map code kk.args) k 0 ≡ 0
              past =
                  get_or-eq_default
                  (map code kk.args)
                  0
                  {n = k}
                  (omega (arith, w, ap (width ar) word, fit i.at (omega (arith, i.inside)), length-map kk.args code))

  pub declaredʷ : (n : ℕ) → ((c : ℕ) → get_or ss c 0 ≤ n) → ((m : ℕ) → m < length ks → (get_or ks m no_cell).symbol < n)
      → (c : ℕ) → get_or ssʷ c 0 ≤ n
  declaredʷ n d e c = go (dec_lt 0 (count c ps))
    where
      go : Dec (0 < count c ps) → get_or ssʷ c 0 ≤ n
      go (no k) = omega (arith, write_symbols_other ps ks ss c (omega arith), d c)
      go (yes k) = on (index c ps k)
        where
          on : Index c ps → get_or ssʷ c 0 ≤ n
          on i =
              omega (
                arith,
                ap (λ j. get_or ssʷ j 0) (sym i.is),
                symbolʷ i.at (omega (arith, i.inside)),
                e i.at (omega (arith, i.inside)),
              )

-- Two cells freed, and others written then.
module _ (ar ss l : List ℕ) (size : length l ≡ 4 * length ss) (small : (s : ℕ) → get_or ar s 0 ≤ 4) (zeros : (c k : ℕ) → k < 4 → width ar (get_or ss c 0) ≤ k → get_or l (4 * c + k) 0 ≡ 0) (a b : ℕ) (two : (c : ℕ) → δ c a + δ c b ≤ live ss c) where
  abbrev ss₁ : List ℕ
  ss₁ = set (set ss a 0) b 0

  abbrev l₁ : List ℕ
  l₁ = zero_cell b (zero_cell a l)

  pub a-inside : a < length ss
  a-inside = in_range ss a (omega (arith, two a, δ_same a))

  pub b-inside : b < length ss
  b-inside = in_range ss b (omega (arith, two b, δ_same b))

  pub a≢b : ¬ (b ≡ a)
  a≢b e = omega (arith, two b, δ_same b, ap (δ b) e)

  pub length₁ : length ss₁ ≡ length ss
  length₁ = length-set (set ss a 0) b 0 ∙ length-set ss a 0

  pub args_length₁ : length l₁ ≡ length l
  args_length₁ = zero-length (zero_cell a l) b ∙ zero-length l a

  at_a : get_or ss₁ a 0 ≡ 0
  at_a = get_or-set_other (set ss a 0) b a 0 0 (λ e. a≢b (sym e)) ∙ get_or-set_same ss a 0 0 a-inside

  at_b : get_or ss₁ b 0 ≡ 0
  at_b = get_or-set_same (set ss a 0) b 0 0 (omega (arith, b-inside, length-set ss a 0))

  pub off₁ : (c : ℕ) → ¬ (c ≡ a) → ¬ (c ≡ b) → get_or ss₁ c 0 ≡ get_or ss c 0
  off₁ c p q = get_or-set_other (set ss a 0) b c 0 0 q ∙ get_or-set_other ss a c 0 0 p

  pub args_off₁ : (c k : ℕ) → ¬ (c ≡ a) → ¬ (c ≡ b) → k < 4 → get_or l₁ (4 * c + k) 0 ≡ get_or l (4 * c + k) 0
  args_off₁ c k p q h = zero_other (zero_cell a l) b c k q h ∙ zero_other l a c k p h

  pub live₁ : (c : ℕ) → live ss₁ c + (δ c a + δ c b) ≡ live ss c
  live₁ c = go (δ-cases c a) (δ-cases c b)
    where
      go : ((c ≡ a) × (δ c a ≡ 1)) ⊎ ((¬ (c ≡ a)) × (δ c a ≡ 0))
          → ((c ≡ b) × (δ c b ≡ 1)) ⊎ ((¬ (c ≡ b)) × (δ c b ≡ 0))
          → live ss₁ c + (δ c a + δ c b) ≡ live ss c
      go (inl p) (inl q) = absurd (a≢b (sym q.0 ∙ p.0))
      go (inl p) (inr q) = omega (arith, p.1, q.1, two c, ap (λ i. get_or ss₁ i 0) p.0, at_a)
      go (inr p) (inl q) = omega (arith, p.1, q.1, two c, ap (λ i. get_or ss₁ i 0) q.0, at_b)
      go (inr p) (inr q) = omega (arith, p.1, q.1, off₁ c p.0 q.0)

  pub used₁ : used ss₁ + 2 ≡ used ss
  used₁ =
      omega (
        arith,
        used-set ss a 0 a-inside,
        used-set (set ss a 0) b 0 (omega (arith, b-inside, length-set ss a 0)),
        get_or-set_other ss a b 0 0 a≢b,
        two a,
        two b,
        δ_same a,
        δ_same b,
      )

  pub zeros₁ : (c k : ℕ) → k < 4 → width ar (get_or ss₁ c 0) ≤ k → get_or l₁ (4 * c + k) 0 ≡ 0
  zeros₁ c k h w = go (ℕ_discrete c b) (ℕ_discrete c a)
    where
      go : Dec (c ≡ b) → Dec (c ≡ a) → get_or l₁ (4 * c + k) 0 ≡ 0
      go (yes q) d =
          ap (λ i. get_or l₁ (4 * i + k) 0) q ∙ zero_here (zero_cell a l) b k (omega (arith, b-inside, size, zero-length l a)) h
      go (no q) (yes p) =
          zero_other (zero_cell a l) b c k q h
          ∙ ap (λ i. get_or (zero_cell a l) (4 * i + k) 0) p
          ∙ zero_here l a k (omega (arith, a-inside, size)) h
      go (no q) (no p) = args_off₁ c k p q h ∙ zeros c k h (omega (arith, w, ap (width ar) (off₁ c p q)))

  module _ (ps : List ℕ) (ks : List Cell) (free : Free ps ss₁) (many : length ps ≡ length ks) (sm : Small ks) (fit : (m : ℕ) → m < length ks → length (get_or ks m no_cell).args ≡ get_or ar (get_or ks m no_cell).symbol 0) where
    abbrev ss₂ : List ℕ
    ss₂ = write_symbols ps ks ss₁

    abbrev l₂ : List ℕ
    l₂ = write_arguments ps ks l₁

    size₁ : length l₁ ≡ 4 * length ss₁
    size₁ = omega (arith, size, length₁, args_length₁)

    pub length₂ : length ss₂ ≡ length ss
    length₂ = write_symbols-length ps ks ss₁ ∙ length₁

    pub args_length₂ : length l₂ ≡ length l
    args_length₂ = write_arguments-length ps ks l₁ ∙ args_length₁

    pub live₂ : (c : ℕ) → live ss₂ c + (δ c a + δ c b) ≡ live ss c + count c ps
    live₂ c = omega (arith, live₁ c, live_written ps ks ss₁ free many c)

    pub used₂ : used ss₂ + 2 ≡ used ss + length ps
    used₂ = omega (arith, used₁, used-written ps ks ss₁ free many)

    pub copied : (j : ℕ) → j < length ks → cell_at ar ss₂ l₂ (get_or ps j 0) ≡ get_or ks j no_cell
    copied = copiedʷ ar ss₁ l₁ size₁ small zeros₁ ps ks free many sm fit

    pub kept₂ : (c : ℕ) → 0 < live ss c → ¬ (c ≡ a) → ¬ (c ≡ b) → cell_at ar ss₂ l₂ c ≡ cell_at ar ss l c
    kept₂ c h p q =
        cell-kept
        ar
        ss
        ss₂
        l
        l₂
        c
        (write_symbols_other ps ks ss₁ c none ∙ off₁ c p q)
        (width_small ar small (get_or ss c 0))
        (omega (arith, in_range ss c (omega arith), size))
        (omega (arith, in_range ss c (omega arith), size, args_length₂))
        (λ k o. write_arguments_other ps ks l₁ c k sm none o ∙ args_off₁ c k p q o)
      where
        none : count c ps ≡ 0
        none = omega (arith, h, free.once c, off₁ c p q)

    pub zeros₂ : (c k : ℕ) → k < 4 → width ar (get_or ss₂ c 0) ≤ k → get_or l₂ (4 * c + k) 0 ≡ 0
    zeros₂ = zerosʷ ar ss₁ l₁ size₁ small zeros₁ ps ks free many sm fit

    pub declared₂ : (n : ℕ) → ((c : ℕ) → get_or ss c 0 ≤ n)
        → ((m : ℕ) → m < length ks → (get_or ks m no_cell).symbol < n) → (c : ℕ) → get_or ss₂ c 0 ≤ n
    declared₂ n d e = declaredʷ ar ss₁ l₁ size₁ small zeros₁ ps ks free many sm fit n (λ c. by c (ℕ_discrete c a) (ℕ_discrete c b)) e
      where
        by : (c : ℕ) → Dec (c ≡ a) → Dec (c ≡ b) → get_or ss₁ c 0 ≤ n
        by c (yes p) q = omega (arith, ap (λ i. get_or ss₁ i 0) p, at_a)
        by c (no p) (yes q) = omega (arith, ap (λ i. get_or ss₁ i 0) q, at_b)
        by c (no p) (no q) = omega (arith, off₁ c p q, d c)
