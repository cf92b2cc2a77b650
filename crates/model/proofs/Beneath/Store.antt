-- Places that are free, and cells written to them.
use Rattle.std.specs.Prelude.{◌≡◌, refl, List, [], ◌∷◌, map, ◌⊎◌, ℕ, suc, ◌+◌, ◌*◌, ◌≤◌, ◌<◌, min, pred, length, get_or, take, drop, set}
use Rattle.std.proofs.Common.{sym, ◌∙◌, ap, ap₂, inl, inr, arith, length-set, length-drop, get_or-set_same, get_or-set_other, get_or-drop}
use Rattle.std.proofs.Math.Decide.{ℕ_discrete, dec_lt}
use Rattle.std.proofs.Math.ListN.{get_or-eq_default}
use Rattle.std.proofs.lemmas.List.Edits.{sets}
use Rattle.std.proofs.Math.Seq.{length-sets}
use Rattle.calculus.proofs.Beneath.Count.{δ_same, δ_other, δ-cases, sum_perm}
use Rattle.calculus.proofs.Beneath.Perm.{Path_equivalence, Ins, here, there, perm_ins}
use Rattle.calculus.proofs.Beneath.Rules.{Pulled, pull}
use Rattle.calculus.specs.Terms.{δ, count}
use Rattle.parts.specs.Sides.{Side, code, side}
use Rattle.parts.specs.Codes.{side-code}
use Rattle.model.specs.State.{used, lowest, from}
use Rattle.model.specs.Table.{Cell, no_cell}
use Rattle.model.specs.Step.{write_symbols, write_arguments, set_bare, zero_cell}
use Rattle.model.specs.Sound.{width, cell_at}
use Rattle.model.proofs.Beneath.Facts.{used-set}

-- Free places: they are not in use, all different, and as many as wanted where there is room.
lowest-below : (i n : ℕ) (l : List ℕ) (c : ℕ) → c < i → count c (lowest i n l) ≡ 0
lowest-below i ℕ.zero l c h = refl
lowest-below i (ℕ.suc n) [] c h = refl
lowest-below i (ℕ.suc n) (ℕ.zero ∷ l) c h =
    omega (arith, lowest-below (suc i) n l c (omega arith), δ_other {x = c} {y = i} (λ e. omega arith))
lowest-below i (ℕ.suc n) (ℕ.suc v ∷ l) c h = lowest-below (suc i) (suc n) l c (omega arith)

lowest-once : (i n : ℕ) (l : List ℕ) (c d : ℕ) → d ≡ i + c → count d (lowest i n l) + min 1 (get_or l c 0) ≤ 1
lowest-once i ℕ.zero l c d e = omega arith
lowest-once i (ℕ.suc n) [] c d e = omega arith
lowest-once i (ℕ.suc n) (ℕ.zero ∷ l) ℕ.zero d e = omega (arith, lowest-below (suc i) n l d (omega arith), δ_le d i)
  where
    δ_le : (x y : ℕ) → δ x y ≤ 1
    δ_le x y = go (δ-cases x y)
      where
        go : ((x ≡ y) × (δ x y ≡ 1)) ⊎ ((¬ (x ≡ y)) × (δ x y ≡ 0)) → δ x y ≤ 1
        go (inl p) = omega (arith, p.1)
        go (inr p) = omega (arith, p.1)
lowest-once i (ℕ.suc n) (ℕ.zero ∷ l) (ℕ.suc c) d e =
    omega (arith, lowest-once (suc i) n l c d (omega arith), δ_other {x = d} {y = i} (λ q. omega arith))
lowest-once i (ℕ.suc n) (ℕ.suc v ∷ l) ℕ.zero d e = omega (arith, lowest-below (suc i) (suc n) l d (omega arith))
lowest-once i (ℕ.suc n) (ℕ.suc v ∷ l) (ℕ.suc c) d e = lowest-once (suc i) (suc n) l c d (omega arith)

lowest-above : (i n : ℕ) (l : List ℕ) (d : ℕ) → i + length l ≤ d → count d (lowest i n l) ≡ 0
lowest-above i ℕ.zero l d h = refl
lowest-above i (ℕ.suc n) [] d h = refl
lowest-above i (ℕ.suc n) (ℕ.zero ∷ l) d h =
    omega (arith, lowest-above (suc i) n l d (omega arith), δ_other {x = d} {y = i} (λ e. omega arith))
lowest-above i (ℕ.suc n) (ℕ.suc v ∷ l) d h = lowest-above (suc i) (suc n) l d (omega arith)

lowest-length : (i n : ℕ) (l : List ℕ) → n + used l ≤ length l → length (lowest i n l) ≡ n
lowest-length i ℕ.zero l h = refl
lowest-length i (ℕ.suc n) [] h = absurd (omega arith)
lowest-length i (ℕ.suc n) (ℕ.zero ∷ l) h = ap suc (lowest-length (suc i) n l (omega arith))
lowest-length i (ℕ.suc n) (ℕ.suc v ∷ l) h = lowest-length (suc i) (suc n) l (omega arith)

-- Some different places that are not in use.
pub record Free (ps : List ℕ) (l : List ℕ) : Type 0 where
  pub once : (c : ℕ) → count c ps + min 1 (get_or l c 0) ≤ 1
  pub inside : (c : ℕ) → length l ≤ c → count c ps ≡ 0

pub lowest-free : (n : ℕ) (l : List ℕ) → Free (lowest 0 n l) l
lowest-free n l = record { once = λ c. lowest-once 0 n l c c (omega arith); inside = λ c h. lowest-above 0 n l c (omega arith) }

pub lowest-many : (n : ℕ) (l : List ℕ) → n + used l ≤ length l → length (lowest 0 n l) ≡ n
lowest-many n l h = lowest-length 0 n l h

-- A member of a list, by its number.
pub count-get_or : (l : List ℕ) (k : ℕ) → k < length l → 0 < count (get_or l k 0) l
count-get_or [] k h = absurd (omega arith)
count-get_or (x ∷ l) ℕ.zero h = omega (arith, δ_same x)
count-get_or (x ∷ l) (ℕ.suc k) h = omega (arith, count-get_or l k (omega arith))

pub get_or-apart : (l : List ℕ) → ((c : ℕ) → count c l ≤ 1) → (j k : ℕ) → j < length l → k < length l
    → get_or l j 0 ≡ get_or l k 0 → j ≡ k
get_or-apart [] d j k h h' e = absurd (omega arith)
get_or-apart (x ∷ l) d ℕ.zero ℕ.zero h h' e = refl
get_or-apart (x ∷ l) d ℕ.zero (ℕ.suc k) h h' e =
    absurd (omega (arith, d x, δ_same x, count-get_or l k (omega arith), ap (λ y. count y l) e))
get_or-apart (x ∷ l) d (ℕ.suc j) ℕ.zero h h' e =
    absurd (omega (arith, d x, δ_same x, count-get_or l j (omega arith), ap (λ y. count y l) e))
get_or-apart (x ∷ l) d (ℕ.suc j) (ℕ.suc k) h h' e = ap suc (get_or-apart l (λ c. omega (arith, d c)) j k (omega arith) (omega arith) e)

pub map-get_or : (l : List ℕ) (j : ℕ) (f : ℕ → ℕ) → ((i : ℕ) → i < length l → f (j + i) ≡ get_or l i 0)
    → map f (from j (length l)) ≡ l
map-get_or [] j f h = refl
map-get_or (x ∷ l) j f h =
    ap₂
    ◌∷◌
    (ap f (let e : j ≡ j + 0 = omega arith in e) ∙ h 0 (omega arith))
    (map-get_or l (suc j) f (λ i k. ap f (let e : suc j + i ≡ j + suc i = omega arith in e) ∙ h (suc i) (omega arith)))

-- No more different numbers below n than n.
ins_length : {x : ℕ} {l m : List ℕ} → Ins x l m → length m ≡ suc (length l)
ins_length here = refl
ins_length (there i) = ap suc (ins_length i)

pub pigeon : (n : ℕ) (l : List ℕ) → ((c : ℕ) → count c l ≤ 1) → ((c : ℕ) → n ≤ c → count c l ≡ 0) → length l ≤ n
pigeon ℕ.zero [] d h = omega arith
pigeon ℕ.zero (x ∷ l) d h = absurd (omega (arith, h x (omega arith), δ_same x))
pigeon (ℕ.suc n) l d h = go (dec_lt 0 (count n l)) (λ m. pigeon n m)
  where
    above : (m : List ℕ) → ((c : ℕ) → count c m ≤ count c l) → count n m ≡ 0 → (c : ℕ) → n ≤ c → count c m ≡ 0
    above m k z c o = by (ℕ_discrete c n)
      where
        by : Dec (c ≡ n) → count c m ≡ 0
        by (yes e) = ap (λ y. count y m) e ∙ z
        by (no e) = omega (arith, k c, h c (omega arith))

    go : Dec (0 < count n l)
        → ((m : List ℕ) → ((c : ℕ) → count c m ≤ 1) → ((c : ℕ) → n ≤ c → count c m ≡ 0) → length m ≤ n)
        → length l ≤ suc n
    go (no k) again = omega (arith, again l d (above l (λ c. omega arith) (omega arith)))
    go (yes k) again = on (pull n l k)
      where
        on : Pulled n l → length l ≤ suc n
        on p =
            omega (
              arith,
              ins_length p.out,
              again p.rest (λ c. omega (arith, d c, less c)) (above p.rest (λ c. omega (arith, less c)) (omega (arith, d n, less n, δ_same n))),
            )
          where
            less : (c : ℕ) → δ c n + count c p.rest ≡ count c l
            less c = sum_perm (δ c) (perm_ins Path_equivalence p.out)

-- Names set bare.
pub length-bare : (ps l : List ℕ) → length (set_bare ps l) ≡ length l
length-bare [] l = refl
length-bare (p ∷ ps) l = length-bare ps (set l p 1) ∙ length-set l p 1

pub free-tail : {p : ℕ} {ps l : List ℕ} (v : ℕ) → Free (p ∷ ps) l → Free ps (set l p v)
free-tail {p} {ps} {l} v f = record { once = λ c. go c (δ-cases c p); inside = λ c h. omega (arith, f.inside c (omega (arith, length-set l p v))) }
  where
    go : (c : ℕ) → ((c ≡ p) × (δ c p ≡ 1)) ⊎ ((¬ (c ≡ p)) × (δ c p ≡ 0))
        → count c ps + min 1 (get_or (set l p v) c 0) ≤ 1
    go c (inl e) = omega (arith, f.once c, e.1)
    go c (inr e) = omega (arith, f.once c, e.1, get_or-set_other l p c v 0 e.0)

pub free-head : {p : ℕ} {ps l : List ℕ} → Free (p ∷ ps) l → (p < length l) × (get_or l p 0 ≡ 0) × (count p ps ≡ 0)
free-head {p} {ps} {l} f = (go (dec_lt p (length l)), omega (arith, f.once p, δ_same p), omega (arith, f.once p, δ_same p))
  where
    go : Dec (p < length l) → p < length l
    go (yes h) = h
    go (no h) = absurd (omega (arith, f.inside p (omega arith), δ_same p))

pub live-bare : (ps l : List ℕ) → Free ps l → (c : ℕ)
    → min 1 (get_or (set_bare ps l) c 0) ≡ count c ps + min 1 (get_or l c 0)
live-bare [] l f c = omega arith
live-bare (p ∷ ps) l f c = go (δ-cases c p) (free-head f) (live-bare ps (set l p 1) (free-tail 1 f) c)
  where
    go : ((c ≡ p) × (δ c p ≡ 1)) ⊎ ((¬ (c ≡ p)) × (δ c p ≡ 0)) → (p < length l) × (get_or l p 0 ≡ 0) × (count p ps ≡ 0)
        → min 1 (get_or (set_bare ps (set l p 1)) c 0) ≡ count c ps + min 1 (get_or (set l p 1) c 0)
        → min 1 (get_or (set_bare ps (set l p 1)) c 0) ≡ δ c p + count c ps + min 1 (get_or l c 0)
    go (inl e) q i =
        omega (
          arith,
          e.1,
          ap (λ j. get_or l j 0) e.0,
          q.1,
          ap (λ j. get_or (set l p 1) j 0) e.0,
          get_or-set_same l p 1 0 q.0,
        )
    go (inr e) q i = omega (arith, e.1, get_or-set_other l p c 1 0 e.0)

-- Words written in a row.
pub sets_other : (vs l : List ℕ) (i j : ℕ) → (j < i) ⊎ (i + length vs ≤ j) → get_or (sets l i vs) j 0 ≡ get_or l j 0
sets_other [] l i j h = refl
sets_other (v ∷ vs) l i j h = sets_other vs (set l i v) (suc i) j (on h) ∙ get_or-set_other l i j v 0 (off h)
  where
    on : (j < i) ⊎ (i + suc (length vs) ≤ j) → (j < suc i) ⊎ (suc i + length vs ≤ j)
    on (inl k) = inl (omega arith)
    on (inr k) = inr (omega arith)

    off : (j < i) ⊎ (i + suc (length vs) ≤ j) → ¬ (j ≡ i)
    off (inl k) e = omega arith
    off (inr k) e = omega arith

pub sets_at : (vs l : List ℕ) (i j k : ℕ) → j ≡ i + k → k < length vs → i + length vs ≤ length l
    → get_or (sets l i vs) j 0 ≡ get_or vs k 0
sets_at [] l i j k e h n = absurd (omega arith)
sets_at (v ∷ vs) l i j ℕ.zero e h n =
    sets_other vs (set l i v) (suc i) j (inl (omega arith)) ∙ ap (λ o. get_or (set l i v) o 0) (let q : j ≡ i = omega arith in q) ∙ get_or-set_same l i v 0 (omega arith)
sets_at (v ∷ vs) l i j (ℕ.suc k) e h n = sets_at vs (set l i v) (suc i) j k (omega arith) (omega arith) (omega (arith, length-set l i v))

-- The four places of another cell.
pub block_other : (vs l : List ℕ) (c d k : ℕ) → ¬ (d ≡ c) → k < 4 → length vs ≤ 4
    → get_or (sets l (4 * c) vs) (4 * d + k) 0 ≡ get_or l (4 * d + k) 0
block_other vs l c d k n h j = sets_other vs l (4 * c) (4 * d + k) (go (dec_lt d c))
  where
    go : Dec (d < c) → (4 * d + k < 4 * c) ⊎ (4 * c + length vs ≤ 4 * d + k)
    go (yes p) = inl (omega arith)
    go (no p) = inr (omega arith)

-- Cells written.
abbrev pub Small : List Cell → Type 0
Small ks = (m : ℕ) → length (get_or ks m no_cell).args ≤ 4

length-code : (l : List Side) → length (map code l) ≡ length l
length-code [] = refl
length-code (s ∷ l) = ap suc (length-code l)

pub write_symbols-length : (ps : List ℕ) (ks : List Cell) (l : List ℕ) → length (write_symbols ps ks l) ≡ length l
write_symbols-length [] ks l = refl
write_symbols-length (p ∷ ps) [] l = refl
write_symbols-length (p ∷ ps) (k ∷ ks) l = write_symbols-length ps ks (set l p (suc k.symbol)) ∙ length-set l p (suc k.symbol)

pub write_arguments-length : (ps : List ℕ) (ks : List Cell) (l : List ℕ) → length (write_arguments ps ks l) ≡ length l
write_arguments-length [] ks l = refl
write_arguments-length (p ∷ ps) [] l = refl
write_arguments-length (p ∷ ps) (k ∷ ks) l =
    write_arguments-length ps ks (sets l (4 * p) (map code k.args)) ∙ length-sets l (4 * p) (map code k.args)

apart-head : (c p : ℕ) (ps : List ℕ) → count c (p ∷ ps) ≡ 0 → ¬ (c ≡ p)
apart-head c p ps h e = omega (arith, h, δ_same c, ap (δ c) e)

pub write_symbols_other : (ps : List ℕ) (ks : List Cell) (l : List ℕ) (c : ℕ) → count c ps ≡ 0
    → get_or (write_symbols ps ks l) c 0 ≡ get_or l c 0
write_symbols_other [] ks l c h = refl
write_symbols_other (p ∷ ps) [] l c h = refl
write_symbols_other (p ∷ ps) (k ∷ ks) l c h =
    write_symbols_other ps ks (set l p (suc k.symbol)) c (omega arith) ∙ get_or-set_other l p c (suc k.symbol) 0 (apart-head c p ps h)

pub write_arguments_other : (ps : List ℕ) (ks : List Cell) (l : List ℕ) (c k : ℕ) → Small ks → count c ps ≡ 0 → k < 4
    → get_or (write_arguments ps ks l) (4 * c + k) 0 ≡ get_or l (4 * c + k) 0
write_arguments_other [] ks l c k s h j = refl
write_arguments_other (p ∷ ps) [] l c k s h j = refl
write_arguments_other (p ∷ ps) (w ∷ ks) l c k s h j =
    write_arguments_other ps ks (sets l (4 * p) (map code w.args)) c k (λ m. s (suc m)) (omega arith) j
    ∙ block_other (map code w.args) l p c k (apart-head c p ps h) j (omega (arith, s 0, length-code w.args))

pub write_symbols_at : (ps : List ℕ) (ks : List Cell) (l : List ℕ) (j : ℕ) → Free ps l → j < length ps → j < length ks
    → get_or (write_symbols ps ks l) (get_or ps j 0) 0 ≡ suc (get_or ks j no_cell).symbol
write_symbols_at [] ks l j f h n = absurd (omega arith)
write_symbols_at (p ∷ ps) [] l j f h n = absurd (omega arith)
write_symbols_at (p ∷ ps) (k ∷ ks) l ℕ.zero f h n =
    write_symbols_other ps ks (set l p (suc k.symbol)) p (free-head f).2 ∙ get_or-set_same l p (suc k.symbol) 0 (free-head f).0
write_symbols_at (p ∷ ps) (k ∷ ks) l (ℕ.suc j) f h n =
    write_symbols_at ps ks (set l p (suc k.symbol)) j (free-tail (suc k.symbol) f) (omega arith) (omega arith)

pub write_arguments_at : (ps : List ℕ) (ks : List Cell) (l : List ℕ) (j k : ℕ) → Small ks → ((c : ℕ) → count c ps ≤ 1)
    → ((c : ℕ) → 0 < count c ps → 4 * c + 4 ≤ length l)
    → ((c i : ℕ) → 0 < count c ps → i < 4 → get_or l (4 * c + i) 0 ≡ 0)
    → k < 4 → j < length ps → j < length ks
    → get_or (write_arguments ps ks l) (4 * get_or ps j 0 + k) 0 ≡ get_or (map code (get_or ks j no_cell).args) k 0
write_arguments_at [] ks l j k s d r z h n o = absurd (omega arith)
write_arguments_at (p ∷ ps) [] l j k s d r z h n o = absurd (omega arith)
write_arguments_at (p ∷ ps) (w ∷ ks) l ℕ.zero k s d r z h n o =
    write_arguments_other ps ks (sets l (4 * p) (map code w.args)) p k (λ m. s (suc m)) (omega (arith, d p, δ_same p)) h
    ∙ go (dec_lt k (length (map code w.args)))
  where
    vs : List ℕ
    vs = map code w.args

    go : Dec (k < length vs) → get_or (sets l (4 * p) vs) (4 * p + k) 0 ≡ get_or vs k 0
    go (yes q) = sets_at vs l (4 * p) (4 * p + k) k refl q (omega (arith, r p (omega (arith, δ_same p)), s 0, length-code w.args))
    go (no q) =
        sets_other vs l (4 * p) (4 * p + k) (inr (omega arith)) ∙ z p k (omega (arith, δ_same p)) h ∙ sym (get_or-eq_default vs 0 {n = k} (omega arith))
write_arguments_at (p ∷ ps) (w ∷ ks) l (ℕ.suc j) k s d r z h n o =
    write_arguments_at
    ps
    ks
    (sets l (4 * p) (map code w.args))
    j
    k
    (λ m. s (suc m))
    (λ c. omega (arith, d c))
    (λ c q. omega (arith, r c (omega arith), length-sets l (4 * p) (map code w.args)))
    (λ c i q t.
    block_other (map code w.args) l p c i (λ e. omega (arith, q, d c, δ_same c, ap (δ c) e)) t (omega (arith, s 0, length-code w.args))
    ∙ z c i (omega arith) t)
    h
    (omega arith)
    (omega arith)

-- Cells read: the sides of a row of words, by their numbers, and as a list that was written.
pub sides-from : (L : List ℕ) (j n : ℕ) (f : ℕ → Side) → n ≤ length L
    → ((i : ℕ) → i < n → f (j + i) ≡ side (get_or L i 0)) → map side (take n L) ≡ map f (from j n)
sides-from L j ℕ.zero f h k = refl
sides-from [] j (ℕ.suc n) f h k = absurd (omega arith)
sides-from (x ∷ L) j (ℕ.suc n) f h k =
    ap₂
    ◌∷◌
    (sym (k 0 (omega arith)) ∙ ap f (let e : j + 0 ≡ j = omega arith in e))
    (sides-from L (suc j) n f (omega arith) (λ i o. ap f (let e : suc j + i ≡ j + suc i = omega arith in e) ∙ k (suc i) (omega arith)))

pub sides-are : (vs : List Side) (L : List ℕ) → length vs ≤ length L
    → ((i : ℕ) → i < length vs → get_or L i 0 ≡ get_or (map code vs) i 0)
    → map side (take (length vs) L) ≡ vs
sides-are [] L h k = refl
sides-are (v ∷ vs) [] h k = absurd (omega arith)
sides-are (v ∷ vs) (x ∷ L) h k =
    ap₂ ◌∷◌ (ap side (k 0 (omega arith)) ∙ side-code v) (sides-are vs L (omega arith) (λ i o. k (suc i) (omega arith)))

pub cell-kept : (ar ss ss' l l' : List ℕ) (c : ℕ) → get_or ss' c 0 ≡ get_or ss c 0 → width ar (get_or ss c 0) ≤ 4
    → 4 * c + 4 ≤ length l → 4 * c + 4 ≤ length l'
    → ((k : ℕ) → k < 4 → get_or l' (4 * c + k) 0 ≡ get_or l (4 * c + k) 0) → cell_at ar ss' l' c ≡ cell_at ar ss l c
cell-kept ar ss ss' l l' c e w h h' k =
    ap (λ v. record { symbol = pred v; args = map side (take (width ar v) (drop (4 * c) l')) }) e ∙ ap (λ a. record { symbol = pred (get_or ss c 0); args = a }) (there ∙ sym here')
  where
    f : ℕ → Side
    f i = side (get_or l (4 * c + i) 0)

    here' : map side (take (width ar (get_or ss c 0)) (drop (4 * c) l)) ≡ map f (from 0 (width ar (get_or ss c 0)))
    here' =
        sides-from
        (drop (4 * c) l)
        0
        (width ar (get_or ss c 0))
        f
        (omega (arith, length-drop (4 * c) l))
        (λ i o. ap side (ap (λ j. get_or l (4 * c + j) 0) (let e : 0 + i ≡ i = omega arith in e) ∙ sym (get_or-drop (4 * c) l i 0)))

    there : map side (take (width ar (get_or ss c 0)) (drop (4 * c) l')) ≡ map f (from 0 (width ar (get_or ss c 0)))
    there =
        sides-from
        (drop (4 * c) l')
        0
        (width ar (get_or ss c 0))
        f
        (omega (arith, length-drop (4 * c) l'))
        (λ i o. ap side (ap (λ j. get_or l (4 * c + j) 0) (let e : 0 + i ≡ i = omega arith in e) ∙ sym (k i (omega arith)) ∙ sym (get_or-drop (4 * c) l' i 0)))

pub used-written : (ps : List ℕ) (ks : List Cell) (l : List ℕ) → Free ps l → length ps ≡ length ks
    → used (write_symbols ps ks l) ≡ used l + length ps
used-written [] ks l f e = omega arith
used-written (p ∷ ps) [] l f e = absurd (omega arith)
used-written (p ∷ ps) (k ∷ ks) l f e =
    omega (
      arith,
      used-written ps ks (set l p (suc k.symbol)) (free-tail (suc k.symbol) f) (omega arith),
      used-set l p (suc k.symbol) (free-head f).0,
      (free-head f).1,
    )

pub live_written : (ps : List ℕ) (ks : List Cell) (l : List ℕ) → Free ps l → length ps ≡ length ks → (c : ℕ)
    → min 1 (get_or (write_symbols ps ks l) c 0) ≡ count c ps + min 1 (get_or l c 0)
live_written [] ks l f e c = omega arith
live_written (p ∷ ps) [] l f e c = absurd (omega arith)
live_written (p ∷ ps) (k ∷ ks) l f e c =
    go (δ-cases c p) (free-head f) (live_written ps ks (set l p (suc k.symbol)) (free-tail (suc k.symbol) f) (omega arith) c)
  where
    l₁ : List ℕ
    l₁ = set l p (suc k.symbol)

    go : ((c ≡ p) × (δ c p ≡ 1)) ⊎ ((¬ (c ≡ p)) × (δ c p ≡ 0)) → (p < length l) × (get_or l p 0 ≡ 0) × (count p ps ≡ 0)
        → min 1 (get_or (write_symbols ps ks l₁) c 0) ≡ count c ps + min 1 (get_or l₁ c 0)
        → min 1 (get_or (write_symbols ps ks l₁) c 0) ≡ δ c p + count c ps + min 1 (get_or l c 0)
    go (inl e) q i =
        omega (
          arith,
          e.1,
          ap (λ j. get_or l j 0) e.0,
          q.1,
          ap (λ j. get_or l₁ j 0) e.0,
          get_or-set_same l p (suc k.symbol) 0 q.0,
        )
    go (inr e) q i = omega (arith, e.1, get_or-set_other l p c (suc k.symbol) 0 e.0)

-- The number of a member.
pub record Index (c : ℕ) (l : List ℕ) : Type 0 where
  pub at : ℕ
  pub inside : at < length l
  pub is : get_or l at 0 ≡ c

pub index : (c : ℕ) (l : List ℕ) → 0 < count c l → Index c l
index c [] h = absurd (omega arith)
index c (x ∷ l) h = go (δ-cases c x) (λ k. index c l k)
  where
    go : ((c ≡ x) × (δ c x ≡ 1)) ⊎ ((¬ (c ≡ x)) × (δ c x ≡ 0)) → (0 < count c l → Index c l) → Index c (x ∷ l)
    go (inl e) f = record { at = 0; inside = omega arith; is = sym e.0 }
    go (inr e) f = let k = f (omega (arith, e.1)) in record { at = suc k.at; inside = omega (arith, k.inside); is = k.is }

-- Four zeros.
pub zero_here : (l : List ℕ) (c k : ℕ) → 4 * c + 4 ≤ length l → k < 4 → get_or (zero_cell c l) (4 * c + k) 0 ≡ 0
zero_here l c k h j = sets_at (0 ∷ 0 ∷ 0 ∷ 0 ∷ []) l (4 * c) (4 * c + k) k refl j h ∙ four k
  where
    four : (k : ℕ) → ◌≡◌ {A = ℕ} (get_or (0 ∷ 0 ∷ 0 ∷ 0 ∷ []) k 0) 0
    four ℕ.zero = refl
    four (ℕ.suc ℕ.zero) = refl
    four (ℕ.suc (ℕ.suc ℕ.zero)) = refl
    four (ℕ.suc (ℕ.suc (ℕ.suc ℕ.zero))) = refl
    four (ℕ.suc (ℕ.suc (ℕ.suc (ℕ.suc k)))) = refl

pub zero_other : (l : List ℕ) (c d k : ℕ) → ¬ (d ≡ c) → k < 4
    → get_or (zero_cell c l) (4 * d + k) 0 ≡ get_or l (4 * d + k) 0
zero_other l c d k n h = block_other (0 ∷ 0 ∷ 0 ∷ 0 ∷ []) l c d k n h (omega arith)

pub zero-length : (l : List ℕ) (c : ℕ) → length (zero_cell c l) ≡ length l
zero-length l c = length-sets l (4 * c) (0 ∷ 0 ∷ 0 ∷ 0 ∷ [])
