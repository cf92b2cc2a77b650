-- How long what the printer writes can be: each cell that is met pays for its letters, its bracket and the names in it.
use Rattle.std.proofs.Common.{◌≡◌, refl, ap, Bool, true, false, cond, List, [], ◌∷◌, ◌++◌, ℕ, zero, suc, ◌+◌, ◌*◌, ◌/◌, ◌%◌, ◌<◌, ◌≤◌, arith, ltb, length, get_or, take, length-append, length-take}
use Rattle.parts.specs.Limits.{identifier_max, arity_max}
use Rattle.parts.specs.Sides.{Side, name, cell}
use Rattle.model.specs.State.{St, Bond, free, bare, to, bond}
use Rattle.model.specs.Table.{Table}
use Rattle.model.specs.Sound.{mem_of}
use Rattle.texts.specs.Bytes.{decimal}
use Rattle.texts.specs.Books.{Agent}
use Rattle.table.specs.Layout.{agents_in, agent_of, agent_row, word}
use Rattle.table.specs.Lists.{tab}
use Rattle.table.specs.Laws.Lists.{tab_at, length-tab}
use Rattle.answers.specs.Text.{spelling, numeral, no_agent}
use Rattle.answers.specs.Printing.{Pen, pen, Written, numbered, numbered_both, close, name_by, side_by, sides_by, cell_met, cell_by, side_bytes, sides_bytes, cell_bytes}
use Rattle.printing.specs.Puts.{letters, name_long}
use Rattle.printing.specs.Prints.{dear}

-- A number has four digits at most.
decimal-short : (n : ℕ) → length (decimal n) ≤ 4
unfolding decimal
decimal-short n = go (ltb n 10) (ltb n 100) (ltb n 1000)
  where
    go : (a b c : Bool)
        → length (cond a ((48 + n) ∷ [])
        (cond b ((48 + n / 10) ∷ (48 + n % 10) ∷ [])
        (cond c ((48 + n / 10 / 10) ∷ (48 + n / 10 % 10) ∷ (48 + n % 10) ∷ [])
        ((48 + n / 10 / 10 / 10) ∷ (48 + n / 10 / 10 % 10) ∷ (48 + n / 10 % 10) ∷ (48 + n % 10) ∷ []))))
        ≤ 4
    go true b c = omega arith
    go false true c = omega arith
    go false false true = omega arith
    go false false false = omega arith

pub numeral-short : (k : ℕ) → length (numeral k) ≤ name_long
unfolding numeral
numeral-short k = omega (arith, decimal-short k)

-- The letters of a symbol.
word-short : (l : List ℕ) → length (word l) ≤ length l
unfolding word
word-short [] = omega arith
word-short (zero ∷ l) = omega arith
word-short (suc b ∷ l) = omega (arith, word-short l)

agent-short : (r : List ℕ) → length (agent_of r).symbol ≤ identifier_max
unfolding agent_of
agent-short r = omega (arith, word-short (take identifier_max r), length-take identifier_max r)

tab-short : (n : ℕ) (f : ℕ → Agent) (a : ℕ) → ((k : ℕ) → length (f k).symbol ≤ identifier_max)
    → length (get_or (tab n f) a no_agent).symbol ≤ identifier_max
unfolding tab
tab-short zero f a h = omega arith
tab-short (suc n) f zero h = h 0
tab-short (suc n) f (suc a) h = tab-short n (λ k. f (suc k)) a (λ k. h (suc k))

pub spelling-short : (w : List ℕ) (a : ℕ) → length (spelling (agents_in w) a) ≤ identifier_max
unfolding spelling agents_in
spelling-short w a = tab-short (get_or w 0 0) (λ k. agent_of (agent_row w k)) a (λ k. agent-short (agent_row w k))

pub spelling-letters : (w : List ℕ) (a : ℕ) → a < length (agents_in w) → spelling (agents_in w) a ≡ letters w a
unfolding spelling agents_in agent_of letters
spelling-letters w a h =
    ap
    (λ g. g.symbol)
    (tab_at (get_or w 0 0) (λ k. agent_of (agent_row w k)) a no_agent
    (omega (arith, length-tab (get_or w 0 0) (λ k. agent_of (agent_row w k)))))

-- What is written pays for its bytes with n and the cells met.
abbrev Pays : ℕ → Pen → Written → Type 0
Pays n P W = length W.bytes + dear * W.after.left ≤ n + dear * P.left

module _ (ags : List Agent) (T : Table) (s : St) (short : (a : ℕ) → length (spelling ags a) ≤ identifier_max)
    (narrow : (c : ℕ) → length (mem_of T s c).args ≤ arity_max) where
  name_pays : (f : ℕ → Pen → Written) → ((c : ℕ) (P : Pen) → Pays 0 P (f c P)) → (x : ℕ) (P : Pen) (v : ℕ) (b : Bond)
      → Pays name_long P (name_by ags T s f x P v b)
  unfolding numbered numbered_both
  name_pays f h x P (suc k) b = omega (arith, numeral-short k)
  name_pays f h x P zero free = omega (arith, numeral-short P.next)
  name_pays f h x P zero bare = omega (arith, numeral-short P.next)
  name_pays f h x P zero (to (name y)) = omega (arith, numeral-short P.next)
  name_pays f h x P zero (to (cell c)) = omega (arith, h c P)

  side_by_pays : (f : ℕ → Pen → Written) → ((c : ℕ) (P : Pen) → Pays 0 P (f c P)) → (t : Side) (P : Pen)
      → Pays name_long P (side_by ags T s f t P)
  side_by_pays f h (name x) P = name_pays f h x P (get_or P.numbers x 0) (bond (get_or s.names x 0))
  side_by_pays f h (cell c) P = omega (arith, h c P)

  sides_by_pay : (f : ℕ → Pen → Written) → ((c : ℕ) (P : Pen) → Pays 0 P (f c P)) → (a b : ℕ) (ts : List Side) (P : Pen)
      → Pays ((1 + name_long) * length ts) P (sides_by ags T s f a b ts P)
  sides_by_pay f h a b [] P = omega arith
  sides_by_pay f h a b (t ∷ ts) P =
      omega (
        arith,
        side_by_pays f h t P,
        sides_by_pay f h b b ts (side_by ags T s f t P).after,
        length-append
            (side_by ags T s f t P).bytes
            (sides_by ags T s f b b ts (side_by ags T s f t P).after).bytes,
      )

  close-short : (ts : List Side) → length (close ts) ≤ 1
  close-short [] = omega arith
  close-short (t ∷ ts) = omega arith

  cell_by_pays : (m c : ℕ) (P : Pen) → Pays 0 P (cell_by ags T s m c P)
  cell_by_pays zero c P = omega arith
  cell_by_pays (suc m) c P = go (cell_by_pays m) P.left refl
    where
      go : ((d : ℕ) (Q : Pen) → Pays 0 Q (cell_by ags T s m d Q)) → (n : ℕ) → P.left ≡ n → Pays 0 P (cell_met ags T s (cell_by ags T s m) (mem_of T s c) P n)
      go h zero e = omega arith
      go h (suc n) e =
          let k = mem_of T s c in
          let W = sides_by ags T s (cell_by ags T s m) 40 44 k.args (pen P.next P.numbers n) in
          omega (
            arith,
            e,
            short k.symbol,
            narrow c,
            close-short k.args,
            sides_by_pay (cell_by ags T s m) h 40 44 k.args (pen P.next P.numbers n),
            length-append (spelling ags k.symbol) (W.bytes ++ close k.args),
            length-append W.bytes (close k.args),
          )

  pub cell_pays : (c : ℕ) (P : Pen) → Pays 0 P (cell_bytes ags T s c P)
  unfolding cell_bytes
  cell_pays c P = cell_by_pays P.left c P

  pub side_pays : (t : Side) (P : Pen) → Pays name_long P (side_bytes ags T s t P)
  unfolding side_bytes
  side_pays t P = side_by_pays (cell_by ags T s P.left) (cell_by_pays P.left) t P

  pub sides_pay : (a b : ℕ) (ts : List Side) (P : Pen) → Pays ((1 + name_long) * length ts) P (sides_bytes ags T s a b ts P)
  unfolding sides_bytes
  sides_pay a b ts P = sides_by_pay (cell_by ags T s P.left) (cell_by_pays P.left) a b ts P
