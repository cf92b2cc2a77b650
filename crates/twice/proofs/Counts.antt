-- The loops that count: what each has found so far.
use Prim.Native.Nat.{ℕ, suc, ◌+◌, ◌-◌, ◌*◌, ◌<◌, ◌≤◌}
use mathlib.Core.Path.{◌≡◌, refl, sym, ap, ap₂, ◌∙◌}
use mathlib.Core.Bool.{Bool, true, false, cond, not}
use mathlib.Core.List.{List, [], ◌∷◌, ◌++◌, append-nil, append_assoc}
use native.Mathlib.Omega.{arith}
use lib.Dec.{eqb, ltb}
use lib.ListN.{length, length-take, get_or, take}
use lib.Seq.{get_or-take}
use borrow.Author.Tests.{eq-eqb, ne_eqb, eqb-true, eqb-false, ltb-false}
use mir.Val.{bool_byte}
use Rattle.std.specs.Prelude.{Option, Some, None, position}
use Rattle.std.specs.Option.{unwrap_or}
use Rattle.std.specs.List.{position_or_len, count_by}
use Rattle.std.proofs.lemmas.List.Recursion.{is_position_or_len, is_count_by}
use Rattle.std.proofs.lemmas.List.Sums.{count_by-le-length}
use Rattle.parts.specs.Limits.{arity_max, net_cells_max}
use Rattle.parts.specs.Sides.{Side, name, cell, side, code}
use Rattle.parts.specs.Codes.{code-side}
use Rattle.model.specs.Table.{Cell}
use Rattle.texts.specs.Bytes.{keep}
use Rattle.texts.specs.Books.{Agent}
use Rattle.texts.specs.TableTest.{tally, same_side, args_all}
use Rattle.texts.specs.Linear.{one}
use Rattle.texts.proofs.Beneath.Linear.{tally-append, tally-cons}
use Rattle.table.specs.Lists.{tab}
use Rattle.table.specs.Laws.Lists.{tab_cong, tab-snoc}
use Rattle.terms.specs.Sheet.{Sheet}
use Rattle.loading.specs.OnSheet.{width_on, cell_on, cells_on, face_on}
use Rattle.twice.specs.Counting.{Found, args_on, stands_on, loose_on, first_loose, passed}

-- a code is that of name x
is_name : (x w : ℕ) (s : Side) → code s ≡ w → w ≡ 2 * x → same_side (name x) s ≡ true
unfolding same_side
is_name x w (name y) e h = eq-eqb x y (omega (arith, e))
is_name x w (cell y) e h = absurd (omega (arith, e))

not_name : (x w : ℕ) (s : Side) → code s ≡ w → ¬ (w ≡ 2 * x) → same_side (name x) s ≡ false
unfolding same_side
not_name x w (name y) e h = ne_eqb x y (λ z. h (omega (arith, e)))
not_name x w (cell y) e h = refl

pub is_way : (w x r m : ℕ) → r ≡ w → m ≡ x → eqb r (2 * m) ≡ same_side (name x) (side w)
is_way w x r m e f = rw (e, f) (go (eqb w (2 * x)) refl)
  where
    go : (b : Bool) → eqb w (2 * x) ≡ b → b ≡ same_side (name x) (side w)
    go true p = sym (is_name x w (side w) (code-side w) (eqb-true _ _ p))
    go false p = sym (not_name x w (side w) (code-side w) (eqb-false _ _ p))

one_is : (t : Bool) → bool_byte t ≡ one t
one_is true = refl
one_is false = refl

one_small : (t : Bool) → one t ≤ 1
one_small true = omega arith
one_small false = omega arith

-- Name x among the sides with the codes g 0, g 1 and so on.
abbrev pub sides_of : (ℕ → ℕ) → ℕ → List Side
sides_of g n = tab n (λ k. side (g k))

pub record Tallying (x : ℕ) (g : ℕ → ℕ) (found i : ℕ) : Type 0 where
  pub is : found ≡ tally (same_side (name x)) (sides_of g i)
  pub few : found ≤ i

tally_none : (x : ℕ) → 0 ≡ tally (same_side (name x)) []
unfolding tally keep
tally_none x = refl

pub tally_start : (x : ℕ) (g : ℕ → ℕ) → Tallying x g 0 0
unfolding tab
tally_start x g = record { is = tally_none x; few = omega arith }

tally-snoc : (p : Side → Bool) (xs : List Side) (s : Side) → tally p (xs ++ (s ∷ [])) ≡ tally p xs + one (p s)
unfolding tally keep
tally-snoc p xs s = tally-append p xs (s ∷ []) ∙ ap (λ n. tally p xs + n) (tally-cons p s [] ∙ (let z : one (p s) + 0 ≡ one (p s) = omega arith in z))

-- t is whether the word read is that of name x, and u what it adds
pub tally_more : {x : ℕ} {g : ℕ → ℕ} {found i : ℕ} (w u : ℕ) (t : Bool) → Tallying x g found i → w ≡ g i → t ≡ same_side (name x) (side w) → u ≡ bool_byte t
    → Tallying x g (found + u) (i + 1)
tally_more {x} {g} {found} {i} w u t c e q h =
    let one_more : u ≡ one (same_side (name x) (side (g i))) = h ∙ one_is t ∙ ap one (q ∙ ap (λ v. same_side (name x) (side v)) e) in
    record {
      is =
          ap₂ ◌+◌ c.is one_more
          ∙ sym (tally-snoc (same_side (name x)) (sides_of g i) (side (g i)))
          ∙ ap (tally (same_side (name x))) (sym (tab-snoc i (λ k. side (g k))) ∙ ap (λ k. sides_of g k) (let z : suc i ≡ i + 1 = omega arith in z));
      few = omega (arith, c.few, one_more, one_small (same_side (name x) (side (g i))));
    }

one_more : (t : Bool) (n : ℕ) → one t + n ≡ cond t (1 + n) n
one_more true n = refl
one_more false n = omega arith

list_count : (x : ℕ) (l : List ℕ) → tally (same_side (name x)) (sides_of (λ k. get_or l k 0) (length l)) ≡ count_by (λ w. same_side (name x) (side w)) l
unfolding tab tally keep
list_count x l =
    is_count_by (λ l. tally (same_side (name x)) (sides_of (λ k. get_or l k 0) (length l))) (λ w. same_side (name x) (side w)) refl step l
  where
    step : (v : ℕ) (l : List ℕ)
        → tally (same_side (name x)) (sides_of (λ k. get_or (v ∷ l) k 0) (length (v ∷ l)))
        ≡ cond (same_side (name x) (side v)) (1 + tally (same_side (name x)) (sides_of (λ k. get_or l k 0) (length l))) (tally (same_side (name x)) (sides_of (λ k. get_or l k 0) (length l)))
    step v l =
        tally-cons (same_side (name x)) (side v) (sides_of (λ k. get_or l k 0) (length l))
        ∙ one_more (same_side (name x) (side v)) (tally (same_side (name x)) (sides_of (λ k. get_or l k 0) (length l)))

codes_count : (x : ℕ) (codes : List ℕ) (n : ℕ) → n ≤ length codes
    → tally (same_side (name x)) (sides_of (λ k. get_or codes k 0) n) ≡ count_by (λ w. same_side (name x) (side w)) (take n codes)
codes_count x codes n h =
    let z : n ≡ length (take n codes) = omega (arith, length-take n codes) in
    ap (tally (same_side (name x))) (tab_cong n _ _ (λ k q. ap side (sym (get_or-take n codes k 0 q))) ∙ ap (λ m. sides_of (λ k. get_or (take n codes) k 0) m) z)
    ∙ list_count x (take n codes)

pub codes_way : (x : ℕ) (codes : List ℕ) (n r : ℕ) → n ≤ length codes → r ≡ count_by (λ w. same_side (name x) (side w)) (take n codes)
    → Found r (tally (same_side (name x)) (face_on codes n)) n
unfolding face_on
codes_way x codes n r h e =
    record {
      is = e ∙ sym (codes_count x codes n h);
      few = omega (arith, count_by-le-length (λ w. same_side (name x) (side w)) (take n codes), length-take n codes);
    }

pub args_end : (x : ℕ) (s : Sheet) (c n found i : ℕ) → Tallying x (λ k. get_or s.arguments (arity_max * c + k) 0) found i → n ≤ i → i ≤ n → n ≤ arity_max
    → Found found (tally (same_side (name x)) (args_on s c n)) arity_max
unfolding args_on
args_end x s c n found i t h l q =
    record { is = t.is ∙ ap (λ k. tally (same_side (name x)) (sides_of (λ j. get_or s.arguments (arity_max * c + j) 0) k)) (let z : i ≡ n = omega arith in z); few = omega (arith, t.few) }

-- The same among the arguments of the first c cells.
pub record Celled (ags : List Agent) (s : Sheet) (x found c : ℕ) : Type 0 where
  pub is : found ≡ tally (same_side (name x)) (args_all (tab c (cell_on ags s)))
  pub few : found ≤ arity_max * c
  pub low : c ≤ s.cells
  pub most : s.cells ≤ net_cells_max

pub cells_start : (ags : List Agent) (s : Sheet) (x : ℕ) → s.cells ≤ net_cells_max → Celled ags s x 0 0
unfolding tab args_all
cells_start ags s x h = record { is = tally_none x; few = omega arith; low = omega arith; most = h }

args-snoc : (ks : List Cell) (k : Cell) → args_all (ks ++ (k ∷ [])) ≡ args_all ks ++ k.args
unfolding args_all
args-snoc [] k = append-nil k.args
args-snoc (j ∷ ks) k = ap (λ l. j.args ++ l) (args-snoc ks k) ∙ sym (append_assoc j.args (args_all ks) k.args)

args_on_lem : (ags : List Agent) (s : Sheet) (c : ℕ) → args_on s c (width_on ags s c) ≡ (cell_on ags s c).args
unfolding args_on cell_on
args_on_lem ags s c = refl

pub cells_more : {ags : List Agent} {s : Sheet} {x found c : ℕ} (n w r : ℕ) → Celled ags s x found c → n ≡ s.cells → c < n → w ≡ width_on ags s c
    → Found r (tally (same_side (name x)) (args_on s c w)) arity_max → Celled ags s x (found + r) (c + 1)
cells_more {ags} {s} {x} {found} {c} n w r t en h ew q =
    record {
      is =
          ap₂ ◌+◌ t.is (q.is ∙ ap (λ v. tally (same_side (name x)) (args_on s c v)) ew ∙ ap (tally (same_side (name x))) (args_on_lem ags s c))
          ∙ sym (tally-append (same_side (name x)) (args_all (tab c (cell_on ags s))) (cell_on ags s c).args)
          ∙ ap (tally (same_side (name x))) (sym (args-snoc (tab c (cell_on ags s)) (cell_on ags s c)) ∙ ap args_all (sym (tab-snoc c (cell_on ags s)) ∙ ap (λ k. tab k (cell_on ags s)) (let z : suc c ≡ c + 1 = omega arith in z)));
      few = omega (arith, t.few, q.few);
      low = omega (arith, en);
      most = t.most;
    }

pub cells_end : (ags : List Agent) (s : Sheet) (x n found c : ℕ) → Celled ags s x found c → n ≡ s.cells → n ≤ c
    → Found found (tally (same_side (name x)) (args_all (cells_on ags s))) (arity_max * net_cells_max)
unfolding cells_on
cells_end ags s x n found c t en h =
    record {
      is = t.is ∙ ap (λ k. tally (same_side (name x)) (args_all (tab k (cell_on ags s)))) (let z : c ≡ s.cells = omega (arith, t.low, en) in z);
      few = omega (arith, t.few, t.low, t.most);
    }

-- Another number of times than two.
pub loose_way : (ags : List Agent) (s : Sheet) (codes : List ℕ) (n x a b : ℕ) → Found a (tally (same_side (name x)) (face_on codes n)) n
    → Found b (tally (same_side (name x)) (args_all (cells_on ags s))) (arity_max * net_cells_max) → not (eqb (a + b) 2) ≡ loose_on ags s codes n x
unfolding loose_on stands_on
loose_way ags s codes n x a b p q = ap₂ (λ i j. not (eqb (i + j) 2)) p.is q.is

-- The first that passes a test: none below x does.
pub record Seeking (p : ℕ → Bool) (n x : ℕ) : Type 0 where
  pub low : x ≤ n
  pub rest : first_loose p x (n - x) ≡ first_loose p 0 n

pub seek_found : {p : ℕ → Bool} {n x : ℕ} (m : ℕ) (r : Bool) → Seeking p n x → m ≡ n → x < m → r ≡ p x → r ≡ true → x ≡ first_loose p 0 n
unfolding first_loose
seek_found {p} {n} {x} m r k em h e t =
    let z : n - x ≡ suc (n - suc x) = omega (arith, em) in
    sym (ap (first_loose p x) z ∙ ap (λ c. cond c x (first_loose p (suc x) (n - suc x))) (sym e ∙ t)) ∙ k.rest

pub seek_more : {p : ℕ → Bool} {n x : ℕ} (m : ℕ) (r : Bool) → Seeking p n x → m ≡ n → x < m → r ≡ p x → r ≡ false → Seeking p n (x + 1)
unfolding first_loose
seek_more {p} {n} {x} m r k em h e t =
    let z : n - x ≡ suc (n - suc x) = omega (arith, em) in
    record {
      low = omega (arith, em);
      rest =
          ap (λ y. first_loose p y (n - y)) (let q : x + 1 ≡ suc x = omega arith in q)
          ∙ sym (ap (first_loose p x) z ∙ ap (λ c. cond c x (first_loose p (suc x) (n - suc x))) (sym e ∙ t))
          ∙ k.rest;
    }

pub seek_end : {p : ℕ → Bool} {n x : ℕ} (m : ℕ) → Seeking p n x → m ≡ n → m ≤ x → m ≡ first_loose p 0 n
unfolding first_loose
seek_end {p} {n} {x} m k em h =
    (let z : m ≡ x = omega (arith, em, k.low) in z)
    ∙ sym (ap (first_loose p x) (let z : n - x ≡ 0 = omega (arith, em) in z))
    ∙ k.rest

-- The first n words of a list are its words by number.
front : (l : List ℕ) (n : ℕ) → n ≤ length l → tab n (λ k. get_or l k 0) ≡ take n l
unfolding tab
front l ℕ.zero h = refl
front [] (ℕ.suc n) h = absurd (omega arith)
front (v ∷ l) (ℕ.suc n) h = ap (λ k. v ∷ k) (front l n (omega arith))

-- The marks that do not pass x stand before the first that does.
passed_place : (x : ℕ) (l : List ℕ) → passed x l ≡ position_or_len (ltb x) l
unfolding passed
passed_place x l = is_position_or_len (passed x) (ltb x) refl step l
  where
    step : (m : ℕ) (l : List ℕ) → passed x (m ∷ l) ≡ cond (ltb x m) 0 (1 + passed x l)
    step m l = ap (λ n. cond (ltb x m) 0 n) (let z : suc (passed x l) ≡ 1 + passed x l = omega arith in z)

passed-fits : (x : ℕ) (l : List ℕ) → passed x l ≤ length l
unfolding passed
passed-fits x [] = omega arith
passed-fits x (m ∷ l) = go (ltb x m) (passed-fits x l)
  where
    go : (b : Bool) → passed x l ≤ length l → cond b 0 (suc (passed x l)) ≤ suc (length l)
    go true h = omega arith
    go false h = omega arith

found_or_end : (k n : ℕ) → k ≤ n → (b : Bool) → ltb k n ≡ b → unwrap_or (cond b (Some k) None) n ≡ k
found_or_end k n h true e = refl
found_or_end k n h false e = omega (arith, ltb-false)

first_passed : (x : ℕ) (l : List ℕ) → unwrap_or (position (ltb x) l) (length l) ≡ passed x l
first_passed x l =
    let k = position_or_len (ltb x) l in
    let small : k ≤ length l = omega (arith, passed-fits x l, passed_place x l) in
    found_or_end k (length l) small (ltb k (length l)) refl ∙ sym (passed_place x l)

-- o is the place found among the first n marks
pub pass_way : (x : ℕ) (marks : List ℕ) (n r : ℕ) (o : Option ℕ) → n ≤ length marks → o ≡ position (ltb x) (take n marks) → r ≡ unwrap_or o n
    → r ≡ passed x (tab n (λ k. get_or marks k 0))
pass_way x marks n r o h e q =
    let z : n ≡ length (take n marks) = omega (arith, length-take n marks) in
    q
    ∙ ap₂ unwrap_or e z
    ∙ first_passed x (take n marks)
    ∙ ap (passed x) (sym (front marks n h))
