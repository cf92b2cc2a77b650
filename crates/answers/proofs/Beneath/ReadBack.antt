-- Every term that is printed reads back: its symbols are declared and its numbers have four digits at most.
use Rattle.std.specs.Prelude.{◌≡◌, Bool, false, cond, not, ◌&&◌, ◌||◌, List, [], ◌∷◌, ℕ, zero, suc, ◌≤◌, ◌<◌, pred, get_or, length, eqb, leb}
use Rattle.std.proofs.Math.Path.{refl}
use Rattle.std.proofs.Common.{sym, ◌∙◌, ap, subst, arith}
use Rattle.std.proofs.Math.Bool.{true}
use mathlib.Core.List.Memᴰ
use Rattle.std.proofs.Math.Option.{none, some}
use Rattle.std.proofs.Math.Decide.{ℕ_discrete}
use Rattle.calculus.specs.Terms.{Sort, one, many, Tree, var, node, nil, cons, Terms}
use Rattle.calculus.proofs.Beneath.Count.{if_yes, if_no}
use Rattle.calculus.proofs.Beneath.Ended.{All}
use Rattle.parts.specs.Sides.{Side, name, cell}
use Rattle.model.specs.State.{St, Bond, free, bare, to, used, listed}
use Rattle.model.specs.Table.{Table}
use Rattle.model.specs.Sound.{Sound, mem_of, meaning, sides}
use Rattle.model.specs.SoundTable.{SoundTable}
use Rattle.model.specs.Ranges.{LiveSide}
use Rattle.model.proofs.Beneath.Ranges.{face-live, stuck-live}
use Rattle.texts.specs.Bytes.{Word, all, letter, digit, word_byte, is_number, number_of, value, decimal, In}
use Rattle.texts.specs.Terms.{identifier, spell, worded, wordeds}
use Rattle.texts.specs.Books.{Agent}
use Rattle.texts.specs.Conditions.{SpeltAgents}
use Rattle.texts.proofs.Beneath.Tools.{never, both, pair, all_mono}
use Rattle.texts.proofs.Beneath.Agents.{symbol-identifier}
use Rattle.texts.specs.Reader.{term_of}
use Rattle.texts.proofs.Main.{field-means, number-means}
use Rattle.answers.specs.Printer.{pair_sides, state_face, state_pairs, Printer, Printed, name_printed}
use Rattle.answers.specs.Printer.{side_printed, sides_printed, cell_printed, state_bonds}
use Rattle.answers.specs.Printing.{answer_written}
use Rattle.answers.proofs.PrintingLaws.{next-below, answer-kept}
use Rattle.answers.proofs.Beneath.Knot.{unmet}
use Rattle.answers.proofs.Beneath.Live.{all_taken, all_pairs, args-live, bonds-live}
use Rattle.answers.proofs.Beneath.Bound.{state-printed}
use Rattle.answers.proofs.Beneath.Tally.{cells-are-agents}
use Rattle.answers.proofs.Beneath.AnswerBytes.{last_follows}
use Rattle.answers.specs.Answer.{answer, Numbered, Found, unknown, known, find}
use Rattle.answers.specs.Text.{Text, no_agent, spelling, numeral, text, texts}

-- The numbers in a tree are below n, its symbols below k.
abbrev pub Within : ℕ → ℕ → {s : Sort} → Tree s → Type 0
Within n k (var x) = x < n
Within n k (node a ts) = (a < k) × Within n k ts
Within n k nil = Unit {0}
Within n k (cons t ts) = Within n k t × Within n k ts

-- A name's number is digits.
digit-word : (b : ℕ) → digit b ≡ true → word_byte b ≡ true
unfolding word_byte
digit-word b h = go (letter b) (digit b) (eqb b 95) h
  where
    go : (l d u : Bool) → d ≡ true → (l || d || u) ≡ true
    go true d u k = refl
    go false d u k = rw k

number_word : (w : Word) → is_number w ≡ true → all word_byte w ≡ true
unfolding is_number
number_word [] h = never h
number_word (d ∷ ds) h =
    let s : Word = d ∷ ds in
    let p = both (all digit s && leb (length s) 4) (eqb (length s) 1 || not (eqb d 48)) h in
    all_mono digit word_byte digit-word s (both (all digit s) (leb (length s) 4) p.0).0

decimal-word : (n : ℕ) → n < 10000 → all word_byte (decimal n) ≡ true
unfolding number_of
decimal-word n h = go (is_number (decimal n)) refl ((number-means (decimal n) n).1 (refl, h))
  where
    go : (t : Bool) → is_number (decimal n) ≡ t → cond t (some (value 0 (decimal n))) none ≡ some n
        → all word_byte (decimal n) ≡ true
    go true e k = number_word (decimal n) e
    go false e k = absurd (let z : ◌≡◌ {A = ℕ} 0 1 = cc in omega arith)

numeral-word : (n : ℕ) → n < 10000 → identifier (numeral n) ≡ true
unfolding numeral identifier letter
numeral-word n h = decimal-word n h

-- A symbol's spelling begins with a letter.
place_in : (ags : List Agent) (a : ℕ) → a < length ags → In (get_or ags a no_agent) ags
place_in [] a h = absurd (omega (arith, h))
place_in (g ∷ ags) zero h = Memᴰ.head refl
place_in (g ∷ ags) (suc a) h = Memᴰ.tail (place_in ags a (omega (arith, h)))

abbrev well : (s : Sort) → Text s → Bool
well one t = worded t
well many ts = wordeds ts

module _ (ags : List Agent) (g : SpeltAgents ags) where
  well-within : {s : Sort} (t : Tree s) → Within 10000 (length ags) t → well s (text ags t) ≡ true
  unfolding worded wordeds spelling
  well-within (var x) h = pair (identifier (numeral x)) true (numeral-word x h) refl
  well-within (node a ts) h =
      pair
      (identifier (get_or ags a no_agent).symbol)
      (wordeds (text ags ts))
      (symbol-identifier (get_or ags a no_agent).symbol (g.spelt (get_or ags a no_agent) (place_in ags a h.0)).0)
      (well-within ts h.1)
  well-within nil h = refl
  well-within (cons t ts) h =
      pair (worded (text ags t)) (wordeds (text ags ts)) (well-within t h.0) (well-within ts h.1)

  pub reads-within : (ts : Terms) → Within 10000 (length ags) ts → All (λ u. term_of (spell u) ≡ some u) (texts ags ts)
  reads-within nil h = tt
  reads-within (cons t ts) h =
      ((field-means (spell (text ags t)) (text ags t)).1 (refl, well-within t h.0), reads-within ts h.1)

-- The printer gives numbers one by one.
abbrev Small : Printer → Type 0
Small R = (x k : ℕ) → find x R.numbers ≡ known k → k < R.next

pub record Kept (N K : ℕ) {s : Sort} (R : Printer) (p : Printed s) : Type 0 where
  pub small : Small p.after
  pub rises : R.next ≤ p.after.next
  pub within : p.after.next ≤ N → Within N K p.shown

number_is : {k j : ℕ} → known k ≡ known j → k ≡ j
number_is e = ap of e
  where
    of : Found → ℕ
    of unknown = 0
    of (known k) = k

-- One more name with the number n.
small_more : (e : Numbered) (l : List Numbered) (n : ℕ) → e.number < n → ((x k : ℕ) → find x l ≡ known k → k < n)
    → (x k : ℕ) → find x (e ∷ l) ≡ known k → k < n
small_more e l n h f x k q = go (ℕ_discrete x e.name)
  where
    go : Dec (x ≡ e.name) → k < n
    go (yes p) =
        let r : e.number ≡ k = number_is (sym (if_yes (known e.number) (find x l) p) ∙ q) in omega (arith, h, r)
    go (no p) = f x k (sym (if_no (known e.number) (find x l) p) ∙ q)

module _
    (N K : ℕ)
    (some_room : 0 < N)
    (T : Table)
    (s : St)
    (live-args : (c : ℕ) → LiveSide s (cell c) → All (LiveSide s) (mem_of T s c).args)
    (live-bond : (x : ℕ) (t : Side) → state_bonds s x ≡ to t → LiveSide s t)
    (live-symbol : (c : ℕ) → LiveSide s (cell c) → (mem_of T s c).symbol < K)
  where
    abbrev at : ℕ → ℕ → Printer → Printed one
    at m = cell_printed (mem_of T s) (state_bonds s) m

    abbrev CellKept : ℕ → Type 0
    CellKept m = (c : ℕ) → LiveSide s (cell c) → (R : Printer) → Small R → Kept N K R (at m c R)

    name-kept : (m : ℕ) → CellKept m → (x : ℕ) → LiveSide s (name x) → (R : Printer) → Small R → (f : Found)
        → find x R.numbers ≡ f
        → (b : Bond) → state_bonds s x ≡ b → Kept N K R (name_printed (at m) x R f b)
    name-kept m h x o R S (known k) e b q =
        record { small = S; rises = omega arith; within = λ l. omega (arith, l, S x k e) }
    name-kept m h x o R S unknown e free q =
        record {
          small =
              small_more (record { name = x; number = R.next }) R.numbers (suc R.next) (omega arith) (λ z k r. omega (arith, S z k r));
          rises = omega arith;
          within = λ l. omega (arith, l);
        }
    name-kept m h x o R S unknown e bare q =
        record {
          small =
              small_more (record { name = x; number = R.next }) R.numbers (suc R.next) (omega arith) (λ z k r. omega (arith, S z k r));
          rises = omega arith;
          within = λ l. omega (arith, l);
        }
    name-kept m h x o R S unknown e (to (name y)) q =
        record {
          small =
              small_more
              (record { name = x; number = R.next })
              (record { name = y; number = R.next } ∷ R.numbers)
              (suc R.next)
              (omega arith)
              (small_more (record { name = y; number = R.next }) R.numbers (suc R.next) (omega arith) (λ z k r. omega (arith, S z k r)));
          rises = omega arith;
          within = λ l. omega (arith, l);
        }
    name-kept m h x o R S unknown e (to (cell c)) q = h c (live-bond x (cell c) q) R S

    side-kept : (m : ℕ) → CellKept m → (t : Side) → LiveSide s t → (R : Printer) → Small R
        → Kept N K R (side_printed (state_bonds s) (at m) t R)
    side-kept m h (name x) o R S = name-kept m h x o R S (find x R.numbers) refl (state_bonds s x) refl
    side-kept m h (cell c) o R S = h c o R S

    pub sides-kept : (m : ℕ) → CellKept m → (ts : List Side) → All (LiveSide s) ts → (R : Printer) → Small R
        → Kept N K R (sides_printed (state_bonds s) (at m) ts R)
    sides-kept m h [] o R S = record { small = S; rises = omega arith; within = λ l. tt }
    sides-kept m h (t ∷ ts) o R S =
        let v = side-kept m h t o.0 R S in
        let w = sides-kept m h ts o.1 (side_printed (state_bonds s) (at m) t R).after v.small in
        record {
          small = w.small;
          rises = omega (arith, v.rises, w.rises);
          within = λ l. (v.within (omega (arith, l, w.rises)), w.within l);
        }

    pub cell-kept : (m : ℕ) → CellKept m
    cell-kept zero c o R S = record { small = S; rises = omega arith; within = λ l. some_room }
    cell-kept (suc m) c o R S =
        let w = sides-kept m (cell-kept m) (mem_of T s c).args (live-args c o) R S in
        record { small = w.small; rises = w.rises; within = λ l. (live-symbol c o, w.within l) }

abbrev ReadsBack : List Agent → Terms → Type 0
ReadsBack ags ts = All (λ u. term_of (spell u) ≡ some u) (texts ags ts)

module _ (ags : List Agent) (g : SpeltAgents ags) {T : Table} (t : SoundTable T) (as_many : length T.arities ≡ length ags) {s : St} (h : Sound T s) (e : s.waiting.used ≡ 0) where
  abbrev m : ℕ
  m = suc (used s.symbols)

  symbols-small : (c : ℕ) → LiveSide s (cell c) → (mem_of T s c).symbol < length ags
  symbols-small c o =
      let r : pred (get_or s.symbols c 0) < length ags = omega (arith, o.1, h.declared c, as_many) in r

  cells-kept : (c : ℕ) → LiveSide s (cell c) → (R : Printer) → Small R
      → Kept 10000 (length ags) R (cell_printed (mem_of T s) (state_bonds s) m c R)
  cells-kept = cell-kept 10000 (length ags) (omega arith) T s (args-live t h) (bonds-live t h) symbols-small m

  face-kept : Kept 10000 (length ags) (record { next = 0; numbers = [] }) (state_face T s m)
  face-kept =
      sides-kept
      10000
      (length ags)
      (omega arith)
      T
      s
      (args-live t h)
      (bonds-live t h)
      symbols-small
      m
      cells-kept
      (sides s.face)
      (all_taken (LiveSide s) s.face.used s.face.words (face-live t s h))
      (record { next = 0; numbers = [] })
      (λ x k r. absurd (unmet r))

  pairs-kept : Kept 10000 (length ags) (state_face T s m).after (state_pairs T s m)
  pairs-kept =
      sides-kept
      10000
      (length ags)
      (omega arith)
      T
      s
      (args-live t h)
      (bonds-live t h)
      symbols-small
      m
      cells-kept
      (pair_sides (listed s.stuck))
      (all_pairs (LiveSide s) s.stuck.used s.stuck.words (stuck-live t s h))
      (state_face T s m).after
      face-kept.small

  few-numbers : (state_pairs T s m).after.next ≤ 10000
  few-numbers =
      omega (
        arith,
        (last_follows ags t h e).next,
        next-below (answer_written ags T s).after (answer-kept ags t h),
      )

  pub answer-reads : ReadsBack ags (answer (meaning h)).face × ReadsBack ags (answer (meaning h)).pairs
  answer-reads =
      let shown = state-printed t h e m (omega (arith, cells-are-agents h)) in (
        subst (ReadsBack ags) shown.0 (reads-within ags g (state_face T s m).shown (face-kept.within (omega (arith, few-numbers, pairs-kept.rises)))),
        subst (ReadsBack ags) shown.1 (reads-within ags g (state_pairs T s m).shown (pairs-kept.within few-numbers)),
      )
