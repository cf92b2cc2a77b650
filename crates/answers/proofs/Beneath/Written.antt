-- The byte printer writes what the printer of trees shows, spelt.
use Rattle.std.specs.Prelude.{◌≡◌, refl, List, [], ◌∷◌, ◌++◌, ℕ, zero, suc, ◌+◌, ◌≤◌, ◌<◌, get_or, set, length}
use Rattle.std.proofs.Math.Path.{sym, ap}
use Rattle.std.proofs.Common.{◌∙◌, ap₂, subst, length-set, get_or-set_same, get_or-set_other}
use Rattle.std.proofs.Math.Decide.{ℕ_discrete}
use native.Mathlib.Omega.{arith}
use Rattle.calculus.specs.Terms.{one, many, if_eq}
use Rattle.calculus.proofs.Beneath.Count.{if_yes, if_no}
use Rattle.calculus.proofs.Beneath.Ended.{All}
use Rattle.parts.specs.Limits.{names_max}
use Rattle.parts.specs.Sides.{Side, name, cell}
use Rattle.model.specs.State.{St, Bond, free, bare, to}
use Rattle.model.specs.Table.{Table}
use Rattle.model.specs.Sound.{mem_of}
use Rattle.model.specs.Ranges.{LiveSide}
use Rattle.texts.specs.Terms.{spell}
use Rattle.texts.specs.Books.{Agent}
use Rattle.answers.specs.Answer.{Numbered, Found, unknown, known, find, agents}
use Rattle.answers.specs.Printer.{Printer, Printed, name_printed, side_printed, sides_printed, cell_printed}
use Rattle.answers.specs.Printer.{state_bonds}
use Rattle.answers.specs.Text.{spelling, numeral, text}
use Rattle.answers.specs.Printing.{Pen, pen, Written, numbered, numbered_both, close, name_by, side_by}
use Rattle.answers.specs.Printing.{sides_by, cell_met, cell_by}
use Rattle.answers.proofs.Beneath.Lines.{parted, closed, spell-name, spell-agent}

-- The word of the number that a name was given.
abbrev pub number_word : Found → ℕ
number_word unknown = 0
number_word (known k) = suc k

-- The pen of the byte printer has the numbers of the other.
pub record Follows (R : Printer) (P : Pen) : Type 0 where
  pub next : P.next ≡ R.next
  pub numbers : (x : ℕ) → x < names_max → get_or P.numbers x 0 ≡ number_word (find x R.numbers)
  pub long : length P.numbers ≡ names_max

-- One name more with a number.
one_more : (x n : ℕ) (l : List ℕ) (m : List Numbered) → length l ≡ names_max → x < names_max
    → ((z : ℕ) → z < names_max → get_or l z 0 ≡ number_word (find z m))
    → (z : ℕ) → z < names_max → get_or (set l x (suc n)) z 0 ≡ number_word (find z (record { name = x; number = n } ∷ m))
one_more x n l m e k h z o = go (ℕ_discrete z x)
  where
    go : Dec (z ≡ x) → get_or (set l x (suc n)) z 0 ≡ number_word (if_eq z x (known n) (find z m))
    go (yes p) =
        ap (λ y. get_or (set l x (suc n)) y 0) p
        ∙ get_or-set_same l x (suc n) 0 (omega (arith, e, k))
        ∙ sym (ap number_word (if_yes (known n) (find z m) p))
    go (no q) = get_or-set_other l x z (suc n) 0 q ∙ h z o ∙ sym (ap number_word (if_no (known n) (find z m) q))

follows_one : (x : ℕ) (R : Printer) (P : Pen) → Follows R P → x < names_max
    → Follows (record { next = suc R.next; numbers = record { name = x; number = R.next } ∷ R.numbers }) (numbered x P)
unfolding numbered
follows_one x R P F k =
    record {
      next = ap suc F.next;
      numbers =
          λ z o.
          ap (λ n. get_or (set P.numbers x (suc n)) z 0) F.next
          ∙ one_more x R.next P.numbers R.numbers F.long k F.numbers z o;
      long = length-set P.numbers x (suc P.next) ∙ F.long;
    }

-- Two names take one number; which of them comes first in the list is the same.
follows_two : (x y : ℕ) (R : Printer) (P : Pen) → Follows R P → x < names_max → y < names_max
    → Follows
    (record {
      next = suc R.next;
      numbers = record { name = x; number = R.next } ∷ record { name = y; number = R.next } ∷ R.numbers;
    })
    (numbered_both x y P)
unfolding numbered_both
follows_two x y R P F k j =
    record {
      next = ap suc F.next;
      numbers =
          λ z o.
          ap (λ n. get_or (set (set P.numbers x (suc n)) y (suc n)) z 0) F.next
          ∙ one_more y n (set P.numbers x (suc n)) (record { name = x; number = n } ∷ R.numbers) longer j first z o
          ∙ turned z (ℕ_discrete z x) (ℕ_discrete z y);
      long =
          length-set (set P.numbers x (suc P.next)) y (suc P.next) ∙ length-set P.numbers x (suc P.next) ∙ F.long;
    }
  where
    n : ℕ
    n = R.next

    longer : length (set P.numbers x (suc n)) ≡ names_max
    longer = length-set P.numbers x (suc n) ∙ F.long

    first : (z : ℕ) → z < names_max
        → get_or (set P.numbers x (suc n)) z 0 ≡ number_word (find z (record { name = x; number = n } ∷ R.numbers))
    first = one_more x n P.numbers R.numbers F.long k F.numbers

    turned : (z : ℕ) → Dec (z ≡ x) → Dec (z ≡ y)
        → number_word (if_eq z y (known n) (if_eq z x (known n) (find z R.numbers)))
        ≡ number_word (if_eq z x (known n) (if_eq z y (known n) (find z R.numbers)))
    turned z (yes p) (yes q) = ap number_word (if_yes (known n) _ q ∙ sym (if_yes (known n) _ p))
    turned z (yes p) (no q) =
        ap number_word (if_no (known n) _ q ∙ if_yes (known n) _ p ∙ sym (if_yes (known n) _ p))
    turned z (no p) (yes q) =
        ap number_word (if_yes (known n) _ q ∙ sym (if_yes (known n) _ q) ∙ sym (if_no (known n) _ p))
    turned z (no p) (no q) =
        ap number_word (if_no (known n) _ q ∙ if_no (known n) _ p ∙ sym (if_no (known n) _ q) ∙ sym (if_no (known n) _ p))

-- What was written is what was shown, spelt; and each agent shown is one cell less.
pub record Wrote (ags : List Agent) (p : Printed one) (P : Pen) (w : Written) : Type 0 where
  pub bytes : w.bytes ≡ spell (text ags p.shown)
  pub follows : Follows p.after w.after
  pub less : w.after.left + agents p.shown ≡ P.left

pub record WroteAll (ags : List Agent) (f g : ℕ) (p : Printed many) (P : Pen) (w : Written) : Type 0 where
  pub bytes : w.bytes ≡ parted ags f g p.shown
  pub follows : Follows p.after w.after
  pub less : w.after.left + agents p.shown ≡ P.left

-- As the sides that are held are in use.
module _
    (ags : List Agent)
    (T : Table)
    (s : St)
    (live-args : (c : ℕ) → LiveSide s (cell c) → All (LiveSide s) (mem_of T s c).args)
    (live-bond : (x : ℕ) (t : Side) → state_bonds s x ≡ to t → LiveSide s t)
  where
    abbrev at : ℕ → ℕ → Printer → Printed one
    at m = cell_printed (mem_of T s) (state_bonds s) m

    abbrev CellWrites : ℕ → Type 0
    CellWrites m =
        (c : ℕ) → LiveSide s (cell c) → (R : Printer) (P : Pen) → Follows R P → agents (at m c R).shown < m
        → agents (at m c R).shown ≤ P.left → (n : ℕ) → P.left ≤ n → Wrote ags (at m c R) P (cell_by ags T s n c P)

    name_writes : (m : ℕ) → CellWrites m → (x : ℕ) → LiveSide s (name x) → (R : Printer) (P : Pen) → Follows R P
        → (f : Found) (b : Bond) → state_bonds s x ≡ b → agents (name_printed (at m) x R f b).shown < m
        → agents (name_printed (at m) x R f b).shown ≤ P.left → (n : ℕ) → P.left ≤ n
        → Wrote ags (name_printed (at m) x R f b) P (name_by ags T s (cell_by ags T s n) x P (number_word f) b)
    unfolding numbered numbered_both
    name_writes m h x o R P F (known k) b e i j n l =
        record { bytes = sym (spell-name ags k); follows = F; less = omega arith }
    name_writes m h x o R P F unknown free e i j n l =
        record {
          bytes = ap numeral F.next ∙ sym (spell-name ags R.next);
          follows = follows_one x R P F o.0;
          less = omega arith;
        }
    name_writes m h x o R P F unknown bare e i j n l =
        record {
          bytes = ap numeral F.next ∙ sym (spell-name ags R.next);
          follows = follows_one x R P F o.0;
          less = omega arith;
        }
    name_writes m h x o R P F unknown (to (name y)) e i j n l =
        record {
          bytes = ap numeral F.next ∙ sym (spell-name ags R.next);
          follows = follows_two x y R P F o.0 (live-bond x (name y) e).0;
          less = omega arith;
        }
    name_writes m h x o R P F unknown (to (cell c)) e i j n l = h c (live-bond x (cell c) e) R P F i j n l

    side_writes : (m : ℕ) → CellWrites m → (t : Side) → LiveSide s t → (R : Printer) (P : Pen) → Follows R P
        → agents (side_printed (state_bonds s) (at m) t R).shown < m
        → agents (side_printed (state_bonds s) (at m) t R).shown ≤ P.left → (n : ℕ) → P.left ≤ n
        → Wrote ags (side_printed (state_bonds s) (at m) t R) P (side_by ags T s (cell_by ags T s n) t P)
    side_writes m h (name x) o R P F i j n l =
        subst
        (λ v. Wrote ags (side_printed (state_bonds s) (at m) (name x) R) P (name_by ags T s (cell_by ags T s n) x P v (state_bonds s x)))
        (sym (F.numbers x o.0))
        (name_writes m h x o R P F (find x R.numbers) (state_bonds s x) refl i j n l)
    side_writes m h (cell c) o R P F i j n l = h c o R P F i j n l

    pub sides_write : (m : ℕ) → CellWrites m → (f g : ℕ) (ts : List Side) → All (LiveSide s) ts
        → (R : Printer) (P : Pen)
        → Follows R P
        → agents (sides_printed (state_bonds s) (at m) ts R).shown < m
        → agents (sides_printed (state_bonds s) (at m) ts R).shown ≤ P.left → (n : ℕ) → P.left ≤ n
        → WroteAll ags f g (sides_printed (state_bonds s) (at m) ts R) P (sides_by ags T s (cell_by ags T s n) f g ts P)
    sides_write m h f g [] o R P F i j n l = record { bytes = refl; follows = F; less = omega arith }
    sides_write m h f g (t ∷ ts) o R P F i j n l =
        let v = side_writes m h t o.0 R P F (omega (arith, i)) (omega (arith, j)) n l in
        let w =
        sides_write
        m
        h
        g
        g
        ts
        o.1
        (side_printed (state_bonds s) (at m) t R).after
        (side_by ags T s (cell_by ags T s n) t P).after
        v.follows
        (omega (arith, i))
        (omega (arith, j, v.less))
        n
        (omega (arith, l, v.less)) in
        record {
          bytes = ap₂ (λ a b. f ∷ (a ++ b)) v.bytes w.bytes;
          follows = w.follows;
          less = omega (arith, v.less, w.less);
        }

    -- The bracket after the arguments.
    close-shown : (m : ℕ) (ts : List Side) (R : Printer)
        → close ts ≡ closed (sides_printed (state_bonds s) (at m) ts R).shown
    close-shown m [] R = refl
    close-shown m (t ∷ ts) R = refl

    met_writes : (m : ℕ) → CellWrites m → (c : ℕ) → LiveSide s (cell c) → (R : Printer) (P : Pen) → Follows R P
        → agents (at (suc m) c R).shown < suc m → agents (at (suc m) c R).shown ≤ P.left
        → (n : ℕ) → P.left ≤ suc n → (k : ℕ) → P.left ≡ k
        → Wrote ags (at (suc m) c R) P (cell_met ags T s (cell_by ags T s n) (mem_of T s c) P k)
    met_writes m h c o R P F i j n l zero e = absurd (omega (arith, e, j))
    met_writes m h c o R P F i j n l (suc k) e =
        let ts = (mem_of T s c).args in
        let shown = (sides_printed (state_bonds s) (at m) ts R).shown in
        let w =
        sides_write
        m
        h
        40
        44
        ts
        (live-args c o)
        R
        (pen P.next P.numbers k)
        (record { next = F.next; numbers = F.numbers; long = F.long })
        (omega (arith, i))
        (omega (arith, j, e))
        n
        (omega (arith, l, e)) in
        record {
          bytes =
              ap₂ (λ a b. spelling ags (mem_of T s c).symbol ++ (a ++ b)) w.bytes (close-shown m ts R)
              ∙ sym (spell-agent ags (mem_of T s c).symbol shown);
          follows = w.follows;
          less = omega (arith, w.less, e);
        }

    pub cell_writes : (m : ℕ) → CellWrites m
    cell_writes zero c o R P F i j n l = absurd (omega (arith, i))
    cell_writes (suc m) c o R P F i j zero l = absurd (omega (arith, j, l))
    cell_writes (suc m) c o R P F i j (suc n) l = met_writes m (cell_writes m) c o R P F i j n l P.left refl
