-- One law for each way out of the functions that look at a side and number a name.
use Rattle.std.proofs.Common.{◌≡◌, refl, sym, ap, ◌∙◌, subst, List, [], ◌∷◌, ℕ, zero, suc, ◌+◌, ◌-◌, ◌<◌, ◌≤◌, add-one, arith, get_or, set}
use Rattle.parts.specs.Sides.{name, cell, side}
use Rattle.parts.specs.Sides as Plain
use Rattle.parts.specs.Typed.{typed, plain, plain-typed}
use Rattle.parts.specs.declared.Side.{Side}
use Rattle.parts.specs.declared.Side.TheVariants as Typed
use Rattle.parts.specs.declared.NameNo.{NameNo}
use Rattle.parts.specs.declared.CellNo.{CellNo}
use Rattle.model.specs.State.{St, bond, to}
use Rattle.model.specs.Ranges.{LiveSide}
use Rattle.answers.specs.Text.{numeral}
use Rattle.answers.specs.Printing.{pen, numbered, numbered_both}
use Rattle.answers.proofs.PrintingLaws.{side-cell, side-known, side-bare, side-joined, side_tied}
use Rattle.answers.proofs.Beneath.Live.{bonds-live}
use Rattle.printing.specs.Puts.{Puts}
use Rattle.printing.specs.Prints.{Prints, Looks, Stands, closing, one_name, two_names}
use Rattle.printing.specs.declared.terms.Cursor.{Cursor}
use Rattle.printing.specs.declared.terms.Met.TheVariants.{Numbered, Bare, Joined, Cell}

bond_of : (v : ℕ) → 2 ≤ v → bond v ≡ to (side (v - 2))
bond_of zero h = absurd (omega arith)
bond_of (suc zero) h = absurd (omega arith)
bond_of (suc (suc n)) h = let q : suc (suc n) - 2 ≡ n = omega arith in ap (λ k. to (side k)) (sym q)

-- The side that a word stands for, in an arm of a match.
side-name : (u : Side) (word : ℕ) (y : NameNo) → u ≡ typed (side word) → u ≡ Typed.Name y → side word ≡ name y.0
side-name u word y d m = sym (plain-typed (side word)) ∙ ap plain (sym d ∙ m)

side-cell_no : (u : Side) (word : ℕ) (c : CellNo) → u ≡ typed (side word) → u ≡ Typed.Cell c → side word ≡ cell c.0
side-cell_no u word c d m = sym (plain-typed (side word)) ∙ ap plain (sym d ∙ m)

module _ (s : St) (ns : List ℕ) (x : NameNo) (o : LiveSide s (name x.0)) (k : ℕ) (e : k ≡ get_or ns x.0 0) where
  pub looks_numbered : ¬ (k ≡ 0) → Looks s ns (name x.0) (Numbered (k - 1))
  looks_numbered n =
      record {
        is = λ ags T P q.
            side-known ags T s x.0 (k - 1) P (ap (λ l. get_or l x.0 0) q ∙ (sym e ∙ above k n));
        live = λ T t h. tt;
      }
    where
      above : (k : ℕ) → ¬ (k ≡ 0) → k ≡ suc (k - 1)
      above zero n = absurd (n refl)
      above (suc k) n = omega arith

  module _ (z : k ≡ 0) (word : ℕ) (f : word ≡ get_or s.names x.0 0) where
    pub looks_bare : word < 2 → Looks s ns (name x.0) (Bare x)
    looks_bare h =
        record {
          is = λ ags T P q. side-bare ags T s x.0 P (ap (λ l. get_or l x.0 0) q ∙ (sym e ∙ z)) (omega (arith, f));
          live = λ T t h. o;
        }

    bonded : (a : Plain.Side) → 2 ≤ word → side (word - 2) ≡ a → bond (get_or s.names x.0 0) ≡ to a
    bonded a h q = ap bond (sym f) ∙ (bond_of word h ∙ ap to q)

    module _ (u : Side) (h : 2 ≤ word) (d : u ≡ typed (side (word - 2))) where
      pub looks_joined : (y : NameNo) → u ≡ Typed.Name y → Looks s ns (name x.0) (Joined x y)
      looks_joined y m =
          let b = bonded (name y.0) h (side-name u (word - 2) y d m) in
          record {
            is = λ ags T P q. side-joined ags T s x.0 y.0 P (ap (λ l. get_or l x.0 0) q ∙ (sym e ∙ z)) b;
            live = λ T t h. (o, bonds-live t h x.0 (name y.0) b);
          }

      pub looks_tied : (c : CellNo) → u ≡ Typed.Cell c → Looks s ns (name x.0) (Cell c)
      looks_tied c m =
          let b = bonded (cell c.0) h (side-cell_no u (word - 2) c d m) in
          record {
            is = λ ags T P q. side_tied ags T s x.0 c.0 P (ap (λ l. get_or l x.0 0) q ∙ (sym e ∙ z)) b;
            live = λ T t h. bonds-live t h x.0 (cell c.0) b;
          }

-- A side of any kind.
pub name_there : (s : St) (word : ℕ) (u : Side) (x : NameNo) → LiveSide s (side word) → u ≡ typed (side word) → u ≡ Typed.Name x
    → LiveSide s (name x.0)
name_there s word u x o d m = subst (LiveSide s) (side-name u word x d m) o

module _ (s : St) (ns : List ℕ) (word : ℕ) (u : Side) (d : u ≡ typed (side word)) where
  pub looks_name : (x : NameNo) (r : _) → u ≡ Typed.Name x → Looks s ns (name x.0) r → Looks s ns (side word) r
  looks_name x r m l = subst (λ t. Looks s ns t r) (sym (side-name u word x d m)) l

  pub looks_cell : (c : CellNo) → LiveSide s (side word) → u ≡ Typed.Cell c → Looks s ns (side word) (Cell c)
  looks_cell c o m =
      let q = side-cell_no u word c d m in
      subst
      (λ t. Looks s ns t (Cell c))
      (sym q)
      record { is = λ ags T P e. side-cell ags T s c.0 P; live = λ T t h. subst (LiveSide s) q o }

-- A name that takes a number.
pub one_way : (k r : Cursor) (ns o o' : List ℕ) (x p : ℕ) → Puts (numeral k.next) k.at o p o'
    → r ≡ record { at = p; next = k.next + 1; left = k.left }
    → Prints (one_name x k ns) k.at o r (set ns x (k.next + 1)) o'
unfolding one_name numbered
one_way k r ns o o' x p t e =
    let z : k.next + 1 ≡ suc k.next = add-one k.next in
    rw (e, z) record { place = t.place; bytes = t.bytes; after = refl }

-- A second name takes the number that a first was given.
pub two_way : (k r : Cursor) (ns ns' o o' : List ℕ) (x y : ℕ) → Prints (one_name x k ns) k.at o r ns' o'
    → Prints (two_names x y k ns) k.at o r (set ns' y r.next) o'
unfolding one_name numbered two_names numbered_both
two_way k r ns ns' o o' x y t =
    record {
      place = t.place;
      bytes = t.bytes;
      after = ap (λ P. pen P.next (set P.numbers y P.next) P.left) t.after;
    }

-- The bracket of a cell.
pub closing_none : (k : Cursor) (o : List ℕ) (n : ℕ) → n ≡ 0 → Stands (closing n) k o k o
closing_none k o n e =
    rw e record { puts = record { place = omega arith; bytes = refl }; same = λ ns. refl }

pub closing_some : (k r : Cursor) (o o' : List ℕ) (n : ℕ) → ¬ (n ≡ 0) → Stands (41 ∷ []) k o r o' → Stands (closing n) k o r o'
closing_some k r o o' zero h t = absurd (h refl)
closing_some k r o o' (suc n) h t = t
