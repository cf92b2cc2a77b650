-- Sides walked one after the other, and what is left of them while a walk goes on: the one invariant of every loop here.
use Rattle.std.proofs.Common.{◌≡◌, refl, ◌∙◌, Bool, true, false, not, List, [], ◌++◌, append_assoc, ℕ, ◌≤◌, arith, length}
use borrow.Author.Tests.{not-true, not-false}
use Rattle.parts.specs.Sides.{Side}
use Rattle.model.specs.State.{St}
use Rattle.model.specs.Table as Model
use Rattle.model.specs.Sound.{mem_of}
use Rattle.sound.specs.Lent.{under}
use Rattle.cell_walk.specs.Walks.{unmet, Steps, Walked, Ready}

module _ (mem : ℕ → Model.Cell) (ss : List ℕ) where
  pub steps_none : (seen : List ℕ) → Steps mem ss [] seen true seen
  steps_none seen = record { goes = λ todo r k. k; size = refl; falls = omega arith }

  pub steps_then : {l m : List Side} {seen seen₁ seen₂ : List ℕ} {ok : Bool} → Steps mem ss l seen true seen₁ → Steps mem ss m seen₁ ok seen₂
      → Steps mem ss (l ++ m) seen ok seen₂
  steps_then {l} {m} {seen} {seen₁} {seen₂} {ok} f g = record {
    goes = λ todo r k. rw (append_assoc l m todo) (f.goes (m ++ todo) r (g.goes todo r k));
    size = g.size ∙ f.size;
    falls = omega (arith, f.falls, g.falls);
  }

  pub steps-stop : {l : List Side} {seen seen₁ : List ℕ} (m : List Side) → Steps mem ss l seen false seen₁ → Steps mem ss (l ++ m) seen false seen₁
  steps-stop {l} m f = record { goes = λ todo r k. rw (append_assoc l m todo) (f.goes (m ++ todo) r k); size = f.size; falls = f.falls }

-- The sides l are those of a and then those of m; they begin with those of a.
pub record Cut (l a m : List Side) : Type 0 where
  pub parts : l ≡ a ++ m

pub record Begins (l a : List Side) : Type 0 where
  pub after : List Side
  pub cut : Cut l a after

pub begins : {l a m : List Side} → Cut l a m → Begins l a
begins {l} {a} {m} e = record { after = m; cut = e }

-- Of the sides `all`, which were to be walked when the cells of `before` were seen, those of `rest` are left.
pub record Left (w : List ℕ) (s : St) (all : List Side) (before : List ℕ) (rest : List Side) (seen : List ℕ) : Type 0 where
  pub on : (ok : Bool) (seen₁ : List ℕ) → Walked w s rest seen ok seen₁ → Walked w s all before ok seen₁
  pub size : length seen ≡ length before
  pub falls : unmet seen ≤ unmet before

pub left_all : (w : List ℕ) (s : St) (l : List Side) (seen : List ℕ) → Left w s l seen l seen
left_all w s l seen = record { on = λ ok seen₁ f. f; size = refl; falls = omega arith }

module _ {w : List ℕ} {s : St} {all rest : List Side} {before seen : List ℕ} (h : Left w s all before rest seen) where
  pub left_ready : Ready s before → Ready s seen
  left_ready z = record { sizes = z.sizes; marks = h.size ∙ z.marks }

  pub left_end : rest ≡ [] → Walked w s all before true seen
  left_end e = h.on true seen (rw e (steps_none (mem_of (under w) s) s.symbols seen))

  module _ {a : List Side} {seen₁ : List ℕ} {ok : Bool} (f : Walked w s a seen ok seen₁) where
    pub left_more : {m : List Side} → not ok ≡ false → Cut rest a m → Left w s all before m seen₁
    left_more t e =
        let g = rw (not-false ok t) at f in
        record {
          on = λ r seen₂ k. h.on r seen₂ (rw e.parts (steps_then (mem_of (under w) s) s.symbols g k));
          size = g.size ∙ h.size;
          falls = omega (arith, g.falls, h.falls);
        }

    pub left_stop : not ok ≡ true → Begins rest a → Walked w s all before false seen₁
    left_stop t e =
        h.on false seen₁ (rw e.cut.parts (steps-stop (mem_of (under w) s) s.symbols e.after (rw (not-true ok t) at f)))
