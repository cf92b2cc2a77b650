-- The loops of the writer: what each round leaves to be done.
use Prim.Native.Nat.{ℕ, zero, suc, ◌+◌, ◌*◌, ◌/◌, ◌%◌, ◌-◌, ◌<◌, ◌≤◌, pred}
use mathlib.Core.Path.{◌≡◌, refl, sym, ap, ap₂, ◌∙◌}
use mathlib.Core.List.{List, ◌∷◌, map}
use native.Mathlib.Omega.{arith}
use lib.ListN.{length, get_or, drop}
use lib.Seq.{drop-cons, drop-length}
use Rattle.parts.specs.Limits.{arity_max, net_cells_max, net_equations_max}
use Rattle.parts.specs.Sides.{Pair, name, cell, ◌:=◌, code, side}
use Rattle.parts.specs.Codes.{code-side}
use Rattle.parts.specs.Typed.{pair, number, typed, equation, plain-typed}
use Rattle.parts.specs.declared.Equation.{Equation}
use Rattle.model.specs.Table.{no_cell}
use Rattle.model.specs.State.{St}
use Rattle.texts.specs.Books.{Agent}
use Rattle.texts.specs.Coded.{arity_at}
use Rattle.table.specs.Layout.{agents_in}
use Rattle.table.specs.Lists.{tab}
use Rattle.table.specs.Laws.Lists.{length-tab, tab_at}
use Rattle.terms.specs.Sheet.{Sheet}
use Rattle.state.specs.Places.{stored, counted}
use Rattle.state.specs.Moves.{put_on}
use Rattle.state.specs.declared.Part.{Part}
use Rattle.state.specs.declared.Part.TheVariants.{Symbols, Arguments, Face}
use Rattle.state.specs.declared.Pile.TheVariants.{Waits, Faces}
use Rattle.loading.specs.OnSheet.{symbol_on, width_on, cell_on, cells_on, equation_on, equations_on, Lent}
use Rattle.loading.specs.Writing.{laid, cell_written, cells_from, Equated, faced, stacked}

pub symbol_way : (s : Sheet) (c w r : ℕ) → w ≡ get_or s.symbols c 0 → w < 65536 → r ≡ w - 1 → (r ≡ symbol_on s c) × (r < 65535)
unfolding symbol_on
symbol_way s c w r e f q = ((let z : r ≡ pred w = omega arith in z) ∙ ap pred e, omega arith)

-- r is the arity found, and m is it as a word
pub width_way : (table : List ℕ) (s : Sheet) (c k r m : ℕ) → k ≡ symbol_on s c → r ≡ arity_at (agents_in table) k → m ≡ r → Lent table
    → (m ≡ width_on (agents_in table) s c) × (m ≤ arity_max)
unfolding width_on
width_way table s c k r m e q h l = (h ∙ q ∙ ap (arity_at (agents_in table)) e, omega (arith, q, l.narrow k))

-- Words laid: those from number i on are still to be written.
pub record Laying (p : Part) (at n : ℕ) (f : ℕ → ℕ) (s₀ s : St) (i : ℕ) : Type 0 where
  pub low : i ≤ n
  pub rest : laid p (at + i) (drop i (tab n f)) s ≡ laid p at (tab n f) s₀

pub lay_more : {p : Part} {at n : ℕ} {f : ℕ → ℕ} {s₀ s : St} {i : ℕ} (s₁ : St) (v : ℕ) → Laying p at n f s₀ s i → i < n → v ≡ f i
    → s₁ ≡ stored p (at + i) v s → Laying p at n f s₀ s₁ (i + 1)
unfolding laid
lay_more {p} {at} {n} {f} {s₀} {s} {i} s₁ v l h e q =
    record {
      low = omega arith;
      rest =
          ap₂ (λ k m. laid p k (drop m (tab n f)) s₁) (let z : at + (i + 1) ≡ suc (at + i) = omega arith in z) (let z : i + 1 ≡ suc i = omega arith in z)
          ∙ ap (laid p (suc (at + i)) (drop (suc i) (tab n f))) (q ∙ ap (λ w. stored p (at + i) w s) (e ∙ sym (tab_at n f i 0 h)))
          ∙ sym (ap (λ m. laid p (at + i) m s) (drop-cons (tab n f) i 0 (omega (arith, length-tab n f))))
          ∙ l.rest;
    }

pub lay_on : {p : Part} {n : ℕ} {f : ℕ → ℕ} {s₀ s : St} {i : ℕ} (s₁ : St) (v : ℕ) → Laying p 0 n f s₀ s i → i < n → v ≡ f i
    → s₁ ≡ stored p i v s → Laying p 0 n f s₀ s₁ (i + 1)
lay_on {p} {n} {f} {s₀} {s} {i} s₁ v l h e q = lay_more s₁ v l h e (q ∙ ap (λ k. stored p k v s) (let z : i ≡ 0 + i = omega arith in z))

pub lay_end : {p : Part} {at n : ℕ} {f : ℕ → ℕ} {s₀ s : St} {i : ℕ} → Laying p at n f s₀ s i → n ≤ i → s ≡ laid p at (tab n f) s₀
unfolding laid
lay_end {p} {at} {n} {f} {s₀} {s} {i} l h =
    let z : i ≡ length (tab n f) = omega (arith, l.low, length-tab n f) in
    sym (ap (λ m. laid p (at + i) m s) (ap (λ k. drop k (tab n f)) z ∙ drop-length (tab n f))) ∙ l.rest

pub face_end : {n : ℕ} {f : ℕ → ℕ} {s₀ s : St} {i : ℕ} (s₁ : St) → Laying Face 0 n f s₀ s i → n ≤ i → s₁ ≡ counted Faces n s → s₁ ≡ faced (tab n f) n s₀
unfolding faced
face_end {n} s₁ l h e = e ∙ ap (counted Faces n) (lay_end l h)

-- A cell.
pub codes-tab : (n : ℕ) (f : ℕ → ℕ) → map code (tab n (λ k. side (f k))) ≡ tab n f
unfolding tab
codes-tab ℕ.zero f = refl
codes-tab (ℕ.suc n) f = ap₂ ◌∷◌ (code-side (f 0)) (codes-tab n (λ k. f (suc k)))

pub cell_way : (ags : List Agent) (h : Sheet) (c k n : ℕ) (s₀ s₁ s₂ : St) → k ≡ symbol_on h c → n ≡ width_on ags h c → s₁ ≡ stored Symbols c (k + 1) s₀
    → s₂ ≡ laid Arguments (arity_max * c) (tab n (λ j. get_or h.arguments (arity_max * c + j) 0)) s₁ → s₂ ≡ cell_written c (cell_on ags h c) s₀
unfolding cell_written cell_on
cell_way ags h c k n s₀ s₁ s₂ ek en e₁ e₂ =
    e₂
    ∙ ap₂ (λ m s. laid Arguments (arity_max * c) (tab m (λ j. get_or h.arguments (arity_max * c + j) 0)) s) en (e₁ ∙ ap (λ m. stored Symbols c m s₀) ((let z : k + 1 ≡ suc k = omega arith in z) ∙ ap suc ek))
    ∙ ap (λ m. laid Arguments (arity_max * c) m (stored Symbols c (suc (symbol_on h c)) s₀)) (sym (codes-tab (width_on ags h c) (λ j. get_or h.arguments (arity_max * c + j) 0)))

-- Cells written: those from number c on are still to be written.
pub record Celling (ags : List Agent) (h : Sheet) (s₀ s : St) (c : ℕ) : Type 0 where
  pub low : c ≤ h.cells
  pub few : h.cells ≤ net_cells_max
  pub rest : cells_from c (drop c (cells_on ags h)) s ≡ cells_from 0 (cells_on ags h) s₀

pub cell_more : {ags : List Agent} {h : Sheet} {s₀ s : St} {c : ℕ} (n : ℕ) (s₁ : St) → Celling ags h s₀ s c → n ≡ h.cells → c < n
    → s₁ ≡ cell_written c (cell_on ags h c) s → Celling ags h s₀ s₁ (c + 1)
unfolding cells_from cells_on
cell_more {ags} {h} {s₀} {s} {c} n s₁ l en q e =
    let k : c < h.cells = omega (arith, en) in
    let d = drop-cons (tab h.cells (cell_on ags h)) c no_cell (omega (arith, length-tab h.cells (cell_on ags h), k)) in
    record {
      low = omega (arith, k);
      few = l.few;
      rest =
          ap (λ m. cells_from m (drop m (tab h.cells (cell_on ags h))) s₁) (let z : c + 1 ≡ suc c = omega arith in z)
          ∙ ap (cells_from (suc c) (drop (suc c) (tab h.cells (cell_on ags h)))) (e ∙ ap (λ x. cell_written c x s) (sym (tab_at h.cells (cell_on ags h) c no_cell k)))
          ∙ sym (ap (λ m. cells_from c m s) d)
          ∙ l.rest;
    }

pub cell_end : {ags : List Agent} {h : Sheet} {s₀ s : St} {c : ℕ} (n : ℕ) → Celling ags h s₀ s c → n ≡ h.cells → n ≤ c → s ≡ cells_from 0 (cells_on ags h) s₀
unfolding cells_from cells_on
cell_end {ags} {h} {s₀} {s} {c} n l en q =
    let z : c ≡ length (tab h.cells (cell_on ags h)) = omega (arith, l.low, en, length-tab h.cells (cell_on ags h)) in
    sym (ap (λ m. cells_from c m s) (ap (λ k. drop k (tab h.cells (cell_on ags h))) z ∙ drop-length (tab h.cells (cell_on ags h)))) ∙ l.rest

-- Sides and equations.
side-small : (w : ℕ) → w < 65536 → number (typed (side w)) < 32768
unfolding side
side-small w h = go (w % 2)
  where
    go : (r : ℕ) → number (typed (elim r [ zero ↦ name (w / 2) | suc r ↦ cell (w / 2) ])) < 32768
    go ℕ.zero = omega arith
    go (ℕ.suc r) = omega arith

pub equation_way : (codes : List ℕ) (f k : ℕ) (e : Equation) → e ≡ equation (get_or codes (f + 2 * k) 0) (get_or codes (f + 2 * k + 1) 0)
    → get_or codes (f + 2 * k) 0 < 65536 → get_or codes (f + 2 * k + 1) 0 < 65536 → Equated e (equation_on codes f k)
equation_way codes f k e q hl hr =
    record {
      is = ap pair q ∙ ap₂ ◌:=◌ (plain-typed (side (get_or codes (f + 2 * k) 0))) (plain-typed (side (get_or codes (f + 2 * k + 1) 0)));
      left = rw q (side-small _ hl);
      right = rw q (side-small _ hr);
    }

-- Equations put: those from number k on wait already.
pub record Stacking (codes : List ℕ) (f n : ℕ) (s₀ s : St) (k : ℕ) : Type 0 where
  pub low : k ≤ n
  pub few : n ≤ net_equations_max
  pub used : s.waiting.used ≡ n - k
  pub done : s ≡ stacked (drop k (equations_on codes f n)) s₀

pub stack_none : (codes : List ℕ) (f n : ℕ) (s : St) → n ≤ net_equations_max → s.waiting.used ≡ 0 → Stacking codes f n s s n
unfolding stacked equations_on
stack_none codes f n s h e =
    let z : n ≡ length (tab n (equation_on codes f)) = sym (length-tab n (equation_on codes f)) in
    record {
      low = omega arith;
      few = h;
      used = omega arith;
      done = sym (ap (λ l. stacked l s) (ap (λ k. drop k (tab n (equation_on codes f))) z ∙ drop-length (tab n (equation_on codes f))));
    }

on : (p : Pair) (t : St) → (put_on Waits p t).waiting.used ≡ suc t.waiting.used
unfolding put_on
on p t = refl

pub stack_more : {codes : List ℕ} {f n : ℕ} {s₀ s : St} {k : ℕ} (s₁ : St) (e : Equation) → Stacking codes f n s₀ s k → 0 < k
    → Equated e (equation_on codes f (k - 1)) → s₁ ≡ put_on Waits (pair e) s → Stacking codes f n s₀ s₁ (k - 1)
unfolding stacked equations_on
stack_more {codes} {f} {n} {s₀} {s} {k} s₁ e l h q w =
    let j : k - 1 < n = omega (arith, l.low) in
    let z : suc (k - 1) ≡ k = omega arith in
    let d = drop-cons (tab n (equation_on codes f)) (k - 1) (equation_on codes f 0) (omega (arith, length-tab n (equation_on codes f), j)) in
    record {
      low = omega (arith, l.low);
      few = l.few;
      used = ap (λ x. x.waiting.used) w ∙ on (pair e) s ∙ omega (arith, l.used, l.low, h);
      done =
          w
          ∙ ap₂ (put_on Waits) (q.is ∙ sym (tab_at n (equation_on codes f) (k - 1) (equation_on codes f 0) j)) (l.done ∙ ap (λ m. stacked (drop m (tab n (equation_on codes f))) s₀) (sym z))
          ∙ sym (ap (λ m. stacked m s₀) d);
    }
