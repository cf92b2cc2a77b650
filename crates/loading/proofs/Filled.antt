-- All loops of the writer together: from the empty state they write the loaded one.
use Prim.Native.Nat.{ℕ, suc, ◌+◌, ◌*◌}
use mathlib.Core.Path.{◌≡◌, refl, sym, ap, ap₂, ◌∙◌}
use mathlib.Core.List.{List, [], ◌∷◌, map}
use native.Mathlib.Omega.{arith}
use lib.ListN.{length, get_or}
use lib.Seq.{sets}
use Rattle.parts.specs.Limits.{arity_max}
use Rattle.parts.specs.Sides.{Pair, code, side}
use Rattle.model.specs.Table.{Cell}
use Rattle.model.specs.State.{St, st, stack, with_cells, pushed_all, from, empty}
use Rattle.model.specs.Step.{write_symbols, write_arguments, set_bare, puts}
use Rattle.model.specs.Load.{loaded}
use Rattle.texts.specs.Books.{Agent}
use Rattle.table.specs.Lists.{tab}
use Rattle.table.specs.Laws.Lists.{length-tab}
use Rattle.terms.specs.Sheet.{Sheet}
use Rattle.state.specs.Places.{words, with_words, stored, counted}
use Rattle.state.specs.Moves.{put_on}
use Rattle.state.specs.declared.Part.{Part}
use Rattle.state.specs.declared.Part.TheVariants.{Symbols, Arguments, Names, Waiting, Stuck, Face}
use Rattle.state.specs.declared.Pile.TheVariants.{Waits}
use Rattle.loading.specs.OnSheet.{cells_on, face_on, equations_on, net_on}
use Rattle.loading.specs.Writing.{laid, cell_written, cells_from, faced, stacked}
use Rattle.loading.proofs.Lays.{codes-tab}

words_with : (p : Part) (l : List ℕ) (s : St) → words p (with_words p l s) ≡ l
words_with Symbols l s = refl
words_with Arguments l s = refl
words_with Names l s = refl
words_with Waiting l s = refl
words_with Stuck l s = refl
words_with Face l s = refl

with_with : (p : Part) (l m : List ℕ) (s : St) → with_words p l (with_words p m s) ≡ with_words p l s
with_with Symbols l m s = refl
with_with Arguments l m s = refl
with_with Names l m s = refl
with_with Waiting l m s = refl
with_with Stuck l m s = refl
with_with Face l m s = refl

with_self : (p : Part) (s : St) → s ≡ with_words p (words p s) s
with_self Symbols s = refl
with_self Arguments s = refl
with_self Names s = refl
with_self Waiting s = refl
with_self Stuck s = refl
with_self Face s = refl

pub laid_is : (p : Part) (vs : List ℕ) (at : ℕ) (s : St) → laid p at vs s ≡ with_words p (sets (words p s) at vs) s
unfolding laid stored
laid_is p [] at s = with_self p s
laid_is p (v ∷ vs) at s =
    laid_is p vs (suc at) (stored p at v s)
    ∙ ap₂ (λ l t. with_words p (sets l (suc at) vs) t) (words_with p _ s) refl
    ∙ with_with p _ _ s

pub cells_are : (ks : List Cell) (c : ℕ) (s : St)
    → cells_from c ks s ≡ with_cells (write_symbols (from c (length ks)) ks s.symbols) (write_arguments (from c (length ks)) ks s.arguments) s
unfolding cells_from cell_written stored
cells_are [] c s = refl
cells_are (k ∷ ks) c s =
    ap (cells_from (suc c) ks) (laid_is Arguments (map code k.args) (arity_max * c) (stored Symbols c (suc k.symbol) s))
    ∙ cells_are ks (suc c) (with_words Arguments (sets s.arguments (arity_max * c) (map code k.args)) (stored Symbols c (suc k.symbol) s))

bare-words : (n i : ℕ) (l : List ℕ) → sets l i (tab n (λ k. 1)) ≡ set_bare (from i n) l
unfolding tab
bare-words ℕ.zero i l = refl
bare-words (ℕ.suc n) i l = bare-words n (suc i) _

stacked_is : (ps : List Pair) (s : St) → stacked ps s ≡ puts ps s
unfolding stacked put_on
stacked_is [] s = ap (λ n. st s.symbols s.arguments s.names (stack s.waiting.words n) s.stuck s.face s.loops) (let z : s.waiting.used ≡ s.waiting.used + 0 = omega arith in z)
stacked_is (p ∷ ps) s =
    ap (put_on Waits p) (stacked_is ps s)
    ∙ ap (λ n. st s.symbols s.arguments s.names (stack (pushed_all s.waiting.used (p ∷ ps) s.waiting.words) n) s.stuck s.face s.loops) (let z : suc (s.waiting.used + length ps) ≡ s.waiting.used + suc (length ps) = omega arith in z)

pub fill_way : (ags : List Agent) (h : Sheet) (codes : List ℕ) (f m n : ℕ) (s₀ s₁ s₂ s₃ s₄ : St) → s₀ ≡ empty → s₁ ≡ stacked (equations_on codes f m) s₀
    → s₂ ≡ cells_from 0 (cells_on ags h) s₁ → n ≡ h.names → s₃ ≡ laid Names 0 (tab n (λ k. 1)) s₂ → s₄ ≡ faced (tab f (λ k. get_or codes k 0)) f s₃
    → s₄ ≡ loaded (net_on ags h codes f m)
unfolding loaded net_on face_on faced counted
fill_way ags h codes f m n s₀ s₁ s₂ s₃ s₄ e₀ e₁ e₂ en e₃ e₄ =
    let ks = cells_on ags h in
    let es = equations_on codes f m in
    e₄
    ∙ ap (λ t. with_face f t) (laid_is Face (tab f (λ k. get_or codes k 0)) 0 s₃)
    ∙ ap (λ t. with_face f (with_words Face (sets t.face.words 0 (tab f (λ k. get_or codes k 0))) t)) (e₃ ∙ laid_is Names (tab n (λ k. 1)) 0 s₂)
    ∙ ap (λ t. with_face f (with_words Face (sets t.face.words 0 (tab f (λ k. get_or codes k 0))) (with_words Names (sets t.names 0 (tab n (λ k. 1))) t))) (e₂ ∙ cells_are ks 0 s₁)
    ∙ ap (λ t. with_face f (with_words Face (sets t.face.words 0 (tab f (λ k. get_or codes k 0))) (with_words Names (sets t.names 0 (tab n (λ k. 1))) (with_cells (write_symbols (from 0 (length ks)) ks t.symbols) (write_arguments (from 0 (length ks)) ks t.arguments) t)))) (e₁ ∙ stacked_is es s₀ ∙ ap (puts es) e₀)
    ∙ whole ks es (sets empty.names 0 (tab n (λ k. 1))) (set_bare (from 0 h.names) empty.names) (0 + length es) (length es) (tab f (λ k. get_or codes k 0)) (map code (tab f (λ k. side (get_or codes k 0)))) f (length (tab f (λ k. side (get_or codes k 0))))
    (bare-words n 0 empty.names ∙ ap (λ k. set_bare (from 0 k) empty.names) en) (omega arith) (sym (codes-tab f (λ k. get_or codes k 0))) (sym (length-tab f _))
  where
    with_face : ℕ → St → St
    with_face k t = st t.symbols t.arguments t.names t.waiting t.stuck (stack t.face.words k) t.loops

    whole : (ks : List Cell) (es : List Pair) (a b : List ℕ) (c d : ℕ) (u v : List ℕ) (i j : ℕ) → a ≡ b → c ≡ d → u ≡ v → i ≡ j
        → st (write_symbols (from 0 (length ks)) ks empty.symbols) (write_arguments (from 0 (length ks)) ks empty.arguments)
        a (stack (pushed_all 0 es empty.waiting.words) c) empty.stuck (stack (sets empty.face.words 0 u) i) 0
        ≡ st (write_symbols (from 0 (length ks)) ks empty.symbols) (write_arguments (from 0 (length ks)) ks empty.arguments)
        b (stack (pushed_all 0 es empty.waiting.words) d) empty.stuck (stack (sets empty.face.words 0 v) j) 0
    whole ks es a b c d u v i j p q r t = rw (p, q, r, t)
