-- A right side built by the code is the right side that the model puts.
use Prim.Native.Nat.{ℕ, suc, ◌+◌, ◌*◌, ◌<◌, ◌≤◌}
use mathlib.Core.Path.{◌≡◌, refl, ap, ap₂, sym, ◌∙◌}
use mathlib.Core.List.{List, [], ◌∷◌, ◌++◌, map}
use native.Mathlib.Omega.{arith}
use lib.ListN.{length, get_or, set}
use lib.Seq.{sets}
use Rattle.parts.specs.Limits.{arity_max}
use Rattle.parts.specs.Sides.{Side, name, cell, ◌:=◌, code, side}
use Rattle.parts.specs.Codes.{code-side, side-code}
use Rattle.model.specs.State.{from}
use Rattle.model.specs.Table.{Cell}
use Rattle.model.specs.Step.{set_bare, write_symbols, write_arguments, inst, inst_cell, inst_pair}
use Rattle.table.specs.Layout.{rule_row, agents_in, cell_of, equation_of, entry_of, entry_at}
use Rattle.table.specs.Lists.{tab}
use Rattle.firing.specs.Frames.{place, worth, cell_in}
use Rattle.firing.specs.Built.{Ruled, Inside, equations_of, cells_of, names_of, width_of, side_of, argument_of}
use Rattle.firing.specs.Built.{symbol_word, value, argued, argued_from, equation_for}
use Rattle.firing.specs.Taken.{written}
use Rattle.firing.proofs.Held.{full, cell-held, cell-number, name-held}

-- New names are set bare.
pub bare_is : (ps l : List ℕ) (i : ℕ) → written (λ j. 1) i ps l ≡ set_bare ps l
bare_is [] l i = refl
bare_is (p ∷ ps) l i = bare_is ps (set l p 1) (suc i)

-- New cells get their symbols.
pub symbols_is : (v : ℕ → ℕ) (K : ℕ → Cell) → ((j : ℕ) → v j ≡ suc (K j).symbol) → (ps l : List ℕ) (j : ℕ)
    → written v j ps l ≡ write_symbols ps (map K (from j (length ps))) l
symbols_is v K e [] l j = refl
symbols_is v K e (p ∷ ps) l j = symbols_is v K e ps (set l p (v j)) (suc j)
    ∙ ap (λ x. write_symbols ps (map K (from (suc j) (length ps))) (set l p x)) (e j)

-- And their arguments.
pub arguments_is : (w : List ℕ) (i : ℕ) (F : List ℕ) (K : ℕ → Cell) (top : ℕ)
    → ((x : ℕ) → x < top → tab (width_of w i x) (value w i F x) ≡ map code (K x).args)
    → (ps l : List ℕ) (j : ℕ) → j + length ps ≤ top → ((x : ℕ) → x < length ps → cell_in F (j + x) ≡ get_or ps x 0)
    → argued_from w i F j (length ps) l ≡ write_arguments ps (map K (from j (length ps))) l
unfolding argued_from argued
arguments_is w i F K top d [] l j h c = refl
arguments_is w i F K top d (p ∷ ps) l j h c =
    let e : cell_in F j ≡ p = ap (cell_in F) (omega arith) ∙ c 0 (omega arith) in
    arguments_is w i F K top d ps (argued w i F j l) (suc j) (omega arith) (λ x q. ap (cell_in F) (omega arith) ∙ c (suc x) (omega arith))
    ∙ ap (write_arguments ps (map K (from (suc j) (length ps)))) (ap₂ (λ a b. sets l (arity_max * a) b) e (d j (omega arith)))

-- What a table of numbers holds, one by one.
pub map-tab : {A B : Type 0} (h : A → B) (g : ℕ → B) (n j : ℕ) (f : ℕ → A) → ((x : ℕ) → x < n → h (f x)
    ≡ g (j + x)) → map h (tab n f) ≡ map g (from j n)
unfolding tab
map-tab h g ℕ.zero j f p = refl
map-tab h g (ℕ.suc n) j f p =
    ap₂
    ◌∷◌
    (p 0 (omega arith) ∙ ap g (omega arith))
    (map-tab h g n (suc j) (λ x. f (suc x)) (λ x q. p (suc x) (omega arith) ∙ ap g (omega arith)))

map-map-tab : {A B C : Type 0} (k : B → C) (h : A → B) (g : ℕ → C) (n : ℕ) (f : ℕ → A) → ((x : ℕ) → x < n
    → k (h (f x)) ≡ g x) → tab n g ≡ map k (map h (tab n f))
unfolding tab
map-map-tab k h g ℕ.zero f p = refl
map-map-tab k h g (ℕ.suc n) f p =
    ap₂ ◌∷◌ (sym (p 0 (omega arith))) (map-map-tab k h (λ x. g (suc x)) n (λ x. f (suc x)) (λ x q. p (suc x) (omega arith)))

-- Where the frame holds p, q, N and A, so does the model's environment.
module _ (w : List ℕ) (i : ℕ) (f : Ruled w i) (p q N A : List ℕ) (hp : length p ≡ arity_max) (hq : length q
    ≡ arity_max) (hN : length N ≡ names_of w i) (hA : length A ≡ cells_of w i) where
  abbrev E : ℕ → Side
  E z = side (get_or (p ++ (q ++ map (λ x. 2 * x) N)) z 0)

  abbrev M : ℕ → ℕ
  M m = get_or A m 0

  abbrev F : List ℕ
  F = full p q N A

  held-code : (t : Side) → Inside w i t → code (inst E M t) ≡ get_or F (place t) 0
  held-code (name z) h =
      code-side (get_or (p ++ (q ++ map (λ x. 2 * x) N)) z 0)
      ∙ sym (name-held p q N A hp hq (omega (arith, f.names)) (omega (arith, f.cells)) z (omega arith))
  held-code (cell m) h = sym (cell-held p q N A hp hq (omega (arith, f.names)) (omega (arith, f.cells)) m (omega arith))

  worth-code : (n : ℕ) → Inside w i (side n) → code (inst E M (side n)) ≡ worth F n
  unfolding worth
  worth-code n h = held-code (side n) h

  worth-side : (n : ℕ) → Inside w i (side n) → inst E M (side n) ≡ side (worth F n)
  worth-side n h = sym (side-code (inst E M (side n))) ∙ ap side (worth-code n h)

  -- cell m of the rule, as it is copied
  abbrev pub copy : ℕ → Cell
  copy m = inst_cell E M (cell_of (agents_in w) (rule_row w i) m)

  copy-symbol : (m : ℕ) → symbol_word w i m ≡ suc (copy m).symbol
  unfolding cell_of
  copy-symbol m = omega arith

  copy-args : (m : ℕ) → m < cells_of w i → tab (width_of w i m) (value w i F m) ≡ map code (copy m).args
  unfolding cell_of value
  copy-args m h =
      map-map-tab code (inst E M) (value w i F m) (width_of w i m) (λ j. side (argument_of w i m j)) (λ j o.
      worth-code (argument_of w i m j) (f.arguments m j h o))

  pub copies-are : map (inst_cell E M) (entry_at w i).cells ≡ map copy (from 0 (length A))
  unfolding entry_of
  copies-are =
      map-tab (inst_cell E M) copy (cells_of w i) 0 (cell_of (agents_in w) (rule_row w i)) (λ x h. ap copy (omega arith))
      ∙ ap (λ n. map copy (from 0 n)) (sym hA)

  pub symbols-are : (l : List ℕ) → written (symbol_word w i) 0 A l ≡ write_symbols A (map (inst_cell E M) (entry_at w i).cells) l
  symbols-are l = symbols_is (symbol_word w i) copy copy-symbol A l 0 ∙ ap (λ k. write_symbols A k l) (sym copies-are)

  pub arguments-are : (l : List ℕ) → argued_from w i F 0 (cells_of w i) l ≡ write_arguments A (map (inst_cell E M) (entry_at w i).cells) l
  arguments-are l =
      ap (λ n. argued_from w i F 0 n l) (sym hA)
      ∙ arguments_is w i F copy (cells_of w i) copy-args A l 0 (omega arith)
      (λ x h. ap (cell_in F) (omega arith) ∙ cell-number p q N A hp hq (omega (arith, f.names)) (omega (arith, f.cells)) x h)
      ∙ ap (λ k. write_arguments A k l) (sym copies-are)

  pub body_is : map (inst_pair E M) (entry_at w i).body ≡ map (equation_for w i F) (from 0 (equations_of w i))
  unfolding entry_of equation_for
  body_is =
      map-tab (inst_pair E M) (equation_for w i F) (equations_of w i) 0 (equation_of (rule_row w i))
      (λ x h.
      ap₂ ◌:=◌ (worth-side (side_of w i (2 * x)) (f.sides x h).0) (worth-side (side_of w i (1 + 2 * x)) (f.sides x h).1)
      ∙ ap (equation_for w i F) (omega arith))
