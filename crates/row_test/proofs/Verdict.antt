-- What the test of a rule finds, from its clauses.
use Rattle.std.specs.Prelude.{ℕ, ◌+◌, ◌≤◌, ◌≡◌, refl, Bool, not, ◌&&◌, ◌||◌, List, [], ◌∷◌, length, get_or, eqb, ltb}
use Rattle.std.proofs.Common.{sym, ap, ap₂, ◌∙◌, arith, eq-eqb}
use Rattle.parts.specs.Sides.{Side, name, cell}
use Rattle.model.specs.Table.{Entry}
use Rattle.texts.specs.Bytes.{all}
use Rattle.texts.specs.Books.{Agent}
use Rattle.texts.specs.Coded.{second_from, new_from, arity_at}
use Rattle.texts.specs.TableTest.{cell_ok, code_ok, all_codes, standing, is_two_sided, test_template}
use Rattle.table.specs.Lists.{tab, each}
use Rattle.table.specs.Layout.{agents_in, symbol_of, equation_of, cell_of, entry_of}
use Rattle.row_test.specs.Row.{RowFits, side_fits, sizes_fit, sides_fit, walked}
use Rattle.table.specs.Laws.Lists.{length-tab}
use Rattle.table.specs.Laws.Rows.{arity-small}
use Rattle.std.specs.List.{list_all, range_with_len}
use Rattle.table.specs.Laws.Passing.{each_cong, all_each, and_assoc, and_true}
use Rattle.table.specs.Laws.Chains.{all_range}

-- Each cell has a declared symbol.
abbrev pub Declared : ℕ → List ℕ → ℕ → Bool
Declared n r c = ltb (symbol_of r c) n

cells_are : (n : ℕ) (r : List ℕ) (ags : List Agent) → n ≡ length ags → all (cell_ok ags) (tab (get_or r 3 0) (cell_of ags r)) ≡ each (get_or r 3 0) (Declared n r)
unfolding cell_ok cell_of
cells_are n r ags e =
    all_each (cell_ok ags) (get_or r 3 0) (cell_of ags r)
    ∙ each_cong (get_or r 3 0) (λ c. cell_ok ags (cell_of ags r c)) (Declared n r)
    (λ c. ap₂ (λ x y. ltb (symbol_of r c) x && y) (sym e) (eq-eqb (length (cell_of ags r c).args) (arity_at ags (symbol_of r c)) (length-tab (arity_at ags (symbol_of r c)) _)) ∙ and_true (ltb (symbol_of r c) n))

pub cells-range : (n m : ℕ) (r : List ℕ) (t : Bool) → m ≡ get_or r 3 0 → t ≡ list_all (Declared n r) (range_with_len 0 m)
    → (ags : List Agent) → n ≡ length ags → t ≡ all (cell_ok ags) (tab (get_or r 3 0) (cell_of ags r))
cells-range n m r t em et ags e =
    all_range (Declared n r) m (get_or r 3 0) (λ c. c) t em et ∙ (all_each (Declared n r) (get_or r 3 0) (λ c. c) ∙ sym (cells_are n r ags e))

-- The sides of a rule.
all_cong : {A : Type 0} (f g : A → Bool) → ((x : A) → f x ≡ g x) → (xs : List A) → all f xs ≡ all g xs
unfolding all
all_cong f g e [] = refl
all_cong f g e (x ∷ xs) = ap₂ ◌&&◌ (e x) (all_cong f g e xs)

code_fits : (ags : List Agent) (e : Entry) (s : Side) → side_fits (arity_at ags e.left) (arity_at ags e.right) e.fresh (length e.cells) s ≡ code_ok ags e s
unfolding side_fits code_ok
code_fits ags e (name x) = refl
code_fits ags e (cell c) = refl

codes-are : (w r : List ℕ) (cs : List Side) (l m n c : ℕ) → cs ≡ all_codes (entry_of (agents_in w) r) → l ≡ arity_at (agents_in w) (entry_of (agents_in w) r).left
    → m ≡ arity_at (agents_in w) (entry_of (agents_in w) r).right → n ≡ (entry_of (agents_in w) r).fresh → c ≡ length (entry_of (agents_in w) r).cells
    → all (side_fits l m n c) cs ≡ all (code_ok (agents_in w) (entry_of (agents_in w) r)) (all_codes (entry_of (agents_in w) r))
codes-are w r cs l m n c ecs el em en ec =
    ap₂ (λ x y. all (side_fits x y n c) cs) el em
    ∙ (ap₂ (λ x y. all (side_fits (arity_at (agents_in w) (entry_of (agents_in w) r).left) (arity_at (agents_in w) (entry_of (agents_in w) r).right) x y) cs) en ec
    ∙ (ap (all (side_fits (arity_at (agents_in w) (entry_of (agents_in w) r).left) (arity_at (agents_in w) (entry_of (agents_in w) r).right) (entry_of (agents_in w) r).fresh (length (entry_of (agents_in w) r).cells))) ecs
    ∙ all_cong (side_fits (arity_at (agents_in w) (entry_of (agents_in w) r).left) (arity_at (agents_in w) (entry_of (agents_in w) r).right) (entry_of (agents_in w) r).fresh (length (entry_of (agents_in w) r).cells))
    (code_ok (agents_in w) (entry_of (agents_in w) r)) (code_fits (agents_in w) (entry_of (agents_in w) r)) (all_codes (entry_of (agents_in w) r))))

-- l and m are the two arities as they were read, n and c the numbers of names and of cells
pub sides-fit-are : (w r : List ℕ) (cs : List Side) (l m n c : ℕ)
    → cs ≡ all_codes (entry_of (agents_in w) r) → l ≡ arity_at (agents_in w) (get_or r 0 0) → m ≡ arity_at (agents_in w) (get_or r 1 0) → n ≡ get_or r 4 0 → c ≡ get_or r 3 0
    → sides_fit (agents_in w) (entry_of (agents_in w) r)
    ≡ ((all (side_fits l m n c) cs && (standing 1 cs 0 l && standing 1 cs second_from m)) && standing 2 cs new_from n)
unfolding sides_fit entry_of
sides-fit-are w r cs l m n c ecs el em en ec =
    let lc : c ≡ length (entry_of (agents_in w) r).cells = ec ∙ sym (length-tab (get_or r 3 0) (cell_of (agents_in w) r)) in
    sym (ap₂ ◌&&◌
    (ap₂ ◌&&◌
    (codes-are w r cs l m n c ecs el em en lc)
    (ap₂ ◌&&◌ (ap₂ (λ k i. standing 1 k 0 i) ecs el) (ap₂ (λ k i. standing 1 k second_from i) ecs em)))
    (ap₂ (λ k i. standing 2 k new_from i) ecs en))

pub left_room : (w r : List ℕ) (l x s : ℕ) → RowFits w r → s ≡ get_or r 0 0 → x ≡ arity_at (agents_in w) s → l ≡ x → 0 + l ≤ 128
left_room w r l x s f es ex el = omega (arith, el, ex, arity-small (agents_in w) s f.good)

pub right_room : (w r : List ℕ) (l x s : ℕ) → RowFits w r → s ≡ get_or r 1 0 → x ≡ arity_at (agents_in w) s → l ≡ x → 4 + l ≤ 128
right_room w r l x s f es ex el = omega (arith, el, ex, arity-small (agents_in w) s f.good)

-- The whole test is its groups.
pub template-are : (ags : List Agent) (r : List ℕ) → test_template ags (entry_of ags r)
    ≡ ((sizes_fit (length ags) r && all (cell_ok ags) (tab (get_or r 3 0) (cell_of ags r)))
    && ((sides_fit ags (entry_of ags r) && walked (entry_of ags r)) && (not (eqb (get_or r 0 0) (get_or r 1 0)) || is_two_sided (entry_of ags r))))
unfolding test_template sides_fit walked entry_of
template-are ags r =
    simp (length-tab (get_or r 2 0) (equation_of r), length-tab (get_or r 3 0) (cell_of ags r)) (simp and_assoc)
