-- How often a name stands in a net that was read, the first that stands another number of times than two, and the marks of the lines.
use Rattle.std.specs.Prelude.{ℕ, zero, suc, ◌+◌, ◌*◌, ◌≤◌, ◌≡◌, Bool, cond, not, List, [], ◌∷◌, get_or, eqb, ltb}
use Rattle.parts.specs.Limits.{arity_max}
use Rattle.parts.specs.Sides.{Side, name, side}
use Rattle.texts.specs.Books.{Agent}
use Rattle.texts.specs.TableTest.{tally, same_side, args_all}
use Rattle.table.specs.Lists.{tab}
use Rattle.terms.specs.Sheet.{Sheet}
use Rattle.loading.specs.OnSheet.{cells_on, face_on}

-- r is v, and is at most m.
pub record Found (r v m : ℕ) : Type 0 where
  pub is : r ≡ v
  pub few : r ≤ m

-- The first n arguments of a cell of the sheet.
unfoldable pub args_on : Sheet → ℕ → ℕ → List Side
args_on s c n = tab n (λ k. side (get_or s.arguments (arity_max * c + k) 0))

-- How often name x stands among n codes and among the arguments of the sheet's cells.
unfoldable pub stands_on : List Agent → Sheet → List ℕ → ℕ → ℕ → ℕ
stands_on ags s codes n x = tally (same_side (name x)) (face_on codes n) + tally (same_side (name x)) (args_all (cells_on ags s))

unfoldable pub loose_on : List Agent → Sheet → List ℕ → ℕ → ℕ → Bool
loose_on ags s codes n x = not (eqb (stands_on ags s codes n x) 2)

-- The first of the n numbers from x on that passes the test; the number after them where none does.
unfoldable pub first_loose : (ℕ → Bool) → ℕ → ℕ → ℕ
first_loose p x zero = x
first_loose p x (suc n) = cond (p x) x (first_loose p (suc x) n)

-- How many marks stand before the first that passes x.
unfoldable pub passed : ℕ → List ℕ → ℕ
passed x [] = 0
passed x (m ∷ ms) = cond (ltb x m) 0 (suc (passed x ms))
