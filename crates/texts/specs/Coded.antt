-- The numbers that the machine holds for a book and for a net: in reading order, outer before inner, left before right.
use Rattle.std.specs.Prelude.{ℕ, zero, suc, ◌+◌, ◌*◌, cond, List, [], ◌∷◌, ◌++◌, map, length}
use Rattle.parts.specs.Limits.{arity_max}
use Rattle.parts.specs.Sides.{Side, name, cell, Pair, ◌:=◌}
use Rattle.model.specs.Table.{Cell, Entry}
use Rattle.model.specs.Table as Model
use Rattle.model.specs.Load as Loading
use Rattle.texts.specs.Bytes.{Word, among, different, index_of}
use Rattle.texts.specs.Terms.{Term, Terms, term, nil, cons}
use Rattle.texts.specs.Books.{Agent, Rule, Book, Net, declared, cells_of, names_of, sides, rights, head_of, args_of, new_names_of, net_terms}

-- Symbols are numbered as they are declared.
unfoldable pub symbol_of : List Agent → Word → ℕ
symbol_of ags w = index_of w (map (λ a. a.symbol) ags)

-- The arity of the symbol with a number.
unfoldable pub arity_at : List Agent → ℕ → ℕ
arity_at [] n = 0
arity_at (a ∷ ags) zero = a.arity
arity_at (a ∷ ags) (suc n) = arity_at ags n

unfoldable pub packed : List Term → Terms
packed [] = nil
packed (t ∷ ts) = cons t (packed ts)

-- Sides taken two by two.
unfoldable pub twos : List Side → List Pair
twos [] = []
twos (s ∷ []) = []
twos (s ∷ t ∷ cs) = (s := t) ∷ twos cs

-- And as they were, one by one.
unfoldable pub unpaired : List Pair → List Side
unpaired [] = []
unpaired ((s := t) ∷ ps) = s ∷ t ∷ unpaired ps

-- The cells of a term.
unfoldable pub size : List Agent → Term → ℕ
size ags t = length (cells_of ags (t ∷ []))

-- The side and the cells of a term, given a number for each name; m is the number of the next cell.
module _ (ags : List Agent) (number : Word → ℕ) where
  unfoldable pub code_at : ℕ → Term → Side
  code_at m (term w ts) = cond (declared ags w) (cell m) (name (number w))

  unfoldable pub codes : ℕ → Terms → List Side
  codes m nil = []
  codes m (cons t ts) = code_at m t ∷ codes (m + size ags t) ts

  unfoldable mutual
    pub cells_at : ℕ → Term → List Cell
    cells_at m (term w ts) =
        cond (declared ags w) (record { symbol = symbol_of ags w; args = codes (suc m) ts } ∷ cells_from (suc m) ts) []

    pub cells_from : ℕ → Terms → List Cell
    cells_from m nil = []
    cells_from m (cons t ts) = cells_at m t ++ cells_from (m + size ags t) ts

-- On the right of a rule: the arguments of the left agent from 0 on, those of the right one from here, and the new
-- names, by first occurrence.
abbrev pub second_from : ℕ
second_from = arity_max

abbrev pub new_from : ℕ
new_from = 2 * arity_max

unfoldable pub rule_number : List Agent → Rule → Word → ℕ
rule_number ags r w =
    cond (among w (args_of r.first)) (index_of w (args_of r.first))
    (cond (among w (args_of r.second)) (second_from + index_of w (args_of r.second))
    (new_from + index_of w (new_names_of ags r)))

unfoldable pub template : List Agent → Rule → Entry
template ags r = record {
  left = symbol_of ags (head_of r.first);
  right = symbol_of ags (head_of r.second);
  body = twos (codes ags (rule_number ags r) 0 (packed (rights r)));
  cells = cells_from ags (rule_number ags r) 0 (packed (rights r));
  fresh = length (new_names_of ags r);
}

-- The table of a book: its symbols with their spelling and arity, and its rules coded.
pub record Table : Type 0 where
  pub agents : List Agent
  pub rules : List Entry

unfoldable pub table_of : Book → Table
table_of b = record { agents = b.agents; rules = map (template b.agents) b.rules }

-- What the machine needs of it.
unfoldable pub machine : Table → Model.Table
machine t = record { arities = map (λ a. a.arity) t.agents; rules = t.rules }

-- A net as the machine loads it: its names by first occurrence, `face` first.
unfoldable pub net_number : List Agent → Net → Word → ℕ
net_number ags n w = index_of w (different (names_of ags (net_terms n)))

unfoldable pub load : List Agent → Net → Loading.Net
load ags n = record {
  names = length (different (names_of ags (net_terms n)));
  cells = cells_from ags (net_number ags n) 0 (packed (net_terms n));
  face = codes ags (net_number ags n) 0 (packed n.face);
  equations = twos (codes ags (net_number ags n) (length (cells_of ags n.face)) (packed (sides n.equations)));
}
