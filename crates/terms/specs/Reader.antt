-- The term reader on lists: what it answers, and the sheet after it.
use Rattle.std.specs.Prelude.{ℕ, zero, suc, ◌+◌, ◌-◌, Bool, cond, ◌&&◌, List, get_or, take, drop, ltb, leb, eqb, Option, None, Some}
use Rattle.parts.specs.Limits.{text_max, identifier_max, arity_max, net_cells_max, net_names_max, level_max}
use Rattle.parts.specs.Sides.{name, cell, code}
use Rattle.texts.specs.Bytes.{index_of}
use Rattle.texts.specs.Books.{Agent}
use Rattle.scan.specs.Words.{word_end}
use Rattle.terms.specs.Sheet.{Sheet, argued, opened, entered}
use Rattle.terms.specs.Words.{found, entries}
use Rattle.terms.specs.declared.words.Agent.{Agent as Known}
use Rattle.terms.specs.declared.Read.{Read}
use Rattle.terms.specs.declared.Head.{Head}

-- an answer, and the sheet after it
pub data Done (A : Type 0) : Type 0 where
  done : A → Sheet → Done A

-- from a place and a sheet
abbrev pub Reader : Type 0
Reader = ℕ → Sheet → Done (Option Read)

-- what was read: the place after it and its code
abbrev pub read : ℕ → ℕ → Option Read
read p v = Some (record { next = p; code = v })

-- there is room for name number n, and its place and its length are in bounds
unfoldable pub fits : ℕ → ℕ → ℕ → Bool
fits n at long = ltb n net_names_max && ltb at text_max && leb long identifier_max

-- a name that stands from `at` to `end`, where its number among the names is k
unfoldable pub numbered : ℕ → ℕ → ℕ → Sheet → Done (Option Head)
numbered k at end s =
    cond (ltb k s.names) (done (Some (Head.Plain (code (name k)))) s)
    (cond (fits s.names at (end - at)) (done (Some (Head.Plain (code (name s.names)))) (entered s.names at (end - at) s))
    (done None s))

unfoldable pub name_by : List ℕ → ℕ → ℕ → Sheet → Done (Option Head)
name_by text at end s =
    cond (ltb net_names_max s.names) (done None s)
    (numbered (index_of (take (end - at) (drop at text)) (entries text s.places s.names)) at end s)

-- a cell that was opened, by its arity
unfoldable pub taking : ℕ → ℕ → Sheet → Done (Option Head)
taking c zero s = done (Some (Head.Plain (code (cell c)))) s
taking c (suc more) s = done (Some (Head.Takes (record { 0 = c }) more)) s

unfoldable pub cell_by : ℕ → ℕ → Sheet → Done (Option Head)
cell_by symbol arity s =
    cond (leb net_cells_max s.cells) (done None s)
    (cond (ltb arity_max arity) (done None s) (taking s.cells arity (opened s.cells symbol s)))

-- a declared identifier is an agent, any other is a name
unfoldable pub found_by : Option Known → List ℕ → ℕ → ℕ → Sheet → Done (Option Head)
found_by None text at end s = name_by text at end s
found_by (Some a) text at end s = cell_by a.symbol.0 a.arity s

unfoldable pub head_by : List ℕ → List Agent → ℕ → ℕ → Sheet → Done (Option Head)
head_by text ags at end s = found_by (found 0 ags (take (end - at) (drop at text))) text at end s

-- the sheet after, whatever the answer; where something was read, go on
unfoldable pub on_read : {A : Type 0} → Done (Option Read) → (ℕ → ℕ → Sheet → Done (Option A)) → Done (Option A)
on_read (done None s) f = done None s
on_read (done (Some r) s) f = f r.next r.code s

-- what stands after argument k of cell c: a comma where there are more, the bracket where there are not
unfoldable pub last_arg : List ℕ → ℕ → ℕ → ℕ → ℕ → Sheet → Done (Option Read)
last_arg text c k p v s = cond (eqb (get_or text p 0) 41) (done (read (p + 1) (code (cell c))) (argued c k v s)) (done None (argued c k v s))

unfoldable pub next_arg : List ℕ → Reader → ℕ → ℕ → ℕ → ℕ → Sheet → Done (Option Read)
next_arg text rest c k p v s = cond (eqb (get_or text p 0) 44) (rest (p + 1) (argued c k v s)) (done None (argued c k v s))

-- argument k of cell c and so many more
unfoldable pub args_by : List ℕ → Reader → ℕ → ℕ → ℕ → Reader
args_by text one zero c k at s = on_read (one at s) (last_arg text c k)
args_by text one (suc more) c k at s = on_read (one at s) (next_arg text (args_by text one more c (k + 1)) c k)

-- what stands after a head: brackets where it takes arguments, and none where it does not
unfoldable pub after_head : List ℕ → (ℕ → ℕ → ℕ → Reader) → ℕ → Done (Option Head) → Done (Option Read)
after_head text args end (done None s) = done None s
after_head text args end (done (Some (Head.Plain v)) s) = cond (eqb (get_or text end 0) 40) (done None s) (done (read end v) s)
after_head text args end (done (Some (Head.Takes c more)) s) = cond (eqb (get_or text end 0) 40) (args more c.0 0 (end + 1) s) (done None s)

-- a head from `at` to `end`, and what stands after it
unfoldable pub with_head : List ℕ → List Agent → (ℕ → ℕ → ℕ → Reader) → ℕ → Reader
with_head text ags args end at s = cond (eqb end at) (done None s) (after_head text args end (head_by text ags at end s))

-- a term of at most so many levels
unfoldable pub term_by : List ℕ → List Agent → ℕ → Reader
term_by text ags zero at s = done None s
term_by text ags (suc l) at s = with_head text ags (args_by text (term_by text ags l)) (word_end text at) at s

-- the term of a whole field
unfoldable pub whole : ℕ → ℕ → ℕ → Sheet → Done (Option ℕ)
whole to p v s = cond (eqb p to) (done (Some v) s) (done None s)

unfoldable pub field_by : List ℕ → List Agent → ℕ → ℕ → Sheet → Done (Option ℕ)
field_by text ags from to s = on_read (term_by text ags level_max from s) (whole to)
