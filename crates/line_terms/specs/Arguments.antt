-- The test of number 7 on lists: a term is passed, word by word, where every identifier has as many arguments as it takes.
use Rattle.std.specs.Prelude.{ℕ, zero, suc, ◌+◌, ◌-◌, Bool, true, false, cond, List, get_or, take, drop, ltb, eqb, Option, None, Some}
use Rattle.parts.specs.Limits.{level_max}
use Rattle.texts.specs.Books.{Agent, takes}
use Rattle.scan.specs.Words.{word_end}
use Rattle.line_terms.specs.Fields.{field_end}

-- where something was passed, go on
unfoldable pub on_past : Option ℕ → (ℕ → Option ℕ) → Option ℕ
on_past None f = None
on_past (Some p) f = f p

-- what stands after an argument: a comma where there are more, the bracket where there are not
unfoldable pub last_past : List ℕ → ℕ → Option ℕ
last_past text p = cond (eqb (get_or text p 0) 41) (Some (p + 1)) None

unfoldable pub next_past : List ℕ → (ℕ → Option ℕ) → ℕ → Option ℕ
next_past text rest p = cond (eqb (get_or text p 0) 44) (rest (p + 1)) None

-- an argument and so many more
unfoldable pub args_past : List ℕ → (ℕ → Option ℕ) → ℕ → ℕ → Option ℕ
args_past text one zero at = on_past (one at) (last_past text)
args_past text one (suc more) at = on_past (one at) (next_past text (args_past text one more))

-- what stands after a word that takes so many arguments: brackets where it takes some, and none where it takes none
unfoldable pub after_word : List ℕ → (ℕ → ℕ → Option ℕ) → ℕ → ℕ → Option ℕ
after_word text args end zero = cond (eqb (get_or text end 0) 40) None (Some end)
after_word text args end (suc more) = cond (eqb (get_or text end 0) 40) (args more (end + 1)) None

-- a term of at most so many levels
unfoldable pub term_past : List ℕ → List Agent → ℕ → ℕ → Option ℕ
term_past text ags zero at = None
term_past text ags (suc l) at =
    let end = word_end text at in
    after_word text (args_past text (term_past text ags l)) end (takes ags (take (end - at) (drop at text)))

-- the term of a whole field
unfoldable pub reaches : ℕ → Option ℕ → Bool
reaches to None = false
reaches to (Some p) = eqb p to

unfoldable pub argued_by : List ℕ → List Agent → ℕ → ℕ → Bool
argued_by text ags from to = reaches to (term_past text ags level_max from)

-- n fields from a place on; false where there are not so many
unfoldable pub fields_argued : List ℕ → List Agent → ℕ → ℕ → ℕ → Bool
fields_argued text ags to zero at = true
fields_argued text ags to (suc n) at =
    let more = fields_argued text ags to n (field_end text at to + 1) in
    cond (ltb to at) false (cond (argued_by text ags at (field_end text at to)) more false)
