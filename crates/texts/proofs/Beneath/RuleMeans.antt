-- A rule text is accepted exactly where it is the printed form of a good book, and means that book.
use Rattle.std.specs.Prelude.{ℕ, suc, ◌<◌, ◌≤◌, ◌≡◌, refl, Bool, true, false, cond, ◌&&◌, ◌||◌, ◌↔◌, List, [], ◌∷◌, ◌++◌, map, length, eqb, ltb}
use Rattle.std.proofs.Common.{sym, ap, ◌∙◌, append-nil, append_assoc, arith, ltb-false, le-ltb, eqb-true, eq-eqb}
use Rattle.parts.specs.Limits.{text_max, symbols_max, arity_max, rules_max}
use Rattle.texts.specs.Bytes.{Word, Line, all, word_byte, fault2, lines, fields, decimal, text_of, line_of, letter, digit}
use Rattle.texts.specs.Terms.{spell}
use Rattle.texts.specs.Books.{Agent, Rule, Book, Record, is_agent, is_rule, records_of, write_record, write_agent, write_rule, write_header, add, no_book, print_book, sides, lefts, rights, word_rules, word_agent, word_rule}
use Rattle.texts.specs.Answers.{fine, accepted, refused, need, refuse, read_lines}
use Rattle.texts.specs.RuleText.{Counts, header_line, ruleless, shape_of, record_of, is_too_long, big_record, big_book, fault5, fault6, fault7, fault8, fault9, fault10, shape, judged, rule_line, counted, rules_of_lines, read_rules}
use Rattle.texts.proofs.Beneath.Tools.{both, pair, neither, all_append, cons-eq}
use Rattle.texts.specs.Splitting.{free}
use Rattle.texts.specs.Bytes.{ended_line}
use Rattle.texts.proofs.Beneath.Splitting.{bytes_of, ends_of, lines-text, text-lines, fields-line, line-fields, decimal-tabs}
use Rattle.texts.proofs.Beneath.Plain.{in_field, Plain, Plains, word-plain, symbol-plain, spells-plain, decimal-plain, line-tabs, line_bytes, line_newlines}
use Rattle.texts.proofs.Beneath.Means.{refuse-fine, need-fine, line-ended, even-sides, even-map, some_plain, two, header-fine}
use Rattle.texts.proofs.Beneath.Reading.{lines-accepted, after_accepted, line-accepted}
use Rattle.texts.proofs.Beneath.LineTests.{Reads}
use Rattle.texts.specs.Good.{Spelt, Placed, Good, GoodFrom, GoodBook}
use Rattle.texts.proofs.Beneath.Shapes.{shape_fields, Fits, shape_for}
use Rattle.texts.proofs.Beneath.Shapes.{to_shape, from-shape, to_record, from_record}

-- Number 3: the shapes that a line can have.
small-arity : (b : Book) (a : Agent) → fault5 b (is_agent a) ≡ false → a.arity ≤ 4
unfolding fault5 big_record
small-arity b a h =
    ltb-false arity_max a.arity
    (neither (is_too_long a.symbol) (ltb arity_max a.arity)
    (neither (is_too_long a.symbol || ltb arity_max a.arity) (big_book (add b (is_agent a))) h).0).1

good-fits : (b : Book) (r : Record) → Placed b r → fault5 b r ≡ false → Fits b (shape_for r)
unfolding Placed Fits shape_for rights
good-fits b (is_agent a) p h = (p, omega (arith, small-arity b a h))
good-fits b (is_rule r) p h = even-map spell (sides r.right) ∙ even-sides r.right

words-plain : (Plain word_agent) × (Plain word_rule)
unfolding all in_field word_byte letter digit
words-plain = (refl, refl)

-- The first field of a record, and the rest.
unfoldable pub record_word : Record → Word
record_word (is_agent a) = word_agent
record_word (is_rule r) = word_rule

unfoldable pub record_rest : Record → List Word
record_rest (is_agent a) = a.symbol ∷ decimal a.arity ∷ []
record_rest (is_rule r) = map spell (lefts r ++ rights r)

pub write_line : (r : Record) → write_record r ≡ line_of (record_word r) (record_rest r)
unfolding write_record write_agent write_rule record_word record_rest
write_line (is_agent a) = refl
write_line (is_rule r) = refl

pub shape-line : (r : Record) → shape_fields (shape_for r) ≡ record_word r ∷ record_rest r
unfolding shape_fields shape_for record_word record_rest lefts rights
shape-line (is_agent a) = refl
shape-line (is_rule r) = refl

word_of : (r : Record) → Plain (record_word r)
unfolding record_word
word_of (is_agent a) = words-plain.0
word_of (is_rule r) = words-plain.1

rest_of : (b : Book) (r : Record) → Spelt r → fault5 b r ≡ false → Plains (record_rest r)
unfolding record_rest Spelt
rest_of b (is_agent a) s h = two a.symbol (decimal a.arity) (symbol-plain a.symbol s) (decimal-plain a.arity (omega (arith, small-arity b a h)))
rest_of b (is_rule r) s h = spells-plain (lefts r ++ rights r) s

-- A well-spelt record is written in its fields, whatever its arity.
tabs_of : (r : Record) → Spelt r → all (all (free 9)) (record_word r ∷ record_rest r) ≡ true
unfolding record_word record_rest Spelt all
tabs_of (is_agent a) s =
    all_append (all (free 9)) (word_agent ∷ a.symbol ∷ []) (decimal a.arity ∷ [])
    (line-tabs (word_agent ∷ a.symbol ∷ []) (two word_agent a.symbol words-plain.0 (symbol-plain a.symbol s)))
    (pair (all (free 9) (decimal a.arity)) true (decimal-tabs a.arity) refl)
tabs_of (is_rule r) s =
    let fs : List Word = map spell (lefts r ++ rights r) in
    line-tabs (word_rule ∷ fs) (some_plain word_rule fs words-plain.1 (spells-plain (lefts r ++ rights r) s))

pub fields-spelt : (r : Record) → Spelt r → fields (write_record r) ≡ shape_fields (shape_for r)
fields-spelt r s = rw (write_line r, shape-line r) (fields-line (record_word r) (record_rest r) (tabs_of r s))

bytes_record : (b : Book) (r : Record) → Good b r → fault2 (ended_line (write_record r)) ≡ false
bytes_record b r g = rw (write_line r) (line_bytes (record_word r) (record_rest r) (word_of r) (rest_of b r g.spelt g.no5))

pub newlines_record : (b : Book) (r : Record) → Good b r → all (free 10) (write_record r) ≡ true
newlines_record b r g = rw (write_line r) (line_newlines (record_word r) (record_rest r) (word_of r) (rest_of b r g.spelt g.no5))

judged-fine : (b b' : Book) (r : Record) → Placed b r → Spelt r → judged b r ≡ fine b' → Good b r × (b' ≡ add b r)
unfolding judged
judged-fine b b' r pl sp h =
    let p5 = refuse-fine 5 (fault5 b r) _ h in
    let p6 = refuse-fine 6 (fault6 b r) _ p5.1 in
    let p7 = refuse-fine 7 (fault7 b r) _ p6.1 in
    let p8 = refuse-fine 8 (fault8 b r) _ p7.1 in
    let p9 = refuse-fine 9 (fault9 b r) _ p8.1 in
    let p10 = refuse-fine 10 (fault10 b r) _ p9.1 in (
      record {
        placed = pl;
        spelt = sp;
        no5 = p5.0;
        no6 = p6.0;
        no7 = p7.0;
        no8 = p8.0;
        no9 = p9.0;
        no10 = p10.0;
      },
      (let z : add b r ≡ b' = cc p10.1 in sym z),
    )

fine-judged : (b : Book) (r : Record) → Good b r → judged b r ≡ fine (add b r)
unfolding judged refuse
fine-judged b r g = rw (g.no5, g.no6, g.no7, g.no8, g.no9, g.no10)

fits-placed : (b : Book) (r : Record) → Fits b (shape_for r) → Placed b r
unfolding Fits shape_for Placed
fits-placed b (is_agent a) f = f.0
fits-placed b (is_rule r) f = tt

line_back : (b : Book) (r : Record) → Good b r → rule_line b (ended_line (write_record r)) ≡ fine (add b r)
unfolding rule_line shape refuse need ended_line
line_back b r g =
    rw (bytes_record b r g, fields-spelt r g.spelt, from-shape b (shape_for r) (good-fits b r g.placed g.no5), from_record r g.spelt) (fine-judged b r g)

-- A line is fine exactly where it is a written record that may stand next.
pub rule_line-fine : (b b' : Book) (l : Line)
    → (rule_line b l ≡ fine b') ↔ ((r : Record) × (l ≡ ended_line (write_record r)) × Good b r × (b' ≡ add b r))
unfolding rule_line shape
rule_line-fine b b' l = (to, from)
  where
    to : rule_line b l ≡ fine b' → (r : Record) × (l ≡ ended_line (write_record r)) × Good b r × (b' ≡ add b r)
    to h =
        let p = refuse-fine 2 (fault2 l) _ h in
        let q = need-fine 3 (shape_of b (fields l.bytes)) _ p.1 in
        let u = need-fine 4 (record_of q.0) _ q.2 in
        let s = to_shape b (fields l.bytes) q.0 q.1 in
        let t = to_record b q.0 u.0 s.1 u.1 in
        let f : Fits b (shape_for u.0) = rw t.0 s.1 in
        let e : fields l.bytes ≡ record_word u.0 ∷ record_rest u.0 = sym s.0 ∙ (ap shape_fields (sym t.0) ∙ shape-line u.0) in
        let j = judged-fine b b' u.0 (fits-placed b u.0 f) t.1 u.2 in
        (u.0, line-ended l p.0 ∙ ap ended_line (sym (write_line u.0 ∙ line-fields l.bytes _ _ e)), j.0, j.1)

    from : (r : Record) × (l ≡ ended_line (write_record r)) × Good b r × (b' ≡ add b r) → rule_line b l ≡ fine b'
    from (r, e, g, z) = rw (e, z) (line_back b r g)

-- The lines of a text.
unfoldable pub add_all : Book → List Record → Book
add_all b [] = b
add_all b (r ∷ rs) = add_all (add b r) rs

abbrev line_for : Record → Line
line_for r = ended_line (write_record r)

abbrev Records : Book → List Line → Book → Type 0
Records b ls b' = (rs : List Record) × (ls ≡ map line_for rs) × GoodFrom b rs × (b' ≡ add_all b rs)

more_records : (b c b' : Book) (l : Line) (ls : List Line) (r : Record) (rs : List Record)
    → l ≡ line_for r → Good b r → c ≡ add b r → ls ≡ map line_for rs → GoodFrom c rs → b' ≡ add_all c rs → Records b (l ∷ ls) b'
unfolding GoodFrom add_all
more_records b c b' l ls r rs e g z f gs y = (r ∷ rs, rw (e, f), (g, rw z at gs), rw z at y)

to_records : (ls : List Line) (b b' : Book) → Reads rule_line b ls b' → Records b ls b'
unfolding Reads GoodFrom add_all
to_records [] b b' h = ([], refl, tt, sym h)
to_records (l ∷ ls) b b' (c, e, h) =
    let p = (rule_line-fine b c l).0 e in
    let q = to_records ls c b' h in
    more_records b c b' l ls p.0 q.0 p.1 p.2 p.3 q.1 q.2 q.3

of_records : (rs : List Record) (b : Book) → GoodFrom b rs → Reads rule_line b (map line_for rs) (add_all b rs)
unfolding Reads GoodFrom add_all
of_records [] b g = refl
of_records (r ∷ rs) b (g, gs) = (add b r, line_back b r g, of_records rs (add b r) gs)

-- A good book is made of its records, and of no others.
map_snoc : (xs : List Agent) (a : Agent) → map is_agent (xs ++ (a ∷ [])) ≡ map is_agent xs ++ (is_agent a ∷ [])
map_snoc [] a = refl
map_snoc (x ∷ xs) a = rw (map_snoc xs a)

rules-snoc : (rs : List Rule) (r : Rule) → map is_rule (rs ++ (r ∷ [])) ≡ map is_rule rs ++ (is_rule r ∷ [])
rules-snoc [] r = refl
rules-snoc (x ∷ rs) r = rw (rules-snoc rs r)

no_rules : (rs : List Rule) → eqb (length rs) 0 ≡ true → rs ≡ []
no_rules [] h = refl
no_rules (r ∷ rs) h = let z : suc (length rs) ≡ 0 = eqb-true (suc (length rs)) 0 h in absurd (omega arith)

records-add : (b : Book) (r : Record) → Placed b r → records_of (add b r) ≡ records_of b ++ (r ∷ [])
unfolding Placed records_of add ruleless
records-add b (is_agent a) h =
    rw (map_snoc b.agents a, no_rules b.rules h) (simp (append-nil))
records-add b (is_rule r) h = rw (rules-snoc b.rules r, append_assoc)

records_all : (rs : List Record) (b : Book) → GoodFrom b rs → records_of (add_all b rs) ≡ records_of b ++ rs
unfolding GoodFrom add_all
records_all [] b g = sym (append-nil (records_of b))
records_all (r ∷ rs) b (g, gs) = records_all rs (add b r) gs ∙ rw (records-add b r g.placed, append_assoc)

pub add-agents : (xs : List Agent) (bs : List Agent) (rs : List Rule) (more : List Record)
    → add_all (record { agents = bs; rules = rs }) (map is_agent xs ++ more) ≡ add_all (record { agents = bs ++ xs; rules = rs }) more
unfolding add_all add
add-agents [] bs rs more = rw (append-nil bs)
add-agents (a ∷ xs) bs rs more = add-agents xs (bs ++ (a ∷ [])) rs more ∙ rw append_assoc

pub add-rules : (qs : List Rule) (bs : List Agent) (rs : List Rule)
    → add_all (record { agents = bs; rules = rs }) (map is_rule qs) ≡ record { agents = bs; rules = rs ++ qs }
unfolding add_all add
add-rules [] bs rs = rw (append-nil rs)
add-rules (q ∷ qs) bs rs = add-rules qs bs (rs ++ (q ∷ [])) ∙ rw append_assoc

all_of_records : (b : Book) → add_all no_book (records_of b) ≡ b
unfolding records_of
all_of_records b = add-agents b.agents [] [] (map is_rule b.rules) ∙ add-rules b.rules b.agents []

records_none : (rs : List Record) → GoodFrom no_book rs → records_of (add_all no_book rs) ≡ rs
unfolding records_of
records_none rs g = records_all rs no_book g

-- The lines lead to a book exactly where they are its records, and it is good.
pub book-lines : (ls : List Line) (b : Book) → (Reads rule_line no_book ls b) ↔ ((ls ≡ map line_for (records_of b)) × GoodBook b)
unfolding GoodBook
book-lines ls b = (to, from)
  where
    good_by : (rs : List Record) → rs ≡ records_of b → GoodFrom no_book rs → GoodFrom no_book (records_of b)
    good_by rs e g = rw e at g

    to : Reads rule_line no_book ls b → (ls ≡ map line_for (records_of b)) × GoodFrom no_book (records_of b)
    to h =
        let p = to_records ls no_book b h in
        let e : records_of b ≡ p.0 = ap records_of p.3 ∙ records_none p.0 p.2 in
        (p.1 ∙ ap (map line_for) (sym e), good_by p.0 (sym e) p.2)

    from : (ls ≡ map line_for (records_of b)) × GoodFrom no_book (records_of b) → Reads rule_line no_book ls b
    from (e, g) = rw e (rw all_of_records at (of_records (records_of b) no_book g))

-- The whole text.
unfoldable pub Sized : Book → Type 0
Sized b = (length b.agents ≤ symbols_max) × (length b.rules ≤ rules_max)

sized-add : (b : Book) (r : Record) → fault5 b r ≡ false → Sized (add b r)
unfolding Sized fault5 big_book
sized-add b r h =
    let p = neither (big_record b.agents r) (big_book (add b r)) h in
    let q = neither (ltb symbols_max (length (add b r).agents)) (ltb rules_max (length (add b r).rules)) p.1 in
    (ltb-false symbols_max (length (add b r).agents) q.0, ltb-false rules_max (length (add b r).rules) q.1)

sized_all : (rs : List Record) (b : Book) → GoodFrom b rs → Sized b → Sized (add_all b rs)
unfolding GoodFrom add_all
sized_all [] b g s = s
sized_all (r ∷ rs) b (g, gs) s = sized_all rs (add b r) gs (sized-add b r g.no5)

pub good-sized : (b : Book) → GoodBook b → Sized b
unfolding GoodBook Sized
good-sized b g = rw all_of_records at (sized_all (records_of b) no_book g (omega arith, omega arith))

records_newlines : (rs : List Record) (b : Book) → GoodFrom b rs → all (all (free 10)) (map write_record rs) ≡ true
unfolding GoodFrom all
records_newlines [] b g = refl
records_newlines (r ∷ rs) b (g, gs) = pair (all (free 10) (write_record r)) _ (newlines_record b r g) (records_newlines rs (add b r) gs)

lines-bytes : (rs : List Record) → map bytes_of (map line_for rs) ≡ map write_record rs
unfolding ended_line
lines-bytes [] = refl
lines-bytes (r ∷ rs) = rw (lines-bytes rs)

lines_end : (rs : List Record) → all ends_of (map line_for rs) ≡ true
unfolding ended_line all
lines_end [] = refl
lines_end (r ∷ rs) = lines_end rs

pub lines-map : (rs : List Record) → map ended_line (map write_record rs) ≡ map line_for rs
lines-map [] = refl
lines-map (r ∷ rs) = rw (lines-map rs)

pub word_rules_lem : all word_byte word_rules ≡ true
unfolding all word_byte letter digit
word_rules_lem = refl

abbrev counts_of : Book → Counts
counts_of b = record { upper = length b.agents; lower = length b.rules }

abbrev head_of : Book → List ℕ
head_of b = write_header word_rules (length b.agents) (length b.rules)

counts-are : (c : Counts) (a b : Book) → c.upper ≡ length a.agents → c.lower ≡ length a.rules → a ≡ b → c ≡ counts_of b
counts-are c a b x y z = rw (← z, ← x, ← y)

counted-accepted : (c : Counts) (a b : Book) → counted c a ≡ accepted b → (c ≡ counts_of b) × (a ≡ b)
unfolding counted
counted-accepted c a b h = go (eqb c.upper (length a.agents) && eqb c.lower (length a.rules)) refl h
  where
    go : (t : Bool) → (eqb c.upper (length a.agents) && eqb c.lower (length a.rules)) ≡ t → cond t (accepted a) (refused 11 1) ≡ accepted b
        → (c ≡ counts_of b) × (a ≡ b)
    go true e k =
        let p = both (eqb c.upper (length a.agents)) _ e in
        let z : a ≡ b = cc in
        let x = eqb-true c.upper (length a.agents) p.0 in
        let y = eqb-true c.lower (length a.rules) p.1 in
        (counts-are c a b x y z, z)
    go false e k = absurd (let z : ◌≡◌ {A = ℕ} 0 1 = cc in omega arith)

header_newlines : (m n : ℕ) → m < 10000 → n < 10000 → all (free 10) (write_header word_rules m n) ≡ true
unfolding write_header
header_newlines m n h k = line_newlines word_rules (decimal m ∷ decimal n ∷ []) (word-plain word_rules word_rules_lem) (two (decimal m) (decimal n) (decimal-plain m h) (decimal-plain n k))

to_printed : (ls : List Line) (b : Book) → rules_of_lines ls ≡ accepted b → (ls ≡ ended_line (head_of b) ∷ map line_for (records_of b)) × GoodBook b
unfolding rules_of_lines
to_printed [] b h = absurd (let z : ◌≡◌ {A = ℕ} 0 1 = cc in omega arith)
to_printed (l ∷ ls) b h =
    let p = (line-accepted 1 (header_line word_rules l) _ b).0 h in
    let q = (after_accepted (read_lines rule_line 2 no_book ls) (counted p.0) b).0 p.2 in
    let u = counted-accepted p.0 q.0 b q.2 in
    let v = (book-lines ls b).0 ((lines-accepted rule_line 2 no_book ls b).0 (q.1 ∙ ap accepted u.1)) in
    let w = (header-fine word_rules word_rules_lem l (counts_of b)).0 (p.1 ∙ ap fine u.0) in
    (cons-eq w.0 v.0, v.1)

from-printed : (b : Book) → GoodBook b → rules_of_lines (ended_line (head_of b) ∷ map line_for (records_of b)) ≡ accepted b
unfolding rules_of_lines counted Sized
from-printed b g =
    let s = good-sized b g in
    (line-accepted 1 (header_line word_rules (ended_line (head_of b))) _ b).1 (
      counts_of b,
      (header-fine word_rules word_rules_lem (ended_line (head_of b)) (counts_of b)).1 (refl, (omega (arith, s.0), omega (arith, s.1))),
      (after_accepted (read_lines rule_line 2 no_book (map line_for (records_of b))) (counted (counts_of b)) b).1 (
        b,
        (lines-accepted rule_line 2 no_book (map line_for (records_of b)) b).1 ((book-lines (map line_for (records_of b)) b).1 (refl, g)),
        rw (eq-eqb (length b.agents) (length b.agents) refl, eq-eqb (length b.rules) (length b.rules) refl),
      ),
    )

printed-text : (text : List ℕ) (b : Book) → lines text ≡ ended_line (head_of b) ∷ map line_for (records_of b) → text ≡ text_of (head_of b ∷ map write_record (records_of b))
unfolding ended_line all
printed-text text b e =
    sym (text-lines text (rw e (lines_end (records_of b)))) ∙ rw (e, lines-bytes (records_of b))

text-printed : (b : Book) → GoodBook b → lines (text_of (head_of b ∷ map write_record (records_of b))) ≡ ended_line (head_of b) ∷ map line_for (records_of b)
unfolding GoodBook Sized all
text-printed b g =
    let s = good-sized b g in
    lines-text (head_of b ∷ map write_record (records_of b))
    (pair (all (free 10) (head_of b)) _ (header_newlines (length b.agents) (length b.rules) (omega (arith, s.0)) (omega (arith, s.1)))
    (records_newlines (records_of b) no_book g))
    ∙ rw (lines-map (records_of b))

printed-lines : (ls : List Line) (b : Book) → (rules_of_lines ls ≡ accepted b) ↔ ((ls ≡ ended_line (head_of b) ∷ map line_for (records_of b)) × GoodBook b)
printed-lines ls b = (to_printed ls b, λ p. rw p.0 (from-printed b p.1))

-- A rule text is accepted and means b exactly where it is b printed, b is good, and the length is within the size.
pub rules-accepted : (text : List ℕ) (b : Book) → (read_rules text ≡ accepted b) ↔ ((text ≡ print_book b) × GoodBook b × (length text ≤ text_max))
unfolding read_rules print_book
rules-accepted text b = (to (ltb text_max (length text)) refl, from)
  where
    to : (t : Bool) → ltb text_max (length text) ≡ t → cond t (refused 1 0) (rules_of_lines (lines text)) ≡ accepted b
        → (text ≡ text_of (head_of b ∷ map write_record (records_of b))) × GoodBook b × (length text ≤ text_max)
    to true e h = absurd (let z : ◌≡◌ {A = ℕ} 0 1 = cc in omega arith)
    to false e h =
        let p = (printed-lines (lines text) b).0 h in
        (printed-text text b p.0, p.1, ltb-false text_max (length text) e)

    from : (text ≡ text_of (head_of b ∷ map write_record (records_of b))) × GoodBook b × (length text ≤ text_max)
        → cond (ltb text_max (length text)) (refused 1 0) (rules_of_lines (lines text)) ≡ accepted b
    from (e, g, n) = rw (le-ltb text_max (length text) n) ((printed-lines (lines text) b).1 (ap lines e ∙ text-printed b g, g))

-- With no limit of the length: what the lines of a text mean is a good book, and each good book is what the lines of its printed form mean.
pub lines-good : (text : List ℕ) (b : Book) → rules_of_lines (lines text) ≡ accepted b → GoodBook b
lines-good text b h = ((printed-lines (lines text) b).0 h).1

pub good-lines : (b : Book) → GoodBook b → rules_of_lines (lines (print_book b)) ≡ accepted b
unfolding print_book
good-lines b g = (printed-lines (lines (text_of (head_of b ∷ map write_record (records_of b)))) b).1 (text-printed b g, g)

-- Two good books that are printed alike are one.
pub print_unique : (a b : Book) → GoodBook a → GoodBook b → print_book a ≡ print_book b → a ≡ b
print_unique a b g h e =
    let p : rules_of_lines (lines (print_book a)) ≡ accepted a = good-lines a g in
    let q : rules_of_lines (lines (print_book a)) ≡ accepted b = ap (λ t. rules_of_lines (lines t)) e ∙ good-lines b h in cc
