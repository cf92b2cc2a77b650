-- A good book with the record of a fine line is a good book.
use mathlib.Core.Path.{◌≡◌, refl, ◌∙◌}
use mathlib.Core.List.{List, [], ◌∷◌, ◌++◌, map, append-nil, append_assoc}
use Rattle.texts.specs.Bytes.{Line}
use Rattle.texts.specs.Books.{Agent, Rule, Book, Record, is_agent, is_rule, records_of, add, no_book}
use Rattle.texts.specs.Answers.{fine}
use Rattle.texts.specs.RuleText.{ruleless, rule_line}
use Rattle.texts.specs.Good.{Placed, Good, GoodFrom, GoodBook}
use Rattle.rule_lines.specs.Laws.{no_rules}
use Rattle.texts.proofs.Beneath.RuleMeans.{add_all, add-agents, add-rules, rule_line-fine}

agents-snoc : (xs : List Agent) (a : Agent) → map is_agent (xs ++ (a ∷ [])) ≡ map is_agent xs ++ (is_agent a ∷ [])
agents-snoc [] a = refl
agents-snoc (x ∷ xs) a = rw (agents-snoc xs a)

rules-snoc : (rs : List Rule) (r : Rule) → map is_rule (rs ++ (r ∷ [])) ≡ map is_rule rs ++ (is_rule r ∷ [])
rules-snoc [] r = refl
rules-snoc (x ∷ rs) r = rw (rules-snoc rs r)

records-add : (b : Book) (r : Record) → Placed b r → records_of (add b r) ≡ records_of b ++ (r ∷ [])
unfolding Placed records_of add ruleless
records-add b (is_agent a) h = rw (agents-snoc b.agents a, no_rules b.rules h) (simp append-nil)
records-add b (is_rule r) h = rw (rules-snoc b.rules r, append_assoc)

good-snoc : (rs : List Record) (b : Book) (r : Record) → GoodFrom b rs → Good (add_all b rs) r
    → GoodFrom b (rs ++ (r ∷ []))
unfolding GoodFrom add_all
good-snoc [] b r g h = (h, tt)
good-snoc (q ∷ rs) b r (g, gs) h = (g, good-snoc rs (add b q) r gs h)

all_records : (b : Book) → add_all no_book (records_of b) ≡ b
unfolding records_of
all_records b = add-agents b.agents [] [] (map is_rule b.rules) ∙ add-rules b.rules b.agents []

good-add : (b : Book) (r : Record) → GoodBook b → Good b r → GoodBook (add b r)
unfolding GoodBook
good-add b r g h =
    let k : Good (add_all no_book (records_of b)) r = rw (all_records b) h in
    rw (records-add b r h.placed) (good-snoc (records_of b) no_book r g k)

pub good-next : (b c : Book) (l : Line) → GoodBook b → rule_line b l ≡ fine c → GoodBook c
good-next b c l g h = let p = (rule_line-fine b c l).0 h in rw p.3 (good-add b p.0 g p.2)

pub good_none : GoodBook no_book
unfolding GoodBook GoodFrom records_of
good_none = tt
