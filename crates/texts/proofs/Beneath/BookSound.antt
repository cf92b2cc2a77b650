-- What an accepted book satisfies, as the calculus asks it: in terms of places and occurrences.
use Rattle.std.specs.Prelude.{ℕ, suc, ◌≤◌, ◌≡◌, refl, Bool, true, false, not, ◌&&◌, ◌||◌, ◌↔◌, length, ltb}
use Rattle.std.proofs.Common.{ap, sym, ◌∙◌, arith, ltb-false}
use mathlib.Core.List.{List, map-append, [], ◌∷◌, ◌++◌, map, append-nil}
use Rattle.std.proofs.lemmas.Bool.{not-false}
use Rattle.texts.specs.Bytes.{any, same, In}
use Rattle.texts.specs.Books.{Agent, Rule, Book, Record, is_agent, is_rule, records_of, add, no_book, declared, cells_of, rights, head_of, new_names_of, print_book}
use Rattle.texts.specs.RuleText.{fault6, fault9, fault10, same_pair, wire_of, within, mirrored, one_sided, read_rules}
use Rattle.texts.specs.Answers.{accepted}
use Rattle.texts.specs.Coded.{Table, table_of}
use Rattle.texts.proofs.Beneath.Tools.{never, both, neither, pair, none_of, same_refl, in_split}
use Rattle.texts.proofs.Beneath.RuleMeans.{rules-accepted, lines-good, good-lines, add_all, add-agents, add-rules}
use Rattle.texts.specs.Good.{Good, GoodFrom, GoodBook, SoundTable}
use Rattle.texts.specs.RuleSound.{SoundRule}
use Rattle.texts.proofs.Beneath.RuleSound.{faults_sound}

-- A book is good exactly where each agent is good after the agents before it, and each rule after all agents and the rules before it.
good_left : (xs ys : List Record) (b : Book) → GoodFrom b (xs ++ ys) → GoodFrom b xs
unfolding GoodFrom
good_left [] ys b g = tt
good_left (x ∷ xs) ys b (g, gs) = (g, good_left xs ys (add b x) gs)

good_right : (xs ys : List Record) (b : Book) → GoodFrom b (xs ++ ys) → GoodFrom (add_all b xs) ys
unfolding GoodFrom add_all
good_right [] ys b g = g
good_right (x ∷ xs) ys b (g, gs) = good_right xs ys (add b x) gs

all_agents : (xs : List Agent) → add_all no_book (map is_agent xs) ≡ record { agents = xs; rules = [] }
unfolding add_all
all_agents xs = ap (add_all no_book) (sym (append-nil (map is_agent xs))) ∙ add-agents xs [] [] []

module _ (b : Book) (g : GoodBook b) where
  -- an agent is good after those before it
  pub agent-good : (xs ys : List Agent) (a : Agent) → b.agents ≡ xs ++ (a ∷ ys) → Good (record { agents = xs; rules = [] }) (is_agent a)
  unfolding GoodBook records_of GoodFrom
  agent-good xs ys a e =
      let h : GoodFrom no_book (map is_agent xs ++ (is_agent a ∷ map is_agent ys)) =
      rw (← map-append is_agent xs (a ∷ ys), ← e) (good_left (map is_agent b.agents) (map is_rule b.rules) no_book g) in
      let k : GoodFrom (add_all no_book (map is_agent xs)) (is_agent a ∷ map is_agent ys) = good_right (map is_agent xs) (is_agent a ∷ map is_agent ys) no_book h in
      rw (all_agents xs) at k.0

  -- a rule is good after all agents and the rules before it
  pub rule-good : (xs ys : List Rule) (r : Rule) → b.rules ≡ xs ++ (r ∷ ys) → Good (record { agents = b.agents; rules = xs }) (is_rule r)
  unfolding GoodBook records_of GoodFrom
  rule-good xs ys r e =
      let h : GoodFrom (add_all no_book (map is_agent b.agents)) (map is_rule b.rules) = good_right (map is_agent b.agents) (map is_rule b.rules) no_book g in
      let k : GoodFrom (record { agents = b.agents; rules = [] }) (map is_rule xs ++ (is_rule r ∷ map is_rule ys)) =
      rw (← map-append is_rule xs (r ∷ ys), ← e) (rw (all_agents b.agents) at h) in
      let m : GoodFrom (add_all (record { agents = b.agents; rules = [] }) (map is_rule xs)) (is_rule r ∷ map is_rule ys) =
      good_right (map is_rule xs) (is_rule r ∷ map is_rule ys) (record { agents = b.agents; rules = [] }) k in
      rw (add-rules xs b.agents []) at m.0

pub good-rule-sound : (b : Book) (r : Rule) → Good b (is_rule r) → SoundRule b.agents r
good-rule-sound b r g = faults_sound b r g.no7 g.no8

-- What a good book satisfies.
empty : {A : Type 0} (xs : List A) → ltb 0 (length xs) ≡ false → xs ≡ []
empty [] h = refl
empty (x ∷ xs) h = let z : suc (length xs) ≤ 0 = ltb-false 0 (suc (length xs)) h in absurd (omega arith)

-- A right side of wires alone, unchanged when the two left argument lists change places.
pub record Symmetric (ags : List Agent) (r : Rule) : Type 0 where
  pub no_cells : cells_of ags (rights r) ≡ []
  pub no_new : new_names_of ags r ≡ []
  pub into : within (map wire_of r.right) (map (mirrored r) (map wire_of r.right)) ≡ true
  pub back : within (map (mirrored r) (map wire_of r.right)) (map wire_of r.right) ≡ true

pub symmetric_of : (b : Book) (r : Rule) → fault10 b (is_rule r) ≡ false → head_of r.first ≡ head_of r.second → Symmetric b.agents r
unfolding fault10 one_sided
symmetric_of b r no10 e =
    let h : one_sided b.agents r ≡ false = right_of (same (head_of r.first) (head_of r.second)) (one_sided b.agents r) (rw e (same_refl (head_of r.second))) no10 in
    let p = neither (ltb 0 (length (cells_of b.agents (rights r))) || ltb 0 (length (new_names_of b.agents r))) _ h in
    let q = neither (ltb 0 (length (cells_of b.agents (rights r)))) (ltb 0 (length (new_names_of b.agents r))) p.0 in
    let u = both (within (map wire_of r.right) (map (mirrored r) (map wire_of r.right))) _ (not-false _ p.1) in
    record { no_cells = empty (cells_of b.agents (rights r)) q.0; no_new = empty (new_names_of b.agents r) q.1; into = u.0; back = u.1 }
  where
    right_of : (t u : Bool) → t ≡ true → (t && u) ≡ false → u ≡ false
    right_of true u h k = k
    right_of false u h k = never h

pub of_symmetric : (ags : List Agent) (r : Rule) → Symmetric ags r → one_sided ags r ≡ false
unfolding one_sided
of_symmetric ags r h =
    none_of (ltb 0 (length (cells_of ags (rights r))) || ltb 0 (length (new_names_of ags r))) _
    (none_of (ltb 0 (length (cells_of ags (rights r)))) (ltb 0 (length (new_names_of ags r)))
    (ap (λ l. ltb 0 (length l)) h.no_cells) (ap (λ l. ltb 0 (length l)) h.no_new))
    (ap not (pair (within (map wire_of r.right) (map (mirrored r) (map wire_of r.right))) _ h.into h.back))

pub record SoundBook (b : Book) : Type 0 where
  -- symbols are declared once
  pub symbols : (xs ys : List Agent) (a : Agent) → b.agents ≡ xs ++ (a ∷ ys) → declared xs a.symbol ≡ false
  -- each rule is well formed
  pub rules_sound : (r : Rule) → In r b.rules → SoundRule b.agents r
  -- one rule for each pair, whichever is written first
  pub one_each : (xs ys : List Rule) (r : Rule) → b.rules ≡ xs ++ (r ∷ ys) → any (same_pair r) xs ≡ false
  -- a rule of a symbol with itself reads the same from both sides
  pub self_rules : (r : Rule) → In r b.rules → head_of r.first ≡ head_of r.second → Symmetric b.agents r

pub good-sound : (b : Book) → GoodBook b → SoundBook b
unfolding fault6 fault9
good-sound b g = record {
  symbols = λ xs ys a e. (agent-good b g xs ys a e).no6;
  rules_sound = λ r m. let p = in_split r b.rules m in good-rule-sound (record { agents = b.agents; rules = p.0 }) r (rule-good b g p.0 p.1 r p.2);
  one_each = λ xs ys r e. (rule-good b g xs ys r e).no9;
  self_rules = λ r m e. let p = in_split r b.rules m in symmetric_of (record { agents = b.agents; rules = p.0 }) r (rule-good b g p.0 p.1 r p.2).no10 e;
}

-- An accepted text means a sound book.
pub accepted-sound : (text : List ℕ) (b : Book) → read_rules text ≡ accepted b → SoundBook b
accepted-sound text b h = good-sound b ((rules-accepted text b).0 h).1

-- A sound table is one that some rule text would give if its length had no limit.
pub sound_table_lem : (t : Table) → SoundTable t ↔ ((b : Book) × GoodBook b × (table_of b ≡ t))
unfolding SoundTable
sound_table_lem t = (λ p. (p.1, lines-good p.0 p.1 p.2, p.3), λ p. (print_book p.0, p.0, good-lines p.0 p.1, p.2))
