-- The bytes of a table are as many as a lent table has, and stand for the table.
use Rattle.std.specs.Prelude.{ℕ, suc, ◌+◌, ◌*◌, ◌/◌, ◌%◌, ◌<◌, ◌≤◌, ◌≡◌, refl, true, not, ◌&&◌, List, [], ◌∷◌, ◌++◌, length, get_or, take, drop, replicate, leb}
use Rattle.std.proofs.Common.{sym, ap, ap₂, ◌∙◌, arith, div-add-mod', mul-suc, length-append, length-drop, get_or-append-add, leb-true}
use Rattle.std.proofs.lemmas.List.{replicate-append-replicate, take-append-le, drop-append-le}
use Rattle.std.proofs.Math.ListN.{get_or-append}
use Rattle.std.proofs.Math.Seq.{drop-append-add}
use Rattle.parts.specs.Limits.{symbols_max, rules_max, agent_size, rule_size, table_size}
use Rattle.parts.specs.Segments.{seg}
use Rattle.model.specs.Table.{Entry, Found, none, straight, turned, find}
use Rattle.texts.specs.Bytes.{all, any}
use Rattle.texts.specs.Books.{Agent, declared}
use Rattle.texts.specs.Coded.{Table}
use Rattle.texts.specs.TableTest.{agent_ok, test_agents, pair_test, test_template, test_templates, test_table}
use Rattle.texts.proofs.Beneath.Tools.{both, pair}
use Rattle.texts.proofs.Beneath.Clauses.{clauses_of}
use Rattle.table.specs.Lists.{tab, blocks, row_of}
use Rattle.table.specs.Laws.Lists.{row-past, length-tab, tab_list, length-row, row_at, length-blocks, block_at, block_get}
use Rattle.table.specs.Put.{no_table}
use Rattle.table.specs.Layout.{symbols_at, pairs_at, rules_at, agent_row, rule_row, agent_of, entry_of, rules_in, agents_in, view, agent_bytes, rule_bytes, found_bytes, pair_bytes, bytes_of}
use Rattle.table.specs.Laws.Rows.{length-agent, length-rule, all_at, agent_back, Fits, rule_back}

-- The four parts of a table's bytes.
abbrev pub count_part : Table → List ℕ
count_part t = length t.agents ∷ length t.rules % 256 ∷ length t.rules / 256 ∷ []

abbrev pub agent_part : Table → List ℕ
agent_part t = blocks symbols_max (row_of agent_size agent_bytes t.agents)

abbrev pub rule_part : Table → List ℕ
rule_part t = blocks rules_max (row_of rule_size rule_bytes t.rules)

pub length-agents : (t : Table) → length (agent_part t) ≡ agent_size * symbols_max
length-agents t = length-blocks agent_size symbols_max (row_of agent_size agent_bytes t.agents) (λ k. length-row agent_size agent_bytes t.agents k length-agent)

pub length-rules : (t : Table) → length (rule_part t) ≡ rule_size * rules_max
length-rules t = length-blocks rule_size rules_max (row_of rule_size rule_bytes t.rules) (λ k. length-row rule_size rule_bytes t.rules k length-rule)

pub length_found : (f : Found) → length (found_bytes f) ≡ 2
length_found none = refl
length_found (straight i e) = refl
length_found (turned i e) = refl

pub length-line : (rs : List Entry) (a : ℕ) → length (blocks symbols_max (λ b. found_bytes (find rs 0 a b))) ≡ 2 * symbols_max
length-line rs a = length-blocks 2 symbols_max (λ b. found_bytes (find rs 0 a b)) (λ b. length_found (find rs 0 a b))

pub length_pairs : (rs : List Entry) → length (pair_bytes rs) ≡ 2 * symbols_max * symbols_max
unfolding pair_bytes
length_pairs rs = length-blocks (2 * symbols_max) symbols_max (λ a. blocks symbols_max (λ b. found_bytes (find rs 0 a b))) (length-line rs)

pub length-bytes : (t : Table) → length (bytes_of t) ≡ table_size
unfolding bytes_of
length-bytes t =
    omega (
      arith,
      length-append (agent_part t) (pair_bytes t.rules ++ rule_part t),
      length-append (pair_bytes t.rules) (rule_part t),
      length-agents t,
      length_pairs t.rules,
      length-rules t,
    )

-- A part of two lists that are laid end to end.
seg_left : (at n : ℕ) (xs ys : List ℕ) → at + n ≤ length xs → seg at n (xs ++ ys) ≡ seg at n xs
unfolding seg
seg_left at n xs ys h =
    let q : at ≤ length xs = omega arith in
    ap (take n) (drop-append-le at xs ys q) ∙ take-append-le n (drop at xs) ys (omega (arith, length-drop at xs))

seg_right : (at n : ℕ) (xs ys : List ℕ) → seg (length xs + at) n (xs ++ ys) ≡ seg at n ys
unfolding seg
seg_right at n xs ys = ap (take n) (drop-append-add xs ys at)

-- The rows of a table's bytes.
pub agent_row_lem : (t : Table) (k : ℕ) → k < symbols_max → agent_row (bytes_of t) k ≡ row_of agent_size agent_bytes t.agents k
unfolding bytes_of
agent_row_lem t k h =
    seg_right (agent_size * k) agent_size (count_part t) (agent_part t ++ (pair_bytes t.rules ++ rule_part t))
    ∙ (seg_left (agent_size * k) agent_size (agent_part t) (pair_bytes t.rules ++ rule_part t) (omega (arith, length-agents t))
    ∙ block_at agent_size symbols_max (row_of agent_size agent_bytes t.agents) (λ k. length-row agent_size agent_bytes t.agents k length-agent) k h)

pub rule_row_lem : (t : Table) (k : ℕ) → k < rules_max → rule_row (bytes_of t) k ≡ row_of rule_size rule_bytes t.rules k
unfolding bytes_of
rule_row_lem t k h =
    let e : rules_at + rule_size * k ≡ 3 + (length (agent_part t) + (length (pair_bytes t.rules) + rule_size * k)) =
    omega (arith, length-agents t, length_pairs t.rules) in
    ap (λ n. seg n rule_size (bytes_of t)) e
    ∙ (seg_right (length (agent_part t) + (length (pair_bytes t.rules) + rule_size * k)) rule_size (count_part t) (agent_part t ++ (pair_bytes t.rules ++ rule_part t))
    ∙ (seg_right (length (pair_bytes t.rules) + rule_size * k) rule_size (agent_part t) (pair_bytes t.rules ++ rule_part t)
    ∙ (seg_right (rule_size * k) rule_size (pair_bytes t.rules) (rule_part t)
    ∙ block_at rule_size rules_max (row_of rule_size rule_bytes t.rules) (λ k. length-row rule_size rule_bytes t.rules k length-rule) k h)))

-- What the index of pairs says.
pub pair_at : (t : Table) (a b j : ℕ) → a < symbols_max → b < symbols_max → j < 2
    → get_or (bytes_of t) (pairs_at + (2 * (symbols_max * a + b) + j)) 0 ≡ get_or (found_bytes (find t.rules 0 a b)) j 0
unfolding bytes_of pair_bytes
pair_at t a b j ha hb hj =
    let e : pairs_at + (2 * (symbols_max * a + b) + j) ≡ 3 + (length (agent_part t) + (2 * symbols_max * a + (2 * b + j))) =
    omega (arith, length-agents t) in
    ap (λ n. get_or (bytes_of t) n 0) e
    ∙ (get_or-append-add (count_part t) (agent_part t ++ (pair_bytes t.rules ++ rule_part t)) (length (agent_part t) + (2 * symbols_max * a + (2 * b + j))) 0
    ∙ (get_or-append-add (agent_part t) (pair_bytes t.rules ++ rule_part t) (2 * symbols_max * a + (2 * b + j)) 0
    ∙ (get_or-append (pair_bytes t.rules) (rule_part t) 0 (2 * symbols_max * a + (2 * b + j)) (omega (arith, length_pairs t.rules))
    ∙ (block_get (2 * symbols_max) symbols_max (λ a. blocks symbols_max (λ b. found_bytes (find t.rules 0 a b))) (length-line t.rules) a (2 * b + j) ha (omega arith)
    ∙ block_get 2 symbols_max (λ b. found_bytes (find t.rules 0 a b)) (λ b. length_found (find t.rules 0 a b)) b j hb hj))))

-- The bytes of no agents and no rules are zero.
blocks-zero : (w n : ℕ) (f : ℕ → List ℕ) → ((k : ℕ) → f k ≡ replicate w 0) → blocks n f ≡ replicate (w * n) 0
unfolding blocks
blocks-zero w ℕ.zero f h = let z : w * 0 ≡ 0 = omega arith in rw z
blocks-zero w (ℕ.suc n) f h =
    let z : w * suc n ≡ w + w * n = omega (arith, mul-suc w n) in
    rw z (ap₂ ◌++◌ (h 0) (blocks-zero w n (λ k. f (suc k)) (λ k. h (suc k))) ∙ replicate-append-replicate w (w * n) 0)

pub nothing-bytes : bytes_of no_table ≡ replicate table_size 0
unfolding bytes_of pair_bytes
nothing-bytes =
    ap₂ (λ x y. 0 ∷ 0 ∷ 0 ∷ (x ++ y)) (blocks-zero agent_size symbols_max (row_of agent_size agent_bytes []) (λ k. row-past agent_size agent_bytes [] k (omega arith)))
    (ap₂ ◌++◌
    (blocks-zero (2 * symbols_max) symbols_max (λ a. blocks symbols_max (λ b. found_bytes (find [] 0 a b))) (λ a. blocks-zero 2 symbols_max (λ b. found_bytes (find [] 0 a b)) (λ b. refl)))
    (blocks-zero rule_size rules_max (row_of rule_size rule_bytes []) (λ k. row-past rule_size rule_bytes [] k (omega arith)))
    ∙ replicate-append-replicate (2 * symbols_max * symbols_max) (rule_size * rules_max) 0)
    ∙ ap (λ l. 0 ∷ 0 ∷ 0 ∷ l) (replicate-append-replicate (agent_size * symbols_max) (2 * symbols_max * symbols_max + rule_size * rules_max) 0)

-- The counts.
pub symbols-are : (w : List ℕ) → get_or w 0 0 ≡ length (agents_in w)
unfolding agents_in
symbols-are w = sym (length-tab (get_or w symbols_at 0) (λ k. agent_of (agent_row w k)))

pub symbols_in : (t : Table) → get_or (bytes_of t) 0 0 ≡ length t.agents
unfolding bytes_of
symbols_in t = refl

pub rules_in_lem : (t : Table) → rules_in (bytes_of t) ≡ length t.rules
unfolding bytes_of
rules_in_lem t = omega (arith, div-add-mod' (length t.rules) 256)

-- What a table must keep so that its bytes stand for it.
pub record FitAgents (ags : List Agent) : Type 0 where
  pub few : length ags ≤ symbols_max
  pub good : all agent_ok ags ≡ true

abbrev pub no_agent : Agent
no_agent = record { symbol = []; arity = 0 }

abbrev pub no_entry : Entry
no_entry = record { left = 0; right = 0; body = []; cells = []; fresh = 0 }

pub agents_back : (t : Table) → FitAgents t.agents → agents_in (bytes_of t) ≡ t.agents
unfolding agents_in
agents_back t f =
    ap (λ n. tab n (λ k. agent_of (agent_row (bytes_of t) k))) (symbols_in t)
    ∙ tab_list t.agents (λ k. agent_of (agent_row (bytes_of t) k)) no_agent
    (λ k h.
    ap agent_of (agent_row_lem t k (omega (arith, f.few)) ∙ row_at agent_size agent_bytes t.agents k no_agent h)
    ∙ agent_back (get_or t.agents k no_agent) (all_at agent_ok t.agents k no_agent f.good h))

pub record FitTable (t : Table) : Type 0 where
  pub agents : FitAgents t.agents
  pub few : length t.rules ≤ rules_max
  pub rules : (k : ℕ) → k < length t.rules → Fits t.agents (get_or t.rules k no_entry)

-- The view of a table's bytes is the table.
pub view-bytes : (t : Table) → FitTable t → view (bytes_of t) ≡ t
unfolding view
view-bytes t f = ap₂ (λ a r. record { agents = a; rules = r }) same
    (ap₂ (λ a n. tab n (λ k. entry_of a (rule_row (bytes_of t) k))) same (rules_in_lem t)
    ∙ tab_list t.rules (λ k. entry_of t.agents (rule_row (bytes_of t) k)) no_entry
    (λ k h.
    ap (entry_of t.agents) (rule_row_lem t k (omega (arith, f.few)) ∙ row_at rule_size rule_bytes t.rules k no_entry h)
    ∙ rule_back t.agents f.agents.good (get_or t.rules k no_entry) (f.rules k h)))
  where
    same : agents_in (bytes_of t) ≡ t.agents
    same = agents_back t f.agents

-- A table that passes its test fits.
pub tested-agents : (seen bs : List Agent) → test_agents seen bs ≡ true → all agent_ok bs ≡ true
unfolding test_agents all
tested-agents seen [] h = refl
tested-agents seen (a ∷ bs) h =
    let p = both (agent_ok a && not (declared seen a.symbol)) (test_agents (seen ++ (a ∷ [])) bs) h in
    pair (agent_ok a) (all agent_ok bs) (both (agent_ok a) (not (declared seen a.symbol)) p.0).0 (tested-agents (seen ++ (a ∷ [])) bs p.1)

tested-rule : (ags : List Agent) (e : Entry) → test_agents [] ags ≡ true → test_template ags e ≡ true → Fits ags e
tested-rule ags e ha h =
    let c = clauses_of ags e h in record { few = c.few_equations; little = c.few_cells; args = c.cells_ok }

tested-rules : (ags : List Agent) → test_agents [] ags ≡ true → (seen es : List Entry) → test_templates ags seen es ≡ true
    → (k : ℕ) → k < length es → Fits ags (get_or es k no_entry)
unfolding test_templates
tested-rules ags ha seen [] h k q = absurd (omega arith)
tested-rules ags ha seen (e ∷ es) h ℕ.zero q =
    let p = both (test_template ags e && not (any (pair_test e.left e.right) seen)) (test_templates ags (seen ++ (e ∷ [])) es) h in
    tested-rule ags e ha (both (test_template ags e) (not (any (pair_test e.left e.right) seen)) p.0).0
tested-rules ags ha seen (e ∷ es) h (ℕ.suc k) q =
    let p = both (test_template ags e && not (any (pair_test e.left e.right) seen)) (test_templates ags (seen ++ (e ∷ [])) es) h in
    tested-rules ags ha (seen ++ (e ∷ [])) es p.1 k (omega arith)

pub tested-fits : (t : Table) → test_table t ≡ true → FitTable t
unfolding test_table
tested-fits t h =
    let p = both _ (test_templates t.agents [] t.rules) h in
    let q = both _ (test_agents [] t.agents) p.0 in
    let s = both (leb (length t.agents) symbols_max) (leb (length t.rules) rules_max) q.0 in
    record {
      agents = record { few = leb-true _ _ s.0; good = tested-agents [] t.agents q.1 };
      few = leb-true _ _ s.1;
      rules = tested-rules t.agents q.1 [] t.rules p.1;
    }
