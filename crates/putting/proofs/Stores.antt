-- What the writers of a lent table store.
use Rattle.std.specs.Prelude.{ℕ, suc, ◌+◌, ◌*◌, ◌-◌, ◌/◌, ◌%◌, ◌<◌, ◌≤◌, pred, max, ◌≡◌, refl, List, [], ◌∷◌, ◌++◌, map, length, get_or, set, replicate, Bool, true, false, leb}
use Rattle.std.proofs.Common.{sym, ap, ap₂, ◌∙◌, arith, div-add-mod', mod-lt, add-one, length-set, get_or-set_same, get_or-set_other, ext_get_or, leb-true, leb-false, below_none, below_more}
use Rattle.std.proofs.Math.ListN.{length-replicate, get_or-replicate, get_or-eq_default, get_or-map, length-map}
use Rattle.std.proofs.Math.Seq.{sets, set_at}
use Rattle.parts.specs.Limits.{identifier_max, symbols_max, arity_max, rules_max, rule_equations_max, agent_size, node_size, rule_size}
use Rattle.parts.specs.Sides.{name, code, side}
use Rattle.parts.specs.Codes.{code-side}
use Rattle.model.specs.Table.{find, none}
use Rattle.texts.specs.Books.{Agent}
use Rattle.texts.specs.Coded.{Table, arity_at}
use Rattle.table.specs.Lists.{tab, filled, row_of}
use Rattle.table.specs.Layout.{count_at, agents_at, pairs_at, rules_at, sides_in, nodes_in, rules_in, agents_in, symbol_of, equation_of, cell_of, entry_of, agent_bytes, node_bytes, rule_bytes, bytes_of}
use Rattle.table.specs.Put.{agent, with_agent, with_rule, ruled}
use Rattle.table.specs.Rule.{row, stands}
use Rattle.table.specs.declared.Rule.{Rule}
use Rattle.table.specs.Laws.Lists.{length-tab, tab_at, row_at, row-past}
use Rattle.table.specs.Laws.Sides.{sides_of}
use Rattle.table.specs.Laws.Rows.{length-rule, side_in, node_in}
use Rattle.table.specs.Laws.Whole.{FitAgents, symbols-are, symbols_in, rules_in_lem, agents_back}
use Rattle.putting.proofs.Changes.{sets_cons, sets_left, agent_more, rule_more}

-- Letters stored over zeros.
filled_none : (n : ℕ) → filled n [] ≡ replicate n 0
unfolding tab
filled_none ℕ.zero = refl
filled_none (ℕ.suc n) = ap (λ l. 0 ∷ l) (filled_none n)

sets_filled : (n : ℕ) (l : List ℕ) → length l ≤ n → sets (replicate n 0) 0 l ≡ filled n l
unfolding tab
sets_filled n [] h = sym (filled_none n)
sets_filled ℕ.zero (v ∷ l) h = absurd (omega arith)
sets_filled (ℕ.suc n) (v ∷ l) h = sets_cons v (replicate n 0) 0 l ∙ ap (λ k. v ∷ k) (sets_filled n l (omega arith))

pub agent_row_way : (l o : List ℕ) (n : ℕ) → o ≡ sets (replicate agent_size 0) 0 l → length l ≤ identifier_max
    → set o identifier_max (n + 1) ≡ agent_bytes (agent l n)
unfolding agent_bytes
agent_row_way l o n e h =
    let s : o ≡ filled identifier_max l ++ (0 ∷ []) =
    e ∙ (sets_left (replicate identifier_max 0) (0 ∷ []) 0 l (omega (arith, length-replicate {A = ℕ} identifier_max 0))
    ∙ ap (λ k. k ++ (0 ∷ [])) (sets_filled identifier_max l h)) in
    ap (λ k. set k identifier_max (n + 1)) s
    ∙ (set_at (filled identifier_max l) 0 [] (n + 1) identifier_max (length-tab identifier_max (λ k. get_or l k 0))
    ∙ ap (λ m. filled identifier_max l ++ (m ∷ [])) (add-one n))

-- at least one
pub max_one : (x : ℕ) → max x 1 ≡ suc (pred x)
max_one ℕ.zero = refl
max_one (ℕ.suc x) = omega arith

-- What the row that stands for a row has at each place.
module _ (ags : List Agent) (r : List ℕ) where
  head-kept : (p : ℕ) → p < sides_in → get_or r p 0 ≡ get_or (rule_bytes (entry_of ags r)) p 0
  unfolding rule_bytes entry_of
  head-kept ℕ.zero h = refl
  head-kept (ℕ.suc ℕ.zero) h = refl
  head-kept (ℕ.suc (ℕ.suc ℕ.zero)) h = sym (length-tab (get_or r 2 0) (equation_of r))
  head-kept (ℕ.suc (ℕ.suc (ℕ.suc ℕ.zero))) h = sym (length-tab (get_or r 3 0) (cell_of ags r))
  head-kept (ℕ.suc (ℕ.suc (ℕ.suc (ℕ.suc ℕ.zero)))) h = refl
  head-kept (ℕ.suc (ℕ.suc (ℕ.suc (ℕ.suc (ℕ.suc p))))) h = absurd (omega arith)

  pub side-past : (n p : ℕ) → n ≡ get_or r 2 0 → sides_in + 2 * n ≤ p → p < nodes_in → 0 ≡ get_or (rule_bytes (entry_of ags r)) p 0
  side-past n p e h q =
      let z : p ≡ sides_in + (p - sides_in) = omega arith in
      sym (ap (λ i. get_or (rule_bytes (entry_of ags r)) i 0) z
      ∙ (side_in (entry_of ags r) (p - sides_in) (omega arith)
      ∙ (ap (λ l. get_or l (p - sides_in) 0) (sides_of ags r)
      ∙ get_or-eq_default (tab (2 * get_or r 2 0) (λ k. get_or r (sides_in + k) 0)) 0 {n = p - sides_in} (omega (arith, length-tab (2 * get_or r 2 0) (λ k. get_or r (sides_in + k) 0))))))

  side_kept' : (k : ℕ) → k < 2 * get_or r 2 0 → k < 2 * rule_equations_max → get_or r (sides_in + k) 0 ≡ get_or (rule_bytes (entry_of ags r)) (sides_in + k) 0
  side_kept' k h q =
      sym (side_in (entry_of ags r) k q
      ∙ (ap (λ l. get_or l k 0) (sides_of ags r) ∙ tab_at (2 * get_or r 2 0) (λ k. get_or r (sides_in + k) 0) k 0 h))

  pub side-kept : (n p : ℕ) → n ≡ get_or r 2 0 → p < sides_in + 2 * n → p < nodes_in → get_or r p 0 ≡ get_or (rule_bytes (entry_of ags r)) p 0
  side-kept n p e h q = go (leb sides_in p) refl
    where
      go : (t : Bool) → leb sides_in p ≡ t → get_or r p 0 ≡ get_or (rule_bytes (entry_of ags r)) p 0
      go true s =
          let m : sides_in ≤ p = leb-true _ _ s in
          let z : sides_in + (p - sides_in) ≡ p = omega arith in
          rw z at (side_kept' (p - sides_in) (omega arith) (omega arith))
      go false s = head-kept p (leb-false _ _ s)

  -- a cell's number and a place in it
  place : (p : ℕ) → nodes_in ≤ p → p ≡ nodes_in + (node_size * ((p - nodes_in) / node_size) + (p - nodes_in) % node_size)
  place p h = omega (arith, div-add-mod' (p - nodes_in) node_size)

  node_row : (p : ℕ) → nodes_in ≤ p → p < rule_size
      → get_or (rule_bytes (entry_of ags r)) p 0 ≡ get_or (row_of node_size node_bytes (entry_of ags r).cells ((p - nodes_in) / node_size)) ((p - nodes_in) % node_size) 0
  node_row p h q =
      ap (λ i. get_or (rule_bytes (entry_of ags r)) i 0) (place p h)
      ∙ node_in (entry_of ags r) ((p - nodes_in) / node_size) ((p - nodes_in) % node_size)
      (omega (arith, div-add-mod' (p - nodes_in) node_size))
      (mod-lt (p - nodes_in) {m = node_size} (omega arith))

  pub node-past : (n p : ℕ) → n ≡ get_or r 3 0 → nodes_in ≤ p → p < rule_size → n ≤ (p - nodes_in) / node_size → 0 ≡ get_or (rule_bytes (entry_of ags r)) p 0
  unfolding entry_of
  node-past n p e h q k =
      sym (node_row p h q
      ∙ (ap (λ l. get_or l ((p - nodes_in) % node_size) 0)
      (row-past node_size node_bytes (tab (get_or r 3 0) (cell_of ags r)) ((p - nodes_in) / node_size) (omega (arith, length-tab (get_or r 3 0) (cell_of ags r))))
      ∙ get_or-replicate node_size ((p - nodes_in) % node_size) 0 0 (mod-lt (p - nodes_in) {m = node_size} (omega arith))))

  node_here : (n p : ℕ) → n ≡ get_or r 3 0 → nodes_in ≤ p → p < rule_size → (p - nodes_in) / node_size < n
      → get_or (rule_bytes (entry_of ags r)) p 0 ≡ get_or (node_bytes (cell_of ags r ((p - nodes_in) / node_size))) ((p - nodes_in) % node_size) 0
  unfolding entry_of
  node_here n p e h q k =
      node_row p h q
      ∙ ap (λ l. get_or l ((p - nodes_in) % node_size) 0)
      (row_at node_size node_bytes (tab (get_or r 3 0) (cell_of ags r)) ((p - nodes_in) / node_size) (cell_of ags r 0) (omega (arith, length-tab (get_or r 3 0) (cell_of ags r)))
      ∙ ap node_bytes (tab_at (get_or r 3 0) (cell_of ags r) ((p - nodes_in) / node_size) (cell_of ags r 0) (omega arith)))

  pub node-head : (n p x : ℕ) → n ≡ get_or r 3 0 → nodes_in ≤ p → p < rule_size → (p - nodes_in) / node_size < n → (p - nodes_in) % node_size ≡ 0
      → x ≡ suc (pred (get_or r (nodes_in + node_size * ((p - nodes_in) / node_size)) 0)) → x ≡ get_or (rule_bytes (entry_of ags r)) p 0
  unfolding node_bytes cell_of
  node-head n p x e h q k z ex =
      ex ∙ sym (node_here n p e h q k ∙ ap (λ j. get_or (node_bytes (cell_of ags r ((p - nodes_in) / node_size))) j 0) z)

  node_arg : (n p : ℕ) → n ≡ get_or r 3 0 → nodes_in ≤ p → p < rule_size → (p - nodes_in) / node_size < n → ((p - nodes_in) % node_size ≡ 0 → ⊥)
      → get_or (rule_bytes (entry_of ags r)) p 0 ≡ get_or (map code (cell_of ags r ((p - nodes_in) / node_size)).args) ((p - nodes_in) % node_size - 1) 0
  unfolding node_bytes
  node_arg n p e h q k z =
      let i : (p - nodes_in) % node_size ≡ suc ((p - nodes_in) % node_size - 1) = omega (arith, z) in
      node_here n p e h q k
      ∙ (ap (λ j. get_or (node_bytes (cell_of ags r ((p - nodes_in) / node_size))) j 0) i
      ∙ tab_at arity_max (λ j. get_or (map code (cell_of ags r ((p - nodes_in) / node_size)).args) j 0) ((p - nodes_in) % node_size - 1) 0
      (let m : (p - nodes_in) % node_size < node_size = mod-lt (p - nodes_in) {m = node_size} (omega arith) in omega (arith, z)))

  node_over' : (n p a : ℕ) → n ≡ get_or r 3 0 → nodes_in ≤ p → p < rule_size → (p - nodes_in) / node_size < n → ((p - nodes_in) % node_size ≡ 0 → ⊥)
      → a ≡ arity_at ags (symbol_of r ((p - nodes_in) / node_size)) → a < (p - nodes_in) % node_size → 0 ≡ get_or (rule_bytes (entry_of ags r)) p 0
  unfolding cell_of
  node_over' n p a e h q k z ea l =
      let args = tab (arity_at ags (symbol_of r ((p - nodes_in) / node_size))) (λ j. side (get_or r (nodes_in + (node_size * ((p - nodes_in) / node_size) + (1 + j))) 0)) in
      let m : length (map code args) ≡ arity_at ags (symbol_of r ((p - nodes_in) / node_size)) = length-map args code ∙ length-tab (arity_at ags (symbol_of r ((p - nodes_in) / node_size))) (λ j. side (get_or r (nodes_in + (node_size * ((p - nodes_in) / node_size) + (1 + j))) 0)) in
      sym (node_arg n p e h q k z ∙ get_or-eq_default (map code args) 0 {n = (p - nodes_in) % node_size - 1} (omega (arith, m, ea, l)))

  node_kept' : (n p a : ℕ) → n ≡ get_or r 3 0 → nodes_in ≤ p → p < rule_size → (p - nodes_in) / node_size < n → ((p - nodes_in) % node_size ≡ 0 → ⊥)
      → a ≡ arity_at ags (symbol_of r ((p - nodes_in) / node_size)) → (p - nodes_in) % node_size ≤ a → get_or r p 0 ≡ get_or (rule_bytes (entry_of ags r)) p 0
  unfolding cell_of
  node_kept' n p a e h q k z ea l =
      let i : nodes_in + (node_size * ((p - nodes_in) / node_size) + (1 + ((p - nodes_in) % node_size - 1))) ≡ p = omega (arith, z, place p h) in
      let args = tab (arity_at ags (symbol_of r ((p - nodes_in) / node_size))) (λ j. side (get_or r (nodes_in + (node_size * ((p - nodes_in) / node_size) + (1 + j))) 0)) in
      sym (node_arg n p e h q k z
      ∙ (get_or-map code args ((p - nodes_in) % node_size - 1) (name 0)
      ∙ (ap code (tab_at (arity_at ags (symbol_of r ((p - nodes_in) / node_size))) (λ j. side (get_or r (nodes_in + (node_size * ((p - nodes_in) / node_size) + (1 + j))) 0)) ((p - nodes_in) % node_size - 1) (name 0) (omega (arith, z, ea, l)))
      ∙ (code-side (get_or r (nodes_in + (node_size * ((p - nodes_in) / node_size) + (1 + ((p - nodes_in) % node_size - 1)))) 0)
      ∙ ap (λ n. get_or r n 0) i))))

  -- x is the number of the cell's symbol, s the symbol, b its arity as it was read, a the same in another width
  module _ (n p a b s x : ℕ) (e : n ≡ get_or r 3 0) (h : nodes_in ≤ p) (q : p < rule_size) (k : (p - nodes_in) / node_size < n)
      (z : (p - nodes_in) % node_size ≡ 0 → ⊥) (ex : x ≡ symbol_of r ((p - nodes_in) / node_size)) (es : s ≡ x) (eb : b ≡ arity_at ags s) (ea : a ≡ b) where
    arity : a ≡ arity_at ags (symbol_of r ((p - nodes_in) / node_size))
    arity = ea ∙ (eb ∙ ap (arity_at ags) (es ∙ ex))

    pub node_over : a < (p - nodes_in) % node_size → 0 ≡ get_or (rule_bytes (entry_of ags r)) p 0
    node_over l = node_over' n p a e h q k z arity l

    pub node_kept : (p - nodes_in) % node_size ≤ a → get_or r p 0 ≡ get_or (rule_bytes (entry_of ags r)) p 0
    node_kept l = node_kept' n p a e h q k z arity l

-- A list filled place by place.
pub record Filling (t o : List ℕ) (i : ℕ) : Type 0 where
  pub long : length o ≡ rule_size
  pub so_far : (k : ℕ) → k < i → get_or o k 0 ≡ get_or t k 0

pub filling_none : (t : List ℕ) → Filling t (replicate rule_size 0) 0
filling_none t = record { long = length-replicate {A = ℕ} rule_size 0; so_far = below_none _ }

pub filling_more : (t o : List ℕ) (i x : ℕ) → Filling t o i → i < length o → x ≡ get_or t i 0 → Filling t (set o i x) (i + 1)
filling_more t o i x f h e = record {
  long = length-set o i x ∙ f.long;
  so_far = below_more _ i (λ k q. get_or-set_other o i k x 0 (λ z. omega arith) ∙ f.so_far k q) (get_or-set_same o i x 0 h ∙ e);
}

pub filling_done : (ags : List Agent) (r o : List ℕ) (i : ℕ) → Filling (rule_bytes (entry_of ags r)) o i → length o ≤ i → o ≡ rule_bytes (entry_of ags r)
filling_done ags r o i f h = ext_get_or 0 o (rule_bytes (entry_of ags r)) (f.long ∙ sym (length-rule (entry_of ags r))) (λ k q. f.so_far k (omega arith))

-- One agent more: n is the count that was read, v the same in another width, and a the row.
pub put_agent_way : (w a o : List ℕ) (l : List ℕ) (m n v : ℕ) → n ≡ length (agents_in w) → v ≡ n → length (agents_in w) < symbols_max → a ≡ agent_bytes (agent l m)
    → o ≡ sets w (agents_at + agent_size * v) a → (t : Table) → w ≡ bytes_of t → set o 0 (n + 1) ≡ bytes_of (with_agent (agent l m) t)
put_agent_way w a o l m n v en ev hn ea eo t e =
    let k : n ≡ length t.agents = en ∙ (sym (symbols-are w) ∙ (ap (λ v. get_or v 0 0) e ∙ symbols_in t)) in
    ap (λ v. set v 0 (n + 1)) (eo ∙ (ap (λ i. sets w (agents_at + agent_size * i) a) ev ∙ ap₂ (λ v r. sets v (agents_at + agent_size * n) r) e ea))
    ∙ (ap (λ i. set (sets (bytes_of t) (agents_at + agent_size * i) (agent_bytes (agent l m))) 0 (i + 1)) k
    ∙ agent_more t (agent l m) (omega (arith, k, en, hn)))

-- One rule more, store by store.
pub ruled_way : (w r a b c d : List ℕ) (n l m : ℕ) → a ≡ sets w (rules_at + rule_size * n) r
    → b ≡ sets a (pairs_at + 2 * (symbols_max * m + l)) (n ∷ 2 ∷ []) → c ≡ sets b (pairs_at + 2 * (symbols_max * l + m)) (n ∷ 1 ∷ [])
    → d ≡ set (set c count_at ((n + 1) % 256)) (1 + count_at) ((n + 1) / 256) → d ≡ ruled w r n l m
unfolding ruled
ruled_way w r a b c d n l m ea eb ec ed = rw (ed, ec, eb, ea)

-- q is the row as it was given, r the same with zeros where the rule has nothing
pub put_rule_way : (w q r o : List ℕ) (n : ℕ) → n ≡ rules_in w → rules_in w < rules_max → get_or q 0 0 < symbols_max → get_or q 1 0 < symbols_max
    → r ≡ rule_bytes (entry_of (agents_in w) q) → o ≡ ruled w r n (get_or q 0 0) (get_or q 1 0)
    → (t : Table) → w ≡ bytes_of t → FitAgents t.agents → find t.rules 0 (get_or q 0 0) (get_or q 1 0) ≡ none
    → o ≡ bytes_of (with_rule (entry_of t.agents q) t)
unfolding ruled entry_of
put_rule_way w q r o n en h hl hr er eo t e f new =
    let k : n ≡ length t.rules = en ∙ (ap rules_in e ∙ rules_in_lem t) in
    let ags : agents_in w ≡ t.agents = ap agents_in e ∙ agents_back t f in
    let row : r ≡ rule_bytes (entry_of t.agents q) = er ∙ ap (λ a. rule_bytes (entry_of a q)) ags in
    eo
    ∙ (ap₂ (λ v u. ruled v u n (get_or q 0 0) (get_or q 1 0)) e row
    ∙ (ap (λ i. ruled (bytes_of t) (rule_bytes (entry_of t.agents q)) i (get_or q 0 0) (get_or q 1 0)) k
    ∙ rule_more t (entry_of t.agents q) new (omega (arith, k, en, h)) hl hr))

-- q is the row of the rule
pub by_value : (w o q : List ℕ) (rule : Rule) → q ≡ row rule
    → ((t : Table) → w ≡ bytes_of t → FitAgents t.agents → find t.rules 0 (get_or q 0 0) (get_or q 1 0) ≡ none → o ≡ bytes_of (with_rule (entry_of t.agents q) t))
    → (t : Table) → w ≡ bytes_of t → FitAgents t.agents → find t.rules 0 rule.left rule.right ≡ none → o ≡ bytes_of (with_rule (stands t.agents rule) t)
unfolding stands
by_value w o q rule e f t et ft new =
    f t et ft (ap (λ l. find t.rules 0 (get_or l 0 0) (get_or l 1 0)) e ∙ new) ∙ ap (λ l. bytes_of (with_rule (entry_of t.agents l) t)) e

pub value_room : (w q : List ℕ) (rule : Rule) → q ≡ row rule → length (agents_in w) ≤ symbols_max → rules_in w < rules_max
    → rule.left < symbols_max → rule.right < symbols_max
    → (length (agents_in w) ≤ symbols_max) × (rules_in w < rules_max) × (get_or q 0 0 < symbols_max) × (get_or q 1 0 < symbols_max)
value_room w q rule e a n hl hr = (a, n, omega (arith, ap (λ v. get_or v 0 0) e, hl), omega (arith, ap (λ v. get_or v 1 0) e, hr))
