-- A run of bytes stored in a table: what it does to blocks, and when the bytes are those of the table with one agent or one rule more.
use Rattle.std.specs.Prelude.{ℕ, suc, ◌+◌, ◌*◌, ◌/◌, ◌%◌, ◌<◌, ◌≤◌, ◌≡◌, refl, List, [], ◌∷◌, ◌++◌, length, set, drop}
use Rattle.std.proofs.Common.{sym, ap, ap₂, ◌∙◌, arith, mul-suc, length-append, drop_of_length-le}
use Rattle.std.proofs.Math.Seq.{sets, sets-eq, set-append_left, length-sets}
use Rattle.parts.specs.Limits.{symbols_max, rules_max, agent_size, rule_size}
use Rattle.model.specs.Table.{Entry, none, find}
use Rattle.model.specs.Decisions.{both}
use Rattle.texts.specs.Books.{Agent}
use Rattle.texts.specs.Coded.{Table}
use Rattle.table.specs.Lists.{blocks, row_of}
use Rattle.table.specs.Layout.{agents_at, pairs_at, rules_at, agent_bytes, rule_bytes, found_bytes, pair_bytes, bytes_of}
use Rattle.table.specs.Put.{with_agent, with_rule}
use Rattle.table.specs.Laws.Lists.{length-row, row_new, row_old, length-blocks}
use Rattle.table.specs.Laws.Rows.{length-agent, length-rule}
use Rattle.putting.proofs.Finding.{Last, find_more}
use Rattle.table.specs.Laws.Whole.{count_part, agent_part, rule_part, length-agents, length_pairs, length_found}

-- A run of stores in a list that is laid before or behind another.
pub sets_cons : (x : ℕ) (l : List ℕ) (i : ℕ) (vs : List ℕ) → sets (x ∷ l) (suc i) vs ≡ x ∷ sets l i vs
sets_cons x l i [] = refl
sets_cons x l i (v ∷ vs) = sets_cons x (set l i v) (suc i) vs

pub sets_right : (xs ys : List ℕ) (i : ℕ) (vs : List ℕ) → sets (xs ++ ys) (length xs + i) vs ≡ xs ++ sets ys i vs
sets_right [] ys i vs = let z : 0 + i ≡ i = omega arith in rw z
sets_right (x ∷ xs) ys i vs =
    let z : suc (length xs) + i ≡ suc (length xs + i) = omega arith in
    rw z (sets_cons x (xs ++ ys) (length xs + i) vs ∙ ap (λ l. x ∷ l) (sets_right xs ys i vs))

pub sets_left : (xs ys : List ℕ) (i : ℕ) (vs : List ℕ) → i + length vs ≤ length xs → sets (xs ++ ys) i vs ≡ sets xs i vs ++ ys
sets_left xs ys i [] h = refl
sets_left xs ys i (v ∷ vs) h =
    ap (λ l. sets l (suc i) vs) (set-append_left xs ys i v (omega arith))
    ∙ sets_left (set xs i v) ys (suc i) vs (omega (arith, length-sets xs i (v ∷ [])))

-- a whole list stored over another of its length
pub sets_whole : (l vs : List ℕ) → length l ≡ length vs → sets l 0 vs ≡ vs
sets_whole l vs e = sets-eq vs l 0 (omega arith) ∙ whole
  where
    whole : vs ++ drop (0 + length vs) l ≡ vs
    whole = let z : length l ≤ 0 + length vs = omega arith in rw (drop_of_length-le l z) (nil vs)
      where
        nil : (l : List ℕ) → l ++ [] ≡ l
        nil [] = refl
        nil (x ∷ l) = ap (λ k. x ∷ k) (nil l)

pub blocks_cong : (n : ℕ) (f g : ℕ → List ℕ) → ((k : ℕ) → f k ≡ g k) → blocks n f ≡ blocks n g
unfolding blocks
blocks_cong ℕ.zero f g e = refl
blocks_cong (ℕ.suc n) f g e = ap₂ ◌++◌ (e 0) (blocks_cong n (λ k. f (suc k)) (λ k. g (suc k)) (λ k. e (suc k)))

-- One block changed.
pub blocks_change : (w n : ℕ) (f g : ℕ → List ℕ) → ((k : ℕ) → length (f k) ≡ w) → (k j : ℕ) (vs : List ℕ) → k < n → j + length vs ≤ w
    → sets (f k) j vs ≡ g k → ((m : ℕ) → (m ≡ k → ⊥) → f m ≡ g m) → sets (blocks n f) (w * k + j) vs ≡ blocks n g
unfolding blocks
blocks_change w ℕ.zero f g h k j vs q p e o = absurd (omega arith)
blocks_change w (ℕ.suc n) f g h ℕ.zero j vs q p e o =
    let z : w * 0 + j ≡ j = omega arith in
    rw z
    (sets_left (f 0) (blocks n (λ k. f (suc k))) j vs (omega (arith, h 0))
    ∙ ap₂ ◌++◌ e (blocks_cong n (λ k. f (suc k)) (λ k. g (suc k)) (λ k. o (suc k) (λ e. omega arith))))
blocks_change w (ℕ.suc n) f g h (ℕ.suc k) j vs q p e o =
    let z : w * suc k + j ≡ length (f 0) + (w * k + j) = omega (arith, mul-suc w k, h 0) in
    rw z
    (sets_right (f 0) (blocks n (λ k. f (suc k))) (w * k + j) vs
    ∙ ap₂ ◌++◌ (o 0 (λ e. omega arith))
    (blocks_change w n (λ k. f (suc k)) (λ k. g (suc k)) (λ k. h (suc k)) k j vs (omega arith) p e (λ m d. o (suc m) (λ c. d (omega (arith, c))))))

-- A run of bytes in each part of a table.
module _ (cs ag ps rs : List ℕ) (hc : length cs ≡ 3) (ha : length ag ≡ agent_size * symbols_max) (hp : length ps ≡ 2 * symbols_max * symbols_max) where
  in_agents : (i : ℕ) (vs : List ℕ) → i + length vs ≤ agent_size * symbols_max
      → sets (cs ++ (ag ++ (ps ++ rs))) (agents_at + i) vs ≡ cs ++ (sets ag i vs ++ (ps ++ rs))
  in_agents i vs h =
      ap (λ n. sets (cs ++ (ag ++ (ps ++ rs))) (n + i) vs) (sym hc)
      ∙ (sets_right cs (ag ++ (ps ++ rs)) i vs ∙ ap (λ l. cs ++ l) (sets_left ag (ps ++ rs) i vs (omega arith)))

  in_pairs : (i : ℕ) (vs : List ℕ) → i + length vs ≤ 2 * symbols_max * symbols_max
      → sets (cs ++ (ag ++ (ps ++ rs))) (pairs_at + i) vs ≡ cs ++ (ag ++ (sets ps i vs ++ rs))
  in_pairs i vs h =
      let z : pairs_at + i ≡ length cs + (length ag + i) = omega arith in
      ap (λ n. sets (cs ++ (ag ++ (ps ++ rs))) n vs) z
      ∙ (sets_right cs (ag ++ (ps ++ rs)) (length ag + i) vs
      ∙ ap (λ l. cs ++ l) (sets_right ag (ps ++ rs) i vs ∙ ap (λ l. ag ++ l) (sets_left ps rs i vs (omega arith))))

  in_rules : (i : ℕ) (vs : List ℕ) → sets (cs ++ (ag ++ (ps ++ rs))) (rules_at + i) vs ≡ cs ++ (ag ++ (ps ++ sets rs i vs))
  in_rules i vs =
      let z : rules_at + i ≡ length cs + (length ag + (length ps + i)) = omega arith in
      ap (λ n. sets (cs ++ (ag ++ (ps ++ rs))) n vs) z
      ∙ (sets_right cs (ag ++ (ps ++ rs)) (length ag + (length ps + i)) vs
      ∙ ap (λ l. cs ++ l) (sets_right ag (ps ++ rs) (length ps + i) vs ∙ ap (λ l. ag ++ l) (sets_right ps rs i vs)))

-- A row put behind the last.
row_put : {A : Type 0} (w n : ℕ) (f : A → List ℕ) (h : (x : A) → length (f x) ≡ w) (xs : List A) (x : A) → length xs < n
    → sets (blocks n (row_of w f xs)) (w * length xs) (f x) ≡ blocks n (row_of w f (xs ++ (x ∷ [])))
row_put w n f h xs x q =
    let z : w * length xs ≡ w * length xs + 0 = omega arith in
    rw z
    (blocks_change w n (row_of w f xs) (row_of w f (xs ++ (x ∷ []))) (λ k. length-row w f xs k h) (length xs) 0 (f x) q (omega (arith, h x))
    (sets_whole (row_of w f xs (length xs)) (f x) (length-row w f xs (length xs) h ∙ sym (h x)) ∙ sym (row_new w f xs x))
    (λ m d. sym (row_old w f xs x m d)))

-- One agent more.
pub agent_more : (t : Table) (a : Agent) → length t.agents < symbols_max
    → set (sets (bytes_of t) (agents_at + agent_size * length t.agents) (agent_bytes a)) 0 (length t.agents + 1) ≡ bytes_of (with_agent a t)
unfolding bytes_of
agent_more t a h =
    let n : length (t.agents ++ (a ∷ [])) ≡ length t.agents + 1 = omega (arith, length-append t.agents (a ∷ [])) in
    ap (λ l. set l 0 (length t.agents + 1))
    (in_agents (count_part t) (agent_part t) (pair_bytes t.rules) (rule_part t) refl (length-agents t) (length_pairs t.rules) (agent_size * length t.agents) (agent_bytes a)
    (omega (arith, length-agent a))
    ∙ ap (λ l. count_part t ++ (l ++ (pair_bytes t.rules ++ rule_part t))) (row_put agent_size symbols_max agent_bytes length-agent t.agents a h))
    ∙ ap (λ k. (k ∷ length t.rules % 256 ∷ length t.rules / 256 ∷ []) ++ (agent_part (with_agent a t) ++ (pair_bytes t.rules ++ rule_part t))) (sym n)

-- The index of pairs, with one place changed.
abbrev Grid : (ℕ → ℕ → List ℕ) → List ℕ
Grid F = blocks symbols_max (λ a. blocks symbols_max (λ b. F a b))

abbrev Putting : (F : ℕ → ℕ → List ℕ) (a b : ℕ) (vs : List ℕ) (x y : ℕ) → Dec ((x ≡ a) × (y ≡ b)) → List ℕ
Putting F a b vs x y d = elim d [ yes p ↦ vs | no p ↦ F x y ]

abbrev put : (ℕ → ℕ → List ℕ) → ℕ → ℕ → List ℕ → ℕ → ℕ → List ℕ
put F a b vs x y = Putting F a b vs x y (both x y a b)

put_here : (F : ℕ → ℕ → List ℕ) (a b : ℕ) (vs : List ℕ) → put F a b vs a b ≡ vs
put_here F a b vs = go (both a b a b)
  where
    go : (d : Dec ((a ≡ a) × (b ≡ b))) → Putting F a b vs a b d ≡ vs
    go (yes p) = refl
    go (no p) = absurd (p (refl, refl))

put_there : (F : ℕ → ℕ → List ℕ) (a b : ℕ) (vs : List ℕ) (x y : ℕ) → ((x ≡ a) × (y ≡ b) → ⊥) → F x y ≡ put F a b vs x y
put_there F a b vs x y h = go (both x y a b)
  where
    go : (d : Dec ((x ≡ a) × (y ≡ b))) → F x y ≡ Putting F a b vs x y d
    go (yes p) = absurd (h p)
    go (no p) = refl

put_length : (F : ℕ → ℕ → List ℕ) → ((x y : ℕ) → length (F x y) ≡ 2) → (a b : ℕ) (vs : List ℕ) → length vs ≡ 2 → (x y : ℕ) → length (put F a b vs x y) ≡ 2
put_length F h a b vs q x y = go (both x y a b)
  where
    go : (d : Dec ((x ≡ a) × (y ≡ b))) → length (Putting F a b vs x y d) ≡ 2
    go (yes p) = q
    go (no p) = h x y

grid_put : (F : ℕ → ℕ → List ℕ) → ((x y : ℕ) → length (F x y) ≡ 2) → (a b : ℕ) (vs : List ℕ) → length vs ≡ 2 → a < symbols_max → b < symbols_max
    → sets (Grid F) (2 * (symbols_max * a + b)) vs ≡ Grid (put F a b vs)
grid_put F h a b vs q ha hb =
    let z : 2 * (symbols_max * a + b) ≡ 2 * symbols_max * a + 2 * b = omega arith in
    let y : 2 * b ≡ 2 * b + 0 = omega arith in
    ap (λ n. sets (Grid F) n vs) z
    ∙ blocks_change (2 * symbols_max) symbols_max (λ x. blocks symbols_max (λ y. F x y)) (λ x. blocks symbols_max (λ y. put F a b vs x y))
    (λ x. length-blocks 2 symbols_max (F x) (h x)) a (2 * b) vs ha (omega arith)
    (ap (λ n. sets (blocks symbols_max (F a)) n vs) y
    ∙ blocks_change 2 symbols_max (F a) (λ y. put F a b vs a y) (h a) b 0 vs hb (omega arith)
    (sets_whole (F a b) vs (h a b ∙ sym q) ∙ sym (put_here F a b vs))
    (λ y d. put_there F a b vs a y (λ p. d p.1)))
    (λ x d. blocks_cong symbols_max (F x) (λ y. put F a b vs x y) (λ y. put_there F a b vs x y (λ p. d p.0)))

module _ (rs : List Entry) (e : Entry) (new : find rs 0 e.left e.right ≡ none) where
  found : ℕ → ℕ → List ℕ
  found a b = found_bytes (find rs 0 a b)

  turned_first : List ℕ
  turned_first = length rs ∷ 2 ∷ []

  straight_then : List ℕ
  straight_then = length rs ∷ 1 ∷ []

  pairs-are : (x y : ℕ) → put (put found e.right e.left turned_first) e.left e.right straight_then x y ≡ found_bytes (find (rs ++ (e ∷ [])) 0 x y)
  unfolding found turned_first straight_then
  pairs-are x y = go (both x y e.left e.right) (both x y e.right e.left) ∙ ap found_bytes (sym (find_more rs e new x y))
    where
      go : (d : Dec ((x ≡ e.left) × (y ≡ e.right))) (f : Dec ((x ≡ e.right) × (y ≡ e.left)))
          → ◌≡◌ {A = List ℕ} (elim d [ yes p ↦ straight_then | no p ↦ elim f [ yes q ↦ turned_first | no q ↦ found x y ] ]) (found_bytes (Last rs e new x y d f))
      go (yes p) f = refl
      go (no p) (yes q) = refl
      go (no p) (no q) = refl

  pub pairs_more : e.left < symbols_max → e.right < symbols_max
      → sets (sets (pair_bytes rs) (2 * (symbols_max * e.right + e.left)) (length rs ∷ 2 ∷ [])) (2 * (symbols_max * e.left + e.right)) (length rs ∷ 1 ∷ [])
      ≡ pair_bytes (rs ++ (e ∷ []))
  unfolding pair_bytes found turned_first straight_then
  pairs_more hl hr =
      ap (λ l. sets l (2 * (symbols_max * e.left + e.right)) (length rs ∷ 1 ∷ [])) (grid_put found (λ x y. length_found (find rs 0 x y)) e.right e.left turned_first refl hr hl)
      ∙ (grid_put (put found e.right e.left turned_first) (put_length found (λ x y. length_found (find rs 0 x y)) e.right e.left turned_first refl) e.left e.right straight_then refl hl hr
      ∙ blocks_cong symbols_max _ _ (λ x. blocks_cong symbols_max _ _ (λ y. pairs-are x y)))

-- One rule more, whose pair had none.
pub rule_more : (t : Table) (e : Entry) → find t.rules 0 e.left e.right ≡ none → length t.rules < rules_max → e.left < symbols_max → e.right < symbols_max
    → set (set (sets (sets (sets (bytes_of t) (rules_at + rule_size * length t.rules) (rule_bytes e))
    (pairs_at + 2 * (symbols_max * e.right + e.left)) (length t.rules ∷ 2 ∷ [])) (pairs_at + 2 * (symbols_max * e.left + e.right)) (length t.rules ∷ 1 ∷ []))
    1 ((length t.rules + 1) % 256)) 2 ((length t.rules + 1) / 256)
    ≡ bytes_of (with_rule e t)
unfolding bytes_of
rule_more t e new h hl hr =
    let n : length (t.rules ++ (e ∷ [])) ≡ length t.rules + 1 = omega (arith, length-append t.rules (e ∷ [])) in
    ap (λ l. set (set l 1 ((length t.rules + 1) % 256)) 2 ((length t.rules + 1) / 256))
    (ap (λ l. sets (sets l (pairs_at + 2 * (symbols_max * e.right + e.left)) (length t.rules ∷ 2 ∷ [])) (pairs_at + 2 * (symbols_max * e.left + e.right)) (length t.rules ∷ 1 ∷ []))
    (in_rules (count_part t) (agent_part t) (pair_bytes t.rules) (rule_part t) refl (length-agents t) (length_pairs t.rules) (rule_size * length t.rules) (rule_bytes e)
    ∙ ap (λ l. count_part t ++ (agent_part t ++ (pair_bytes t.rules ++ l))) (row_put rule_size rules_max rule_bytes length-rule t.rules e h))
    ∙ (ap (λ l. sets l (pairs_at + 2 * (symbols_max * e.left + e.right)) (length t.rules ∷ 1 ∷ []))
    (in_pairs (count_part t) (agent_part t) (pair_bytes t.rules) (rule_part (with_rule e t)) refl (length-agents t) (length_pairs t.rules) (2 * (symbols_max * e.right + e.left)) (length t.rules ∷ 2 ∷ []) (omega arith))
    ∙ (in_pairs (count_part t) (agent_part t) (sets (pair_bytes t.rules) (2 * (symbols_max * e.right + e.left)) (length t.rules ∷ 2 ∷ [])) (rule_part (with_rule e t)) refl (length-agents t)
    (length-sets (pair_bytes t.rules) (2 * (symbols_max * e.right + e.left)) (length t.rules ∷ 2 ∷ []) ∙ length_pairs t.rules)
    (2 * (symbols_max * e.left + e.right)) (length t.rules ∷ 1 ∷ []) (omega arith)
    ∙ ap (λ l. count_part t ++ (agent_part t ++ (l ++ rule_part (with_rule e t)))) (pairs_more t.rules e new hl hr))))
    ∙ ap (λ k. (length t.agents ∷ k % 256 ∷ k / 256 ∷ []) ++ (agent_part t ++ (pair_bytes (t.rules ++ (e ∷ [])) ++ rule_part (with_rule e t)))) (sym n)
