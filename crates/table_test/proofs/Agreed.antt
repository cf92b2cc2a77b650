-- What the test of the agents finds.
use Rattle.std.specs.Prelude.{ℕ, suc, ◌+◌, ◌*◌, ◌-◌, ◌<◌, ◌≤◌, ◌≡◌, pred, Bool, true, false, not, cond, ◌&&◌, List, [], ◌∷◌, ◌++◌, length, get_or, take, drop, eqb, ltb, leb, Option, Some, None, position, refl}
use Rattle.std.proofs.Common.{sym, ap, ap₂, ◌∙◌, arith, add-one, append_assoc, ne_eqb, ltb-false, leb-true, le-leb, append-nil}
use Rattle.std.specs.Option.{unwrap_or}
use Rattle.std.specs.List.{position_or_len, list_any, list_all, range_with_len}
use Rattle.std.proofs.Math.ListN.{length-take}
use Rattle.std.proofs.Math.Seq.{take-take, length-take-le}
use Rattle.std.proofs.lemmas.List.Recursion.{is_position_or_len}
use Rattle.parts.specs.Limits.{identifier_max, symbols_max, arity_max, agent_size}
use Rattle.parts.specs.Segments.{seg}
use Rattle.texts.specs.Bytes.{same}
use Rattle.texts.specs.Terms.{symbol}
use Rattle.texts.specs.Books.{Agent, declared}
use Rattle.texts.specs.Coded.{Table}
use Rattle.texts.specs.TableTest.{agent_ok, test_agents}
use Rattle.texts.proofs.Beneath.Tools.{both}
use Rattle.table.specs.Lists.{tab, each}
use Rattle.table.specs.Layout.{agents_at, agent_row, word, agent_of, agent_at, agents_in, bytes_of}
use Rattle.table.specs.Put.{no_table, only_agents, agent, with_agent}
use Rattle.table.specs.Laws.Lists.{tab-snoc, length-tab}
use Rattle.table.specs.Laws.Whole.{symbols-are, symbols_in}
use Rattle.table.specs.Laws.Passing.{and_true, and_assoc, each_at, all_each}
use Rattle.table.specs.Laws.Chains.{all_range, any_range}

-- Letters up to the first 0.
word-length : (l : List ℕ) → length (word l) ≡ position_or_len (λ b. eqb b 0) l
unfolding word
word-length l = is_position_or_len (λ k. length (word k)) (λ b. eqb b 0) refl step l
  where
    step : (b : ℕ) (bs : List ℕ) → length (word (b ∷ bs)) ≡ cond (eqb b 0) 0 (1 + length (word bs))
    step ℕ.zero bs = refl
    step (ℕ.suc b) bs = rw (ne_eqb (suc b) 0 (λ e. omega arith)) (omega arith)

pub word-short : (l : List ℕ) → length (word l) ≤ length l
unfolding word
word-short [] = omega arith
word-short (ℕ.zero ∷ l) = omega arith
word-short (ℕ.suc b ∷ l) = let h = word-short l in omega (arith, h)

word-take : (l : List ℕ) → take (length (word l)) l ≡ word l
unfolding word
word-take [] = refl
word-take (ℕ.zero ∷ l) = refl
word-take (ℕ.suc b ∷ l) = ap (λ k. suc b ∷ k) (word-take l)

found_or : (k n : ℕ) → k ≤ n → (b : Bool) → ltb k n ≡ b → unwrap_or (cond b (Some k) None) n ≡ k
found_or k n h true e = refl
found_or k n h false e = omega (arith, ltb-false k n e)

-- o is the place of the first 0
pub first_zero : (l : List ℕ) {o : Option ℕ} → o ≡ position (λ b. eqb b 0) l → {n : ℕ} → n ≡ unwrap_or o (length l) → n ≡ length (word l)
first_zero l eo en =
    let k = position_or_len (λ b. eqb b 0) l in
    let small : k ≤ length l = omega (arith, word-short l, word-length l) in
    en ∙ (ap (λ x. unwrap_or x (length l)) eo ∙ (found_or k (length l) small (ltb k (length l)) refl ∙ sym (word-length l)))

-- the letters of symbol s, cut out twice
pub letters_way : (w p : List ℕ) (s n : ℕ)
    → p ≡ take (agents_at + agent_size * s + identifier_max - (agents_at + agent_size * s)) (drop (agents_at + agent_size * s) w)
    → n ≡ length (word p) → take n p ≡ (agent_at w s).symbol
unfolding agent_at agent_of seg
letters_way w p s n ep en =
    let y : agents_at + agent_size * s + identifier_max - (agents_at + agent_size * s) ≡ identifier_max = omega arith in
    ap (λ i. take i p) en ∙ (word-take p ∙ ap word (ep ∙ (ap (λ i. take i (drop (agents_at + agent_size * s) w)) y
    ∙ sym (take-take identifier_max agent_size (drop (agents_at + agent_size * s) w) (omega arith)))))

pub letters-fit : (p : List ℕ) (n : ℕ) → n ≡ length (word p) → n ≡ length (take n p)
letters-fit p n e = sym (length-take-le n p (omega (arith, e, word-short p)))

pub arity_way : (w : List ℕ) (s b r : ℕ) → b ≡ get_or (agent_row w s) identifier_max 0 → r ≡ pred b → r ≡ (agent_at w s).arity
unfolding agent_at agent_of
arity_way w s b r eb er = er ∙ ap pred eb

short : (w : List ℕ) (s : ℕ) → length (agent_at w s).symbol ≤ identifier_max
unfolding agent_at agent_of
short w s = omega (arith, word-short (take identifier_max (agent_row w s)), length-take identifier_max (agent_row w s))

pub agent-test : (w : List ℕ) (s : ℕ) (v : List ℕ) → v ≡ (agent_at w s).symbol → agent_ok (agent_at w s) ≡ (symbol v && leb (agent_at w s).arity arity_max)
unfolding agent_ok
agent-test w s v e =
    let l : leb (length (agent_at w s).symbol) identifier_max ≡ true = le-leb _ _ (short w s) in
    ap (λ t. (symbol (agent_at w s).symbol && t) && leb (agent_at w s).arity arity_max) l
    ∙ ap (λ t. t && leb (agent_at w s).arity arity_max) (and_true (symbol (agent_at w s).symbol) ∙ ap symbol (sym e))

-- No symbol before is spelt so.
pub other-range : (w : List ℕ) (s : ℕ) (t : Bool) → t ≡ list_any (λ j. same (agent_at w s).symbol (agent_at w j).symbol) (range_with_len 0 s)
    → not t ≡ not (declared (tab s (agent_at w)) (agent_at w s).symbol)
unfolding declared
other-range w s t h = ap not (any_range (λ a. same (agent_at w s).symbol a.symbol) s s (agent_at w) t refl h)

-- Each agent after those before it: the test at each number.
abbrev pub Agreed : List ℕ → ℕ → Bool
Agreed w k = agent_ok (agent_at w k) && not (declared (tab k (agent_at w)) (agent_at w k).symbol)

test_snoc : (seen bs : List Agent) (a : Agent) → test_agents seen (bs ++ (a ∷ [])) ≡ (test_agents seen bs && (agent_ok a && not (declared (seen ++ bs) a.symbol)))
unfolding test_agents
test_snoc seen [] a = rw (append-nil seen) (and_true (agent_ok a && not (declared seen a.symbol)))
test_snoc seen (b ∷ bs) a =
    ap (λ t. agent_ok b && not (declared seen b.symbol) && t) (test_snoc (seen ++ (b ∷ [])) bs a ∙ rw (append_assoc seen (b ∷ []) bs))
    ∙ sym (and_assoc (agent_ok b && not (declared seen b.symbol)) (test_agents (seen ++ (b ∷ [])) bs) (agent_ok a && not (declared (seen ++ (b ∷ bs)) a.symbol)))

agents-each : (w : List ℕ) (n : ℕ) → test_agents [] (tab n (agent_at w)) ≡ each n (Agreed w)
unfolding test_agents tab each
agents-each w ℕ.zero = refl
agents-each w (ℕ.suc n) =
    ap (test_agents []) (tab-snoc n (agent_at w)) ∙ (test_snoc [] (tab n (agent_at w)) (agent_at w n) ∙ ap (λ t. t && Agreed w n) (agents-each w n))

are : (w : List ℕ) → agents_in w ≡ tab (length (agents_in w)) (agent_at w)
unfolding agents_in agent_at
are w = ap (λ n. tab n (λ k. agent_of (agent_row w k))) (sym (length-tab (get_or w 0 0) (λ k. agent_of (agent_row w k))))

pub agents-are : (w : List ℕ) → test_agents [] (agents_in w) ≡ each (length (agents_in w)) (Agreed w)
agents-are w = ap (test_agents []) (are w) ∙ agents-each w (length (agents_in w))

-- n is the count as it was read
pub agents-range : (w : List ℕ) (n : ℕ) (t : Bool) → n ≡ length (agents_in w) → t ≡ list_all (Agreed w) (range_with_len 0 n) → t ≡ test_agents [] (agents_in w)
agents-range w n t e h =
    all_range (Agreed w) n (length (agents_in w)) (λ k. k) t e h ∙ (all_each (Agreed w) (length (agents_in w)) (λ k. k) ∙ sym (agents-are w))

-- The agents written once more.
pub record Copied (w o : List ℕ) (s : ℕ) : Type 0 where
  pub within : s ≤ length (agents_in w)
  pub made : o ≡ bytes_of (only_agents (tab s (agent_at w)))

pub copied_none : (w o : List ℕ) → o ≡ bytes_of no_table → Copied w o 0
unfolding tab
copied_none w o e = record { within = omega arith; made = e }

pub copied-long : (w o : List ℕ) (s : ℕ) → Copied w o s → length (agents_in o) ≡ s
copied-long w o s c =
    sym (symbols-are o) ∙ (ap (λ v. get_or v 0 0) c.made ∙ (symbols_in (only_agents (tab s (agent_at w))) ∙ length-tab s (agent_at w)))

pub copied-room : (w o v : List ℕ) (s n m a : ℕ) → m ≡ length (agents_in w) → n ≡ m → length (agents_in w) ≤ symbols_max → test_agents [] (agents_in w) ≡ true
    → Copied w o s → s < n → v ≡ (agent_at w s).symbol → a ≡ (agent_at w s).arity
    → (length (agents_in o) < symbols_max) × (length v ≤ identifier_max) × (a < 255)
unfolding agent_ok
copied-room w o v s n m a em en h t c q ev ea =
    let g : Agreed w s ≡ true = each_at (Agreed w) (length (agents_in w)) s (sym (agents-are w) ∙ t) (omega arith) in
    let k = both (symbol (agent_at w s).symbol && leb (length (agent_at w s).symbol) identifier_max) (leb (agent_at w s).arity arity_max)
    (both (agent_ok (agent_at w s)) (not (declared (tab s (agent_at w)) (agent_at w s).symbol)) g).0 in
    (omega (arith, copied-long w o s c), omega (arith, ap length ev, short w s), omega (arith, ea, leb-true (agent_at w s).arity arity_max k.1))

pub copied_more : (w o v p : List ℕ) (s n m a : ℕ) → m ≡ length (agents_in w) → n ≡ m → Copied w o s → s < n → v ≡ (agent_at w s).symbol → a ≡ (agent_at w s).arity
    → ((t : Table) → o ≡ bytes_of t → p ≡ bytes_of (with_agent (agent v a) t)) → Copied w p (s + 1)
copied_more w o v p s n m a em en c h ev ea f = record {
  within = omega arith;
  made = f (only_agents (tab s (agent_at w))) c.made
      ∙ ap (λ l. bytes_of (only_agents l))
      (ap₂ (λ x y. tab s (agent_at w) ++ (agent x y ∷ [])) ev ea ∙ (sym (tab-snoc s (agent_at w)) ∙ ap (λ i. tab i (agent_at w)) (sym (add-one s))));
}

pub copied_end : (w o : List ℕ) (s n m : ℕ) → m ≡ length (agents_in w) → n ≡ m → Copied w o s → n ≤ s → o ≡ bytes_of (only_agents (agents_in w))
copied_end w o s n m em en c h =
    c.made ∙ ap (λ l. bytes_of (only_agents l)) (ap (λ i. tab i (agent_at w)) (let z : s ≡ length (agents_in w) = omega (arith, c.within) in z) ∙ sym (are w))
