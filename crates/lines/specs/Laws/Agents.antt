-- The agents' rows of a table's bytes stand for its agents.
use Rattle.std.specs.Prelude.{ℕ, zero, suc, ◌+◌, ◌-◌, ◌*◌, ◌≤◌, ◌≡◌, refl, true, not, ◌&&◌, List, [], ◌∷◌, ◌++◌, eqb, leb, length, take, drop, replicate}
use Rattle.std.proofs.Common.{ap, ◌∙◌, append_assoc, arith, take_at, leb-true, ne_eqb}
use Rattle.std.proofs.lemmas.List.{replicate-append-replicate}
use Rattle.parts.specs.Limits.{identifier_max, symbols_max, arity_max, agent_size}
use Rattle.texts.specs.Bytes.{Word, all, letter, digit, word_byte}
use Rattle.texts.specs.Terms.{symbol}
use Rattle.texts.specs.Books.{Agent}
use Rattle.texts.specs.Coded.{Table}
use Rattle.texts.specs.TableTest.{agent_ok}
use Rattle.texts.proofs.Beneath.Tools.{both, pair, all_mono, never}
use Rattle.table.specs.Lists.{tab, blocks, filled}
use Rattle.table.specs.Lists as Lists
use Rattle.table.specs.Layout.{agents_at, agent_bytes, pair_bytes, bytes_of}
use Rattle.table.specs.Laws.Whole.{FitAgents, agent_part, rule_part, length-agents}
use Rattle.terms.specs.Agents.{agents_of, row_of, rows_of, lettered}
use Rattle.terms.proofs.Main.{listed}

-- a symbol has no byte 0
not_zero : (b : ℕ) → word_byte b ≡ true → not (eqb b 0) ≡ true
unfolding word_byte letter digit
not_zero zero h = never h
not_zero (suc b) h = rw (ne_eqb (suc b) 0 (λ e. omega arith))

first_byte : (b : ℕ) → letter b ≡ true → word_byte b ≡ true
unfolding word_byte
first_byte b h = rw h

no_zeros : (w : Word) → symbol w ≡ true → all (λ b. not (eqb b 0)) w ≡ true
unfolding symbol all
no_zeros [] h = refl
no_zeros (b ∷ bs) h =
    let p = both (letter b) (all word_byte bs) h in
    pair (not (eqb b 0)) (all (λ b. not (eqb b 0)) bs) (not_zero b (first_byte b p.0))
    (all_mono word_byte (λ b. not (eqb b 0)) not_zero bs p.1)

ok_lettered : (a : Agent) → agent_ok a ≡ true → lettered a ≡ true
unfolding agent_ok lettered
ok_lettered a h =
    let p = both (symbol a.symbol && leb (length a.symbol) identifier_max) (leb a.arity arity_max) h in
    let q = both (symbol a.symbol) (leb (length a.symbol) identifier_max) p.0 in
    pair (leb (length a.symbol) identifier_max) (all (λ b. not (eqb b 0)) a.symbol) q.1 (no_zeros a.symbol q.0)

-- a row is the same in both layouts
zeros-filled : (n : ℕ) → filled n [] ≡ replicate n 0
unfolding tab
zeros-filled zero = refl
zeros-filled (suc n) = ap (λ (l : List ℕ). 0 ∷ l) (zeros-filled n)

word-filled : (w : Word) (n : ℕ) → length w ≤ n → filled n w ≡ w ++ replicate (n - length w) 0
unfolding tab
word-filled [] n h = let z : n - 0 ≡ n = omega arith in rw z (zeros-filled n)
word-filled (b ∷ w) zero h = absurd (omega arith)
word-filled (b ∷ w) (suc n) h =
    let z : suc n - suc (length w) ≡ n - length w = omega arith in
    rw z (ap (λ (l : List ℕ). b ∷ l) (word-filled w n (omega arith)))

same_row : (a : Agent) → lettered a ≡ true → agent_bytes a ≡ row_of a
unfolding agent_bytes row_of lettered
same_row a h =
    let p = both (leb (length a.symbol) identifier_max) (all (λ b. not (eqb b 0)) a.symbol) h in
    let z : suc a.arity ≡ a.arity + 1 = omega arith in
    rw (z, word-filled a.symbol identifier_max (leb-true _ _ p.0))

zero_rows : (n : ℕ) → blocks n (Lists.row_of agent_size agent_bytes []) ≡ replicate (agent_size * n) 0
unfolding blocks Lists.row_of
zero_rows zero = refl
zero_rows (suc n) =
    let z : agent_size * suc n ≡ agent_size + agent_size * n = omega arith in
    rw (z, ← replicate-append-replicate {A = ℕ} agent_size (agent_size * n) 0)
    (ap (λ (l : List ℕ). replicate agent_size 0 ++ l) (zero_rows n))

rows_laid : (ags : List Agent) (n : ℕ) → length ags ≤ n → all lettered ags ≡ true
    → blocks n (Lists.row_of agent_size agent_bytes ags) ≡ rows_of ags ++ replicate (agent_size * (n - length ags)) 0
unfolding rows_of all blocks Lists.row_of
rows_laid [] n h ok = let z : n - 0 ≡ n = omega arith in rw z (zero_rows n)
rows_laid (a ∷ ags) zero h ok = absurd (omega arith)
rows_laid (a ∷ ags) (suc n) h ok =
    let p = both (lettered a) (all lettered ags) ok in
    let z : suc n - suc (length ags) ≡ n - length ags = omega arith in
    rw (z, append_assoc, same_row a p.0) (ap (λ (l : List ℕ). row_of a ++ l) (rows_laid ags n (omega arith) p.1))

pub part-agents : (t : Table) (l r : List ℕ) → l ≡ bytes_of t → FitAgents t.agents
    → r ≡ take (symbols_max * agent_size) (drop agents_at l) → agents_of r ≡ t.agents
unfolding bytes_of
part-agents t l r e f q =
    listed t.agents r record {
      few = f.few;
      spelled = ok;
      laid = q ∙ rw e (take_at (agent_part t) (pair_bytes t.rules ++ rule_part t) (symbols_max * agent_size) (length-agents t)
          ∙ rows_laid t.agents symbols_max f.few ok);
    }
  where
    ok : all lettered t.agents ≡ true
    ok = all_mono agent_ok lettered ok_lettered t.agents f.good
