-- Terms and the cells met on the way say from which sides and cells they were read: a reading goes back to one source.
use Rattle.std.specs.Prelude.{ℕ, ◌+◌, ◌<◌, ◌≡◌, refl, List, [], ◌∷◌, ◌++◌, ◌⊎◌, length, get_or, drop}
use Rattle.std.proofs.Common.{sym, ap, ap₂, ◌∙◌, append_assoc, inl, inr, arith, ext_get_or}
use Rattle.calculus.specs.Terms.{var, node, Terms, Eqn, δ, count}
use Rattle.calculus.specs.Calculus.{Rule}
use Rattle.calculus.proofs.Beneath.Count.{δ-cases, sum-append, first_term, rest_terms}
use Rattle.calculus.proofs.Beneath.Sub.{symbol, arguments, var_inj}
use Rattle.parts.specs.Sides.{Side, name, cell, Pair, ◌:=◌}
use Rattle.model.specs.State.{from}
use Rattle.model.specs.Table.{Cell, Entry, Table, no_cell}
use Rattle.model.specs.Reading.{Reads, none, by_name, by_cell, ReadsAll, no_pairs, pairs}
use Rattle.model.specs.Sound.{Means}
use Rattle.model.proofs.Beneath.Froms.{from-length, from-append, from_in}

-- What stands in the first or the second of two rows, by what holds for each.
in_either : {A : Type 0} (z : ℕ) (cs ds : List ℕ) → (0 < count z cs → A) → (0 < count z ds → A) → 0 < count z (cs ++ ds) → A
in_either {A} z cs ds a b h = on (count z cs) refl
  where
    on : (n : ℕ) → count z cs ≡ n → A
    on ℕ.zero v = b (omega (arith, h, v, sum-append (δ z) cs ds))
    on (ℕ.suc n) v = a (omega (arith, v))

-- The rows bs and bs' that stand behind the cells met are one too: so as many cells are met.
pub record Source (mem mem' : ℕ → Cell) (ss ss' : List Side) (cs bs bs' : List ℕ) : Type 0 where
  pub sides : ss ≡ ss'
  pub cells : (c : ℕ) → 0 < count c cs → mem c ≡ mem' c
  pub rest : bs ≡ bs'

pub one_source : {mem mem' : ℕ → Cell} {ss ss' : List Side} {ts ts' : Terms} {cs cs' : List ℕ} → Reads mem ss ts cs
    → Reads mem' ss' ts' cs' → ts ≡ ts' → (bs bs' : List ℕ) → cs ++ bs ≡ cs' ++ bs' → Source mem mem' ss ss' cs bs bs'
one_source none none t bs bs' e = record { sides = refl; cells = λ c k. absurd (omega (arith, k)); rest = e }
one_source none (by_name r) t bs bs' e = absurd (let z : ◌≡◌ {A = ℕ} 0 1 = cc in omega arith)
one_source none (by_cell p q r) t bs bs' e = absurd (let z : ◌≡◌ {A = ℕ} 0 1 = cc in omega arith)
one_source (by_name r) none t bs bs' e = absurd (let z : ◌≡◌ {A = ℕ} 0 1 = cc in omega arith)
one_source (by_cell p q r) none t bs bs' e = absurd (let z : ◌≡◌ {A = ℕ} 0 1 = cc in omega arith)
one_source (by_name r) (by_cell p q s) t bs bs' e = absurd (let z : ◌≡◌ {A = ℕ} 0 1 = cc in omega arith)
one_source (by_cell p q r) (by_name s) t bs bs' e = absurd (let z : ◌≡◌ {A = ℕ} 0 1 = cc in omega arith)
one_source (by_name {x = x} r) (by_name {x = y} r') t bs bs' e =
    let o = one_source r r' (ap rest_terms t) bs bs' e in
    let d : x ≡ y = var_inj (ap (λ ts. first_term ts (var x)) t) in
    record { sides = ap₂ (λ z l. name z ∷ l) d o.sides; cells = o.cells; rest = o.rest }
one_source {mem} {mem'} (by_cell {c = c} {k = k} {us = us} {ds = ds} {cs = cs} p q r) (by_cell {c = c'} {k = k'} {us = us'} {ds = ds'} {cs = cs'} p' q' r') t bs bs' e =
    let first : node k.symbol us ≡ node k'.symbol us' = ap (λ x. first_term x (node k.symbol us)) t in
    let behind : ds ++ (cs ++ bs) ≡ ds' ++ (cs' ++ bs') =
    sym (append_assoc ds cs bs) ∙ ap (drop 1) e ∙ append_assoc ds' cs' bs' in
    let o = one_source q q' (ap arguments first) (cs ++ bs) (cs' ++ bs') behind in
    let n = one_source r r' (ap rest_terms t) bs bs' o.rest in
    let d : c ≡ c' = ap (λ l. get_or l 0 0) e in
    let same : k ≡ k' = ap₂ (λ s a. record { symbol = s; args = a }) (ap symbol first) o.sides in
    record {
      sides = ap₂ (λ z l. cell z ∷ l) d n.sides;
      cells = λ z h. at z (δ-cases z c) (p ∙ same ∙ sym p' ∙ ap mem' (sym d)) (o.cells z) (n.cells z) h;
      rest = n.rest;
    }
  where
    at : (z : ℕ) → ((z ≡ c) × (δ z c ≡ 1)) ⊎ ((¬ (z ≡ c)) × (δ z c ≡ 0)) → mem c ≡ mem' c
        → (0 < count z ds → mem z ≡ mem' z) → (0 < count z cs → mem z ≡ mem' z) → 0 < count z (c ∷ (ds ++ cs)) → mem z ≡ mem' z
    at z (inl y) m a b h = ap mem y.0 ∙ m ∙ ap mem' (sym y.0)
    at z (inr y) m a b h = in_either z ds cs a b (omega (arith, h, y.1))

pub record Sources (mem mem' : ℕ → Cell) (l l' : List Pair) (cs bs bs' : List ℕ) : Type 0 where
  pub equations : l ≡ l'
  pub cells : (c : ℕ) → 0 < count c cs → mem c ≡ mem' c
  pub rest : bs ≡ bs'

pub one_source_all : {mem mem' : ℕ → Cell} {l l' : List Pair} {m : List Eqn} {cs cs' : List ℕ} → ReadsAll mem l m cs
    → ReadsAll mem' l' m cs' → (bs bs' : List ℕ) → cs ++ bs ≡ cs' ++ bs' → Sources mem mem' l l' cs bs bs'
one_source_all no_pairs no_pairs bs bs' e = record { equations = refl; cells = λ c k. absurd (omega (arith, k)); rest = e }
one_source_all (pairs {a = a} {b = b} {cs = cs} {ds = ds} r w) (pairs {a = a'} {b = b'} {cs = cs'} {ds = ds'} r' w') bs bs' e =
    let behind : cs ++ (ds ++ bs) ≡ cs' ++ (ds' ++ bs') = sym (append_assoc cs ds bs) ∙ e ∙ append_assoc cs' ds' bs' in
    let o = one_source r r' refl (ds ++ bs) (ds' ++ bs') behind in
    let n = one_source_all w w' bs bs' o.rest in
    record {
      equations = ap₂ ◌∷◌ (pair o.sides) n.equations;
      cells = λ z h. in_either z cs ds (o.cells z) (n.cells z) h;
      rest = n.rest;
    }
  where
    pair : a ∷ b ∷ [] ≡ a' ∷ b' ∷ [] → (a := b) ≡ (a' := b')
    pair s = cc

-- So a rule of the calculus is meant by one entry only.
pub one_entry : {T U : Table} {d e : Entry} {r : Rule} → Means T d r → Means U e r → d ≡ e
one_entry {d = d} {e = e} a b =
    let n = length d.cells in
    let m = length e.cells in
    let turned : n + m ≡ m + n = omega arith in
    let o = one_source_all a.reads b.reads (from (0 + n) m) (from (0 + m) n) (from-append n m 0 ∙ ap (from 0) turned ∙ sym (from-append m n 0)) in
    let many : n ≡ m = sym (from-length (0 + m) n) ∙ ap length (sym o.rest) ∙ from-length (0 + n) m in
    let cells : d.cells ≡ e.cells =
    ext_get_or no_cell d.cells e.cells many
    (λ i h. o.cells i (omega (arith, from_in (length d.cells) 0 i (omega arith) (omega (arith, h))))) in
    let fresh : d.fresh ≡ e.fresh =
    sym (from-length _ d.fresh) ∙ ap length (sym a.new ∙ b.new) ∙ from-length _ e.fresh in
    entry-eq (sym a.left ∙ b.left) (sym a.right ∙ b.right) o.equations cells fresh
  where
    entry-eq : d.left ≡ e.left → d.right ≡ e.right → d.body ≡ e.body → d.cells ≡ e.cells → d.fresh ≡ e.fresh → d ≡ e
    entry-eq p q s t u =
        ap₂ (λ x y. record { left = x; right = y; body = d.body; cells = d.cells; fresh = d.fresh }) p q
        ∙ ap₂ (λ x y. record { left = e.left; right = e.right; body = x; cells = y; fresh = d.fresh }) s t
        ∙ ap (λ x. record { left = e.left; right = e.right; body = e.body; cells = e.cells; fresh = x }) u
