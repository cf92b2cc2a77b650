-- One law for each way through the test of the stuck pairs.
use Rattle.std.proofs.Common.{◌≡◌, refl, ap, ap₂, sym, ◌∙◌, Bool, true, false, not, ◌&&◌, List, [], ◌∷◌, ℕ, ◌<◌, ◌≤◌, pred, arith, length, get_or}
use Rattle.std.proofs.Math.ListN.{get_or-eq_default}
use Rattle.parts.specs.Limits.{symbols_max, cells_max}
use Rattle.parts.specs.SegmentLaws.{seg-length}
use Rattle.parts.specs.Sides.{name, cell, Pair, ◌:=◌}
use Rattle.parts.specs.Typed.{plain, pair}
use Rattle.parts.specs.declared.Side.TheVariants.{Name, Cell}
use Rattle.parts.specs.declared.Equation.{Equation}
use Rattle.parts.specs.declared.NameNo.{NameNo}
use Rattle.parts.specs.declared.CellNo.{CellNo}
use Rattle.model.specs.State.{St, equation, unpack}
use Rattle.model.specs.Table as Model
use Rattle.model.specs.Table.{Table, Found, none, straight, turned, find}
use Rattle.model.specs.Sound.{mem_of}
use Rattle.model.specs.Test.{every, is_none, unruled}
use Rattle.texts.specs.Coded.{machine}
use Rattle.texts.specs.Coded as Coded
use Rattle.table.specs.Layout.{bytes_of}
use Rattle.table.specs.Layout as Lent
use Rattle.table.specs.Rule.{matched}
use Rattle.table.specs.declared.Match.{Match}
use Rattle.std.specs.Prelude.{Option}
use Rattle.std.specs.Option.{is_some}
use Rattle.state.specs.Layout.{symbols_at, view}
use Rattle.stuck_pairs.specs.Pairs.{held}
use Rattle.sound.specs.Lent.{under, Usable}

pub symbol-beyond : (w : List ℕ) (c : ℕ) → cells_max ≤ c → (0 ≡ pred (get_or (view w).symbols c 0)) × (0 < symbols_max)
unfolding view
symbol-beyond w c h =
    let b : length (view w).symbols ≤ c = omega (arith, seg-length symbols_at cells_max w) in
    (rw (get_or-eq_default (view w).symbols 0 b), omega arith)

-- What is looked up, and the machine's rules.
same_rules : (w : List ℕ) → (Lent.view w).rules ≡ (under w).rules
unfolding under machine
same_rules w = refl

not_not : (r : Bool) → r ≡ not (not r)
not_not true = refl
not_not false = refl

none_found : (f : Found) (r : Bool) → is_some (matched f) ≡ not r → r ≡ is_none f
none_found none r e = cc (not_not r)
none_found (straight i x) r e = cc (not_not r)
none_found (turned i x) r e = cc (not_not r)

pub rule_none : (w : List ℕ) (a b : ℕ) (m : Option Match) (r : Bool) → Usable w
    → ((t : Coded.Table) → w ≡ bytes_of t → m ≡ matched (find t.rules 0 a b))
    → is_some m ≡ not r → r ≡ is_none (find (under w).rules 0 a b)
rule_none w a b m r u l e =
    none_found (find (Lent.view w).rules 0 a b) r (ap is_some (sym (l (Lent.view w) u.exact)) ∙ e)
    ∙ ap (λ r. is_none (find r 0 a b)) (same_rules w)

-- One pair.
module _ (w : List ℕ) (s : St) (k : ℕ) (e : Equation) (d : pair e ≡ equation k s.stuck.words) where
  at_pair : (p : Pair) (r : Bool) → pair e ≡ p → r ≡ unruled (under w).rules (mem_of (under w) s) (p ∷ []) → r ≡ held (under w) s k
  unfolding held
  at_pair p r q f = f ∙ ap (λ p. unruled (under w).rules (mem_of (under w) s) (p ∷ [])) (sym q ∙ d)

  pub held_left : (x : NameNo) → e.left ≡ Name x → false ≡ held (under w) s k
  held_left x q = at_pair (name x.0 := plain e.right) false (ap (λ a. plain a := plain e.right) q) refl

  pub held_right : (a : CellNo) (y : NameNo) → e.left ≡ Cell a → e.right ≡ Name y → false ≡ held (under w) s k
  held_right a y q r = at_pair (cell a.0 := name y.0) false (ap₂ (λ a b. plain a := plain b) q r) refl

  pub held-cells : (a b : CellNo) (f g : ℕ) (r : Bool) → e.left ≡ Cell a → e.right ≡ Cell b
      → f ≡ pred (get_or s.symbols a.0 0) → g ≡ pred (get_or s.symbols b.0 0)
      → r ≡ is_none (find (under w).rules 0 f g) → r ≡ held (under w) s k
  held-cells a b f g r q p ef eg er =
      at_pair (cell a.0 := cell b.0) r (ap₂ (λ a b. plain a := plain b) q p)
      (er ∙ ap₂ (λ f g. is_none (find (under w).rules 0 f g)) ef eg ∙ sym (and_true (is_none (find (under w).rules 0 (pred (get_or s.symbols a.0 0)) (pred (get_or s.symbols b.0 0))))))
    where
      and_true : (t : Bool) → (t && true) ≡ t
      and_true true = refl
      and_true false = refl

-- All of them: the pairs are listed from the last.
unruled-cons : (T : Table) (mem : ℕ → Model.Cell) (p : Pair) (l : List Pair)
    → (unruled T.rules mem (p ∷ []) && unruled T.rules mem l) ≡ unruled T.rules mem (p ∷ l)
unruled-cons T mem (name x := t) l = refl
unruled-cons T mem (cell a := name y) l = refl
unruled-cons T mem (cell a := cell b) l = go (is_none (find T.rules 0 (mem a).symbol (mem b).symbol)) (unruled T.rules mem l)
  where
    go : (t u : Bool) → (t && true && u) ≡ (t && u)
    go true u = refl
    go false u = refl

pub every_held : (T : Table) (s : St) (n : ℕ) → every n (held T s) ≡ unruled T.rules (mem_of T s) (unpack n s.stuck.words)
unfolding every held
every_held T s ℕ.zero = refl
every_held T s (ℕ.suc n) =
    ap (λ u. unruled T.rules (mem_of T s) (equation n s.stuck.words ∷ []) && u) (every_held T s n)
    ∙ unruled-cons T (mem_of T s) (equation n s.stuck.words) (unpack n s.stuck.words)
