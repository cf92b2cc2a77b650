-- What the table of a good book satisfies: sizes, symbols, argument counts, and how often each side stands.
use Rattle.std.specs.Prelude.{ℕ, suc, ◌+◌, ◌<◌, ◌≤◌, ◌≡◌, Bool, true, false, cond, length, ltb}
use Rattle.std.proofs.Math.Path.{refl, sym}
use Rattle.std.proofs.Common.{ap, ◌∙◌}
use mathlib.Core.List.Memᴰ
use mathlib.Core.List.{List, [], ◌∷◌, ◌++◌}
use borrow.Author.Tests.{ltb-false, lt-ltb, eqb-true, eq-eqb, not-false}
use Rattle.parts.specs.Limits.{arity_max, rule_equations_max, rule_cells_max, rule_names_max, face_max, net_equations_max, net_cells_max, net_names_max}
use Rattle.texts.specs.Bytes.{Word, any, all, different, In}
use Rattle.texts.specs.Terms.{Term, Terms, term, nil, cons, count, Node, nodes_at, nodes_in, nodes}
use Rattle.texts.specs.Books.{Agent, Equation, Rule, Book, is_rule, declared, takes, sides, lefts, rights, head_of, heads, args_of, cells_of, names_of, new_names_of, add, Net, net_terms}
use Rattle.texts.specs.RuleText.{wrong_args, big_node, big_record, big_book, fault5}
use Rattle.parts.specs.Sides.{name, cell}
use Rattle.model.specs.Table.{Entry}
use Rattle.model.specs.Load as Loading
use Rattle.texts.specs.Coded.{symbol_of, twos, packed, size, codes, cells_at, cells_from, second_from, new_from, rule_number, template, net_number, load, arity_at}
use Rattle.texts.specs.TableTest.{cell_ok, all_codes, same_side, tally}
use Rattle.texts.proofs.Beneath.Tools.{pair, neither, any_append, all_append, in_split}
use Rattle.texts.proofs.Beneath.BookSound.{good-sound, rule-good}
use Rattle.texts.proofs.Beneath.Agents.{symbol-number, few-args, agents-tested}
use Rattle.texts.specs.NetText.{big_net}
use Rattle.texts.proofs.Beneath.NetMeans.{net-good-small}
use Rattle.texts.proofs.Beneath.NetSound.{SoundNet, net-sound}
use Rattle.texts.proofs.Beneath.Loads.{all_sides, ok as args_ok, load_cells, name-twice, cell-once as net-cell-once}
use Rattle.texts.specs.Templates.{Few}
use Rattle.texts.proofs.Beneath.Templates.{template-cells, right_args, left_once, right_once, new_twice, cell-once}
use Rattle.texts.specs.Good.{Good, GoodBook, GoodNet}
use Rattle.texts.specs.RuleSound.{SoundRule}

pub codes-length : (ags : List Agent) (number : Word → ℕ) (ts : Terms) (m : ℕ) → length (codes ags number m ts) ≡ count ts
unfolding codes count
codes-length ags number nil m = refl
codes-length ags number (cons t ts) m = ap suc (codes-length ags number ts (m + size ags t))

module _ (ags : List Agent) (number : Word → ℕ) where
  cell_ok_lem : (w : Word) (ts : Terms) (m l : ℕ) → declared ags w ≡ true → wrong_args ags (record { word = w; args = count ts; level = l }) ≡ false
      → cell_ok ags (record { symbol = symbol_of ags w; args = codes ags number m ts }) ≡ true
  unfolding cell_ok wrong_args
  cell_ok_lem w ts m l d h =
      let p = symbol-number ags w d in
      let e : count ts ≡ takes ags w = eqb-true (count ts) (takes ags w) (not-false _ h) in
      pair (ltb (symbol_of ags w) (length ags)) _ (lt-ltb _ _ p.0) (eq-eqb _ _ (codes-length ags number ts m ∙ (e ∙ sym p.1)))

  mutual
    unfolding cells_at nodes_at any all

    cells_ok : (t : Term) (m l : ℕ) → any (wrong_args ags) (nodes_at l t) ≡ false → all (cell_ok ags) (cells_at ags number m t) ≡ true
    cells_ok (term w ts) m l h =
        let p = neither (wrong_args ags (record { word = w; args = count ts; level = l })) _ h in
        go (declared ags w) refl p.0 (cells_oks ts (suc m) (suc l) p.1)
      where
        go : (d : Bool) → declared ags w ≡ d → wrong_args ags (record { word = w; args = count ts; level = l }) ≡ false
            → all (cell_ok ags) (cells_from ags number (suc m) ts) ≡ true
            → all (cell_ok ags) (cond d (record { symbol = symbol_of ags w; args = codes ags number (suc m) ts } ∷ cells_from ags number (suc m) ts) []) ≡ true
        go true e k ih = pair (cell_ok ags (record { symbol = symbol_of ags w; args = codes ags number (suc m) ts })) _ (cell_ok_lem w ts (suc m) l e k) ih
        go false e k ih = refl

    cells_oks : (ts : Terms) (m l : ℕ) → any (wrong_args ags) (nodes_in l ts) ≡ false → all (cell_ok ags) (cells_from ags number m ts) ≡ true
    cells_oks nil m l h = refl
    cells_oks (cons t ts) m l h =
        let p = neither (any (wrong_args ags) (nodes_at l t)) (any (wrong_args ags) (nodes_in l ts)) (sym (any_append (wrong_args ags) (nodes_at l t) (nodes_in l ts)) ∙ h) in
        all_append (cell_ok ags) (cells_at ags number m t) (cells_from ags number (m + size ags t) ts) (cells_ok t m l p.0) (cells_oks ts (m + size ags t) l p.1)

  pub all_cells_ok : (ts : List Term) (m : ℕ) → any (wrong_args ags) (nodes ts) ≡ false → all (cell_ok ags) (cells_from ags number m (packed ts)) ≡ true
  unfolding nodes packed cells_at all any
  all_cells_ok [] m h = refl
  all_cells_ok (t ∷ ts) m h =
      let p = neither (any (wrong_args ags) (nodes_at 1 t)) (any (wrong_args ags) (nodes ts)) (sym (any_append (wrong_args ags) (nodes_at 1 t) (nodes ts)) ∙ h) in
      all_append (cell_ok ags) (cells_at ags number m t) (cells_from ags number (m + size ags t) (packed ts)) (cells_ok t m 1 p.0) (all_cells_ok ts (m + size ags t) p.1)

twos-length : (ags : List Agent) (number : Word → ℕ) (es : List Equation) (m : ℕ) → length (twos (codes ags number m (packed (sides es)))) ≡ length es
unfolding twos codes packed sides
twos-length ags number [] m = refl
twos-length ags number (e ∷ es) m = ap suc (twos-length ags number es _)

-- A rule of the table of a good book.
pub record SoundTemplate (ags : List Agent) (t : Entry) : Type 0 where
  pub left_symbol : t.left < length ags
  pub right_symbol : t.right < length ags
  pub few_equations : length t.body ≤ rule_equations_max
  pub few_cells : length t.cells ≤ rule_cells_max
  pub few_names : t.fresh ≤ rule_names_max
  pub cells_ok : all (cell_ok ags) t.cells ≡ true
  -- each left argument once, each new name twice, each cell once
  pub left : (i : ℕ) → i < arity_at ags t.left → tally (same_side (name i)) (all_codes t) ≡ 1
  pub right : (i : ℕ) → i < arity_at ags t.right → tally (same_side (name (second_from + i))) (all_codes t) ≡ 1
  pub new : (i : ℕ) → i < t.fresh → tally (same_side (name (new_from + i))) (all_codes t) ≡ 2
  pub inner : (i : ℕ) → i < length t.cells → tally (same_side (cell i)) (all_codes t) ≡ 1

heads-count : (ts : Terms) → length (heads ts) ≡ count ts
unfolding heads count
heads-count nil = refl
heads-count (cons t ts) = ap suc (heads-count ts)

-- The head of a left field has a number and as many arguments as its arity.
pub head-arity : (ags : List Agent) (t : Term) (ns : List Node) → ((n : Node) → In n (nodes_at 1 t ++ ns) → n.args ≡ takes ags n.word)
    → declared ags (head_of t) ≡ true → (symbol_of ags (head_of t) < length ags) × (length (args_of t) ≡ arity_at ags (symbol_of ags (head_of t)))
unfolding nodes_at head_of args_of
head-arity ags (term w ts) ns h d =
    let p = symbol-number ags w d in
    (p.0, heads-count ts ∙ (h (record { word = w; args = count ts; level = 1 }) (Memᴰ.head refl) ∙ sym p.1))

module _ (b : Book) (r : Rule) (g : Good b (is_rule r)) (s : SoundRule b.agents r) where
  abbrev ags : List Agent
  ags = b.agents

  first_head : (symbol_of ags (head_of r.first) < length ags) × (length (args_of r.first) ≡ arity_at ags (symbol_of ags (head_of r.first)))
  unfolding lefts nodes
  first_head = head-arity ags r.first _ s.arities s.named.first_agent

  second_head : (symbol_of ags (head_of r.second) < length ags) × (length (args_of r.second) ≡ arity_at ags (symbol_of ags (head_of r.second)))
  unfolding lefts nodes
  second_head = head-arity ags r.second _ (λ n m. s.arities n (Memᴰ.append_right (nodes_at 1 r.first) m)) s.named.second_agent

  pub few : ((n : ℕ) → arity_at ags n ≤ arity_max) → Few r
  few h = record { first = rw first_head.1 (h _); second = rw second_head.1 (h _) }

  sizes : (length r.right ≤ rule_equations_max) × (length (cells_of ags (rights r)) ≤ rule_cells_max) × (length (new_names_of ags r) ≤ rule_names_max)
  unfolding fault5 big_record
  sizes =
      let p = neither (big_record ags (is_rule r)) (big_book (add b (is_rule r))) g.no5 in
      let q = neither _ (ltb rule_names_max (length (new_names_of ags r))) p.0 in
      let u = neither _ (ltb rule_cells_max (length (cells_of ags (rights r)))) q.0 in
      let v = neither (any big_node (nodes (lefts r ++ rights r))) (ltb rule_equations_max (length r.right)) u.0 in
      (ltb-false rule_equations_max (length r.right) v.1, ltb-false rule_cells_max (length (cells_of ags (rights r))) u.1, ltb-false rule_names_max (length (new_names_of ags r)) q.1)

  parts : ((template ags r).left < length ags) × ((template ags r).right < length ags) × (length (template ags r).body ≤ rule_equations_max)
      × ((template ags r).fresh ≤ rule_names_max) × (all (cell_ok ags) (template ags r).cells ≡ true)
      × ((i : ℕ) → i < arity_at ags (template ags r).left → i < length (args_of r.first))
      × ((i : ℕ) → i < arity_at ags (template ags r).right → i < length (args_of r.second))
      × ((i : ℕ) → i < (template ags r).fresh → i < length (new_names_of ags r))
  unfolding template rights
  parts = (
    first_head.0,
    second_head.0,
    rw (twos-length ags (rule_number ags r) r.right 0) sizes.0,
    sizes.2,
    all_cells_ok ags (rule_number ags r) (rights r) 0 (right_args ags r s),
    λ i h. rw first_head.1 h,
    λ i h. rw second_head.1 h,
    λ i h. h,
  )

  template-sound : Few r → SoundTemplate ags (template ags r)
  template-sound f = record {
    left_symbol = parts.0;
    right_symbol = parts.1;
    few_equations = parts.2;
    few_cells = rw (template-cells ags r (right_args ags r s)) sizes.1;
    few_names = parts.3;
    cells_ok = parts.4;
    left = λ i h. left_once ags r s f i (parts.5 i h);
    right = λ i h. right_once ags r s f i (parts.6 i h);
    new = λ i h. new_twice ags r s f i (parts.7 i h);
    inner = cell-once ags r s f;
  }

-- A good book's arguments fit in their places.
pub rule-few : (b : Book) → GoodBook b → (r : Rule) → In r b.rules → Few r
rule-few b g r m =
    let p = in_split r b.rules m in
    few (record { agents = b.agents; rules = p.0 }) r (rule-good b g p.0 p.1 r p.2) ((good-sound b g).rules_sound r m)
    (few-args b.agents (agents-tested b g))

-- Every rule of the table of a good book is sound.
pub templates_sound : (b : Book) → GoodBook b → (r : Rule) → In r b.rules → SoundTemplate b.agents (template b.agents r)
templates_sound b g r m =
    let p = in_split r b.rules m in
    template-sound (record { agents = b.agents; rules = p.0 }) r (rule-good b g p.0 p.1 r p.2) ((good-sound b g).rules_sound r m)
    (rule-few b g r m)

-- A net to load.
pub record SoundLoad (ags : List Agent) (l : Loading.Net) : Type 0 where
  pub few_terms : length l.face ≤ face_max
  pub few_equations : length l.equations ≤ net_equations_max
  pub few_cells : length l.cells ≤ net_cells_max
  pub few_names : l.names ≤ net_names_max
  pub cells_ok : all (cell_ok ags) l.cells ≡ true
  -- each name twice, each cell once
  pub names_twice : (i : ℕ) → i < l.names → tally (same_side (name i)) (all_sides l) ≡ 2
  pub cells_once : (i : ℕ) → i < length l.cells → tally (same_side (cell i)) (all_sides l) ≡ 1

net-sizes : (ags : List Agent) (n : Net) → big_net ags n ≡ false
    → (length n.face ≤ face_max) × (length n.equations ≤ net_equations_max) × (length (cells_of ags (net_terms n)) ≤ net_cells_max)
    × (length (different (names_of ags (net_terms n))) ≤ net_names_max)
unfolding big_net
net-sizes ags n h =
    let q = neither _ (ltb net_names_max (length (different (names_of ags (net_terms n))))) h in
    let r = neither _ (ltb net_cells_max (length (cells_of ags (net_terms n)))) q.0 in
    let u = neither (ltb face_max (length n.face)) (ltb net_equations_max (length n.equations)) r.0 in (
      ltb-false face_max (length n.face) u.0,
      ltb-false net_equations_max (length n.equations) u.1,
      ltb-false net_cells_max (length (cells_of ags (net_terms n))) r.1,
      ltb-false net_names_max (length (different (names_of ags (net_terms n)))) q.1,
    )

pub packed-count : (ts : List Term) → count (packed ts) ≡ length ts
unfolding packed count
packed-count [] = refl
packed-count (t ∷ ts) = ap suc (packed-count ts)

load-parts : (ags : List Agent) (n : Net) → SoundNet ags n → big_net ags n ≡ false
    → (length (load ags n).face ≤ face_max) × (length (load ags n).equations ≤ net_equations_max) × ((load ags n).names ≤ net_names_max)
    × (all (cell_ok ags) (load ags n).cells ≡ true) × (length (load ags n).cells ≤ net_cells_max)
unfolding load
load-parts ags n s h =
    let z = net-sizes ags n h in (
      rw (codes-length ags (net_number ags n) (packed n.face) 0, packed-count n.face) z.0,
      rw (twos-length ags (net_number ags n) n.equations (length (cells_of ags n.face))) z.1,
      z.3,
      all_cells_ok ags (net_number ags n) (net_terms n) 0 (args_ok ags n s),
      rw (load_cells ags n s) z.2,
    )

-- A good net loads soundly.
pub load_sound : (ags : List Agent) (n : Net) → GoodNet ags n → SoundLoad ags (load ags n)
load_sound ags n g =
    let s = net-sound ags n g in
    let p = load-parts ags n s (net-good-small ags n g) in
    record {
      few_terms = p.0;
      few_equations = p.1;
      few_cells = p.4;
      few_names = p.2;
      cells_ok = p.3;
      names_twice = name-twice ags n s;
      cells_once = net-cell-once ags n s;
    }
