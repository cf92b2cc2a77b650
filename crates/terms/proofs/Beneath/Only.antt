-- Nothing is read but terms whose identifiers have as many arguments as they take. Assumes nothing.
use Rattle.std.specs.Prelude.{Option, None, Some, ℕ, zero, suc, ◌+◌, ◌-◌, ◌<◌, ◌≡◌, refl, Bool, leb, ltb, get_or, take, true, false, cond, List, [], ◌∷◌, ◌++◌, eqb, length, drop}
use Rattle.std.proofs.Common.{sym, ap, ◌∙◌, arith, append_assoc, append-nil, length-append, eq-eqb, ne_eqb, eqb-true}
use borrow.Author.Tests.{eqb-false}
use Rattle.parts.specs.Limits.{arity_max, net_cells_max}
use Rattle.parts.specs.Sides.{cell, code}
use Rattle.parts.specs.declared.CellNo.{CellNo}
use Rattle.texts.specs.Bytes.{Word, any}
use Rattle.texts.specs.Terms.{identifier, Term, Terms, term, nil, cons, spell, brackets, closing, worded, wordeds, count, nodes_at, nodes_in}
use Rattle.texts.specs.Books.{Agent, declared, takes}
use Rattle.texts.specs.Coded.{symbol_of}
use Rattle.texts.specs.RuleText.{wrong_args}
use Rattle.texts.proofs.Beneath.Tools.{both, any_append, none_of}
use Rattle.terms.specs.Sheet.{Sheet, argued, opened}
use Rattle.scan.specs.Words.{word_end}
use Rattle.terms.specs.Reader.{read, Done, done, name_by, taking, cell_by, found_by, head_by, on_read, last_arg, next_arg, args_by, after_head, with_head, term_by}
use Rattle.terms.specs.Meaning.{Stops}
use Rattle.terms.proofs.Beneath.Numbers.{found-agent, found_none, takes_none}
use Rattle.terms.proofs.Beneath.Spelt.{skip, skip_one, here, Ends, stops-ends, open_ends, identifier_some, word-ends, word_here, word-stops}
use Rattle.terms.proofs.Beneath.Heads.{name-bare}
use Rattle.terms.specs.Reads.{inner}
use Rattle.terms.proofs.Beneath.Trees.{closing-stops}
use Rattle.terms.specs.declared.Read.{Read}
use Rattle.terms.specs.declared.Head.{Head}

-- a head says how many arguments its word takes
module _ (v : ℕ) (s₁ : Sheet) where
  taking-plain : (c a : ℕ) (s : Sheet) → taking c a s ≡ done (Some (Head.Plain v)) s₁ → a ≡ 0
  unfolding taking
  taking-plain c zero s e = refl
  taking-plain c (suc a) s e = let z : ◌≡◌ {A = ℕ} 0 1 = cc in absurd (omega arith)

  cell-plain : (k a : ℕ) (s : Sheet) → cell_by k a s ≡ done (Some (Head.Plain v)) s₁ → a ≡ 0
  unfolding cell_by
  cell-plain k a s e = go (leb net_cells_max s.cells) (ltb arity_max a) e
    where
      go : (t u : Bool)
          → cond t (done None s) (cond u (done None s) (taking s.cells a (opened s.cells k s))) ≡ done (Some (Head.Plain v)) s₁
          → a ≡ 0
      go true u d = let z : ◌≡◌ {A = ℕ} 0 1 = cc in absurd (omega arith)
      go false true d = let z : ◌≡◌ {A = ℕ} 0 1 = cc in absurd (omega arith)
      go false false d = taking-plain s.cells a (opened s.cells k s) d

module _ (k : CellNo) (m : ℕ) (s₁ : Sheet) where
  taking_some : (c a : ℕ) (s : Sheet) → taking c a s ≡ done (Some (Head.Takes k m)) s₁ → a ≡ suc m
  unfolding taking
  taking_some c zero s e = let z : ◌≡◌ {A = ℕ} 0 1 = cc in absurd (omega arith)
  taking_some c (suc a) s e = let z : a ≡ m = cc in ap suc z

  cell_some : (b a : ℕ) (s : Sheet) → cell_by b a s ≡ done (Some (Head.Takes k m)) s₁ → a ≡ suc m
  unfolding cell_by
  cell_some b a s e = go (leb net_cells_max s.cells) (ltb arity_max a) e
    where
      go : (t u : Bool)
          → cond t (done None s) (cond u (done None s) (taking s.cells a (opened s.cells b s))) ≡ done (Some (Head.Takes k m)) s₁
          → a ≡ suc m
      go true u d = let z : ◌≡◌ {A = ℕ} 0 1 = cc in absurd (omega arith)
      go false true d = let z : ◌≡◌ {A = ℕ} 0 1 = cc in absurd (omega arith)
      go false false d = taking_some s.cells a (opened s.cells b s) d

module _ (text : List ℕ) (ags : List Agent) (at e : ℕ) (s : Sheet) (w : Word) (h : take
    (e - at) (drop at text) ≡ w) where
  by_agent : declared ags w ≡ true → head_by text ags at e s ≡ cell_by (0 + symbol_of ags w) (takes ags w) s
  unfolding head_by found_by
  by_agent d = rw (h, found-agent ags w 0 d)

  by_name : declared ags w ≡ false → head_by text ags at e s ≡ name_by text at e s
  unfolding head_by found_by
  by_name d = rw (h, found_none ags w 0 d)

  plain-takes : (v : ℕ) (s₁ : Sheet) → head_by text ags at e s ≡ done (Some (Head.Plain v)) s₁ → takes ags w ≡ 0
  plain-takes v s₁ q = go (declared ags w) refl
    where
      go : (t : Bool) → declared ags w ≡ t → takes ags w ≡ 0
      go true d = cell-plain v s₁ (0 + symbol_of ags w) (takes ags w) s (sym (by_agent d) ∙ q)
      go false d = takes_none ags w d

  some_takes : (k : CellNo) (m : ℕ) (s₁ : Sheet) → head_by text ags at e s ≡ done (Some (Head.Takes k m)) s₁
      → takes ags w ≡ suc m
  some_takes k m s₁ q = go (declared ags w) refl
    where
      go : (t : Bool) → declared ags w ≡ t → takes ags w ≡ suc m
      go true d = cell_some k m s₁ (0 + symbol_of ags w) (takes ags w) s (sym (by_agent d) ∙ q)
      go false d = absurd (name-bare text at e s (sym q ∙ by_name d))

-- a node whose count is right
node_right : (ags : List Agent) (w : Word) (n lv : ℕ) → n ≡ takes ags w
    → wrong_args ags (record { word = w; args = n; level = lv }) ≡ false
unfolding wrong_args
node_right ags w n lv h = rw (eq-eqb n (takes ags w) h)

pub record TermOnly (text : List ℕ) (ags : List Agent) (t : Term) : Type 0 where
  pub only : (l at p v : ℕ) (s s₁ : Sheet) (rest : List ℕ) → worded t ≡ true → drop at text ≡ spell t ++ rest
      → Stops rest
      → term_by text ags l at s ≡ done (read p v) s₁
      → ((lv : ℕ) → any (wrong_args ags) (nodes_at lv t) ≡ false) × (p ≡ at + length (spell t))

pub record ArgsOnly (text : List ℕ) (ags : List Agent) (ts : Terms) : Type 0 where
  pub only : (l more c k at p v : ℕ) (s s₁ : Sheet) (rest : List ℕ) → 0 < count ts → wordeds ts ≡ true
      → drop at text ≡ inner ts ++ rest
      → args_by text (term_by text ags l) more c k at s ≡ done (read p v) s₁
      → (count ts ≡ suc more) × ((lv : ℕ) → any (wrong_args ags) (nodes_in lv ts) ≡ false) × (p ≡ at + length (inner ts))

-- what is read goes on from there
on_read_lem : (X : Done (Option Read)) (f : ℕ → ℕ → Sheet → Done (Option Read)) (p v : ℕ) (s₁ : Sheet)
    → on_read X f ≡ done (read p v) s₁
    → (q : ℕ) × (u : ℕ) × (s₂ : Sheet) × (X ≡ done (read q u) s₂) × (f q u s₂ ≡ done (read p v) s₁)
unfolding on_read
on_read_lem (done None s) f p v s₁ e = let z : ◌≡◌ {A = ℕ} 0 1 = cc in absurd (omega arith)
on_read_lem (done (Some r) s) f p v s₁ e = (r.next, r.code, s, refl, e)

pub brackets-ends : (ts : Terms) (rest : List ℕ) → Stops rest → Ends (brackets ts ++ rest)
unfolding brackets
brackets-ends nil rest st = stops-ends rest st
brackets-ends (cons t ts) rest st = open_ends ((spell t ++ closing ts) ++ rest)

-- what is said of a term that was read up to p, and of arguments
abbrev Said : List Agent → Term → ℕ → ℕ → Type 0
Said ags t at p = ((lv : ℕ) → any (wrong_args ags) (nodes_at lv t) ≡ false) × (p ≡ at + length (spell t))

abbrev SaidArgs : List Agent → Terms → ℕ → ℕ → ℕ → Type 0
SaidArgs ags ts more at p = (count ts ≡ suc more) × ((lv : ℕ) → any (wrong_args ags) (nodes_in lv ts) ≡ false) × (p ≡ at + length (inner ts))

next_same : (r q : Read) (s t : Sheet) → done (Some r) s ≡ done (Some q) t → r.next ≡ q.next
next_same r q s t e = let z : r ≡ q = cc in ap (λ (x : Read). x.next) z

read_next : (a p u v : ℕ) (s t : Sheet) → done (read (a + 1) u) s ≡ done (read p v) t → a + 1 ≡ p
read_next a p u v s t e = next_same (record { next = a + 1; code = u }) (record { next = p; code = v }) s t e

said_at : (ags : List Agent) (t : Term) (at : ℕ) {p q : ℕ} → p ≡ q → Said ags t at p → Said ags t at q
said_at ags t at e h = (h.0, sym e ∙ h.1)

term-zero : (text : List ℕ) (ags : List Agent) (at : ℕ) (s : Sheet) → term_by text ags 0 at s ≡ done None s
unfolding term_by
term-zero text ags at s = refl

term_after : (text : List ℕ) (ags : List Agent) (k at e : ℕ) (s : Sheet) → e ≡ word_end text at → (e ≡ at → ⊥)
    → term_by text ags (suc k) at s ≡ after_head text (args_by text (term_by text ags k)) e (head_by text ags at e s)
unfolding term_by with_head
term_after text ags k at e s h f = rw (← h, ne_eqb e at f)

module _ (text : List ℕ) (ags : List Agent) where
  -- a head that takes none, with no bracket after it
  plain-said : (w : Word) (ts : Terms) (at : ℕ) (rest : List ℕ) → drop (at + length w) text ≡ brackets ts ++ rest
      → (get_or text (at + length w) 0 ≡ 40 → ⊥)
      → takes ags w ≡ 0 → Said ags (term w ts) at (at + length w)
  unfolding brackets spell nodes_at any count
  plain-said w nil at rest d f z = (λ lv. rw (node_right ags w 0 lv (sym z)), rw (append-nil w))
  plain-said w (cons t us) at rest d f z = absurd (f (here text (at + length w) 40 ((spell t ++ closing us) ++ rest) d))

  -- a head that takes some, with a bracket after it
  some_said : (w : Word) (ts : Terms) → ArgsOnly text ags ts → (l at p v m c : ℕ) (s s₁ : Sheet) (rest : List ℕ)
      → identifier w ≡ true → wordeds ts ≡ true
      → drop at text ≡ w ++ (brackets ts ++ rest) → Stops rest → get_or text (at + length w) 0 ≡ 40 → takes ags w ≡ suc m
      → args_by text (term_by text ags l) m c 0 (at + length w + 1) s ≡ done (read p v) s₁ → Said ags (term w ts) at p
  unfolding brackets spell nodes_at any count inner
  some_said w nil U l at p v m c s s₁ rest ok wd e st b z q = absurd (word-stops text at w rest ok e st b)
  some_said w (cons t us) U l at p v m c s s₁ rest ok wd e st b z q =
      let dn = skip text at w (40 ∷ ((spell t ++ closing us) ++ rest)) e in
      let A = U.only l m c 0 (at + length w + 1) p v s s₁ rest (omega arith) wd (skip_one text (at + length w) 40 ((spell t ++ closing us) ++ rest) dn) q in (
        λ lv. rw (node_right ags w (suc (count us)) lv (A.0 ∙ sym z)) (A.1 (suc lv)),
        omega (arith, A.2, length-append w (40 ∷ (spell t ++ closing us))),
      )

  module _
      (w : Word) (ts : Terms) (U : ArgsOnly text ags ts) (l at p v : ℕ) (s s₁ : Sheet) (rest : List ℕ) (ok : identifier w ≡ true) (wd : wordeds ts ≡ true)
      (e : drop at text ≡ w ++ (brackets ts ++ rest)) (st : Stops rest) where
    after_head_lem : (X : Done (Option Head)) → head_by text ags at (at + length w) s ≡ X
        → after_head text (args_by text (term_by text ags l)) (at + length w) X ≡ done (read p v) s₁
        → Said ags (term w ts) at p
    unfolding after_head
    after_head_lem (done None s₂) h q = absurd (let z : ◌≡◌ {A = ℕ} 0 1 = cc in omega arith)
    after_head_lem (done (Some (Head.Plain u)) s₂) h q = go (eqb (get_or text (at + length w) 0) 40) refl q
      where
        go : (t : Bool) → eqb (get_or text (at + length w) 0) 40 ≡ t
            → cond t (done None s₂) (done (read (at + length w) u) s₂) ≡ done (read p v) s₁
            → Said ags (term w ts) at p
        go true b r = absurd (let z : ◌≡◌ {A = ℕ} 0 1 = cc in omega arith)
        go false b r =
            let y : at + length w ≡ p = next_same (record { next = at + length w; code = u }) (record { next = p; code = v }) s₂ s₁ r in
            said_at ags (term w ts) at y (plain-said w ts at rest (skip text at w (brackets ts ++ rest) e) (eqb-false _ 40 b)
            (plain-takes text ags at (at + length w) s w (word_here text at w (brackets ts ++ rest) ok e) u s₂ h))
    after_head_lem (done (Some (Head.Takes c m)) s₂) h q = go (eqb (get_or text (at + length w) 0) 40) refl q
      where
        go : (t : Bool) → eqb (get_or text (at + length w) 0) 40 ≡ t
            → cond t (args_by text (term_by text ags l) m c.0 0 (at + length w + 1) s₂) (done None s₂) ≡ done (read p v) s₁
            → Said ags (term w ts) at p
        go true b r =
            some_said w ts U l at p v m c.0 s₂ s₁ rest ok wd e st (eqb-true _ 40 b)
            (some_takes text ags at (at + length w) s w (word_here text at w (brackets ts ++ rest) ok e) c m s₂ h) r
        go false b r = absurd (let z : ◌≡◌ {A = ℕ} 0 1 = cc in omega arith)

  by_level : (w : Word) (ts : Terms) → ArgsOnly text ags ts → (l at p v : ℕ) (s s₁ : Sheet) (rest : List ℕ)
      → identifier w ≡ true → wordeds ts ≡ true
      → drop at text ≡ w ++ (brackets ts ++ rest) → Stops rest → term_by text ags l at s ≡ done (read p v) s₁
      → Said ags (term w ts) at p
  by_level w ts U zero at p v s s₁ rest ok wd e st q =
      let r : done None s ≡ done (read p v) s₁ = sym (term-zero text ags at s) ∙ q in
      absurd (let z : ◌≡◌ {A = ℕ} 0 1 = cc in omega arith)
  by_level w ts U (suc k) at p v s s₁ rest ok wd e st q =
      let some = identifier_some w ok in
      after_head_lem w ts U k at p v s s₁ rest ok wd e st (head_by text ags at (at + length w) s) refl
      (sym (term_after text ags k at (at + length w) s (word-ends text at w (brackets ts ++ rest) ok e (brackets-ends ts rest st)) (λ y. omega arith)) ∙ q)

  term-only-step : (w : Word) (ts : Terms) → ArgsOnly text ags ts → TermOnly text ags (term w ts)
  unfolding spell worded
  term-only-step w ts U = record {
    only = λ l at p v s s₁ rest wd e st q.
        let oks = both (identifier w) (wordeds ts) wd in
        let e' : drop at text ≡ w ++ (brackets ts ++ rest) = rw append_assoc at e in
        by_level w ts U l at p v s s₁ rest oks.0 oks.1 e' st q;
  }

  -- after an argument: the bracket where it is the last, a comma where it is not
  close-said : (t : Term) (us : Terms) (at p v q u c k : ℕ) (s s₁ : Sheet) (rest : List ℕ)
      → drop q text ≡ closing us ++ rest → q ≡ at + length (spell t)
      → ((lv : ℕ) → any (wrong_args ags) (nodes_at lv t) ≡ false) → last_arg text c k q u s ≡ done (read p v) s₁
      → SaidArgs ags (cons t us) 0 at p
  unfolding last_arg closing inner count nodes_in any
  close-said t nil at p v q u c k s s₁ rest d h f r =
      let b : eqb (get_or text q 0) 41 ≡ true = eq-eqb (get_or text q 0) 41 (here text q 41 rest d) in
      let y : q + 1 ≡ p = read_next q p (code (cell c)) v (argued c k u s) s₁ (rw b at r) in
      (refl, λ lv. rw (append-nil (nodes_at lv t)) (f lv), omega (arith, length-append (spell t) (41 ∷ [])))
  close-said t (cons x xs) at p v q u c k s s₁ rest d h f r =
      let b : eqb (get_or text q 0) 41 ≡ false = ne_eqb (get_or text q 0) 41 (λ y. omega (arith, here text q 44 ((spell x ++ closing xs) ++ rest) d)) in
      let y : done None (argued c k u s) ≡ done (read p v) s₁ = rw b at r in
      absurd (let z : ◌≡◌ {A = ℕ} 0 1 = cc in omega arith)

  comma_said : (t : Term) (us : Terms) → ArgsOnly text ags us
      → (l m at p v q u c k : ℕ) (s s₁ : Sheet) (rest : List ℕ) → wordeds us ≡ true → drop q text ≡ closing us ++ rest
      → q ≡ at + length (spell t) → ((lv : ℕ) → any (wrong_args ags) (nodes_at lv t) ≡ false)
      → next_arg text (args_by text (term_by text ags l) m c (k + 1)) c k q u s ≡ done (read p v) s₁
      → SaidArgs ags (cons t us) (suc m) at p
  unfolding next_arg closing inner count nodes_in any
  comma_said t nil U l m at p v q u c k s s₁ rest wd d h f r =
      let b : eqb (get_or text q 0) 44 ≡ false = ne_eqb (get_or text q 0) 44 (λ y. omega (arith, here text q 41 rest d)) in
      let y : done None (argued c k u s) ≡ done (read p v) s₁ = rw b at r in
      absurd (let z : ◌≡◌ {A = ℕ} 0 1 = cc in omega arith)
  comma_said t (cons x xs) U l m at p v q u c k s s₁ rest wd d h f r =
      let tail : List ℕ = (spell x ++ closing xs) ++ rest in
      let b : eqb (get_or text q 0) 44 ≡ true = eq-eqb (get_or text q 0) 44 (here text q 44 ((spell x ++ closing xs) ++ rest) d) in
      let A = U.only l m c (k + 1) (q + 1) p v (argued c k u s) s₁ rest (omega arith) wd (skip_one text q 44 ((spell x ++ closing xs) ++ rest) d) (rw b at r) in (
        ap suc A.0,
        λ lv. rw (any_append (wrong_args ags) (nodes_at lv t) (nodes_in lv (cons x xs))) (none_of (any (wrong_args ags) (nodes_at lv t)) (any (wrong_args ags) (nodes_in lv (cons x xs))) (f lv) (A.1 lv)),
        omega (arith, A.2, length-append (spell t) (44 ∷ (spell x ++ closing xs))),
      )

  args-only-step : (t : Term) (us : Terms) → TermOnly text ags t → ArgsOnly text ags us → ArgsOnly text ags (cons t us)
  unfolding inner wordeds args_by
  args-only-step t us T U = record {
    only = λ l more c k at p v s s₁ rest some wd e q.
        by_more l more c k at p v s s₁ rest (both (worded t) (wordeds us) wd) (rw append_assoc at e) q;
  }
    where
      by_more : (l more c k at p v : ℕ) (s s₁ : Sheet) (rest : List ℕ) → (worded t ≡ true) × (wordeds us ≡ true)
          → drop at text ≡ spell t ++ (closing us ++ rest)
          → args_by text (term_by text ags l) more c k at s ≡ done (read p v) s₁ → SaidArgs ags (cons t us) more at p
      by_more l zero c k at p v s s₁ rest wd e q =
          let R = on_read_lem (term_by text ags l at s) (last_arg text c k) p v s₁ q in
          let D = T.only l at R.0 R.1 s R.2 (closing us ++ rest) wd.0 e (closing-stops us rest) R.3 in
          close-said t us at p v R.0 R.1 c k R.2 s₁ rest (rw D.1 (skip text at (spell t) (closing us ++ rest) e)) D.1 D.0 R.4
      by_more l (suc m) c k at p v s s₁ rest wd e q =
          let R = on_read_lem (term_by text ags l at s) (next_arg text (args_by text (term_by text ags l) m c (k + 1)) c k) p v s₁ q in
          let D = T.only l at R.0 R.1 s R.2 (closing us ++ rest) wd.0 e (closing-stops us rest) R.3 in
          comma_said t us U l m at p v R.0 R.1 c k R.2 s₁ rest wd.1 (rw D.1 (skip text at (spell t) (closing us ++ rest) e)) D.1 D.0 R.4

  args-only_none : ArgsOnly text ags nil
  unfolding count
  args-only_none = record { only = λ l more c k at p v s s₁ rest some. absurd (omega arith) }

  mutual
    pub term-only : (t : Term) → TermOnly text ags t
    term-only (term w ts) = term-only-step w ts (args-only ts)

    pub args-only : (ts : Terms) → ArgsOnly text ags ts
    args-only nil = args-only_none
    args-only (cons t ts) = args-only-step t ts (term-only t) (args-only ts)
