-- The meaning of a whole field, from that of its term. Assumes nothing.
use Rattle.std.specs.Prelude.{Option, None, Some, ℕ, ◌+◌, ◌-◌, ◌≤◌, ◌≡◌, Bool, true, false, cond, not, ◌&&◌, ◌||◌, List, [], ◌∷◌, ◌++◌, leb, ltb, take, drop, refl, length}
use Rattle.std.proofs.Common.{sym, ap, ◌∙◌, append-nil, append_assoc, arith, length-drop, take-append-drop, length-append, drop-drop, length-take-le, eq-eqb, ltb-false, leb-true, le-leb}
use borrow.Author.Tests.{not-false}
use Rattle.parts.specs.Limits.{arity_max, level_max, identifier_max}
use Rattle.parts.specs.Sides.{code}
use Rattle.texts.specs.Bytes.{Word, any, all, keep, same, among, different}
use Rattle.texts.specs.Terms.{Term, spell, worded, Node, nodes_at, nodes, words_of}
use Rattle.texts.specs.Books.{Agent, takes, cells_of, names_of}
use Rattle.model.specs.Table.{Cell}
use Rattle.texts.specs.RuleText.{wrong_args, big_node, is_too_long}
use Rattle.texts.proofs.Beneath.Spelling.{spell-term}
use Rattle.texts.proofs.Beneath.Tools.{never, never', both, neither, any_append, same_eq, same_refl}
use Rattle.terms.specs.Sheet.{Sheet}
use Rattle.terms.specs.Reader.{read, Done, done, on_read, term_by, whole, field_by}
use Rattle.terms.specs.Meaning.{number, side_at, term_cells, Holds, grown, Spells, Room}
use Rattle.terms.proofs.Beneath.Written.{cells-kept, cells-append, narrow-append}
use Rattle.terms.proofs.Beneath.Reads.{right, words, names, tally}
use Rattle.terms.proofs.Beneath.Trees.{named_by, cells_at, words-nodes, term-reads}
use Rattle.terms.proofs.Beneath.Only.{term-only}
use Rattle.terms.specs.declared.Read.{Read}

-- the field stands in the text
module _ (text : List ℕ) (from to : ℕ) (t : Term) (f : Spells text from to t) where
  spelled : (spell t ≡ take (to - from) (drop from text)) × (worded t ≡ true)
  spelled = spell-term (take (to - from) (drop from text)) t f.spells

  standing : drop from text ≡ spell t ++ drop to text
  standing =
      let z : from + (to - from) ≡ to = omega (arith, f.order) in
      let d : drop (to - from) (drop from text) ≡ drop to text = drop-drop (to - from) from text ∙ rw z in
      rw (spelled.0, ← d) (sym (take-append-drop (to - from) (drop from text)))

  ending : from + length (spell t) ≡ to
  ending =
      let l : length (take (to - from) (drop from text)) ≡ to - from = length-take-le (to - from) (drop from text) (omega (arith, length-drop from text, f.within)) in
      omega (arith, ap length spelled.0, l, f.order)

-- the words of a field's term
of_words : (t : Term) → words_of (nodes (t ∷ [])) ≡ words t
unfolding nodes
of_words t = rw (append-nil (nodes_at 1 t)) (words-nodes t 1)

of_names : (ags : List Agent) (t : Term) → names_of ags (t ∷ []) ≡ names ags (words t)
unfolding names_of names
of_names ags t = rw (of_words t)

of_cells : (ags : List Agent) (t : Term) → length (cells_of ags (t ∷ [])) ≡ tally ags (words t)
unfolding cells_of tally
of_cells ags t = rw (of_words t)

-- identifiers within their sizes that have as many arguments as they take
node_right : (ags : List Agent) (n : Node) → big_node n ≡ false → wrong_args ags n ≡ false → right ags n ≡ true
unfolding big_node is_too_long wrong_args right
node_right ags n b w =
    let p = neither (ltb identifier_max (length n.word)) (ltb level_max n.level) b in
    rw (le-leb n.level level_max (ltb-false _ _ p.1), le-leb (length n.word) identifier_max (ltb-false _ _ p.0)) (not-false _ w)

all_right : (ags : List Agent) (ns : List Node) → any big_node ns ≡ false → any (wrong_args ags) ns ≡ false
    → all (right ags) ns ≡ true
unfolding any all
all_right ags [] b w = refl
all_right ags (n ∷ ns) b w =
    let p = neither (big_node n) (any big_node ns) b in
    let q = neither (wrong_args ags n) (any (wrong_args ags) ns) w in
    rw (node_right ags n p.0 q.0) (all_right ags ns p.1 q.1)

one_term : (g : Node → Bool) (t : Term) → any g (nodes (t ∷ [])) ≡ any g (nodes_at 1 t)
unfolding nodes
one_term g t = rw (append-nil (nodes_at 1 t))

takes-narrow : (ags : List Agent) → all (λ a. leb a.arity arity_max) ags ≡ true → (w : Word)
    → takes ags w ≤ arity_max
unfolding all takes
takes-narrow [] h w = omega arith
takes-narrow (a ∷ ags) h w =
    let p = both (leb a.arity arity_max) (all (λ b. leb b.arity arity_max) ags) h in
    go (same w a.symbol) (leb-true _ _ p.0) (takes-narrow ags p.1 w)
  where
    go : (t : Bool) → a.arity ≤ arity_max → takes ags w ≤ arity_max → cond t a.arity (takes ags w) ≤ arity_max
    go true b c = b
    go false b c = c

module _ (text : List ℕ) (ags : List Agent) (from to : ℕ) (s : Sheet) (t : Term) (f : Spells text from to t) where
  by_read : (W : List Word) (s₁ : Sheet) (v : ℕ)
      → done (read (from + length (spell t)) v) s₁ ≡ term_by text ags level_max from s
      → field_by text ags from to s ≡ done (Some v) s₁
  unfolding field_by on_read whole
  by_read W s₁ v e = rw (← e, eq-eqb (from + length (spell t)) to (ending text from to t f))

  pub read_right : (cs : List Cell) (ws zs : List Word) → Holds text s cs ws → Room text ags (length cs) ws t
      → any (wrong_args ags) (nodes (t ∷ [])) ≡ false
      → (s₁ : Sheet) × (field_by text ags from to s ≡ done (Some (code (side_at ags (number (grown ws (names_of ags (t ∷ [])) ++ zs)) (length cs) t))) s₁)
      × Holds text s₁ (cs ++ term_cells ags (number (grown ws (names_of ags (t ∷ [])) ++ zs)) (length cs) t) (grown ws (names_of ags (t ∷ [])))
  read_right cs ws zs h r ok =
      let W : List Word = grown ws (names_of ags (t ∷ [])) ++ zs in
      let on : names_of ags (t ∷ []) ≡ names ags (words t) = of_names ags t in
      let D = (term-reads text ags W r.short (takes-narrow ags r.arities) t).run level_max 1 from (length cs) s ws zs (drop to text) h.count (omega arith)
      (spelled text from to t f).1 (all_right ags (nodes_at 1 t) (sym (one_term big_node t) ∙ r.small) (sym (one_term (wrong_args ags) t) ∙ ok))
      (standing text from to t f) f.stops h.sized h.names (omega (arith, r.cells, of_cells ags t)) (rw on at r.names) (rw on) in (
        D.after,
        by_read W D.after (code (side_at ags (number W) (length cs) t)) D.reads,
        record {
          sized = D.wrote.sized;
          count = D.wrote.count ∙ sym (length-append cs (term_cells ags (number W) (length cs) t));
          cells = cells-append D.after 0 cs (term_cells ags (number W) (length cs) t)
              (cells-kept s D.after 0 (length cs) cs h.narrow (omega arith) D.wrote.before D.kept h.cells)
              (cells_at D.after (term_cells ags (number W) (length cs) t) (omega arith) D.wrote.cells);
          narrow = narrow-append cs (term_cells ags (number W) (length cs) t) h.narrow D.wrote.narrow;
          names = named_by ws on D.named;
        },
      )

  pub read-wrong : any (wrong_args ags) (nodes (t ∷ [])) ≡ true
      → (s₁ : Sheet) × (field_by text ags from to s ≡ done None s₁)
  unfolding field_by on_read whole
  read-wrong bad = go (term_by text ags level_max from s) refl
    where
      go : (X : Done (Option Read)) → term_by text ags level_max from s ≡ X
          → (s₁ : Sheet) × (on_read X (whole to) ≡ done None s₁)
      go (done None s₁) e = (s₁, refl)
      go (done (Some r) s₁) e =
          let D = (term-only text ags t).only level_max from r.next r.code s s₁ (drop to text) (spelled text from to t f).1 (standing text from to t f) f.stops e in
          never' (sym bad ∙ (one_term (wrong_args ags) t ∙ D.0 1))

-- names by first occurrence
same_sym : (v w : Word) → same v w ≡ same w v
same_sym v w = go (same v w) (same w v) refl refl
  where
    go : (t u : Bool) → same v w ≡ t → same w v ≡ u → t ≡ u
    go true true p q = refl
    go true false p q = never (sym q ∙ (ap (λ (x : Word). same w x) (same_eq v w p) ∙ same_refl w))
    go false true p q = never (sym p ∙ (ap (λ (x : Word). same v x) (same_eq w v q) ∙ same_refl v))
    go false false p q = refl

keep-keep : (p q r : Word → Bool) → ((x : Word) → (p x && q x) ≡ r x) → (ds : List Word)
    → keep p (keep q ds) ≡ keep r ds
unfolding keep
keep-keep p q r h [] = refl
keep-keep p q r h (d ∷ ds) = go (q d) (p d) refl (h d) (keep-keep p q r h ds)
  where
    go : (a b : Bool) → p d ≡ b → (b && a) ≡ r d → keep p (keep q ds) ≡ keep r ds
        → keep p (cond a (d ∷ keep q ds) (keep q ds)) ≡ cond (r d) (d ∷ keep r ds) (keep r ds)
    go true true e f ih = rw (e, ← f) (ap (λ (l : List Word). d ∷ l) ih)
    go true false e f ih = rw (e, ← f) ih
    go false true e f ih = rw (← f) ih
    go false false e f ih = rw (← f) ih

keep_all : (p : Word → Bool) → ((x : Word) → p x ≡ true) → (ds : List Word) → keep p ds ≡ ds
unfolding keep
keep_all p h [] = refl
keep_all p h (d ∷ ds) = rw (h d) (ap (λ (l : List Word). d ∷ l) (keep_all p h ds))

-- a word that is there keeps no other out
old_word : (v : Word) (ws : List Word) → among v ws ≡ true → (x : Word)
    → (not (among x ws) && not (same v x)) ≡ not (among x ws)
old_word v ws h x = go (among x ws) (same v x) refl refl
  where
    go : (a b : Bool) → among x ws ≡ a → same v x ≡ b → (not a && not b) ≡ not a
    go true b p q = refl
    go false true p q = never (sym p ∙ (ap (λ (y : Word). among y ws) (sym (same_eq v x q)) ∙ h))
    go false false p q = refl

new_word : (v : Word) (ws : List Word) (x : Word)
    → (not (among x ws) && not (same v x)) ≡ not (among x (ws ++ (v ∷ [])))
unfolding among any
new_word v ws x = rw (any_append (same x) ws (v ∷ []), same_sym v x) (go (any (same x) ws) (same x v))
  where
    go : (a b : Bool) → (not a && not b) ≡ not (a || (b || false))
    go true b = refl
    go false true = refl
    go false false = refl

grown_keeps : (ws vs : List Word) → grown ws vs ≡ ws ++ keep (λ x. not (among x ws)) (different vs)
unfolding grown different keep
grown_keeps ws [] = sym (append-nil ws)
grown_keeps ws (v ∷ vs) = go (among v ws) refl (λ us. grown_keeps us vs)
  where
    go : (t : Bool) → among v ws ≡ t
        → ((us : List Word) → grown us vs ≡ us ++ keep (λ x. not (among x us)) (different vs))
        → grown (cond t ws (ws ++ (v ∷ []))) vs
        ≡ ws ++ cond (not (among v ws)) (v ∷ keep (λ x. not (among x ws)) (keep (λ x. not (same v x)) (different vs))) (keep (λ x. not (among x ws)) (keep (λ x. not (same v x)) (different vs)))
    go true h ih =
        rw (h, keep-keep (λ x. not (among x ws)) (λ x. not (same v x)) (λ x. not (among x ws)) (old_word v ws h) (different vs)) (ih ws)
    go false h ih =
        rw (h, keep-keep (λ x. not (among x ws)) (λ x. not (same v x)) (λ x. not (among x (ws ++ (v ∷ [])))) (new_word v ws) (different vs))
        (ih (ws ++ (v ∷ [])) ∙ append_assoc ws (v ∷ []) (keep (λ x. not (among x (ws ++ (v ∷ [])))) (different vs)))

pub grown-different : (vs : List Word) → grown [] vs ≡ different vs
unfolding among any
grown-different vs = grown_keeps [] vs ∙ keep_all (λ x. not (among x [])) (λ x. refl) (different vs)
