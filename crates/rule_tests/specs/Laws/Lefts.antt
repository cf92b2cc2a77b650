-- A left field where every identifier has as many arguments as it takes: it is an agent over names where its head alone is declared.
use Prim.Native.Nat.{ℕ, suc, ◌≤◌}
use Rattle.std.specs.Prelude.{◌≡◌, Bool, cond, not, ◌&&◌}
use Rattle.std.proofs.Math.Path.{refl, sym, ap}
use Rattle.std.proofs.Common.{◌∙◌}
use Rattle.std.proofs.Math.Bool.{true, false}
use mathlib.Core.List.{List, [], ◌∷◌, ◌++◌, append-nil}
use native.Mathlib.Omega.{arith}
use Rattle.std.proofs.Math.ListN.{length, length-append}
use Rattle.std.proofs.Math.Dec.{eqb}
use borrow.Author.Tests.{eqb-true, eq-eqb, ne_eqb, not-false}
use Rattle.texts.specs.Bytes.{Word, any, all, keep}
use Rattle.texts.specs.Terms.{Term, Terms, term, nil, cons, Node, count, nodes_at, nodes_in, nodes, words_of}
use Rattle.texts.specs.Books.{Agent, Rule, declared, takes, head_of, heads, args_of, left_args, lefts}
use Rattle.texts.specs.RuleText.{wrong_args, over_names}
use Rattle.texts.proofs.Beneath.Tools.{never, never', both, neither, any_append, keep_append}
use Rattle.texts.proofs.Beneath.Linear.{words_append, takes-name}

module _ (ags : List Agent) where
  abbrev named : Word → Bool
  named w = not (declared ags w)

  not_named : (w : Word) → named w ≡ true → declared ags w ≡ false
  not_named w h = go (declared ags w) h
    where
      go : (t : Bool) → not t ≡ true → t ≡ false
      go true k = never k
      go false k = refl

  no_args : (w : Word) (n l : ℕ) → named w ≡ true → wrong_args ags (record { word = w; args = n; level = l }) ≡ false → n ≡ 0
  unfolding wrong_args
  no_args w n l h k = eqb-true n (takes ags w) (not-false _ k) ∙ takes-name ags w (not_named w h)

  -- Arguments that are names have no arguments of their own.
  bare-words : (ts : Terms) (l : ℕ) → all named (heads ts) ≡ true → any (wrong_args ags) (nodes_in l ts) ≡ false → words_of (nodes_in l ts) ≡ heads ts
  unfolding heads head_of nodes_at words_of all any count
  bare-words nil l h k = refl
  bare-words (cons (term w nil) ts) l h k =
      let p = both (named w) (all named (heads ts)) h in
      let q = neither (wrong_args ags (record { word = w; args = 0; level = l })) (any (wrong_args ags) (nodes_in l ts)) k in
      ap (λ (ws : List Word). w ∷ ws) (bare-words ts l p.1 q.1)
  bare-words (cons (term w (cons u us)) ts) l h k =
      let p = both (named w) (all named (heads ts)) h in
      let q = neither (wrong_args ags (record { word = w; args = suc (count us); level = l })) _ k in
      absurd (omega (arith, no_args w (suc (count us)) l p.0 q.0))

  -- Where some head is declared, so is some word.
  some_cell : (ts : Terms) (l : ℕ) → all named (heads ts) ≡ false → 1 ≤ length (keep (declared ags) (words_of (nodes_in l ts)))
  unfolding heads head_of nodes_at words_of all keep
  some_cell nil l h = never' h
  some_cell (cons (term w us) ts) l h = go (declared ags w) h (some_cell ts l)
    where
      go : (d : Bool) → (not d && all named (heads ts)) ≡ false → (all named (heads ts) ≡ false → 1 ≤ length (keep (declared ags) (words_of (nodes_in l ts))))
          → 1 ≤ length (cond d (w ∷ keep (declared ags) (words_of (nodes_in (suc l) us ++ nodes_in l ts))) (keep (declared ags) (words_of (nodes_in (suc l) us ++ nodes_in l ts))))
      go true k ih = omega arith
      go false k ih =
          rw (words_append (nodes_in (suc l) us) (nodes_in l ts), keep_append (declared ags) (words_of (nodes_in (suc l) us)) (words_of (nodes_in l ts)))
          (omega (arith, ih k, length-append (keep (declared ags) (words_of (nodes_in (suc l) us))) (keep (declared ags) (words_of (nodes_in l ts)))))

  no_cell : (ws : List Word) → all named ws ≡ true → keep (declared ags) ws ≡ []
  unfolding all keep
  no_cell [] h = refl
  no_cell (w ∷ ws) h = let p = both (named w) (all named ws) h in rw (not_named w p.0) (no_cell ws p.1)

  all_names : (ws : List Word) → all named ws ≡ true → keep named ws ≡ ws
  unfolding all keep
  all_names [] h = refl
  all_names (w ∷ ws) h = let p = both (named w) (all named ws) h in rw p.0 (ap (λ (vs : List Word). w ∷ vs) (all_names ws p.1))

  -- The words of a term: its head, and those of its arguments.
  head-words : (w : Word) (ts : Terms) → words_of (nodes (term w ts ∷ [])) ≡ w ∷ words_of (nodes_in 2 ts)
  unfolding nodes nodes_at words_of
  head-words w ts = rw (append-nil (nodes_in 2 ts))

  args_right : (w : Word) (ts : Terms) → any (wrong_args ags) (nodes (term w ts ∷ [])) ≡ false → any (wrong_args ags) (nodes_in 2 ts) ≡ false
  unfolding nodes nodes_at any
  args_right w ts h =
      let q = neither (wrong_args ags (record { word = w; args = count ts; level = 1 })) (any (wrong_args ags) (nodes_in 2 ts ++ [])) h in
      rw (append-nil (nodes_in 2 ts)) at q.1

  pub over_names_lem : (t : Term) → any (wrong_args ags) (nodes (t ∷ [])) ≡ false
      → over_names ags t ≡ (declared ags (head_of t) && eqb (length (keep (declared ags) (words_of (nodes (t ∷ []))))) 1)
  unfolding over_names head_of args_of keep
  over_names_lem (term w ts) h =
      rw (head-words w ts) (go (declared ags w) (all named (heads ts)) refl)
    where
      go : (d a : Bool) → all named (heads ts) ≡ a
          → (d && a) ≡ (d && eqb (length (cond d (w ∷ keep (declared ags) (words_of (nodes_in 2 ts))) (keep (declared ags) (words_of (nodes_in 2 ts))))) 1)
      go false a e = refl
      go true true e =
          let z : keep (declared ags) (words_of (nodes_in 2 ts)) ≡ [] =
          ap (keep (declared ags)) (bare-words ts 2 e (args_right w ts h)) ∙ no_cell (heads ts) e in
          sym (eq-eqb (suc (length (keep (declared ags) (words_of (nodes_in 2 ts))))) 1 (ap suc (ap length z)))
      go true false e =
          sym (ne_eqb (suc (length (keep (declared ags) (words_of (nodes_in 2 ts))))) 1 (λ q. omega (arith, q, some_cell ts 2 e)))

  -- Its names are its arguments.
  pub left_names : (t : Term) → over_names ags t ≡ true → any (wrong_args ags) (nodes (t ∷ [])) ≡ false → keep named (words_of (nodes (t ∷ []))) ≡ args_of t
  unfolding over_names head_of args_of keep
  left_names (term w ts) o h =
      let p = both (declared ags w) (all named (heads ts)) o in
      rw (head-words w ts, p.0) (ap (keep named) (bare-words ts 2 p.1 (args_right w ts h)) ∙ all_names (heads ts) p.1)

  -- Its words are its head and its arguments.
  pub agent-words : (t : Term) → over_names ags t ≡ true → any (wrong_args ags) (nodes (t ∷ [])) ≡ false → words_of (nodes (t ∷ [])) ≡ head_of t ∷ args_of t
  unfolding over_names head_of args_of
  agent-words (term w ts) o h =
      let p = both (declared ags w) (all named (heads ts)) o in
      head-words w ts ∙ ap (λ (ws : List Word). w ∷ ws) (bare-words ts 2 p.1 (args_right w ts h))

  -- The first word of a term is its head.
  pub head_first : (t : Term) → (ws : List Word) × (words_of (nodes (t ∷ [])) ≡ head_of t ∷ ws)
  unfolding head_of
  head_first (term w ts) = (words_of (nodes_in 2 ts), head-words w ts)

  module _ (r : Rule) (no7 : any (wrong_args ags) (nodes (lefts r)) ≡ false) where
    lefts-apart : (nodes (lefts r) ≡ nodes (r.first ∷ []) ++ nodes (r.second ∷ []))
    unfolding lefts nodes
    lefts-apart = ap (λ (ns : List Node). ns ++ (nodes_at 1 r.second ++ [])) (sym (append-nil (nodes_at 1 r.first)))

    pub sides_right : (any (wrong_args ags) (nodes (r.first ∷ [])) ≡ false) × (any (wrong_args ags) (nodes (r.second ∷ [])) ≡ false)
    sides_right =
        neither (any (wrong_args ags) (nodes (r.first ∷ []))) (any (wrong_args ags) (nodes (r.second ∷ [])))
        (sym (any_append (wrong_args ags) (nodes (r.first ∷ [])) (nodes (r.second ∷ []))) ∙ (ap (any (wrong_args ags)) (sym lefts-apart) ∙ no7))

    pub left_args_lem : over_names ags r.first ≡ true → over_names ags r.second ≡ true → keep named (words_of (nodes (lefts r))) ≡ left_args r
    unfolding left_args
    left_args_lem one two =
        ap (λ (ns : List Node). keep named (words_of ns)) lefts-apart
        ∙ rw (
          words_append (nodes (r.first ∷ [])) (nodes (r.second ∷ [])),
          keep_append named (words_of (nodes (r.first ∷ []))) (words_of (nodes (r.second ∷ []))),
          left_names r.first one sides_right.0,
          left_names r.second two sides_right.1,
        )
