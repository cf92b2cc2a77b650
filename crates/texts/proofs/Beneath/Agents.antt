-- The test of the agents: a good book's pass it, and what it gives.
use Rattle.std.specs.Prelude.{ℕ, zero, suc, ◌<◌, ◌≤◌, ◌≡◌, Bool, true, false, cond, ◌&&◌, ◌||◌, ltb}
use Rattle.std.proofs.Math.Path.{refl, sym, ap}
use Rattle.std.proofs.Common.{◌∙◌, ⊎_elim, arith, leb-true, le-leb, ltb-false}
use Rattle.std.proofs.Math.Bool.{not}
use mathlib.Core.List.Memᴰ
use mathlib.Core.List.{List, [], ◌∷◌, ◌++◌, map, append_assoc}
use Rattle.std.proofs.Math.ListN.{length}
use Rattle.std.proofs.Math.Dec.{leb}
use Rattle.std.proofs.lemmas.Bool.{not-true}
use Rattle.parts.specs.Limits.{identifier_max, arity_max}
use Rattle.texts.specs.Bytes.{Word, any, all, same, index_of, letter, In, Distinct}
use Rattle.texts.specs.Terms.{identifier, symbol}
use Rattle.texts.specs.Books.{Agent, Book, is_agent, declared, takes}
use Rattle.texts.specs.RuleText.{word_at, is_too_long, big_record, fault5, fault6}
use Rattle.texts.specs.Coded.{symbol_of, arity_at}
use Rattle.texts.specs.TableTest.{agent_ok, test_agents}
use Rattle.texts.proofs.Beneath.Tools.{never, both, pair, neither, any_append, same_refl, all_true}
use Rattle.texts.proofs.Beneath.Places.{at_in, index_word}
use Rattle.texts.proofs.Beneath.BookSound.{agent-good}
use Rattle.texts.specs.Good.{Good, GoodBook, Spelt}

-- A declared symbol has a number, and the arity that it takes.
pub symbol-number : (ags : List Agent) (w : Word) → declared ags w ≡ true → (symbol_of ags w < length ags) × (arity_at ags (symbol_of ags w) ≡ takes ags w)
unfolding declared any symbol_of index_of takes arity_at
symbol-number [] w h = never h
symbol-number (a ∷ ags) w h = go (same w a.symbol) h (symbol-number ags w)
  where
    go : (t : Bool) → (t || declared ags w) ≡ true → (declared ags w ≡ true → (symbol_of ags w < length ags) × (arity_at ags (symbol_of ags w) ≡ takes ags w))
        → (cond t 0 (suc (symbol_of ags w)) < suc (length ags)) × (arity_at (a ∷ ags) (cond t 0 (suc (symbol_of ags w))) ≡ cond t a.arity (takes ags w))
    go true k ih = (omega arith, refl)
    go false k ih = let p = ih k in (omega (arith, p.0), p.1)

abbrev pub symbols : List Agent → List Word
symbols ags = map (λ a. a.symbol) ags

declared_end : (seen : List Agent) (a : Agent) (w : Word) → declared (seen ++ (a ∷ [])) w ≡ false → (declared seen w ≡ false) × (same w a.symbol ≡ false)
unfolding declared any
declared_end seen a w h =
    let p = neither (any (λ b. same w b.symbol) seen) _ (sym (any_append (λ b. same w b.symbol) seen (a ∷ [])) ∙ h) in
    (p.0, (neither (same w a.symbol) false p.1).0)

pub agents-apart : (bs seen : List Agent) → test_agents seen bs ≡ true → (all agent_ok bs ≡ true) × Distinct (symbols bs) × ((w : Word) → In w (symbols bs) → declared seen w ≡ false)
unfolding test_agents all Distinct
agents-apart [] seen h = (refl, tt, λ w m. absurd (Memᴰ.not-nil m))
agents-apart (a ∷ bs) seen h =
    let p = both (agent_ok a && not (declared seen a.symbol)) _ h in
    let q = both (agent_ok a) (not (declared seen a.symbol)) p.0 in
    let ih = agents-apart bs (seen ++ (a ∷ [])) p.1 in (
      pair (agent_ok a) (all agent_ok bs) q.0 ih.0,
      (λ m. never (sym (declared_end seen a a.symbol (ih.2 a.symbol m)).1 ∙ same_refl a.symbol), ih.1),
      λ w m. ⊎_elim (λ e. ap (declared seen) e ∙ not-true _ q.1) (λ k. (declared_end seen a w (ih.2 w k)).0) (Memᴰ.cases_cons m),
    )

in_declared : (ags : List Agent) (w : Word) → In w (symbols ags) → (declared ags w ≡ true) × ((a : Agent) × In a ags × (w ≡ a.symbol))
unfolding declared any
in_declared [] w m = absurd (Memᴰ.not-nil m)
in_declared (a ∷ ags) w m = ⊎_elim (λ e. (or_left (same w a.symbol) _ (ap (λ v. same v a.symbol) e ∙ same_refl a.symbol), (a, Memᴰ.head refl, e)))
    (λ k. let p = in_declared ags w k in (or_right (same w a.symbol) _ p.0, (p.1.0, Memᴰ.tail p.1.1, p.1.2))) (Memᴰ.cases_cons m)
  where
    or_left : (t u : Bool) → t ≡ true → (t || u) ≡ true
    or_left true u h = refl
    or_left false u h = never h

    or_right : (t u : Bool) → u ≡ true → (t || u) ≡ true
    or_right true u h = refl
    or_right false u h = h

symbols-length : (ags : List Agent) → length (symbols ags) ≡ length ags
symbols-length [] = refl
symbols-length (a ∷ ags) = ap suc (symbols-length ags)

pub ok_parts : (a : Agent) → agent_ok a ≡ true → (symbol a.symbol ≡ true) × (length a.symbol ≤ identifier_max) × (a.arity ≤ arity_max)
unfolding agent_ok
ok_parts a h =
    let p = both (symbol a.symbol && leb (length a.symbol) identifier_max) (leb a.arity arity_max) h in
    let q = both (symbol a.symbol) (leb (length a.symbol) identifier_max) p.0 in
    (q.0, leb-true (length a.symbol) identifier_max q.1, leb-true a.arity arity_max p.1)

pub symbol-identifier : (w : Word) → symbol w ≡ true → identifier w ≡ true
unfolding symbol identifier
symbol-identifier [] h = h
symbol-identifier (b ∷ bs) h = let p = both (letter b) _ h in rw p.0 p.1

all_symbols : (ags : List Agent) → all agent_ok ags ≡ true → all (λ a. symbol a.symbol) ags ≡ true
unfolding all
all_symbols [] h = refl
all_symbols (a ∷ ags) h = let p = both (agent_ok a) (all agent_ok ags) h in pair (symbol a.symbol) _ (ok_parts a p.0).0 (all_symbols ags p.1)

small-arity : (ags : List Agent) (n : ℕ) → all agent_ok ags ≡ true → arity_at ags n ≤ arity_max
unfolding all arity_at
small-arity [] n h = omega arith
small-arity (a ∷ ags) zero h = (ok_parts a (both (agent_ok a) (all agent_ok ags) h).0).2
small-arity (a ∷ ags) (suc n) h = small-arity ags n (both (agent_ok a) (all agent_ok ags) h).1

module _ (ags : List Agent) (h : test_agents [] ags ≡ true) where
  pub spelt-symbols : all (λ a. symbol a.symbol) ags ≡ true
  spelt-symbols = all_symbols ags (agents-apart ags [] h).0

  pub few-args : (n : ℕ) → arity_at ags n ≤ arity_max
  few-args n = small-arity ags n (agents-apart ags [] h).0

  -- the symbol with a number
  pub symbol_at : (n : ℕ) → n < length ags → (w : Word) × (declared ags w ≡ true) × (symbol_of ags w ≡ n) × (identifier w ≡ true) × (length w ≤ identifier_max) × (takes ags w ≡ arity_at ags n)
  unfolding symbol_of
  symbol_at n l =
      let k : n < length (symbols ags) = rw (symbols-length ags) l in
      let w : Word = word_at n (symbols ags) in
      let m : In (word_at n (symbols ags)) (symbols ags) = at_in n (symbols ags) k in
      let p = in_declared ags (word_at n (symbols ags)) m in
      let o = ok_parts p.1.0 (all_true agent_ok p.1.0 ags (agents-apart ags [] h).0 p.1.1) in
      let i : index_of (word_at n (symbols ags)) (symbols ags) ≡ n = index_word n (symbols ags) k (agents-apart ags [] h).1 in (
        word_at n (symbols ags),
        p.0,
        i,
        rw p.1.2 (symbol-identifier p.1.0.symbol o.0),
        rw p.1.2 o.1,
        sym (symbol-number ags (word_at n (symbols ags)) p.0).1 ∙ ap (arity_at ags) i,
      )

module _ (b : Book) (g : GoodBook b) where
  one_agent : (xs : List Agent) (a : Agent) → Good (record { agents = xs; rules = [] }) (is_agent a) → (agent_ok a ≡ true) × (not (declared xs a.symbol) ≡ true)
  unfolding agent_ok Spelt fault5 fault6 big_record is_too_long
  one_agent xs a h =
      let p = neither (big_record xs (is_agent a)) _ h.no5 in
      let q = neither (ltb identifier_max (length a.symbol)) (ltb arity_max a.arity) p.0 in (
        pair (symbol a.symbol && leb (length a.symbol) identifier_max) _
            (pair (symbol a.symbol) _ h.spelt (le-leb (length a.symbol) identifier_max (ltb-false identifier_max (length a.symbol) q.0))) (le-leb a.arity arity_max (ltb-false arity_max a.arity q.1)),
        ap not h.no6,
      )

  agents_pass : (ys xs : List Agent) → b.agents ≡ xs ++ ys → test_agents xs ys ≡ true
  unfolding test_agents
  agents_pass [] xs e = refl
  agents_pass (a ∷ ys) xs e =
      let p = one_agent xs a (agent-good b g xs ys a e) in
      pair (agent_ok a && not (declared xs a.symbol)) _ (pair (agent_ok a) _ p.0 p.1) (agents_pass ys (xs ++ (a ∷ [])) (e ∙ sym (append_assoc xs (a ∷ []) ys)))

  pub agents-tested : test_agents [] b.agents ≡ true
  agents-tested = agents_pass b.agents [] refl
