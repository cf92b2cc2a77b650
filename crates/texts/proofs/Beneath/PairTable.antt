-- Number 9 by symbol numbers: what a reader asks of the table that it fills.
use Rattle.std.specs.Prelude.{suc, ◌≡◌, refl, Bool, true, false, cond, ◌||◌, List, [], ◌∷◌, map, eqb}
use Rattle.std.proofs.Common.{sym, ◌∙◌}
use mathlib.Core.List.Memᴰ
use Rattle.std.proofs.Math.Dec.{eqb-zero-suc, eqb-suc-zero, eqb-suc-suc}
use Rattle.texts.specs.Bytes.{Word, any, same, among, index_of, In}
use Rattle.texts.specs.Books.{Agent, Rule, declared, head_of}
use Rattle.texts.specs.RuleText.{same_pair}
use Rattle.texts.specs.Coded.{symbol_of, template}
use Rattle.texts.specs.TableTest.{pair_test}
use Rattle.texts.proofs.Beneath.Tools.{never, same_refl, same_eq}
use Rattle.texts.proofs.Beneath.Places.{same_turn}
use Rattle.texts.specs.RuleSound.{SoundRule}

index_same : (xs : List Word) (v w : Word) → among v xs ≡ true → among w xs ≡ true → eqb (index_of v xs) (index_of w xs) ≡ same v w
unfolding index_of among any
index_same [] v w a b = never a
index_same (x ∷ xs) v w a b = go (same v x) (same w x) refl refl a b (index_same xs v w)
  where
    go : (t u : Bool) → same v x ≡ t → same w x ≡ u → (t || among v xs) ≡ true → (u || among w xs) ≡ true
        → (among v xs ≡ true → among w xs ≡ true → eqb (index_of v xs) (index_of w xs) ≡ same v w)
        → eqb (cond t 0 (suc (index_of v xs))) (cond u 0 (suc (index_of w xs))) ≡ same v w
    go true true e f p q ih = sym (rw (same_eq v x e, same_eq w x f) (same_refl x))
    go true false e f p q ih = eqb-zero-suc (index_of w xs) ∙ sym (rw (same_eq v x e) (same_turn x w ∙ f))
    go false true e f p q ih = eqb-suc-zero (index_of v xs) ∙ sym (rw (same_eq w x f) e)
    go false false e f p q ih = eqb-suc-suc (index_of v xs) (index_of w xs) ∙ ih p q

declared-among : (ags : List Agent) (w : Word) → declared ags w ≡ among w (map (λ a. a.symbol) ags)
unfolding declared among any
declared-among [] w = refl
declared-among (a ∷ ags) w = rw (declared-among ags w)

-- Declared words are equal where their symbol numbers are.
pub symbol_same : (ags : List Agent) (v w : Word) → declared ags v ≡ true → declared ags w ≡ true → eqb (symbol_of ags v) (symbol_of ags w) ≡ same v w
unfolding symbol_of
symbol_same ags v w a b = index_same (map (λ a. a.symbol) ags) v w (sym (declared-among ags v) ∙ a) (sym (declared-among ags w) ∙ b)

-- A rule of the pair is there exactly where a template of the two symbols is.
pub pair-table : (ags : List Agent) (r : Rule) (qs : List Rule) → declared ags (head_of r.first) ≡ true → declared ags (head_of r.second) ≡ true
    → ((q : Rule) → In q qs → SoundRule ags q)
    → any (pair_test (symbol_of ags (head_of r.first)) (symbol_of ags (head_of r.second))) (map (template ags) qs) ≡ any (same_pair r) qs
unfolding any pair_test same_pair template
pair-table ags r [] d e h = refl
pair-table ags r (q ∷ qs) d e h =
    let s = h q (Memᴰ.head refl) in
    rw (
      symbol_same ags (head_of r.first) (head_of q.first) d s.named.first_agent,
      symbol_same ags (head_of r.second) (head_of q.second) e s.named.second_agent,
      symbol_same ags (head_of r.first) (head_of q.second) d s.named.second_agent,
      symbol_same ags (head_of r.second) (head_of q.first) e s.named.first_agent,
      pair-table ags r qs d e (λ p m. h p (Memᴰ.tail m)),
    )
