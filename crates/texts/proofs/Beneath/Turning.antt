-- A rule of a symbol with itself: its sides turn as its names are mirrored.
use Rattle.std.specs.Prelude.{ℕ, ◌+◌, ◌<◌, ◌≡◌, true, false, length, eqb}
use Rattle.std.proofs.Math.Path.{refl}
use Rattle.std.proofs.Common.{◌∙◌, inl, inr, arith, lt-ltb, le-ltb}
use mathlib.Core.List.Memᴰ
use mathlib.Core.List.{List, [], ◌∷◌, map}
use Rattle.parts.specs.Limits.{arity_max}
use Rattle.texts.specs.Bytes.{Word, any, all, same, among, index_of, In, Distinct}
use Rattle.texts.specs.Terms.{Term, term}
use Rattle.texts.specs.Books.{Agent, Rule, Equation, declared, sides, head_of, args_of, left_args}
use Rattle.texts.specs.RuleText.{word_at, mirror, mirrored, wire_of, same_wire}
use Rattle.parts.specs.Sides.{name, Pair, ◌:=◌}
use Rattle.texts.specs.Coded.{packed, code_at, codes, twos, second_from, rule_number}
use Rattle.texts.proofs.Beneath.Places.{index_less, word_index}
use Rattle.texts.specs.Templates.{Few}
use Rattle.texts.proofs.Beneath.Templates.{left_code, right_code}
use Rattle.texts.specs.TableTest.{same_side, turned, turned_side, turns_to}
use Rattle.texts.specs.RuleSound.{SoundRule}
use Rattle.texts.proofs.Beneath.Mirror.{all_map, any-map, all_ext, any_ext, Arg, Wired, not_first, mirror_first, mirror-second, over, back, mirror_arg, turns}

module _ (ags : List Agent) (r : Rule) (s : SoundRule ags r) (few : Few r) (even : length (args_of r.first) ≡ length (args_of r.second)) where
  abbrev xs : List Word
  xs = args_of r.first

  abbrev ys : List Word
  ys = args_of r.second

  abbrev number : Word → ℕ
  number w = rule_number ags r w

  abbrev apart : Distinct (left_args r)
  apart = s.named.distinct

  first_name : (w : Word) → among w xs ≡ true → number w ≡ index_of w xs
  unfolding rule_number
  first_name w h = rw h

  second-name : (w : Word) → among w ys ≡ true → number w ≡ second_from + index_of w ys
  unfolding rule_number
  second-name w h = rw (not_first r apart even w h, h)

  turns-over : (i : ℕ) → i < arity_max → turned i ≡ second_from + i
  unfolding turned
  turns-over i h = rw (lt-ltb i second_from h)

  turns_back : (i : ℕ) → turned (second_from + i) ≡ i
  unfolding turned
  turns_back i = rw (le-ltb (second_from + i) second_from (omega arith)) (omega arith)

  name-turn : (w : Word) → Arg r w → turned (number w) ≡ number (mirror xs ys w)
  name-turn w (inl h) =
      let l = index_less w xs h in
      rw (first_name w h, mirror_first r apart even w h, second-name (word_at (index_of w xs) ys) (over r apart even w h).0, (over r apart even w h).1) (turns-over (index_of w xs) (omega (arith, l, few.first)))
  name-turn w (inr h) =
      rw (second-name w h, mirror-second r apart even w h, first_name (word_at (index_of w ys) xs) (back r apart even w h).0, (back r apart even w h).1) (turns_back (index_of w ys))

  name_same : (v w : Word) → Arg r v → eqb (number v) (number w) ≡ same v w
  name_same v w (inl h) = rw (first_name v h) (left_code ags r s few (index_of v xs) w (index_less v xs h) ∙ rw (word_index v xs h))
  name_same v w (inr h) = rw (second-name v h) (right_code ags r s few (index_of v ys) w (index_less v ys h) ∙ rw (word_index v ys h))

  turn_same : (v w : Word) → Arg r v → same_side (turned_side (name (number v))) (name (number w)) ≡ same (mirror xs ys v) w
  unfolding same_side turned_side
  turn_same v w h = rw (name-turn v h) (name_same (mirror xs ys v) w (mirror_arg r apart even v h))

  abbrev coded : Equation → Pair
  coded e = name (number (head_of e.left)) := name (number (head_of e.right))

  wire-turn : (e d : Equation) → Wired r e → Wired r d → turns_to (coded e) (coded d) ≡ same_wire (mirrored r (wire_of e)) (wire_of d)
  unfolding turns_to same_wire mirrored wire_of
  wire-turn e d h k =
      rw (
        turn_same (head_of e.left) (head_of d.left) h.0,
        turn_same (head_of e.right) (head_of d.right) h.1,
        turn_same (head_of e.left) (head_of d.right) h.0,
        turn_same (head_of e.right) (head_of d.left) h.1,
      )

  module _ (es : List Equation) (wired : (e : Equation) → In e es → Wired r e) where
    pub turned_is : all (λ e. any (turns_to e) (map coded es)) (map coded es) ≡ turns r es
    turned_is =
        all_map (λ e. any (turns_to e) (map coded es)) coded es
        ∙ all_ext _ _ es (λ e m. any-map (turns_to (coded e)) coded es ∙ any_ext _ _ es (λ d k. wire-turn e d (wired e m) (wired d k)))

  head-code : (t : Term) (m : ℕ) → declared ags (head_of t) ≡ false → code_at ags number m t ≡ name (number (head_of t))
  unfolding code_at head_of
  head-code (term w ts) m h = rw h

  -- equations without cells
  pub equations-are : (es : List Equation) (m : ℕ) → ((e : Equation) → In e es → (declared ags (head_of e.left) ≡ false) × (declared ags (head_of e.right) ≡ false))
      → twos (codes ags number m (packed (sides es))) ≡ map coded es
  unfolding twos codes packed sides
  equations-are [] m h = refl
  equations-are (e ∷ es) m h =
      let p = h e (Memᴰ.head refl) in
      rw (head-code e.left m p.0, head-code e.right _ p.1, equations-are es _ (λ d k. h d (Memᴰ.tail k)))
