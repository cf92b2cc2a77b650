-- A rule of a symbol with itself: the left argument that takes the place of another when the two lists change places.
use Rattle.std.specs.Prelude.{◌<◌, ◌≡◌, Bool, true, false, ◌⊎◌, length}
use Rattle.std.proofs.Math.Path.{refl}
use Rattle.std.proofs.Common.{sym, ap, ◌∙◌, inl, inr}
use mathlib.Core.List.Memᴰ
use mathlib.Core.List.{List, [], ◌∷◌, ◌++◌, map}
use Rattle.texts.specs.Bytes.{Word, any, all, same, among, index_of, In, Distinct}
use Rattle.texts.specs.Books.{Rule, Equation, head_of, args_of, left_args}
use Rattle.texts.specs.RuleText.{word_at, mirror, mirrored, wire_of, same_wire, within}
use Rattle.texts.proofs.Beneath.Tools.{never, same_refl, same_eq, among_in, in_among}
use Rattle.texts.proofs.Beneath.Places.{at_in, index_less, word_index, index_word, distinct_left, distinct_right, distinct_apart}

module _ {A B : Type 0} where
  pub all_map : (f : B → Bool) (g : A → B) (xs : List A) → all f (map g xs) ≡ all (λ x. f (g x)) xs
  unfolding all
  all_map f g [] = refl
  all_map f g (x ∷ xs) = rw (all_map f g xs)

  pub any-map : (f : B → Bool) (g : A → B) (xs : List A) → any f (map g xs) ≡ any (λ x. f (g x)) xs
  unfolding any
  any-map f g [] = refl
  any-map f g (x ∷ xs) = rw (any-map f g xs)

module _ {A : Type 0} where
  pub all_ext : (f g : A → Bool) (xs : List A) → ((x : A) → In x xs → f x ≡ g x) → all f xs ≡ all g xs
  unfolding all
  all_ext f g [] h = refl
  all_ext f g (x ∷ xs) h = rw (h x (Memᴰ.head refl), all_ext f g xs (λ y m. h y (Memᴰ.tail m)))

  pub any_ext : (f g : A → Bool) (xs : List A) → ((x : A) → In x xs → f x ≡ g x) → any f xs ≡ any g xs
  unfolding any
  any_ext f g [] h = refl
  any_ext f g (x ∷ xs) h = rw (h x (Memᴰ.head refl), any_ext f g xs (λ y m. h y (Memᴰ.tail m)))

-- A left argument: of the first agent, or of the second.
abbrev pub Arg : Rule → Word → Type 0
Arg r w = (among w (args_of r.first) ≡ true) ⊎ (among w (args_of r.second) ≡ true)

-- The two sides of an equation between left arguments.
abbrev pub Wired : Rule → Equation → Type 0
Wired r e = Arg r (head_of e.left) × Arg r (head_of e.right)

-- Each equation, its arguments changed, is one of them.
abbrev pub turns : Rule → List Equation → Bool
turns r es = all (λ e. any (λ d. same_wire (mirrored r (wire_of e)) (wire_of d)) es) es

module _ (r : Rule) (different : Distinct (left_args r)) (even : length (args_of r.first) ≡ length (args_of r.second)) where
  abbrev xs : List Word
  xs = args_of r.first

  abbrev ys : List Word
  ys = args_of r.second

  apart : Distinct (xs ++ ys)
  unfolding left_args
  apart = different

  pub not_first : (w : Word) → among w ys ≡ true → among w xs ≡ false
  not_first w h = go (among w xs) refl
    where
      go : (t : Bool) → among w xs ≡ t → t ≡ false
      go true e = absurd (distinct_apart xs ys w apart (among_in w xs e) (among_in w ys h))
      go false e = refl

  pub mirror_first : (w : Word) → among w xs ≡ true → mirror xs ys w ≡ word_at (index_of w xs) ys
  unfolding mirror
  mirror_first w h = rw h

  pub mirror-second : (w : Word) → among w ys ≡ true → mirror xs ys w ≡ word_at (index_of w ys) xs
  unfolding mirror
  mirror-second w h = rw (not_first w h)

  -- the argument in the other list, at the same place
  pub over : (w : Word) → among w xs ≡ true → (among (word_at (index_of w xs) ys) ys ≡ true) × (index_of (word_at (index_of w xs) ys) ys ≡ index_of w xs)
  over w h =
      let l : index_of w xs < length ys = rw (← even) (index_less w xs h) in
      (in_among _ ys (at_in (index_of w xs) ys l), index_word (index_of w xs) ys l (distinct_right xs ys apart))

  pub back : (w : Word) → among w ys ≡ true → (among (word_at (index_of w ys) xs) xs ≡ true) × (index_of (word_at (index_of w ys) xs) xs ≡ index_of w ys)
  back w h =
      let l : index_of w ys < length xs = rw even (index_less w ys h) in
      (in_among _ xs (at_in (index_of w ys) xs l), index_word (index_of w ys) xs l (distinct_left xs ys apart))

  pub mirror_arg : (w : Word) → Arg r w → Arg r (mirror xs ys w)
  mirror_arg w (inl h) = inr (rw (mirror_first w h) (over w h).0)
  mirror_arg w (inr h) = inl (rw (mirror-second w h) (back w h).0)

  pub mirror-twice : (w : Word) → Arg r w → mirror xs ys (mirror xs ys w) ≡ w
  mirror-twice w (inl h) = rw (mirror_first w h, mirror-second (word_at (index_of w xs) ys) (over w h).0, (over w h).1) (word_index w xs h)
  mirror-twice w (inr h) = rw (mirror-second w h, mirror_first (word_at (index_of w ys) xs) (back w h).0, (back w h).1) (word_index w ys h)

  mirror_same : (v w : Word) → Arg r v → Arg r w → same v (mirror xs ys w) ≡ same (mirror xs ys v) w
  mirror_same v w h k = go (same v (mirror xs ys w)) (same (mirror xs ys v) w) refl refl
    where
      go : (t u : Bool) → same v (mirror xs ys w) ≡ t → same (mirror xs ys v) w ≡ u → t ≡ u
      go true true e d = refl
      go false false e d = refl
      go true false e d =
          let z : mirror xs ys v ≡ w = ap (mirror xs ys) (same_eq v (mirror xs ys w) e) ∙ mirror-twice w k in
          sym (never (sym d ∙ (ap (λ u. same u w) z ∙ same_refl w)))
      go false true e d =
          let z : v ≡ mirror xs ys w = sym (mirror-twice v h) ∙ ap (mirror xs ys) (same_eq (mirror xs ys v) w d) in
          never (sym e ∙ (ap (λ u. same u (mirror xs ys w)) z ∙ same_refl (mirror xs ys w)))

  wire_back : (e d : Equation) → Wired r e → Wired r d → same_wire (wire_of e) (mirrored r (wire_of d)) ≡ same_wire (mirrored r (wire_of e)) (wire_of d)
  unfolding same_wire mirrored wire_of
  wire_back e d h k =
      rw (
        mirror_same (head_of e.left) (head_of d.left) h.0 k.0,
        mirror_same (head_of e.right) (head_of d.right) h.1 k.1,
        mirror_same (head_of e.left) (head_of d.right) h.0 k.1,
        mirror_same (head_of e.right) (head_of d.left) h.1 k.0,
      )

  module _ (es : List Equation) (wired : (e : Equation) → In e es → Wired r e) where
    pub back_is : within (map (mirrored r) (map wire_of es)) (map wire_of es) ≡ turns r es
    unfolding within
    back_is =
        all_map (λ u. any (same_wire u) (map wire_of es)) (mirrored r) (map wire_of es)
        ∙ (all_map (λ u. any (same_wire (mirrored r u)) (map wire_of es)) wire_of es ∙ all_ext _ _ es (λ e m. any-map (same_wire (mirrored r (wire_of e))) wire_of es))

    pub into_is : within (map wire_of es) (map (mirrored r) (map wire_of es)) ≡ turns r es
    unfolding within
    into_is =
        all_map (λ u. any (same_wire u) (map (mirrored r) (map wire_of es))) wire_of es
        ∙ all_ext _ _ es (λ e m. any-map (same_wire (wire_of e)) (mirrored r) (map wire_of es)
        ∙ (any-map (λ u. same_wire (wire_of e) (mirrored r u)) wire_of es ∙ any_ext _ _ es (λ d k. wire_back e d (wired e m) (wired d k))))
