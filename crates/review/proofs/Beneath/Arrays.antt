-- For each state of the right sizes there is a lent array that stands for it.
use Rattle.std.specs.Prelude.{ℕ, ◌+◌, ◌-◌, ◌*◌, ◌/◌, ◌%◌, ◌≡◌, refl, List, [], ◌∷◌, ◌++◌, length, take, drop}
use Rattle.std.proofs.Common.{ap, ◌∙◌, arith}
use Rattle.parts.specs.Limits.{arity_max, cells_max, names_max, waiting_max, stuck_max, face_max}
use Rattle.parts.specs.Segments.{seg}
use Rattle.model.specs.State.{St, st, stack}
use Rattle.model.specs.Sound.{Sizes}
use Rattle.state.specs.Layout.{symbols_at, arguments_at, names_at, waiting_at, stuck_at, face_at, view}

-- The counts, then the parts, in the order of the layout.
unfoldable pub array_of : St → List ℕ
array_of s =
    s.waiting.used
    ∷ s.stuck.used
    ∷ s.face.used
    ∷ s.loops % 65536
    ∷ s.loops / 65536
    ∷ (s.symbols ++ (s.arguments ++ (s.names ++ (s.waiting.words ++ (s.stuck.words ++ s.face.words)))))

past : (i k : ℕ) (a b : List ℕ) → i ≡ length a + k → drop i (a ++ b) ≡ drop k b
past i k [] b e = let q : i ≡ k = omega (arith, e) in ap (λ j. drop j b) q
past ℕ.zero k (x ∷ a) b e = absurd (omega (arith, e))
past (ℕ.suc i) k (x ∷ a) b e = past i k a b (omega (arith, e))

first : (n : ℕ) (a b : List ℕ) → length a ≡ n → take n (a ++ b) ≡ a
first ℕ.zero [] b e = refl
first ℕ.zero (x ∷ a) b e = absurd (omega (arith, e))
first (ℕ.suc n) [] b e = absurd (omega (arith, e))
first (ℕ.suc n) (x ∷ a) b e = ap (λ l. x ∷ l) (first n a b (omega (arith, e)))

all_of : (n : ℕ) (a : List ℕ) → length a ≡ n → take n a ≡ a
all_of ℕ.zero [] e = refl
all_of ℕ.zero (x ∷ a) e = absurd (omega (arith, e))
all_of (ℕ.suc n) [] e = absurd (omega (arith, e))
all_of (ℕ.suc n) (x ∷ a) e = ap (λ l. x ∷ l) (all_of n a (omega (arith, e)))

-- What is found where each part begins, after the counts.
module _ (s : St) where
  abbrev from_stuck : List ℕ
  from_stuck = s.stuck.words ++ s.face.words

  abbrev from_waiting : List ℕ
  from_waiting = s.waiting.words ++ from_stuck

  abbrev from_names : List ℕ
  from_names = s.names ++ from_waiting

  abbrev from_arguments : List ℕ
  from_arguments = s.arguments ++ from_names

  abbrev parts : List ℕ
  parts = s.symbols ++ from_arguments

  to_arguments : (i k : ℕ) → i ≡ length s.symbols + k → drop i parts ≡ drop k from_arguments
  to_arguments i k e = past i k s.symbols _ e

  to_names : (i k : ℕ) → i ≡ length s.symbols + (length s.arguments + k) → drop i parts ≡ drop k from_names
  to_names i k e = to_arguments i (length s.arguments + k) e ∙ past _ k s.arguments _ refl

  to_waiting : (i k : ℕ) → i ≡ length s.symbols + (length s.arguments + (length s.names + k))
      → drop i parts ≡ drop k from_waiting
  to_waiting i k e = to_names i (length s.names + k) e ∙ past _ k s.names _ refl

  to_stuck : (i k : ℕ)
      → i ≡ length s.symbols + (length s.arguments + (length s.names + (length s.waiting.words + k)))
      → drop i parts ≡ drop k from_stuck
  to_stuck i k e = to_waiting i (length s.waiting.words + k) e ∙ past _ k s.waiting.words _ refl

  to_face : (i k : ℕ)
      → i
      ≡ length s.symbols
      + (length s.arguments + (length s.names + (length s.waiting.words + (length s.stuck.words + k))))
      → drop i parts ≡ drop k s.face.words
  to_face i k e = to_stuck i (length s.stuck.words + k) e ∙ past _ k s.stuck.words _ refl

-- A state from its parts.
built : (s : St) {a b c d e f : List ℕ} {l : ℕ} → a ≡ s.symbols → b ≡ s.arguments → c ≡ s.names → d ≡ s.waiting.words
    → e ≡ s.stuck.words → f ≡ s.face.words → l ≡ s.loops
    → st a b c (stack d s.waiting.used) (stack e s.stuck.used) (stack f s.face.used) l ≡ s
built s p q r t u v w = rw (p, q, r, t, u, v, w)

pub view_of_array : (s : St) → Sizes s → view (array_of s) ≡ s
unfolding view array_of seg
view_of_array s z =
    let loops : s.loops % 65536 + 65536 * (s.loops / 65536) ≡ s.loops = omega arith in
    built s p₁ p₂ p₃ p₄ p₅ p₆ loops
  where
    p₁ : take cells_max (drop symbols_at (array_of s)) ≡ s.symbols
    p₁ = first cells_max s.symbols _ z.symbols

    p₂ : take (arity_max * cells_max) (drop arguments_at (array_of s)) ≡ s.arguments
    p₂ =
        ap (take (arity_max * cells_max)) (to_arguments s (arguments_at - symbols_at) 0 (omega (arith, z.symbols)))
        ∙ first (arity_max * cells_max) s.arguments _ z.arguments

    p₃ : take names_max (drop names_at (array_of s)) ≡ s.names
    p₃ =
        ap (take names_max) (to_names s (names_at - symbols_at) 0 (omega (arith, z.symbols, z.arguments)))
        ∙ first names_max s.names _ z.names

    p₄ : take (2 * waiting_max) (drop waiting_at (array_of s)) ≡ s.waiting.words
    p₄ =
        ap (take (2 * waiting_max)) (to_waiting s (waiting_at - symbols_at) 0 (omega (arith, z.symbols, z.arguments, z.names)))
        ∙ first (2 * waiting_max) s.waiting.words _ z.waiting

    p₅ : take (2 * stuck_max) (drop stuck_at (array_of s)) ≡ s.stuck.words
    p₅ =
        ap (take (2 * stuck_max)) (to_stuck s (stuck_at - symbols_at) 0 (omega (arith, z.symbols, z.arguments, z.names, z.waiting)))
        ∙ first (2 * stuck_max) s.stuck.words _ z.stuck

    p₆ : take face_max (drop face_at (array_of s)) ≡ s.face.words
    p₆ =
        ap (take face_max) (to_face s (face_at - symbols_at) 0 (omega (arith, z.symbols, z.arguments, z.names, z.waiting, z.stuck)))
        ∙ all_of face_max s.face.words z.face
