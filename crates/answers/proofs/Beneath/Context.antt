-- A place in a sequence of terms: what is there may be replaced.
use Rattle.std.specs.Prelude.{◌≡◌, refl, List, [], ◌++◌, ℕ, ◌+◌, ◌<◌}
use Rattle.std.proofs.Common.{◌∙◌, ap, arith}
use Rattle.calculus.specs.Terms.{Sort, one, many, Tree, var, node, nil, cons, Term, Terms, names, δ, count, sub}
use Rattle.calculus.proofs.Beneath.Count.{sum-append, sub-fixed}

-- The whole; the arguments of an agent that is at a place; a term with terms after it; terms with a term before them.
pub data Place : Sort → Type 0 where
  top : Place many
  within : ℕ → Place one → Place many
  head : Terms → Place many → Place one
  tail : Term → Place many → Place many

abbrev pub plug : {s : Sort} → Place s → Tree s → Terms
plug top ts = ts
plug (within a c) ts = plug c (node a ts)
plug (head ts c) t = plug c (cons t ts)
plug (tail t c) ts = plug c (cons t ts)

-- The names around the place.
abbrev pub around_names : {s : Sort} → Place s → List ℕ
around_names top = []
around_names (within a c) = around_names c
around_names (head ts c) = names ts ++ around_names c
around_names (tail t c) = names t ++ around_names c

pub plug-count : (z : ℕ) {s : Sort} (c : Place s) (t : Tree s)
    → count z (names (plug c t)) ≡ count z (names t) + count z (around_names c)
plug-count z top t = omega arith
plug-count z (within a c) t = plug-count z c (node a t)
plug-count z (head ts c) t =
    omega (
      arith,
      plug-count z c (cons t ts),
      sum-append (δ z) (names t) (names ts),
      sum-append (δ z) (names ts) (around_names c),
    )
plug-count z (tail u c) t =
    omega (
      arith,
      plug-count z c (cons u t),
      sum-append (δ z) (names u) (names t),
      sum-append (δ z) (names u) (around_names c),
    )

-- What leaves the names around as they are changes the place only.
pub plug-sub : (σ : ℕ → Term) {s : Sort} (c : Place s) (t : Tree s)
    → ((z : ℕ) → 0 < count z (around_names c) → σ z ≡ var z) → sub σ (plug c t) ≡ plug c (sub σ t)
plug-sub σ top t h = refl
plug-sub σ (within a c) t h = plug-sub σ c (node a t) h
plug-sub σ (head ts c) t h =
    plug-sub σ c (cons t ts) (λ z k. h z (omega (arith, k, sum-append (δ z) (names ts) (around_names c))))
    ∙ ap
    (λ us. plug c (cons (sub σ t) us))
    (sub-fixed σ ts (λ z k. h z (omega (arith, k, sum-append (δ z) (names ts) (around_names c)))))
plug-sub σ (tail u c) t h =
    plug-sub σ c (cons u t) (λ z k. h z (omega (arith, k, sum-append (δ z) (names u) (around_names c))))
    ∙ ap
    (λ v. plug c (cons v (sub σ t)))
    (sub-fixed σ u (λ z k. h z (omega (arith, k, sum-append (δ z) (names u) (around_names c)))))

-- The place is inside an agent; and a tree whose names are all inside one, if those not inside an agent of its own are.
abbrev pub Inside : {s : Sort} → Place s → Type 0
Inside top = ⊥
Inside (within a c) = Unit {0}
Inside (head ts c) = Inside c
Inside (tail t c) = Inside c

abbrev pub Allowed : Type 0 → {s : Sort} → Tree s → Type 0
Allowed I (var x) = I
Allowed I (node a ts) = Unit {0}
Allowed I nil = Unit {0}
Allowed I (cons t ts) = Allowed I t × Allowed I ts

pub all_allowed : {s : Sort} (t : Tree s) → Allowed (Unit {0}) t
all_allowed (var x) = tt
all_allowed (node a ts) = tt
all_allowed nil = tt
all_allowed (cons t ts) = (all_allowed t, all_allowed ts)
