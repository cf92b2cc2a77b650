-- A sound state in the two parts that proofs handle: what a step on names leaves alone, and what is read.
use Rattle.std.specs.Prelude.{◌≡◌, refl, List, ℕ, suc, ◌*◌, ◌≤◌, length, get_or}
use Rattle.std.proofs.Common.{◌∙◌, arith}
use Rattle.parts.specs.Limits.{waiting_max, loops_max}
use Rattle.parts.specs.Sides.{Pair}
use Rattle.model.specs.State.{stack, St, st, with_names, with_waiting, with_loops, listed, Stack, pushed}
use Rattle.model.specs.Table.{Table}
use Rattle.model.specs.Step.{put}
use Rattle.model.specs.Sound.{Sizes, Zeros, AllHeld, Sound, pool, mem_of, sides, Mutual, live}
use Rattle.model.proofs.Beneath.Facts.{length-pushed, get_or-pushed}
use Rattle.model.proofs.Beneath.Pool.{Good}

pub record Framed (T : Table) (s : St) : Type 0 where
  pub sizes : Sizes s
  pub zeros : Zeros T s
  pub declared : (c : ℕ) → get_or s.symbols c 0 ≤ length T.arities
  pub stuck : AllHeld T.rules (mem_of T s) (listed s.stuck)

abbrev pub GoodState : Table → St → Type 0
GoodState T s = Good (mem_of T s) (live s.symbols) (sides s.face) (pool s) s.names

abbrev pub framed_of : {T : Table} {s : St} → Sound T s → Framed T s
framed_of h = record { sizes = h.sizes; zeros = h.zeros; declared = h.declared; stuck = h.stuck }

abbrev pub good_of : {T : Table} {s : St} → Sound T s → GoodState T s
good_of h =
    record {
      terms = h.reads.terms;
      eqs = h.reads.eqs;
      c₀ = h.reads.c₀;
      c₁ = h.reads.c₁;
      face_reads = h.reads.face_reads;
      pool_reads = h.reads.pool_reads;
      cells = h.once;
      twice = h.twice;
    }

abbrev pub sound_of : {T : Table} {s : St} → Framed T s → Mutual s.names → GoodState T s → Sound T s
sound_of f m g =
    record {
      reads = record { terms = g.terms; eqs = g.eqs; c₀ = g.c₀; c₁ = g.c₁; face_reads = g.face_reads; pool_reads = g.pool_reads };
      once = g.cells;
      zeros = f.zeros;
      declared = f.declared;
      twice = g.twice;
      joins = m;
      stuck = f.stuck;
      sizes = f.sizes;
    }

-- Other names, other equations waiting and another count of loops, each of its size.
reframe : {T : Table} {s : St} → Framed T s → (l : List ℕ) → length l ≡ length s.names → (w : Stack)
    → length w.words ≡ length s.waiting.words
    → w.used ≤ waiting_max → ((i : ℕ) → 2 * w.used ≤ i → get_or w.words i 0 ≡ 0) → (n : ℕ) → n ≤ loops_max
    → Framed T (st s.symbols s.arguments l w s.stuck s.face n)
reframe f l e w d h z n k =
    record {
      sizes =
          record {
            symbols = f.sizes.symbols;
            arguments = f.sizes.arguments;
            names = e ∙ f.sizes.names;
            waiting = d ∙ f.sizes.waiting;
            stuck = f.sizes.stuck;
            face = f.sizes.face;
            waits = h;
            stucks = f.sizes.stucks;
            faces = f.sizes.faces;
            loops = k;
          };
      zeros = record { arguments = f.zeros.arguments; waiting = z; stuck = f.zeros.stuck; face = f.zeros.face };
      declared = f.declared;
      stuck = f.stuck;
    }

pub frame-names : {T : Table} {s : St} → Framed T s → (l : List ℕ) → length l ≡ length s.names
    → Framed T (with_names l s)
frame-names {s = s} f l e = reframe f l e s.waiting refl f.sizes.waits f.zeros.waiting s.loops f.sizes.loops

pub frame-loops : {T : Table} {s : St} → Framed T s → (n : ℕ) → n ≤ loops_max → Framed T (with_loops n s)
frame-loops {s = s} f n h = reframe f s.names refl s.waiting refl f.sizes.waits f.zeros.waiting n h

pub frame-waiting : {T : Table} {s : St} → Framed T s → (n : ℕ) (l : List ℕ) → n ≤ waiting_max
    → length l ≡ length s.waiting.words
    → ((i : ℕ) → 2 * n ≤ i → get_or l i 0 ≡ 0) → Framed T (with_waiting (stack l n) s)
frame-waiting {s = s} f n l h e z = reframe f s.names refl (stack l n) e h z s.loops f.sizes.loops

pub frame_put : {T : Table} {s : St} → Framed T s → (p : Pair) → suc s.waiting.used ≤ waiting_max
    → Framed T (put p s)
frame_put {s = s} f p h =
    frame-waiting
    f
    (suc s.waiting.used)
    (pushed s.waiting.used p s.waiting.words)
    h
    (length-pushed s.waiting.used p s.waiting.words)
    (λ i k. get_or-pushed s.waiting.used p s.waiting.words i (λ e. omega arith) (λ e. omega arith) ∙ f.zeros.waiting i (omega arith))
