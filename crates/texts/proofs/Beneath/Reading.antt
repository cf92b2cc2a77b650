-- Lines read one after another: up to the earliest bad one.
use Prim.Native.Nat.{ℕ, suc, ◌+◌}
use Rattle.std.proofs.Math.Path.{◌≡◌, refl, sym, ap}
use Rattle.std.proofs.Common.{◌∙◌}
use Rattle.std.specs.Prelude.{◌↔◌}
use mathlib.Core.List.{List, [], ◌∷◌, ◌++◌}
use native.Mathlib.Omega.{arith}
use Rattle.std.proofs.Math.ListN.{length}
use Rattle.texts.specs.Bytes.{Line}
use Rattle.texts.specs.Answers.{OfLine, fine, fault, OfText, accepted, refused, read_lines, after, after_line}
use Rattle.texts.proofs.Beneath.Stops.{Stops}
use Rattle.texts.proofs.Beneath.LineTests.{Reads}

module _ {S : Type 0} (step : S → Line → OfLine S) where
  wrong : {B : Type 0} {n k : ℕ} {s : S} → refused n k ≡ accepted s → B
  wrong h = absurd (let z : ◌≡◌ {A = ℕ} 0 1 = cc in omega arith)

  pub read-fine : (k : ℕ) (s c : S) (l : Line) (ls : List Line) → step s l ≡ fine c → read_lines step k s (l ∷ ls) ≡ read_lines step (suc k) c ls
  unfolding read_lines after_line
  read-fine k s c l ls h = rw h

  pub read-fault : (k n : ℕ) (s : S) (l : Line) (ls : List Line) → step s l ≡ fault n → read_lines step k s (l ∷ ls) ≡ refused n k
  unfolding read_lines after_line
  read-fault k n s l ls h = rw h

  to_reads : (ls : List Line) (k : ℕ) (s s' : S) → read_lines step k s ls ≡ accepted s' → Reads step s ls s'
  unfolding read_lines Reads
  to_reads [] k s s' h = cc
  to_reads (l ∷ ls) k s s' h = go (step s l) refl (λ c. to_reads ls (suc k) c s')
    where
      go : (r : OfLine S) → step s l ≡ r → ((c : S) → read_lines step (suc k) c ls ≡ accepted s' → Reads step c ls s')
          → (c : S) × (step s l ≡ fine c) × Reads step c ls s'
      go (fine c) e ih = (c, e, ih c (sym (read-fine k s c l ls e) ∙ h))
      go (fault n) e ih = wrong (sym (read-fault k n s l ls e) ∙ h)

  from-reads : (ls : List Line) (k : ℕ) (s s' : S) → Reads step s ls s' → read_lines step k s ls ≡ accepted s'
  unfolding read_lines Reads
  from-reads [] k s s' h = rw h
  from-reads (l ∷ ls) k s s' (c, e, h) = read-fine k s c l ls e ∙ from-reads ls (suc k) c s' h

  pub lines-accepted : (k : ℕ) (s : S) (ls : List Line) (s' : S) → (read_lines step k s ls ≡ accepted s') ↔ Reads step s ls s'
  lines-accepted k s ls s' = (to_reads ls k s s', from-reads ls k s s')

  stops_more : (s c : S) (l : Line) (ls : List Line) (n i : ℕ) → step s l ≡ fine c → Stops step c ls n i → Stops step s (l ∷ ls) n (suc i)
  unfolding Reads
  stops_more s c l ls n i e p = record {
    good = l ∷ p.good;
    bad = p.bad;
    rest = p.rest;
    before = p.before;
    parts = ap (λ (x : List Line). l ∷ x) p.parts;
    reads = (c, e, p.reads);
    faulty = p.faulty;
    place = ap suc p.place;
  }

  to_stops : (ls : List Line) (k : ℕ) (s : S) (n j : ℕ) → read_lines step k s ls ≡ refused n j → (i : ℕ) × (j ≡ k + i) × Stops step s ls n i
  unfolding read_lines Reads
  to_stops [] k s n j h = absurd (let z : ◌≡◌ {A = ℕ} 0 1 = cc in omega arith)
  to_stops (l ∷ ls) k s n j h = go (step s l) refl (λ c. to_stops ls (suc k) c n j)
    where
      go : (r : OfLine S) → step s l ≡ r → ((c : S) → read_lines step (suc k) c ls ≡ refused n j → (i : ℕ) × (j ≡ suc k + i) × Stops step c ls n i)
          → (i : ℕ) × (j ≡ k + i) × Stops step s (l ∷ ls) n i
      go (fine c) e ih =
          let p = ih c (sym (read-fine k s c l ls e) ∙ h) in
          (suc p.0, omega (arith, p.1), stops_more s c l ls n p.0 e p.2)
      go (fault m) e ih =
          let q : refused m k ≡ refused n j = sym (read-fault k m s l ls e) ∙ h in
          let a : m ≡ n = cc in
          let b : k ≡ j = cc in (
            0,
            omega arith,
            record {
              good = [];
              bad = l;
              rest = ls;
              before = s;
              parts = refl;
              reads = refl;
              faulty = e ∙ ap fault a;
              place = refl;
            },
          )

  go_stops : (good : List Line) (k : ℕ) (s before : S) (bad : Line) (rest : List Line) (n : ℕ)
      → Reads step s good before → step before bad ≡ fault n → read_lines step k s (good ++ (bad ∷ rest)) ≡ refused n (k + length good)
  unfolding Reads
  go_stops [] k s before bad rest n e h =
      let z : k + 0 ≡ k = omega arith in rw (z, e) (read-fault k n before bad rest h)
  go_stops (l ∷ good) k s before bad rest n (c, e, r) h =
      let z : k + suc (length good) ≡ suc k + length good = omega arith in
      read-fine k s c l (good ++ (bad ∷ rest)) e ∙ rw z (go_stops good (suc k) c before bad rest n r h)

  from-stops : (ls : List Line) (k : ℕ) (s : S) (n j : ℕ) → (i : ℕ) × (j ≡ k + i) × Stops step s ls n i → read_lines step k s ls ≡ refused n j
  from-stops ls k s n j (i, e, p) =
      rw (p.parts, e, p.place) (go_stops p.good k s p.before p.bad p.rest n p.reads p.faulty)

  pub lines-refused : (k : ℕ) (s : S) (ls : List Line) (n j : ℕ) → (read_lines step k s ls ≡ refused n j) ↔ ((i : ℕ) × (j ≡ k + i) × Stops step s ls n i)
  lines-refused k s ls n j = (to_stops ls k s n j, from-stops ls k s n j)

-- What follows.
module _ {A B : Type 0} where
  -- refused before, or after
  pub data After (r : OfText A) (f : A → OfText B) (n j : ℕ) : Type 0 where
    before : r ≡ refused n j → After r f n j
    behind : (a : A) → r ≡ accepted a → f a ≡ refused n j → After r f n j

  pub after_refused : (r : OfText A) (f : A → OfText B) (n j : ℕ) → (after r f ≡ refused n j) ↔ After r f n j
  unfolding after
  after_refused r f n j = (to r, from r)
    where
      to : (r : OfText A) → after r f ≡ refused n j → After r f n j
      to (accepted a) h = behind a refl h
      to (refused m k) h = before (let x : m ≡ n = cc in let y : k ≡ j = cc in rw (x, y))

      from : (r : OfText A) → After r f n j → after r f ≡ refused n j
      from r (before h) = rw h
      from r (behind a h k) = rw h k

  pub data AfterLine (i : ℕ) (r : OfLine A) (f : A → OfText B) (n j : ℕ) : Type 0 where
    here : r ≡ fault n → j ≡ i → AfterLine i r f n j
    later : (a : A) → r ≡ fine a → f a ≡ refused n j → AfterLine i r f n j

  pub line_refused : (i : ℕ) (r : OfLine A) (f : A → OfText B) (n j : ℕ) → (after_line i r f ≡ refused n j) ↔ AfterLine i r f n j
  unfolding after_line
  line_refused i r f n j = (to r, from r)
    where
      to : (r : OfLine A) → after_line i r f ≡ refused n j → AfterLine i r f n j
      to (fine a) h = later a refl h
      to (fault m) h = here (let x : m ≡ n = cc in rw x) (let y : i ≡ j = cc in sym y)

      from : (r : OfLine A) → AfterLine i r f n j → after_line i r f ≡ refused n j
      from r (here h e) = rw (h, e)
      from r (later a h k) = rw h k

  pub after_accepted : (r : OfText A) (f : A → OfText B) (b : B) → (after r f ≡ accepted b) ↔ ((a : A) × (r ≡ accepted a) × (f a ≡ accepted b))
  unfolding after
  after_accepted r f b = (to r, from)
    where
      to : (r : OfText A) → after r f ≡ accepted b → (a : A) × (r ≡ accepted a) × (f a ≡ accepted b)
      to (accepted a) h = (a, refl, h)
      to (refused m k) h = absurd (let z : ◌≡◌ {A = ℕ} 0 1 = cc in omega arith)

      from : (a : A) × (r ≡ accepted a) × (f a ≡ accepted b) → after r f ≡ accepted b
      from (a, h, k) = rw h k

  pub line-accepted : (i : ℕ) (r : OfLine A) (f : A → OfText B) (b : B) → (after_line i r f ≡ accepted b) ↔ ((a : A) × (r ≡ fine a) × (f a ≡ accepted b))
  unfolding after_line
  line-accepted i r f b = (to r, from)
    where
      to : (r : OfLine A) → after_line i r f ≡ accepted b → (a : A) × (r ≡ fine a) × (f a ≡ accepted b)
      to (fine a) h = (a, refl, h)
      to (fault m) h = absurd (let z : ◌≡◌ {A = ℕ} 0 1 = cc in omega arith)

      from : (a : A) × (r ≡ fine a) × (f a ≡ accepted b) → after_line i r f ≡ accepted b
      from (a, h, k) = rw h k
