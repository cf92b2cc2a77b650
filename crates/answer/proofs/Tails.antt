-- One law for each way out of the printer of lines, and why each call that it makes is allowed.
use Rattle.std.proofs.Common.{◌≡◌, refl, sym, ap, ap₂, ◌∙◌, subst, List, [], ◌∷◌, ◌++◌, map, ℕ, zero, suc, ◌+◌, ◌*◌, ◌-◌, ◌<◌, ◌≤◌, arith, length, get_or, take, length-append}
use mir.Syntax.{w16}
use mir.Val.{Fits as FitsIn}
use lib.Seq.{sets}
use Rattle.calculus.proofs.Beneath.Ended.{All}
use Rattle.parts.specs.Limits.{cells_max, names_max, face_max}
use Rattle.parts.specs.Sides.{Side, side}
use Rattle.model.specs.State.{St, used, unpack, zeros, listed}
use Rattle.model.specs.Sound.{Sizes, sides}
use Rattle.model.specs.Ranges.{LiveSide}
use Rattle.model.proofs.Beneath.Ranges.{face-live, stuck-live}
use Rattle.texts.specs.Bytes.{Word}
use Rattle.texts.specs.Books.{word_face, word_eq}
use Rattle.table.specs.Layout.{agents_in}
use Rattle.state.specs.Layout.{view}
use Rattle.state.specs.declared.Part.TheVariants.{Stuck, Face}
use Rattle.sound.specs.Lent.{under}
use Rattle.lent.specs.Both.{BothSound, sound_table_lem, sound-state}
use Rattle.answers.specs.Printing.{Pen, pen, Fits, Written, written, both, sides_bytes, line_bytes, pairs_bytes, first_pen, face_written, answer_written}
use Rattle.answers.proofs.PrintingLaws.{line_is, pairs_none, pairs_more, first_fits, sides-kept}
use Rattle.answers.proofs.Beneath.Live.{all_taken}
use Rattle.printing.specs.Puts.{Puts, far, name_long}
use Rattle.printing.specs.Prints.{held, Prints, Stands, dear, Ready, Row, span, sides_of}
use Rattle.printing.specs.declared.terms.Cursor.{Cursor}
use Rattle.printing.proofs.Stores.{puts_then}
use Rattle.printing.proofs.Pays.{spelling-short, sides_pay}
use Rattle.printing.proofs.Ways.{stored, printed, above, span_more, span_none, span-short, narrow, sure}
use Rattle.answer.specs.Lines.{tail_long, face_long, pair_long, tail_of, face_of, pair_of, pairs_of, First, Answers}

module _ (w v : List ℕ) where
  abbrev s : St
  s = view v

  -- The sides and the newline.
  module _ (sound : ∥ BothSound w v ∥₁) (k : Cursor) (ns : List ℕ) (n : ℕ) (R : Ready k ns (tail_long n)) where
    pub tail-ready : Ready k ns ((1 + name_long) * n)
    tail-ready = record { fits = R.fits; room = omega (arith, R.room) }

    pub tail-room : (l : List ℕ) (from : ℕ) (o o₁ ns₁ : List ℕ) (r : Cursor)
        → Prints (sides_of w v 9 9 (span l from n) k ns) k.at o r ns₁ o₁ → r.at + 1 ≤ far
    tail-room l from o o₁ ns₁ r h =
        omega (
          arith,
          R.room,
          h.place,
          span-short l from n,
          sides_pay (agents_in w) (under w) s (spelling-short w) (narrow w v (sure sound)) 9 9 (span l from n) (held k ns),
        )

  pub tail_way : (k r₁ r : Cursor) (ts : List Side) (ns ns₁ o o₁ o₂ : List ℕ)
      → Prints (sides_of w v 9 9 ts k ns) k.at o r₁ ns₁ o₁ → Stands (10 ∷ []) r₁ o₁ r o₂
      → Prints (tail_of w v ts k ns) k.at o r ns₁ o₂
  unfolding tail_of
  tail_way k r₁ r ts ns ns₁ o o₁ o₂ h t =
      printed r ns₁ (sides_of w v 9 9 ts k ns).after (puts_then (stored h) t.puts) (t.same ns₁ ∙ h.after)

  -- A word and the rest of its line.
  line_way : (x : Word) (ts : List Side) (k a r : Cursor) (ns ns₁ o o₁ o₂ : List ℕ) → Stands x k o a o₁
      → Prints (tail_of w v ts a ns) a.at o₁ r ns₁ o₂
      → Prints (line_bytes (agents_in w) (under w) s x ts (held k ns)) k.at o r ns₁ o₂
  unfolding tail_of
  line_way x ts k a r ns ns₁ o o₁ o₂ t h =
      subst
      (λ U. Prints U k.at o r ns₁ o₂)
      (sym (line_is (agents_in w) (under w) s x ts (held k ns)))
      (let h' : Prints (tail_of w v ts k ns) a.at o₁ r ns₁ o₂ =
      subst
      (λ P. Prints (written ((sides_bytes (agents_in w) (under w) s 9 9 ts P).bytes ++ (10 ∷ [])) (sides_bytes (agents_in w) (under w) s 9 9 ts P).after) a.at o₁ r ns₁ o₂)
      (t.same ns)
      h in
      printed r ns₁ (sides_bytes (agents_in w) (under w) s 9 9 ts (held k ns)).after (puts_then t.puts (stored h')) h'.after)

  -- How long a line is, and that the numbers fit after it.
  line_pays : BothSound w v → (x : Word) (ts : List Side) (P : Pen)
      → length (line_bytes (agents_in w) (under w) s x ts P).bytes + dear * (line_bytes (agents_in w) (under w) s x ts P).after.left
      ≤ length x + tail_long (length ts) + dear * P.left
  unfolding line_bytes
  line_pays h x ts P =
      let u = sides_bytes (agents_in w) (under w) s 9 9 ts P in
      omega (
        arith,
        sides_pay (agents_in w) (under w) s (spelling-short w) (narrow w v h) 9 9 ts P,
        length-append x (u.bytes ++ (10 ∷ [])),
        length-append u.bytes (10 ∷ []),
      )

  line-fits : BothSound w v → (x : Word) (ts : List Side) → All (LiveSide s) ts → (P : Pen) → Fits P
      → Fits (line_bytes (agents_in w) (under w) s x ts P).after
  unfolding line_bytes
  line-fits h x ts l P F = sides-kept (agents_in w) (sound_table_lem h) (sound-state h) 9 9 ts l P F

  after_line : ∥ BothSound w v ∥₁ → (x : Word) (ts : List Side) → All (LiveSide s) ts → (k r : Cursor) (ns ns₁ o o₁ : List ℕ) (m : ℕ)
      → Ready k ns (length x + tail_long (length ts) + m)
      → Prints (line_bytes (agents_in w) (under w) s x ts (held k ns)) k.at o r ns₁ o₁ → Ready r ns₁ m
  after_line sound x ts l k r ns ns₁ o o₁ m R h =
      record {
        fits = subst Fits (sym h.after) (line-fits (sure sound) x ts l (held k ns) R.fits);
        room = omega (arith, R.room, h.place, ap (λ P. P.left) h.after, line_pays (sure sound) x ts (held k ns));
      }

  -- The `face` line.
  module _ (sound : ∥ BothSound w v ∥₁) (k a : Cursor) (ns o o₁ : List ℕ) (R : Ready k ns face_long) (t : Stands word_face k o a o₁) (n : ℕ) (e : n ≡ s.face.used) where
    pub face-ready : Ready a ns (tail_long n)
    face-ready =
        record {
          fits = subst Fits (sym (t.same ns)) R.fits;
          room = omega (arith, R.room, t.puts.place, ap (λ P. P.left) (t.same ns), e, (sound-state (sure sound)).sizes.faces);
        }

    pub line_of_face : (r : Cursor) (ns₁ o₂ : List ℕ) → Prints (tail_of w v (span s.face.words 0 n) a ns) a.at o₁ r ns₁ o₂
        → Prints (face_of w v k ns) k.at o r ns₁ o₂
    unfolding span
    line_of_face r ns₁ o₂ h =
        line_way word_face (sides s.face) k a r ns ns₁ o o₁ o₂ t
        (subst (λ ts. Prints (tail_of w v ts a ns) a.at o₁ r ns₁ o₂) all_of h)
      where
        all_of : span s.face.words 0 n ≡ sides s.face
        all_of = ap (λ m. map side (take m s.face.words)) e

  pub face-row : ∥ BothSound w v ∥₁ → (n : ℕ) → n ≡ s.face.used → Row s Face 0 n
  face-row sound n e =
      record {
        fits = omega (arith, e, (sound-state (sure sound)).sizes.faces);
        live = λ i b.
            let z : 0 + i ≡ i = omega arith in
            subst (λ j. LiveSide s (side (get_or s.face.words j 0))) (sym z) (face-live (sound_table_lem (sure sound)) s (sound-state (sure sound)) i (omega (arith, b, e)));
      }

  -- A pair.
  pair_sides : (i : ℕ) → BothSound w v → i < s.stuck.used
      → span s.stuck.words (2 * i) 2 ≡ side (get_or s.stuck.words (2 * i) 0) ∷ side (get_or s.stuck.words (1 + 2 * i) 0) ∷ []
  pair_sides i h b =
      let l = s.stuck.words in
      let z : 2 * i + 1 ≡ 1 + 2 * i = omega arith in
      let q : 2 * i < length l = omega (arith, (sound-state h).sizes.stuck, (sound-state h).sizes.stucks) in
      let q₁ : 2 * i + 1 < length l = omega (arith, (sound-state h).sizes.stuck, (sound-state h).sizes.stucks) in
      span_more l (2 * i) 2 (λ e. omega (arith, e)) q
      ∙ (ap (λ m. side (get_or l (2 * i) 0) ∷ m) (span_more l (2 * i + 1) 1 (λ e. omega (arith, e)) q₁ ∙ ap (λ m. side (get_or l (2 * i + 1) 0) ∷ m) (span_none l (2 * i + 1 + 1) 0 refl))
      ∙ ap (λ j. side (get_or l (2 * i) 0) ∷ side (get_or l j 0) ∷ []) z)

  module _ (sound : ∥ BothSound w v ∥₁) (k a : Cursor) (ns o o₁ : List ℕ) (i : ℕ) (R : Ready k ns pair_long) (b : i < s.stuck.used) (t : Stands word_eq k o a o₁) where
    pub pair-ready : Ready a ns (tail_long 2)
    pair-ready =
        record {
          fits = subst Fits (sym (t.same ns)) R.fits;
          room = omega (arith, R.room, t.puts.place, ap (λ P. P.left) (t.same ns));
        }

    pub pair_line : (r : Cursor) (ns₁ o₂ : List ℕ) → Prints (tail_of w v (span s.stuck.words (2 * i) 2) a ns) a.at o₁ r ns₁ o₂
        → Prints (pair_of w v i k ns) k.at o r ns₁ o₂
    pair_line r ns₁ o₂ h =
        line_way word_eq _ k a r ns ns₁ o o₁ o₂ t
        (subst (λ ts. Prints (tail_of w v ts a ns) a.at o₁ r ns₁ o₂) (pair_sides i (sure sound) b) h)

  pub pair_row : (i : ℕ) → ∥ BothSound w v ∥₁ → i < s.stuck.used → Row s Stuck (2 * i) 2
  pair_row i sound h =
      record {
        fits = omega (arith, h, (sound-state (sure sound)).sizes.stucks);
        live = go;
      }
    where
      go : (j : ℕ) → j < 2 → LiveSide s (side (get_or s.stuck.words (2 * i + j) 0))
      go zero b =
          let z : 2 * i + 0 ≡ 2 * i = omega arith in
          subst (λ j. LiveSide s (side (get_or s.stuck.words j 0))) (sym z) (stuck-live (sound_table_lem (sure sound)) s (sound-state (sure sound)) i h).0
      go (suc zero) b =
          let z : 2 * i + 1 ≡ 1 + 2 * i = omega arith in
          subst (λ j. LiveSide s (side (get_or s.stuck.words j 0))) (sym z) (stuck-live (sound_table_lem (sure sound)) s (sound-state (sure sound)) i h).1
      go (suc (suc j)) b = absurd (omega (arith, b))

  -- All pairs.
  pub pairs_end : (k : Cursor) (ns o : List ℕ) (n : ℕ) → n ≡ 0 → Prints (pairs_of w v n k ns) k.at o k ns o
  pairs_end k ns o n e =
      subst
      (λ U. Prints U k.at o k ns o)
      (sym (ap (λ n. pairs_of w v n k ns) e ∙ pairs_none (agents_in w) (under w) s (held k ns)))
      (record { place = omega arith; bytes = refl; after = refl })

  module _ (sound : ∥ BothSound w v ∥₁) (k : Cursor) (ns : List ℕ) (n : ℕ) (R : Ready k ns (pair_long * n)) (q : n ≤ s.stuck.used) (some : ¬ (n ≡ 0)) where
    pub first_pair : Ready k ns pair_long
    first_pair = record { fits = R.fits; room = omega (arith, R.room, above n some) }

    pub first_there : n - 1 < s.stuck.used
    first_there = omega (arith, q, above n some)

    module _ (a : Cursor) (ns₁ o o₁ : List ℕ) (h : Prints (pair_of w v (n - 1) k ns) k.at o a ns₁ o₁) where
      pub rest-pairs : Ready a ns₁ (pair_long * (n - 1))
      rest-pairs =
          let l = stuck-live (sound_table_lem (sure sound)) s (sound-state (sure sound)) (n - 1) first_there in
          after_line sound word_eq _ (l.0, (l.1, tt)) k a ns ns₁ o o₁ (pair_long * (n - 1))
          (record { fits = R.fits; room = omega (arith, R.room, above n some) })
          h

      pub pairs_way : (r : Cursor) (ns₂ o₂ : List ℕ) → Prints (pairs_of w v (n - 1) a ns₁) a.at o₁ r ns₂ o₂
          → Prints (pairs_of w v n k ns) k.at o r ns₂ o₂
      pairs_way r ns₂ o₂ g =
          subst
          (λ U. Prints U k.at o r ns₂ o₂)
          (sym (ap (λ n. pairs_of w v n k ns) (above n some) ∙ pairs_more (agents_in w) (under w) s _ _ (unpack (n - 1) s.stuck.words) (held k ns)))
          (printed r ns₂ _ (puts_then (stored h) (stored g')) g'.after)
        where
          g' : Prints (pairs_bytes (agents_in w) (under w) s (unpack (n - 1) s.stuck.words) (pair_of w v (n - 1) k ns).after) a.at o₁ r ns₂ o₂
          g' = subst (λ P. Prints (pairs_bytes (agents_in w) (under w) s (unpack (n - 1) s.stuck.words) P) a.at o₁ r ns₂ o₂) h.after g

-- The cells in use are no more than there are.
used-few : (l : List ℕ) → used l ≤ length l
used-few [] = omega arith
used-few (v ∷ l) = omega (arith, used-few l)

pub cells_fit : (w v : List ℕ) (n : ℕ) → ∥ BothSound w v ∥₁ → n ≡ used (view v).symbols → FitsIn w16 n
cells_fit w v n sound e =
    omega (arith, e, used-few (view v).symbols, (sound-state (sure sound)).sizes.symbols)

pub cells-few : (s : St) (n : ℕ) → Sizes s → n ≡ used s.symbols → n ≤ cells_max
cells-few s n h e = omega (arith, e, used-few s.symbols, h.symbols)

-- The whole answer.
answers_by : (w v : List ℕ) (W : Written) → answer_written (agents_in w) (under w) (view v) ≡ W → (o o' : List ℕ) (r : Cursor)
    → Puts W.bytes 0 o r.at o' → r.left ≡ W.after.left → Answers w v o r o'
answers_by w v W e o o' r t q =
    record {
      place = omega (arith, t.place, ap (λ U. length U.bytes) e);
      bytes = t.bytes ∙ ap (λ U. sets o 0 U.bytes) (sym e);
      knot = q ∙ ap (λ U. U.after.left) (sym e);
    }

module _ (w v : List ℕ) where
  abbrev face_first : Written
  face_first =
      line_bytes (agents_in w) (under w) (view v) word_face (sides (view v).face) (first_pen (agents_in w) (under w) (view v))

  answer_is : answer_written (agents_in w) (under w) (view v)
      ≡ both face_first (pairs_bytes (agents_in w) (under w) (view v) (listed (view v).stuck) face_first.after)
  unfolding answer_written face_written
  answer_is = refl

module _ (w v : List ℕ) (sound : ∥ BothSound w v ∥₁) (k : Cursor) (f : First (view v) k) (ns : List ℕ) (z : ns ≡ zeros names_max) where
  begin_is : held k ns ≡ first_pen (agents_in w) (under w) (view v)
  unfolding first_pen
  begin_is =
      ap₂ (λ n m. pen n m k.left) f.next z ∙ ap (λ l. pen 0 (zeros names_max) l) f.left

  all_ready : Ready k ns (face_long + pair_long * (view v).stuck.used)
  all_ready =
      record {
        fits = subst Fits (sym begin_is) (first_fits (agents_in w) (under w) (view v));
        room =
            omega (
              arith,
              f.at,
              cells-few (view v) k.left (sound-state (sure sound)).sizes f.left,
              (sound-state (sure sound)).sizes.stucks,
            );
      }

  pub answer-ready : Ready k ns face_long
  answer-ready = record { fits = all_ready.fits; room = omega (arith, all_ready.room) }

  module _ (a : Cursor) (ns₁ o o₁ : List ℕ) (h : Prints (face_of w v k ns) k.at o a ns₁ o₁) (n : ℕ) (e : n ≡ (view v).stuck.used) where
    face_left : Ready a ns₁ (pair_long * (view v).stuck.used)
    unfolding span
    face_left =
        after_line w v sound word_face (sides (view v).face) live k a ns ns₁ o o₁ (pair_long * (view v).stuck.used)
        (record {
          fits = all_ready.fits;
          room =
              omega (
                arith,
                all_ready.room,
                face-few,
              );
        })
        h
      where
        live : All (LiveSide (view v)) (sides (view v).face)
        live = all_taken (LiveSide (view v)) (view v).face.used (view v).face.words (face-live (sound_table_lem (sure sound)) (view v) (sound-state (sure sound)))

        face-few : length (sides (view v).face) ≤ face_max
        face-few = omega (arith, span-short (view v).face.words 0 (view v).face.used, (sound-state (sure sound)).sizes.faces)

    pub pairs-ready : Ready a ns₁ (pair_long * n)
    pairs-ready = subst (λ m. Ready a ns₁ (pair_long * m)) (sym e) face_left

    pub answer_way : (r : Cursor) (ns₂ o₂ : List ℕ) → Prints (pairs_of w v n a ns₁) a.at o₁ r ns₂ o₂ → Answers w v o r o₂
    answer_way r ns₂ o₂ g =
        let W = both (face_first w v) (pairs_bytes (agents_in w) (under w) (view v) (listed (view v).stuck) (face_first w v).after) in
        answers_by w v W (answer_is w v) o o₂ r (puts_then (stored h₁) (stored g₁)) (ap (λ P. P.left) g₁.after)
      where
        h₁ : Prints (face_first w v) 0 o a ns₁ o₁
        h₁ =
            subst
            (λ m. Prints (face_first w v) m o a ns₁ o₁)
            f.at
            (subst (λ P. Prints (line_bytes (agents_in w) (under w) (view v) word_face (sides (view v).face) P) k.at o a ns₁ o₁) begin_is h)

        g₁ : Prints (pairs_bytes (agents_in w) (under w) (view v) (listed (view v).stuck) (face_first w v).after) a.at o₁ r ns₂ o₂
        g₁ =
            subst
            (λ P. Prints (pairs_bytes (agents_in w) (under w) (view v) (listed (view v).stuck) P) a.at o₁ r ns₂ o₂)
            h₁.after
            (subst (λ m. Prints (pairs_bytes (agents_in w) (under w) (view v) (unpack m (view v).stuck.words) (held a ns₁)) a.at o₁ r ns₂ o₂) e g)
