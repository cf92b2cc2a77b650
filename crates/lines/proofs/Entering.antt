-- One law for each way out of the functions that enter names, and what the loop over the words of a part keeps.
use Prim.Native.Nat.{ℕ, ◌-◌, ◌≤◌, ◌<◌}
use mathlib.Core.Path.{◌≡◌, sym, ap, ◌∙◌}
use mathlib.Core.Bool.{Bool, true, false, not, ◌&&◌}
use mathlib.Core.List.{List, [], ◌∷◌}
use native.Mathlib.Omega.{arith}
use lib.Dec.{ltb, leb}
use lib.ListN.{length, take, drop, length-take, length-drop, drop_of_length-le}
use lib.Seq.{take-take, length-take-le}
use mir.Syntax.{w16}
use mir.Val.{Fits}
use borrow.Author.Tests.{lt-ltb, le-ltb, ltb-true, ltb-false, leb-true, le-leb, lt-leb, not-true, not-false}
use Rattle.parts.specs.Limits.{text_max, identifier_max, net_names_max}
use Rattle.model.specs.Table.{Cell}
use Rattle.texts.specs.Bytes.{Word, any, index_of}
use Rattle.texts.specs.Books.{Agent, declared}
use Rattle.texts.specs.RuleText.{is_too_long}
use Rattle.texts.proofs.Beneath.Tools.{both, neither, never}
use Rattle.scan.specs.Words.{word_start, word_end, words_in}
use Rattle.scan.specs.Laws.Wording.{NextWord, no_word}
use Rattle.terms.specs.Sheet.{Sheet, entered}
use Rattle.terms.specs.Words.{entries}
use Rattle.terms.specs.Reader.{Done, done}
use Rattle.terms.specs.Meaning.{Holds, grown}
use Rattle.terms.proofs.Beneath.Numbers.{grown_longer}
use Rattle.lines.specs.Names.{between, kept, room_for, new_after, new_by, word_by, Ready, Within, Entered}
use Rattle.lines.specs.Laws.Names.{Taken, After, grown-done, word_after}
use Rattle.lines.specs.Laws.Parts.{drop-take}
use Rattle.lines.specs.Laws.Words.{words_none}
use Rattle.lines.proofs.Loops.{the_next}

-- room for a name
module _ (limit n at long : ℕ) where
  module _ {r : Bool} (e : r ≡ room_for limit n at long) (t : r ≡ true) where
    has_room : (n < limit) × (at < text_max) × (long ≤ identifier_max)
    unfolding room_for
    has_room =
        let p = both (ltb n limit && ltb at text_max) (leb long identifier_max) (sym e ∙ t) in
        let q = both (ltb n limit) (ltb at text_max) p.0 in
        (ltb-true _ _ q.0, ltb-true _ _ q.1, leb-true _ _ p.1)

    pub room-name : limit ≤ net_names_max → n < net_names_max
    room-name h = omega (arith, has_room.0)

    pub room-place : Fits w16 at
    room-place = omega (arith, has_room.1)

    pub room-length : Fits w16 long
    room-length = omega (arith, has_room.2)

-- a name
module _ (text : List ℕ) (limit at end n : ℕ) (s : Sheet) (count : n ≡ s.names) where
  by_count : new_by text limit at end s ≡ new_after text limit at end n s
  unfolding new_by
  by_count = ap (λ (m : ℕ). new_after text limit at end m s) (sym count)

  pub new_over : limit < n → done false s ≡ new_by text limit at end s
  unfolding new_after
  new_over h = rw (by_count, lt-ltb limit n h)

  module _ (within : n ≤ limit) (word : Word) (w : word ≡ take (end - at) (drop at text)) (k : ℕ)
      (at-k : k ≡ index_of word (entries text s.places n)) where
    pub new_old : k < n → done true s ≡ new_by text limit at end s
    unfolding new_after
    new_old h = rw (by_count, le-ltb limit n within, ← w, ← at-k, lt-ltb k n h)

    module _ (new : n ≤ k) {r : Bool} (fit : r ≡ room_for limit n at (end - at)) where
      pub new_none : r ≡ false → done r s ≡ new_by text limit at end s
      unfolding new_after
      new_none f = rw (by_count, le-ltb limit n within, ← w, ← at-k, le-ltb k n new, ← fit, f)

      pub new_new : r ≡ true → (s₁ : Sheet) → s₁ ≡ entered n at (end - at) s → done r s₁ ≡ new_by text limit at end s
      unfolding new_after
      new_new f s₁ p = rw (by_count, le-ltb limit n within, ← w, ← at-k, le-ltb k n new, ← fit, f, p)

-- a word
module _ (text : List ℕ) (ags : List Agent) (limit at end : ℕ) (s : Sheet) (word : Word)
    (w : word ≡ take (end - at) (drop at text)) (t : Bool) (is : t ≡ declared ags word) where
  pub word_agent : t ≡ true → done t s ≡ word_by text ags limit at end s
  unfolding word_by
  word_agent h = rw (← w, ← is, h)

  pub word-name : t ≡ false → {d : Done Bool} → d ≡ new_by text limit at end s → d ≡ word_by text ags limit at end s
  unfolding word_by
  word-name h q = q ∙ rw (← w, ← is, h)

-- The words before a place are entered: from the names on the sheet grow those that the whole part brings.
pub record Standing (text : List ℕ) (ags : List Agent) (limit : ℕ) (part rest : List ℕ) (s : Sheet)
    (cs : List Cell) (ws : List Word) : Type 0 where
  pub names : List Word
  pub holds : Holds text s cs names
  pub few : length names ≤ limit
  pub short : length text ≤ text_max
  pub small : any is_too_long (words_in rest) ≡ false
  pub grows : grown ws (kept ags (words_in part)) ≡ grown names (kept ags (words_in rest))

-- The words of the text before `to` are taken from `from` on; those before `at` are done.
pub record Entering (text : List ℕ) (ags : List Agent) (limit from to : ℕ) (words : List ℕ)
    (s₀ s : Sheet) (at : ℕ) : Type 0 where
  pub is : words ≡ take to text
  pub on : (cs : List Cell) (ws : List Word) → Ready text (between text from to) s₀ cs ws
      → Standing text ags limit (between text from to) (drop at words) s cs ws

module _ (text : List ℕ) (ags : List Agent) (limit from to : ℕ) where
  -- too many names before the first word
  pub entering_full : (n : ℕ) (s : Sheet) → n ≡ s.names → limit < n
      → Entered text ags limit (between text from to) false s s
  entering_full n s e h = record {
    means = λ cs ws r.
        let us = kept ags (words_in (between text from to)) in
        let c : n ≡ length ws = e ∙ r.holds.names.count in
        record {
          told = sym (lt-leb (length (grown ws us)) limit (omega (arith, grown_longer ws us)));
          holds = λ f. absurd (never f);
        };
  }

  pub entering_none : (words : List ℕ) (n : ℕ) (s : Sheet) → words ≡ take to (drop 0 text) → n ≡ s.names → n ≤ limit
      → Entering text ags limit from to words s s from
  entering_none words n s p e h =
      let z : drop from words ≡ between text from to = ap (drop from) p ∙ drop-take from to text in
      record {
        is = p;
        on = λ cs ws r. record {
          names = ws;
          holds = r.holds;
          few = omega (arith, e, h, r.holds.names.count);
          short = r.short;
          small = rw z r.small;
          grows = rw z;
        };
      }

  module _ (words : List ℕ) (s₀ s : Sheet) (at : ℕ) (g : Entering text ags limit from to words s₀ s at) where
    -- no word is left
    at_end : words_in (drop at words) ≡ [] → Entered text ags limit (between text from to) true s₀ s
    at_end z = record {
      means = λ cs ws r.
          let d = g.on cs ws r in
          let q : grown ws (kept ags (words_in (between text from to))) ≡ d.names =
          d.grows ∙ rw z (grown-done ags d.names) in
          record { told = rw q (sym (le-leb (length d.names) limit d.few)); holds = λ t. rw q d.holds };
    }

    pub entering_end : length words ≤ at → Entered text ags limit (between text from to) true s₀ s
    entering_end h = at_end (ap words_in (drop_of_length-le words h) ∙ words_none)

    module _ (b : ℕ) (eb : b ≡ word_start words at) where
      pub entering_last : at < length words → length words ≤ b → Entered text ags limit (between text from to) true s₀ s
      entering_last i h = at_end (no_word words at (omega arith) (rw eb at h))

      -- the next word
      module _ (more : b < length words) (e : ℕ) (ee : e ≡ word_end words b) where
        abbrev n : NextWord words at b e
        n = the_next words at b e eb more ee

        room : length words ≤ length text
        room = omega (arith, ap length g.is, length-take to text)

        word_is : take (e - b) (drop b words) ≡ between text b e
        word_is =
            let l : length words ≤ to = omega (arith, ap length g.is, length-take to text) in
            ap (λ (x : List ℕ). take (e - b) (drop b x)) g.is
            ∙ (rw (drop-take b to text) (take-take (e - b) (to - b) (drop b text) (omega (arith, n.within))))

        long_is : length (take (e - b) (drop b words)) ≡ e - b
        long_is = length-take-le (e - b) (drop b words) (omega (arith, n.within, length-drop b words))

        module _ (few : limit ≤ net_names_max) (cs : List Cell) (ws : List Word) (r : Ready text (between text from to) s₀ cs ws) where
          abbrev d : Standing text ags limit (between text from to) (drop at words) s cs ws
          d = g.on cs ws r

          small-both : (is_too_long (take (e - b) (drop b words)) ≡ false) × (any is_too_long (words_in (drop e words)) ≡ false)
          unfolding any
          small-both =
              neither (is_too_long (take (e - b) (drop b words))) (any is_too_long (words_in (drop e words))) (rw n.words at d.small)

          short : e - b ≤ identifier_max
          unfolding is_too_long
          short = omega (arith, ltb-false identifier_max (length (take (e - b) (drop b words))) small-both.0, long_is)

          after : After text ags limit cs d.names (between text b e) (word_by text ags limit b e s)
          after =
              word_after text ags limit few s cs d.names d.holds d.few b e (omega (arith, d.short, room, more)) short

          grows : grown ws (kept ags (words_in (between text from to)))
              ≡ grown d.names (kept ags (between text b e ∷ words_in (drop e words)))
          grows = d.grows ∙ ap (λ (us : List Word). grown d.names (kept ags us)) (n.words ∙ rw word_is)

          module _ {s₁ : Sheet} where
            stands : done true s₁ ≡ word_by text ags limit b e s
                → Standing text ags limit (between text from to) (drop e words) s₁ cs ws
            unfolding After
            stands q =
                let t : Taken text ags limit cs d.names (between text b e) s₁ = rw (← q) at after in
                record {
                  names = t.names;
                  holds = t.holds;
                  few = t.few;
                  short = d.short;
                  small = small-both.1;
                  grows = grows ∙ t.grows (words_in (drop e words));
                }

            passes : done false s₁ ≡ word_by text ags limit b e s
                → Within text limit false s₁ cs (grown ws (kept ags (words_in (between text from to))))
            unfolding After
            passes q =
                let t : (us : List Word) → limit < length (grown d.names (kept ags (between text b e ∷ us))) =
                rw (← q) at after in
                record {
                  told = rw grows (sym (lt-leb _ limit (t (words_in (drop e words)))));
                  holds = λ f. absurd (never f);
                }

        module _ (few : limit ≤ net_names_max) (t : Bool) (s₁ : Sheet) (q : done t s₁ ≡ word_by text ags limit b e s) where
          pub entering_more : not t ≡ false → Entering text ags limit from to words s₀ s₁ e
          entering_more h = record { is = g.is; on = λ cs ws r. stands few cs ws r (rw (not-false t h) at q) }

          pub entering_stop : not t ≡ true → Entered text ags limit (between text from to) false s₀ s₁
          entering_stop h = record { means = λ cs ws r. passes few cs ws r (rw (not-true t h) at q) }
