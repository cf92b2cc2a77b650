-- One law for each way out of the printer of sides and cells, and why each call that it makes is allowed.
use Rattle.std.proofs.Common.{◌≡◌, refl, sym, ap, ap₂, ◌∙◌, subst, List, [], ◌∷◌, map, ℕ, zero, suc, ◌+◌, ◌*◌, ◌-◌, ◌<◌, ◌≤◌, add-one, arith, length, get_or, take, drop, length-take, length-drop, drop-cons, length-take-le}
use Rattle.std.proofs.Math.Logic.{∥∥₁_elim}
use lib.ListN.{length-map}
use mir.Syntax.{w64}
use mir.Val.{Fits as FitsIn}
use Rattle.parts.specs.Limits.{arity_max, cells_max}
use Rattle.parts.specs.Sides.{Side, name, cell, side}
use Rattle.parts.specs.declared.NameNo.{NameNo}
use Rattle.parts.specs.declared.CellNo.{CellNo}
use Rattle.model.specs.State.{St}
use Rattle.model.specs.Sound.{Sizes, mem_of, width}
use Rattle.model.proofs.Beneath.Cellwork.{width_small}
use Rattle.model.specs.Ranges.{LiveSide}
use Rattle.table.specs.Layout.{agents_in}
use Rattle.state.specs.Layout.{view}
use Rattle.state.specs.Places.{size, words}
use Rattle.state.specs.declared.Part.{Part}
use Rattle.state.specs.declared.Part.TheVariants.{Symbols, Arguments, Names, Waiting, Stuck, Face}
use Rattle.sound.specs.Lent.{under}
use Rattle.lent.specs.Both.{BothSound, sound_table_lem, sound-state}
use Rattle.lent.specs.Decided.{decided}
use Rattle.answers.specs.Text.{numeral}
use Rattle.answers.specs.Printing.{Pen, Fits, Written, written, side_bytes, sides_bytes}
use Rattle.answers.proofs.PrintingLaws.{side-falls, sides_none, sides_more, next-below, side-kept}
use Rattle.printing.specs.Puts.{Puts, name_long}
use Rattle.printing.specs.Prints.{held, Prints, Stands, Ready, Leaf, span, Row, one_name, two_names, met_bytes, LiveMet, Looks, side_of, cell_of, sides_of}
use Rattle.printing.specs.declared.terms.Cursor.{Cursor}
use Rattle.printing.specs.declared.terms.Met.{Met}
use Rattle.printing.specs.declared.terms.Met.TheVariants.{Numbered, Bare, Joined, Cell}
use Rattle.printing.proofs.Stores.{puts_then}
use Rattle.printing.proofs.Pays.{spelling-short, side_pays}

-- What is printed is bytes stored, and a pen.
pub stored : {W : Written} {at : ℕ} {o : List ℕ} {r : Cursor} {ns o' : List ℕ} → Prints W at o r ns o'
    → Puts W.bytes at o r.at o'
stored h = record { place = h.place; bytes = h.bytes }

pub printed : {bs : List ℕ} {at : ℕ} {o : List ℕ} {o' : List ℕ} (r : Cursor) (ns : List ℕ) (P : Pen) → Puts bs at o r.at o'
    → held r ns ≡ P → Prints (written bs P) at o r ns o'
printed r ns P h e = record { place = h.place; bytes = h.bytes; after = e }

pub above : (n : ℕ) → ¬ (n ≡ 0) → n ≡ suc (n - 1)
above zero h = absurd (h refl)
above (suc n) h = omega arith

-- The next side of a part, and the rest.
part-long : (s : St) (p : Part) → Sizes s → length (words p s) ≡ size p
part-long s Symbols h = h.symbols
part-long s Arguments h = h.arguments
part-long s Names h = h.names
part-long s Waiting h = h.waiting
part-long s Stuck h = h.stuck
part-long s Face h = h.face

part_small : (p : Part) → size p ≤ arity_max * cells_max
part_small Symbols = omega arith
part_small Arguments = omega arith
part_small Names = omega arith
part_small Waiting = omega arith
part_small Stuck = omega arith
part_small Face = omega arith

pub span_none : (l : List ℕ) (from n : ℕ) → n ≡ 0 → span l from n ≡ []
unfolding span
span_none l from n e = ap (λ n. map side (take n (drop from l))) e

pub span_more : (l : List ℕ) (from n : ℕ) → ¬ (n ≡ 0) → from < length l
    → span l from n ≡ side (get_or l from 0) ∷ span l (from + 1) (n - 1)
unfolding span
span_more l from zero h b = absurd (h refl)
span_more l from (suc n) h b =
    let z : suc n - 1 ≡ n = omega arith in
    ap (λ m. map side (take (suc n) m)) (drop-cons l from 0 b)
    ∙ ap₂ (λ a m. side (get_or l from 0) ∷ map side (take m (drop a l))) (sym (add-one from)) (sym z)

pub span-short : (l : List ℕ) (from n : ℕ) → length (span l from n) ≤ n
unfolding span
span-short l from n = omega (arith, length-map (take n (drop from l)) side, length-take n (drop from l))

pub span-long : (l : List ℕ) (from n : ℕ) → from + n ≤ length l → length (span l from n) ≡ n
unfolding span
span-long l from n h =
    length-map (take n (drop from l)) side ∙ length-take-le n (drop from l) (omega (arith, length-drop from l))

pub ready_less : (k : Cursor) (ns : List ℕ) (n : ℕ) → Ready k ns n → Ready k ns 0
ready_less k ns n R = record { fits = R.fits; room = omega (arith, R.room) }

-- That a table and a state are sound is decided, so the bare fact gives its witness.
pub sure : {w v : List ℕ} → ∥ BothSound w v ∥₁ → BothSound w v
sure {w} {v} h = go (decided w v)
  where
    go : Dec (BothSound w v) → BothSound w v
    go (yes b) = b
    go (no n) = absurd (∥∥₁_elim h (λ x y. absurd x) n)

module _ (w v : List ℕ) where
  abbrev s : St
  s = view v

  pub narrow : BothSound w v → (c : ℕ) → length (mem_of (under w) s c).args ≤ arity_max
  narrow h c =
      let n = width (under w).arities (get_or s.symbols c 0) in
      let l = drop (arity_max * c) s.arguments in
      omega (
        arith,
        width_small (under w).arities (sound_table_lem h).arities (get_or s.symbols c 0),
        length-map (take n l) side,
        length-take n l,
      )

  -- A side, by what it is met as.
  module _ (sound : ∥ BothSound w v ∥₁) (k : Cursor) (ns : List ℕ) (R : Ready k ns name_long) (word : ℕ) (m : Met) (L : Looks s ns (side word) m) where
    live : LiveMet s m
    live = L.live (under w) (sound_table_lem (sure sound)) (sound-state (sure sound))

    leaf : (x : ℕ) → LiveSide s (name x) → Leaf k x
    leaf x o = record { few = next-below (held k ns) R.fits; room = omega (arith, R.room); inside = o.0 }

    pub leaf_one : (x : NameNo) → m ≡ Bare x → Leaf k x.0
    leaf_one x e = leaf x.0 (subst (LiveMet s) e live)

    pub leaf_left : (x y : NameNo) → m ≡ Joined x y → Leaf k x.0
    leaf_left x y e = leaf x.0 (subst (LiveMet s) e live).0

    pub leaf_right : (x y : NameNo) → m ≡ Joined x y → Leaf k y.0
    leaf_right x y e = leaf y.0 (subst (LiveMet s) e live).1

    pub cell-live : (c : CellNo) → m ≡ Cell c → LiveSide s (cell c.0)
    cell-live c e = subst (LiveMet s) e live

    module _ (o o' ns' : List ℕ) (r : Cursor) where
      as_met : (n : Met) → m ≡ n → Prints (met_bytes (agents_in w) (under w) s n (held k ns)) k.at o r ns' o'
          → Prints (side_of w v word k ns) k.at o r ns' o'
      as_met n e h =
          subst
          (λ W. Prints W k.at o r ns' o')
          (sym (L.is (agents_in w) (under w) (held k ns) refl ∙ ap (λ n. met_bytes (agents_in w) (under w) s n (held k ns)) e))
          h

      pub side-numbered : (j : ℕ) → m ≡ Numbered j → ns' ≡ ns → Stands (numeral j) k o r o'
          → Prints (side_of w v word k ns) k.at o r ns' o'
      side-numbered j e q t =
          as_met (Numbered j) e (printed r ns' (held k ns) t.puts (ap (held r) q ∙ t.same ns))

      pub side_one : (x : NameNo) → m ≡ Bare x → Prints (one_name x.0 k ns) k.at o r ns' o'
          → Prints (side_of w v word k ns) k.at o r ns' o'
      unfolding one_name
      side_one x e h = as_met (Bare x) e h

      pub side_two : (x y : NameNo) → m ≡ Joined x y → Prints (two_names x.0 y.0 k ns) k.at o r ns' o'
          → Prints (side_of w v word k ns) k.at o r ns' o'
      unfolding two_names
      side_two x y e h = as_met (Joined x y) e h

      pub side_as_cell : (c : CellNo) → m ≡ Cell c → Prints (cell_of w v c.0 k ns) k.at o r ns' o'
          → Prints (side_of w v word k ns) k.at o r ns' o'
      side_as_cell c e h = as_met (Cell c) e h

  -- Some sides: none.
  pub sides_end : (k : Cursor) (ns o : List ℕ) (p : Part) (from n f g : ℕ) → n ≡ 0
      → Prints (sides_of w v f g (span (words p s) from n) k ns) k.at o k ns o
  sides_end k ns o p from n f g e =
      subst
      (λ W. Prints W k.at o k ns o)
      (sym (ap (λ ts. sides_of w v f g ts k ns) (span_none (words p s) from n e) ∙ sides_none (agents_in w) (under w) s f g (held k ns)))
      (record { place = omega arith; bytes = refl; after = refl })

  -- One and the rest.
  module _ (sound : ∥ BothSound w v ∥₁) (k : Cursor) (ns : List ℕ) (p : Part) (from n : ℕ) (R : Ready k ns ((1 + name_long) * n))
      (Q : Row s p from n) (some : ¬ (n ≡ 0)) where
    inside : from < length (words p s)
    inside = omega (arith, part-long s p (sound-state (sure sound)).sizes, Q.fits)

    pub rest-row : Row s p (from + 1) (n - 1)
    rest-row =
        record {
          fits = omega (arith, above n some, Q.fits);
          live = λ i b.
              let z : from + (i + 1) ≡ from + 1 + i = omega arith in
              subst (λ j. LiveSide s (side (get_or (words p s) j 0))) z (Q.live (i + 1) (omega arith));
        }

    pub next_fits : FitsIn w64 (from + 1)
    next_fits = omega (arith, above n some, Q.fits, part_small p)

    module _ (word : ℕ) (read : word ≡ get_or (words p s) from 0) where
      pub first_live : LiveSide s (side word)
      first_live =
          let z : from + 0 ≡ from = omega arith in
          subst (λ u. LiveSide s (side u)) (ap (λ i. get_or (words p s) i 0) z ∙ sym read) (Q.live 0 (omega arith))

      module _ (f : ℕ) (o o₁ : List ℕ) (begun : Cursor) (t : Stands (f ∷ []) k o begun o₁) where
        before : begun.left ≡ k.left
        before = ap (λ P. P.left) (t.same ns)

        pub first_ready : Ready begun ns name_long
        first_ready =
            record {
              fits = subst Fits (sym (t.same ns)) R.fits;
              room = omega (arith, R.room, above n some, t.puts.place, before);
            }

        pub first_falls : (t : ℕ) → (3 + arity_max) * k.left + 2 + n ≡ t → (3 + arity_max) * begun.left + 1 < t
        first_falls t e = omega (arith, before)

        module _ (o₂ ns₁ : List ℕ) (r₁ : Cursor) (h : Prints (side_of w v word begun ns) begun.at o₁ r₁ ns₁ o₂) where
          pub rest-ready : Ready r₁ ns₁ ((1 + name_long) * (n - 1))
          rest-ready =
              record {
                fits =
                    subst
                    Fits
                    (sym h.after)
                    (side-kept (agents_in w) (sound_table_lem (sure sound)) (sound-state (sure sound)) (side word) first_live (held begun ns) first_ready.fits);
                room =
                    omega (
                      arith,
                      R.room,
                      above n some,
                      t.puts.place,
                      before,
                      h.place,
                      ap (λ P. P.left) h.after,
                      side_pays (agents_in w) (under w) s (spelling-short w) (narrow (sure sound)) (side word) (held begun ns),
                    );
              }

          pub rest-falls : (t : ℕ) → (3 + arity_max) * k.left + 2 + n ≡ t → (3 + arity_max) * r₁.left + 2 + (n - 1) < t
          rest-falls t e =
              omega (
                arith,
                above n some,
                before,
                ap (λ P. P.left) h.after,
                side-falls (agents_in w) (under w) s (side word) (held begun ns),
              )

          pub sides_way : (g : ℕ) (o₃ ns₂ : List ℕ) (r : Cursor)
              → Prints (sides_of w v g g (span (words p s) (from + 1) (n - 1)) r₁ ns₁) r₁.at o₂ r ns₂ o₃
              → Prints (sides_of w v f g (span (words p s) from n) k ns) k.at o r ns₂ o₃
          sides_way g o₃ ns₂ r h₂ =
              subst
              (λ W. Prints W k.at o r ns₂ o₃)
              (sym
              (ap (λ ts. sides_of w v f g ts k ns) (span_more (words p s) from n some inside ∙ ap (λ u. side u ∷ rest) (sym read))
              ∙ sides_more (agents_in w) (under w) s f g (side word) rest (held k ns)))
              (printed
              r
              ns₂
              (sides_bytes (agents_in w) (under w) s g g rest W₁.after).after
              (puts_then (puts_then t.puts (stored first)) (stored second))
              second.after)
            where
              rest : List Side
              rest = span (words p s) (from + 1) (n - 1)

              W₁ : Written
              W₁ = side_bytes (agents_in w) (under w) s (side word) (held k ns)

              first : Prints W₁ begun.at o₁ r₁ ns₁ o₂
              first =
                  subst (λ P. Prints (side_bytes (agents_in w) (under w) s (side word) P) begun.at o₁ r₁ ns₁ o₂) (t.same ns) h

              second : Prints (sides_bytes (agents_in w) (under w) s g g rest W₁.after) r₁.at o₂ r ns₂ o₃
              second =
                  subst (λ P. Prints (sides_bytes (agents_in w) (under w) s g g rest P) r₁.at o₂ r ns₂ o₃) first.after h₂
