-- One law for each way out of the printer of a cell, and why each call that it makes is allowed.
use Rattle.std.proofs.Common.{◌≡◌, refl, sym, ap, ap₂, ◌∙◌, subst, List, [], ◌∷◌, map, ℕ, zero, suc, ◌+◌, ◌*◌, ◌-◌, ◌<◌, ◌≤◌, pred, arith, length, get_or, take, drop}
use Rattle.parts.specs.Limits.{identifier_max, arity_max}
use Rattle.parts.specs.Sides.{Side, cell, side}
use Rattle.parts.specs.declared.CellNo.{CellNo}
use Rattle.model.specs.State.{St, used}
use Rattle.model.specs.Sound.{mem_of, width}
use Rattle.model.specs.Ranges.{LiveSide}
use Rattle.model.proofs.Beneath.Ranges.{argument_live}
use Rattle.table.specs.Layout.{agents_in}
use Rattle.state.specs.Layout.{view}
use Rattle.state.specs.declared.Part.TheVariants.{Arguments}
use Rattle.sound.specs.Lent.{under, Usable}
use Rattle.sound.proofs.Tables.{under-count}
use Rattle.lent.specs.Both.{BothSound, usable, sound_table_lem, sound-state}
use Rattle.answers.specs.Text.{spelling}
use Rattle.answers.specs.Printing.{pen, Written, around, close, sides_bytes}
use Rattle.answers.proofs.PrintingLaws.{cell_none, cell_some}
use Rattle.printing.specs.Puts.{Puts, far, letters, name_long}
use Rattle.printing.specs.Prints.{held, Prints, Stands, Begins, Begun, closing, Ready, span, Row, cell_of, sides_of}
use Rattle.printing.specs.declared.terms.Cursor.{Cursor}
use Rattle.printing.proofs.Stores.{puts_then}
use Rattle.printing.proofs.Pays.{spelling-short, spelling-letters, sides_pay}
use Rattle.printing.proofs.Ways.{stored, printed, span-short, span-long, narrow, above, sure}

pred_is : (n : ℕ) → pred n ≡ n - 1
pred_is zero = refl
pred_is (suc n) = omega arith

module _ (w v : List ℕ) (k : Cursor) (c : CellNo) where
  abbrev s : St
  s = view v

  pub cell_end : (ns o : List ℕ) → k.left ≡ 0 → Prints (cell_of w v c.0 k ns) k.at o k ns o
  cell_end ns o e =
      subst
      (λ W. Prints W k.at o k ns o)
      (sym (cell_none (agents_in w) (under w) s c.0 (held k ns) e))
      (record { place = omega arith; bytes = refl; after = refl })

  module _ (ns : List ℕ) (sound : ∥ BothSound w v ∥₁) (R : Ready k ns 0) (L : LiveSide s (cell c.0)) where
    pub table-usable : Usable w
    table-usable = usable (sure sound)

    module _ (word : ℕ) (read : word ≡ get_or s.symbols c.0 0) where
      declared : word ≤ length (agents_in w)
      declared = omega (arith, read, (sound-state (sure sound)).declared c.0, under-count w)

      spelt : spelling (agents_in w) (mem_of (under w) s c.0).symbol ≡ letters w (word - 1)
      spelt =
          ap (spelling (agents_in w)) (ap pred (sym read) ∙ pred_is word)
          ∙ spelling-letters w (word - 1) (omega (arith, declared, read, L.1))

      module _ (some : ¬ (k.left ≡ 0)) where
        pub may_begin : Begins k word
        may_begin =
            record {
              some = omega (arith, above k.left some);
              room = omega (arith, R.room, above k.left some);
              used = omega (arith, read, L.1);
              few = omega (arith, declared, table-usable.few);
            }

        module _ (n : ℕ) (wide : (n ≡ width (under w).arities word) × (n ≤ arity_max)) where
          width_is : n ≡ width (under w).arities (get_or s.symbols c.0 0)
          width_is = wide.0 ∙ ap (width (under w).arities) read

          pub args_row : Row s Arguments (arity_max * c.0) n
          args_row =
              record {
                fits = omega (arith, L.0, wide.1);
                live = λ j b.
                    argument_live (sound_table_lem (sure sound)) s (sound-state (sure sound)) c.0 j L.1 (subst (λ m. j < m) width_is b);
              }

          abbrev args : List Side
          args = span s.arguments (arity_max * c.0) n

          args_are : (mem_of (under w) s c.0).args ≡ args
          unfolding span
          args_are = ap (λ m. map side (take m (drop (arity_max * c.0) s.arguments))) (sym width_is)

          module _ (o o₁ : List ℕ) (inner : Cursor) (b : Begun w word k o inner o₁) where
            pub args_fall : (t : ℕ) → (3 + arity_max) * k.left ≡ t → (3 + arity_max) * inner.left + 2 + n < t
            args_fall t e = omega (arith, b.left, wide.1)

            low : inner.at ≤ k.at + identifier_max
            low =
                omega (
                  arith,
                  b.puts.place,
                  ap length spelt,
                  spelling-short w (mem_of (under w) s c.0).symbol,
                )

            pub args-ready : Ready inner ns ((1 + name_long) * n)
            args-ready =
                record {
                  fits = record { long = R.fits.long; few = subst (λ m. m ≤ used ns) (sym b.next) R.fits.few };
                  room =
                      omega (
                        arith,
                        R.room,
                        b.left,
                        low,
                        wide.1,
                      );
                }

            module _ (o₂ ns₁ : List ℕ) (r₁ : Cursor) (h : Prints (sides_of w v 40 44 args inner ns) inner.at o₁ r₁ ns₁ o₂) where
              abbrev W : Written
              W = sides_bytes (agents_in w) (under w) s 40 44 args (held inner ns)

              pub bracket_room : r₁.at + 1 ≤ far
              bracket_room =
                  omega (
                    arith,
                    R.room,
                    b.left,
                    low,
                    wide.1,
                    h.place,
                    span-short s.arguments (arity_max * c.0) n,
                    sides_pay (agents_in w) (under w) s (spelling-short w) (narrow w v (sure sound)) 40 44 args (held inner ns),
                  )

              pub cell_way : (o₃ : List ℕ) (r : Cursor) → Stands (closing n) r₁ o₂ r o₃
                  → Prints (cell_of w v c.0 k ns) k.at o r ns₁ o₃
              cell_way o₃ r u =
                  subst
                  (λ U. Prints U k.at o r ns₁ o₃)
                  (sym (cell_some (agents_in w) (under w) s c.0 (held k ns) inner.left b.left ∙ there))
                  (printed
                  r
                  ns₁
                  W.after
                  (puts_then
                  (subst (λ l. Puts l k.at o inner.at o₁) (sym spelt) b.puts)
                  (puts_then (stored h) (subst (λ l. Puts l r₁.at o₂ r.at o₃) (sym ends) u.puts)))
                  (u.same ns₁ ∙ h.after))
                where
                  there : around (agents_in w) (under w) s (mem_of (under w) s c.0).symbol (mem_of (under w) s c.0).args
                      (sides_bytes (agents_in w) (under w) s 40 44 (mem_of (under w) s c.0).args (pen k.next ns inner.left))
                      ≡ around (agents_in w) (under w) s (mem_of (under w) s c.0).symbol (mem_of (under w) s c.0).args W
                  there =
                      ap₂
                      (λ ts m. around (agents_in w) (under w) s (mem_of (under w) s c.0).symbol (mem_of (under w) s c.0).args
                      (sides_bytes (agents_in w) (under w) s 40 44 ts (pen m ns inner.left)))
                      args_are
                      (sym b.next)

                  go : (n : ℕ) (ts : List Side) → length ts ≡ n → close ts ≡ closing n
                  go zero [] e = refl
                  go zero (t ∷ ts) e = absurd (omega (arith, e))
                  go (suc n) [] e = absurd (omega (arith, e))
                  go (suc n) (t ∷ ts) e = refl

                  ends : close (mem_of (under w) s c.0).args ≡ closing n
                  ends = go n (mem_of (under w) s c.0).args (ap length args_are ∙ span-long s.arguments (arity_max * c.0) n (omega (arith, (sound-state (sure sound)).sizes.arguments, L.0, wide.1)))
