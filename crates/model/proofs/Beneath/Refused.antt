-- Why a step is made just where a row leads, and refused just where document 01 says.
use Rattle.std.specs.Prelude.{◌≡◌, ◌⊎◌, ℕ, ◌<◌}
use Rattle.std.proofs.Common.{sym, ◌∙◌, ap, subst, inl, inr, arith}
use Rattle.model.specs.State.{St}
use Rattle.model.specs.Table.{Table}
use Rattle.model.specs.Step.{Answer, moved, refused, place, taken_out, picked}
use Rattle.model.specs.Stepped.{stepped}
use Rattle.model.specs.Sound.{Sound}
use Rattle.model.specs.Rows.{NoRoom, Row}
use Rattle.model.proofs.Beneath.Tabled.{row-act, acts, row_or_not, roomless}

abbrev pub number : Answer → ℕ
number (moved s) = 0
number (refused n) = n

not_moved : {s : St} → moved s ≡ refused 13 → ⊥
not_moved e = let z : ◌≡◌ {A = ℕ} 0 13 = ap number e in omega arith

module _ {T : Table} {s : St} (h : Sound T s) (p : ℕ) (o : p < s.waiting.used) where
  pub row-moves : {s' : St} → Row T (taken_out (place s p) s) (picked s p) s' → stepped T s p ≡ moved s'
  row-moves r = acts T s p o ∙ row-act T (taken_out (place s p) s) h.joins r

  pub moves_by_row : {s' : St} → stepped T s p ≡ moved s' → Row T (taken_out (place s p) s) (picked s p) s'
  moves_by_row {s'} e = go (row_or_not T s p h o)
    where
      state : Answer → St
      state (moved t) = t
      state (refused n) = s

      go : ((t : St) × Row T (taken_out (place s p) s) (picked s p) t) ⊎ NoRoom T s (picked s p)
          → Row T (taken_out (place s p) s) (picked s p) s'
      go (inl (t, r)) = subst (Row T (taken_out (place s p) s) (picked s p)) (ap state (sym (row-moves r) ∙ e)) r
      go (inr n) = absurd (not_moved (sym e ∙ roomless T s p h o n))

  pub has_row : ¬ NoRoom T s (picked s p) → (s' : St) × Row T (taken_out (place s p) s) (picked s p) s'
  has_row n = go (row_or_not T s p h o)
    where
      go : ((t : St) × Row T (taken_out (place s p) s) (picked s p) t) ⊎ NoRoom T s (picked s p)
          → (t : St) × Row T (taken_out (place s p) s) (picked s p) t
      go (inl r) = r
      go (inr k) = absurd (n k)

  pub refusing : stepped T s p ≡ refused 13 → NoRoom T s (picked s p)
  refusing e = go (row_or_not T s p h o)
    where
      go : ((t : St) × Row T (taken_out (place s p) s) (picked s p) t) ⊎ NoRoom T s (picked s p)
          → NoRoom T s (picked s p)
      go (inl (t, r)) = absurd (not_moved (sym (row-moves r) ∙ e))
      go (inr k) = k
