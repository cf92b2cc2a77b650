-- Nets: configurations up to names, order and sides. Document 001, section 2.1: "Configurations that differ only on
-- names are considered equivalent."
use Rattle.std.specs.Prelude.{◌≡◌, map, ℕ}
use Rattle.calculus.specs.Terms.{Conf, occurs, ◌∼◌, sub, sub_eqn, ren}

-- A bijection of the names.
pub record Renaming : Type 0 where
  pub to : ℕ → ℕ
  pub from : ℕ → ℕ
  pub to_from : (x : ℕ) → to (from x) ≡ x
  pub from_to : (x : ℕ) → from (to x) ≡ x

-- Two configurations are one net: a bijection of the names carries one to the other, its equations up to order and
-- sides. Free names, those that occur once, stay as they are: they are how a net is tied to what is around it.
pub record ◌≈◌ (C D : Conf) : Type 0 where
  pub names_by : Renaming
  pub face : sub (ren names_by.to) C.face ≡ D.face
  pub eqs : map (sub_eqn (ren names_by.to)) C.eqs ∼ D.eqs
  pub free : (x : ℕ) → occurs x C ≡ 1 → names_by.to x ≡ x

infix 40 ◌≈◌
