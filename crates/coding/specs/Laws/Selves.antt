-- Number 10 by the codes of a rule.
use Rattle.std.specs.Prelude.{ℕ, suc, ◌≡◌, Bool, ◌&&◌, ◌||◌, List, map, length, ltb}
use Rattle.std.proofs.Math.Path.{refl}
use Rattle.std.proofs.Common.{sym, ap, ◌∙◌, arith, eqb-true, lt-ltb}
use Rattle.std.proofs.Math.Bool.{true, false, not}
use Rattle.std.proofs.Math.Dec.{eqb, eqb-suc-zero}
use Rattle.texts.specs.Bytes.{any, all, same}
use Rattle.texts.specs.Books.{Agent, Book, is_rule, rights, head_of, args_of, cells_of, new_names_of}
use Rattle.texts.specs.Books as Books
use Rattle.texts.specs.RuleText.{Wire, fault10, one_sided, within, mirrored, wire_of}
use Rattle.texts.specs.Coded.{symbol_of, template, arity_at}
use Rattle.texts.specs.TableTest.{turns_to, is_two_sided}
use Rattle.texts.specs.RuleSound.{SoundRule}
use Rattle.texts.proofs.Beneath.Tools.{empty}
use Rattle.texts.specs.Templates.{Few}
use Rattle.texts.proofs.Beneath.Templates.{template-cells, right_args}
use Rattle.texts.proofs.Beneath.Ranged.{first_arity, second-arity}
use Rattle.texts.proofs.Beneath.PairTable.{symbol_same}
use Rattle.texts.proofs.Beneath.Selves.{codes_back, into_back}

-- Numbers that are 0 or not.
zero-ltb : (n : ℕ) → ltb 0 n ≡ not (eqb n 0)
zero-ltb ℕ.zero = refl
zero-ltb (ℕ.suc n) = rw (lt-ltb 0 (suc n) (omega arith), eqb-suc-zero n)

module _ (b : Book) (r : Books.Rule) (s : SoundRule b.agents r) (few : Few r) where
  abbrev ags : List Agent
  ags = b.agents

  parts : ((template ags r).left ≡ symbol_of ags (head_of r.first)) × ((template ags r).right ≡ symbol_of ags (head_of r.second))
      × ((template ags r).fresh ≡ length (new_names_of ags r))
  unfolding template
  parts = (refl, refl, refl)

  heads_same : eqb (template ags r).left (template ags r).right ≡ same (head_of r.first) (head_of r.second)
  heads_same = rw (parts.0, parts.1) (symbol_same ags (head_of r.first) (head_of r.second) s.named.first_agent s.named.second_agent)

  cells_same : length (template ags r).cells ≡ length (cells_of ags (rights r))
  cells_same = template-cells ags r (right_args ags r s)

  abbrev us : List Wire
  us = map wire_of r.right

  abbrev vs : List Wire
  vs = map (mirrored r) (map wire_of r.right)

  abbrev turns : Bool
  turns = all (λ e. any (turns_to e) (template ags r).body) (template ags r).body

  sided : (template ags r).left ≡ (template ags r).right → not (is_two_sided (template ags r)) ≡ one_sided ags r
  unfolding is_two_sided one_sided
  sided e =
      rw (cells_same, parts.2, zero-ltb (length (cells_of ags (rights r))), zero-ltb (length (new_names_of ags r)))
      (go (eqb (length (cells_of ags (rights r))) 0) (eqb (length (new_names_of ags r)) 0) refl refl)
    where
      and_self : (t u v : Bool) → t ≡ v → u ≡ v → not t ≡ not (u && v)
      and_self t u true h k = rw (h, k)
      and_self t u false h k = rw (h, k)

      go : (c n : Bool) → eqb (length (cells_of ags (rights r))) 0 ≡ c → eqb (length (new_names_of ags r)) 0 ≡ n
          → not (c && n && turns) ≡ (not c || not n || not (within us vs && within vs us))
      go false n hc hn = refl
      go true false hc hn = refl
      go true true hc hn =
          let no_cells = empty (cells_of ags (rights r)) (eqb-true _ 0 hc) in
          let no_new = empty (new_names_of ags r) (eqb-true _ 0 hn) in
          let even : length (args_of r.first) ≡ length (args_of r.second) =
          first_arity ags r s ∙ (ap (arity_at ags) e ∙ sym (second-arity ags r s)) in
          and_self turns (within us vs) (within vs us) (codes_back ags r s no_cells no_new few even) (into_back ags r s no_cells no_new few even)

  -- Number 10 is given exactly where the coded rule is of one symbol and not two-sided.
  pub self-fault : (eqb (template ags r).left (template ags r).right && not (is_two_sided (template ags r))) ≡ fault10 b (is_rule r)
  unfolding fault10
  self-fault = go (eqb (template ags r).left (template ags r).right) refl
    where
      go : (t : Bool) → eqb (template ags r).left (template ags r).right ≡ t
          → (t && not (is_two_sided (template ags r))) ≡ (same (head_of r.first) (head_of r.second) && one_sided ags r)
      go true h = rw (← heads_same, h) (sided (eqb-true _ _ h))
      go false h = rw (← heads_same, h)
