-- A right side of wires alone: its test by sides is its test by names.
use Rattle.std.specs.Prelude.{◌≡◌, Bool, ◌⊎◌, List, [], ◌∷◌, ◌++◌, map, length}
use Rattle.std.proofs.Math.Path.{refl}
use Rattle.std.proofs.Common.{sym, ◌∙◌, inl, inr, ⊎_elim}
use Rattle.std.proofs.Math.Bool.{true, false, not}
use mathlib.Core.List.Memᴰ
use Rattle.texts.specs.Bytes.{Word, any, all, among, In}
use Rattle.texts.specs.Terms.{Term, term, nodes, words_of}
use Rattle.texts.specs.Books.{Agent, Rule, Equation, declared, sides, rights, head_of, args_of, cells_of, names_of, new_names_of}
use Rattle.texts.specs.RuleText.{mirrored, wire_of, within}
use Rattle.parts.specs.Sides.{name, ◌:=◌}
use Rattle.texts.specs.Coded.{packed, rule_number, template}
use Rattle.texts.proofs.Beneath.Tools.{never}
use Rattle.texts.specs.Linear.{words, words_in}
use Rattle.texts.proofs.Beneath.Linear.{words_all}
use Rattle.texts.specs.TableTest.{turns_to}
use Rattle.texts.proofs.Beneath.Places.{in_keep}
use Rattle.texts.specs.Templates.{Few}
use Rattle.texts.proofs.Beneath.Ranged.{right_name}
use Rattle.texts.proofs.Beneath.Turning.{turned_is, equations-are}
use Rattle.texts.proofs.Beneath.Mirror.{Arg, Wired, back_is, into_is}
use Rattle.texts.specs.RuleSound.{SoundRule}

head_in : (t : Term) (ws : List Word) → In (head_of t) (words t ++ ws)
unfolding head_of words
head_in (term w ts) ws = Memᴰ.head refl

side_in : (e : Equation) (es : List Equation) → In e es → In (head_of e.left) (words_in (packed (sides es))) × In (head_of e.right) (words_in (packed (sides es)))
unfolding sides packed words
side_in e [] m = absurd (Memᴰ.not-nil m)
side_in e (d ∷ es) m = ⊎_elim here (λ k. let p = side_in e es k in (later p.0, later p.1)) (Memᴰ.cases_cons m)
  where
    later : {w : Word} → In w (words_in (packed (sides es))) → In w (words d.left ++ (words d.right ++ words_in (packed (sides es))))
    later k = Memᴰ.append_right (words d.left) (Memᴰ.append_right (words d.right) k)

    here : e ≡ d → In (head_of e.left) (words d.left ++ (words d.right ++ words_in (packed (sides es))))
        × In (head_of e.right) (words d.left ++ (words d.right ++ words_in (packed (sides es))))
    here q = rw q (head_in d.left _, Memᴰ.append_right (words d.left) (head_in d.right _))

module _ (ags : List Agent) (r : Rule) (s : SoundRule ags r) (no_cells : cells_of ags (rights r) ≡ []) (no_new : new_names_of ags r ≡ []) where
  undeclared : (w : Word) → In w (words_in (packed (rights r))) → declared ags w ≡ false
  unfolding cells_of
  undeclared w m = go (declared ags w) refl
    where
      go : (t : Bool) → declared ags w ≡ t → t ≡ false
      go true e = absurd (Memᴰ.not-nil (rw no_cells at (in_keep (declared ags) w (words_of (nodes (rights r))) (rw (words_all (rights r)) m) e)))
      go false e = refl

  is_name : (w : Word) → In w (words_in (packed (rights r))) → In w (names_of ags (rights r))
  unfolding names_of
  is_name w m = in_keep (λ v. not (declared ags v)) w (words_of (nodes (rights r))) (rw (words_all (rights r)) m) (rw (undeclared w m))

  none_new : (w : Word) → among w (new_names_of ags r) ≡ false
  unfolding among any
  none_new w = rw no_new

  is_arg : (w : Word) → In w (words_in (packed (rights r))) → Arg r w
  is_arg w m = go (among w (args_of r.first)) (among w (args_of r.second)) refl refl
    where
      go : (t u : Bool) → among w (args_of r.first) ≡ t → among w (args_of r.second) ≡ u → (t ≡ true) ⊎ (u ≡ true)
      go true u a b = inl refl
      go false true a b = inr refl
      go false false a b = never (sym (none_new w) ∙ right_name ags r s w (is_name w m) a b)

  sides_of : (e : Equation) → In e r.right → In (head_of e.left) (words_in (packed (rights r))) × In (head_of e.right) (words_in (packed (rights r)))
  unfolding rights
  sides_of e m = side_in e r.right m

  pub wired : (e : Equation) → In e r.right → Wired r e
  wired e m = let p = sides_of e m in (is_arg _ p.0, is_arg _ p.1)

  pub names-only : (e : Equation) → In e r.right → (declared ags (head_of e.left) ≡ false) × (declared ags (head_of e.right) ≡ false)
  names-only e m = let p = sides_of e m in (undeclared _ p.0, undeclared _ p.1)

  module _ (few : Few r) (even : length (args_of r.first) ≡ length (args_of r.second)) where
    equations : (template ags r).body ≡ map (λ e. name (rule_number ags r (head_of e.left)) := name (rule_number ags r (head_of e.right))) r.right
    unfolding template rights
    equations = equations-are ags r s few even r.right 0 names-only

    -- the three tests are one
    pub codes_back : all (λ e. any (turns_to e) (template ags r).body) (template ags r).body ≡ within (map (mirrored r) (map wire_of r.right)) (map wire_of r.right)
    codes_back = rw equations (turned_is ags r s few even r.right wired ∙ sym (back_is r s.named.distinct even r.right wired))

    pub into_back : within (map wire_of r.right) (map (mirrored r) (map wire_of r.right)) ≡ within (map (mirrored r) (map wire_of r.right)) (map wire_of r.right)
    into_back = into_is r s.named.distinct even r.right wired ∙ sym (back_is r s.named.distinct even r.right wired)
