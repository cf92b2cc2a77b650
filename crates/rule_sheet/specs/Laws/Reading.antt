-- What is on the sheet when a well-formed rule has been read, and the entry that its codes stand for.
use Rattle.std.specs.Prelude.{ℕ, suc, ◌+◌, ◌-◌, ◌*◌, ◌<◌, ◌≤◌, ◌≡◌, Bool, true, false, ◌&&◌, List, [], ◌∷◌, ◌++◌, map, get_or, take, drop}
use Rattle.std.proofs.Math.Path.{refl}
use Rattle.std.proofs.Common.{sym, ap, subst, ◌∙◌, append-nil, length-drop, drop_of_length-le, take_all}
use Rattle.std.proofs.Math.Bool.{not}
use native.Mathlib.Omega.{arith}
use Rattle.std.proofs.Math.ListN.{length, length-append, get_or-map}
use Rattle.std.proofs.lemmas.List.{length-map}
use Rattle.std.proofs.lemmas.List.Edits.{sets}
use Rattle.std.proofs.Math.Seq.{length-sets}
use Rattle.std.proofs.Math.Dec.{leb}
use Rattle.parts.specs.Limits.{identifier_max, arity_max, symbols_max, rule_equations_max}
use Rattle.parts.specs.Sides.{name, Pair, ◌:=◌, code}
use Rattle.texts.specs.Bytes.{Word, any, all, fields}
use Rattle.texts.specs.Terms.{nodes, words_of, worded, symbol}
use Rattle.texts.specs.Books.{Agent, Equation, Rule, declared, args_of, lefts, rights, sides, names_of, new_names_of}
use Rattle.texts.specs.Coded.{new_from, packed, twos, codes, cells_from, rule_number, template, unpaired}
use Rattle.texts.specs.RuleText.{big_node}
use Rattle.texts.specs.TableTest.{agent_ok}
use Rattle.texts.proofs.Beneath.Tools.{both, neither, any_append, all_mono}
use Rattle.texts.proofs.Beneath.Means.{spell-terms}
use Rattle.texts.proofs.Beneath.Places.{in_keep}
use Rattle.texts.specs.Linear.{words_in}
use Rattle.texts.proofs.Beneath.Linear.{words_all}
use Rattle.texts.specs.Templates.{Few}
use Rattle.texts.proofs.Beneath.Templates.{unpaired-twos, codes-even, template-cells, right_args}
use Rattle.texts.proofs.Beneath.Ranged.{first_arity, second-arity, codes_pass}
use Rattle.texts.proofs.Beneath.TableSound.{all_cells_ok}
use Rattle.scan.specs.Cutting.{field_start}
use Rattle.table.specs.declared.Rule.{Rule as Coded}
use Rattle.table.specs.Rule.{stands}
use Rattle.table.specs.Laws.Rows.{arity-small}
use Rattle.terms.specs.Sheet.{Sheet}
use Rattle.terms.specs.Meaning.{number, Holds, Stops, grown}
use Rattle.line_terms.specs.Fields.{ran, fields_by}
use Rattle.line_terms.specs.Meaning.{Parted, Written, Roomy, Read}
use Rattle.line_terms.specs.Main.{fields_read, parted_at}
use Rattle.coding.specs.Made.{Makeable, Made}
use Rattle.coding.specs.Laws.Stores.{sets_at}
use Rattle.coding.specs.Laws.Stands.{Small, made-stands}
use Rattle.rule_tests.specs.Laws.Parts.{right_terms}
use Rattle.rule_tests.specs.Laws.Five.{fields-count}
use Rattle.rule_tests.specs.Laws.Apart.{nodes-apart}
use Rattle.rule_sheet.specs.Lefts.{places}
use Rattle.rule_sheet.specs.Wellformed.{Wellformed}
use Rattle.rule_sheet.specs.Laws.Codes.{Agree, codes_same, cells_same}
use Rattle.rule_sheet.specs.Laws.Numbers.{begun, places-long, grown-are, number_is}

length-unpaired : (ps : List Pair) → length (unpaired ps) ≡ 2 * length ps
unfolding unpaired
length-unpaired [] = omega arith
length-unpaired ((s := t) ∷ ps) = omega (arith, length-unpaired ps)

twos-length : (ags : List Agent) (f : Word → ℕ) (es : List Equation) (m : ℕ) → length (twos (codes ags f m (packed (sides es)))) ≡ length es
unfolding twos codes packed sides
twos-length ags f [] m = refl
twos-length ags f (e ∷ es) m = ap suc (twos-length ags f es _)

module _ (l : List ℕ) (ags : List Agent) (r : Rule) (wf : Wellformed l ags r) where
  pub few : Few r
  few = record {
    first = omega (arith, first_arity ags r wf.sound, arity-small ags (template ags r).left wf.agents.good);
    second = omega (arith, second-arity ags r wf.sound, arity-small ags (template ags r).right wf.agents.good);
  }

  pub spelt : all worded (rights r) ≡ true
  spelt = (spell-terms wf.fields.right (rights r) wf.fields.terms).1

  -- The names that the sheet begins with.
  unfoldable pub start : List Word
  start = begun ags r wf.sound few spelt

  whole-line : take (length l - 0) (drop 0 l) ≡ l
  whole-line = take_all (length l - 0) l (omega arith)

  ends : Stops (drop (length l) l)
  unfolding Stops
  ends = let z : length l ≤ length l = omega arith in rw (drop_of_length-le l z) tt

  parted : Parted l (field_start l 2) (length l) (drop 2 (fields l))
  parted =
      let z : 0 + field_start l 2 ≡ field_start l 2 = omega arith in
      subst (λ n. Parted l n (length l) (drop 2 (fields l))) z
      (subst (λ k. Parted l (0 + field_start k 2) (length l) (drop 2 (fields k))) whole-line (parted_at l 0 (length l) (omega arith) (omega arith) 2))

  written : Written l (field_start l 2) (length l) (drop 2 (fields l)) (rights r)
  written = record { within = omega arith; stops = ends; parted = parted; terms = right_terms l r wf.fields }

  small_right : any big_node (nodes (rights r)) ≡ false
  small_right =
      (neither (any big_node (nodes (lefts r))) (any big_node (nodes (rights r)))
      (sym (any_append big_node (nodes (lefts r)) (nodes (rights r))) ∙ (ap (any big_node) (sym (nodes-apart (lefts r) (rights r))) ∙ wf.small))).1

  grown_start : grown start (names_of ags (rights r)) ≡ start ++ new_names_of ags r
  unfolding start
  grown_start = grown-are ags r wf.sound few spelt

  pub start_long : length start ≡ new_from
  unfolding start
  start_long = omega (arith, length-append (places (args_of r.first)) (places (args_of r.second)), places-long (args_of r.first), places-long (args_of r.second))

  pub names-long : length (start ++ new_names_of ags r) ≡ new_from + length (new_names_of ags r)
  names-long = omega (arith, length-append start (new_names_of ags r), start_long)

  arities-fit : all (λ a. leb a.arity arity_max) ags ≡ true
  unfolding agent_ok
  arities-fit = all_mono agent_ok (λ a. leb a.arity arity_max) (λ a h. (both (symbol a.symbol && leb (length a.symbol) identifier_max) (leb a.arity arity_max) h).1) ags wf.agents.good

  roomy : Roomy l ags 0 start (rights r)
  roomy = record {
    short = omega (arith, wf.short);
    arities = arities-fit;
    small = small_right;
    cells = omega (arith, wf.cells);
    names = omega (arith, ap length grown_start, names-long, wf.names);
  }

  fields-long : length (drop 2 (fields l)) ≡ 2 * length r.right
  fields-long = omega (arith, length-drop 2 (fields l), fields-count l r wf.fields)

  agree : Agree ags (number (start ++ new_names_of ags r)) (rule_number ags r) (words_in (packed (rights r)))
  unfolding Agree start names_of
  agree w m d = number_is ags r wf.sound few spelt w (in_keep (λ v. not (declared ags v)) w (words_of (nodes (rights r))) (rw (words_all (rights r)) m) (rw d))

  pub sides-are : unpaired (template ags r).body ≡ codes ags (rule_number ags r) 0 (packed (rights r))
  unfolding template rights
  sides-are = unpaired-twos (codes ags (rule_number ags r) 0 (packed (sides r.right))) (codes-even ags (rule_number ags r) r.right 0)

  cells_are : (template ags r).cells ≡ cells_from ags (rule_number ags r) 0 (packed (rights r))
  unfolding template
  cells_are = refl

  pub body-long : length (template ags r).body ≡ length r.right
  unfolding template rights
  body-long = twos-length ags (rule_number ags r) r.right 0

  fresh_is : (template ags r).fresh ≡ length (new_names_of ags r)
  unfolding template
  fresh_is = refl

  small-entry : Small ags (template ags r)
  small-entry = record {
    agents = wf.agents.few;
    good = wf.agents.good;
    fits = record {
      few = omega (arith, body-long, wf.equations);
      little = omega (arith, template-cells ags r (right_args ags r wf.sound), wf.cells);
      args = rw cells_are (all_cells_ok ags (rule_number ags r) (rights r) 0 (right_args ags r wf.sound));
    };
    fresh = omega (arith, fresh_is, wf.names);
    codes = codes_pass ags r wf.sound few;
  }

  -- The sheet and the codes after the right side was read.
  pub record Done (old new : List ℕ) (s : Sheet) : Type 0 where
    pub codes : new ≡ sets old 0 (map code (unpaired (template ags r).body))
    pub holds : Holds l s (template ags r).cells (start ++ new_names_of ags r)

  module _ (s s₁ : Sheet) (h : Holds l s [] start) (n from to : ℕ) (en : n ≡ length (fields l) - 2) (ef : from ≡ field_start l 2) (et : to ≡ length l)
      (a : Bool) (old new : List ℕ) (e : ran a s₁ new ≡ fields_by l ags to n 0 from s old) where
    count_is : n ≡ length (drop 2 (fields l))
    count_is = omega (arith, en, length-drop 2 (fields l))

    read : Read l ags old [] start (rights r) a s₁ new
    read = fields_read l ags (field_start l 2) (length l) (drop 2 (fields l)) (rights r) written s old [] start h roomy (rw (en_all) at e)
      where
        en_all : fields_by l ags to n 0 from s old ≡ fields_by l ags (length l) (length (drop 2 (fields l))) 0 (field_start l 2) s old
        en_all = rw (et, ef, count_is)

    pub read_done : Done old new s₁
    read_done =
        let t : a ≡ true = read.answer ∙ rw (right_args ags r wf.sound) in
        let z = read.left t [] in
        let w : grown start (names_of ags (rights r)) ++ [] ≡ start ++ new_names_of ags r = append-nil _ ∙ grown_start in
        let p : codes ags (number (grown start (names_of ags (rights r)) ++ [])) 0 (packed (rights r)) ≡ unpaired (template ags r).body =
        ap (λ W. codes ags (number W) 0 (packed (rights r))) w ∙ (codes_same ags _ (rule_number ags r) 0 (packed (rights r)) agree ∙ sym sides-are) in
        let q : cells_from ags (number (grown start (names_of ags (rights r)) ++ [])) 0 (packed (rights r)) ≡ (template ags r).cells =
        ap (λ W. cells_from ags (number W) 0 (packed (rights r))) w ∙ (cells_same ags _ (rule_number ags r) 0 (packed (rights r)) agree ∙ sym cells_are) in
        record {
          codes = z.codes ∙ ap (λ c. sets old 0 (map code c)) p;
          holds = subst (λ W. Holds l s₁ (template ags r).cells W) grown_start (subst (λ c. Holds l s₁ c (grown start (names_of ags (rights r)))) q z.holds);
        }

  module _ (old new : List ℕ) (s : Sheet) (d : Done old new s) (long : length old ≡ 2 * rule_equations_max) (n : ℕ) (en : n ≡ length (fields l) - 2) where
    sides-long : n ≡ length (unpaired (template ags r).body)
    sides-long = omega (arith, en, fields-count l r wf.fields, length-unpaired (template ags r).body, body-long)

    pub rule_makeable : (x y : ℕ) → x < symbols_max → y < symbols_max → Makeable x y n new s
    rule_makeable x y hx hy = record {
      left = hx;
      right = hy;
      few = omega (arith, en, fields-count l r wf.fields, wf.equations);
      there = omega (arith, en, fields-count l r wf.fields, wf.equations, ap length d.codes, length-sets old 0 (map code (unpaired (template ags r).body)), long);
      cells = omega (arith, d.holds.count, small-entry.fits.little);
      arguments = omega (arith, d.holds.names.count, names-long);
      names = omega (arith, d.holds.names.count, names-long, wf.names);
    }

    code_at : (i : ℕ) → i < n → get_or new i 0 ≡ code (get_or (unpaired (template ags r).body) i (name 0))
    code_at i h =
        let m : length (map code (unpaired (template ags r).body)) ≡ n = length-map (unpaired (template ags r).body) code ∙ sym sides-long in
        let z : 0 + i ≡ i = omega arith in
        ap (λ c. get_or c i 0) d.codes
        ∙ (ap (λ k. get_or (sets old 0 (map code (unpaired (template ags r).body))) k 0) (sym z)
        ∙ (sets_at old (map code (unpaired (template ags r).body)) 0 i
        (omega (arith, m, long, en, fields-count l r wf.fields, wf.equations)) (omega (arith, m))
        ∙ get_or-map code (unpaired (template ags r).body) i (name 0)))

    pub rule-stands : (c : Coded) → Made c (template ags r).left (template ags r).right n new s → stands ags c ≡ template ags r
    rule-stands c made =
        made-stands l ags (template ags r) small-entry s (start ++ new_names_of ags r) d.holds n new c made sides-long code_at
        (length-unpaired (template ags r).body) (names-long ∙ ap (λ k. new_from + k) (sym fresh_is))
