-- Each way out of the functions that read a rule onto a sheet.
use Prim.Native.Nat.{ℕ, ◌+◌, ◌-◌, ◌*◌, ◌≤◌}
use mathlib.Core.Path.{◌≡◌, refl, sym, ap, subst, ◌∙◌}
use mathlib.Core.Bool.{Bool, true}
use mathlib.Core.List.{List, [], ◌∷◌, ◌++◌}
use native.Mathlib.Omega.{arith}
use lib.ListN.{length, drop, replicate, length-replicate}
use Rattle.std.specs.Prelude as Prelude
use Rattle.std.specs.Prelude.{is_some}
use Rattle.std.specs.Option.{unwrap_or}
use Rattle.texts.proofs.Beneath.Tools.{never}
use Rattle.parts.specs.Limits.{arity_max, rule_equations_max, net_names_max}
use Rattle.parts.specs.declared.SymbolNo.{SymbolNo}
use Rattle.texts.specs.Bytes.{Word, fields}
use Rattle.texts.specs.Terms.{nodes, words_of}
use Rattle.texts.specs.Books.{Agent, Rule, declared, takes, head_of, args_of, rights}
use Rattle.texts.specs.Coded.{symbol_of, template}
use Rattle.scan.specs.Cutting.{field_start}
use Rattle.scan.specs.Words.{words_in}
use Rattle.scan.proofs.Beneath.Cutting.{start_le}
use Rattle.table.specs.declared.Rule.{Rule as Coded}
use Rattle.table.specs.Rule.{stands}
use Rattle.terms.specs.Agents.{agents_of}
use Rattle.terms.specs.Layout.{sheet_size}
use Rattle.terms.specs.Sheet.{Sheet, view}
use Rattle.terms.specs.Words.{found, known}
use Rattle.terms.specs.Meaning.{Holds}
use Rattle.terms.proofs.Main.{holds-nothing}
use Rattle.terms.proofs.Beneath.Numbers.{found-agent}
use Rattle.terms.proofs.Beneath.Heads.{found-small}
use Rattle.terms.specs.declared.words.Agent.{Agent as Known}
use Rattle.line_terms.specs.Fields.{ran, fields_by}
use Rattle.coding.specs.Made.{Makeable, Made}
use Rattle.rule_tests.specs.Laws.Five.{fields-count}
use Rattle.rule_sheet.specs.Lefts.{places, Entered}
use Rattle.rule_sheet.specs.Wellformed.{Wellformed}
use Rattle.rule_sheet.specs.Heads.{Blank, HeadIs, AgentIn, LeftsIn}
use Rattle.rule_sheet.specs.Laws.Heads.{first_words, second-words, first_takes, second-takes}
use Rattle.rule_sheet.specs.Laws.Reading.{start, Done, read_done, rule_makeable, rule-stands}
use Rattle.rule_sheet.specs.declared.whole.Heads.{Heads}

-- What was found, or a blank where nothing was.
abbrev blank_agent : Known
blank_agent = known 0 0

module _ (bytes : List ℕ) (w : Word) (f : Prelude.Option Known) (e : f ≡ found 0 (agents_of bytes) w) where
  pub head_is : (h : Known) → h ≡ unwrap_or f blank_agent → HeadIs (agents_of bytes) w h
  head_is h q = go f refl q
    where
      go : (o : Prelude.Option Known) → f ≡ o → h ≡ unwrap_or o blank_agent → HeadIs (agents_of bytes) w h
      go Prelude.None z k =
          let wrong : declared (agents_of bytes) w ≡ true → ⊥ =
          λ d. never (ap is_some (sym z ∙ (e ∙ found-agent (agents_of bytes) w 0 d))) in
          record { below = omega (arith, ap (λ (a : Known). a.symbol.0) k); symbol = λ d. absurd (wrong d); arity = λ d. absurd (wrong d) }
      go (Prelude.Some a) z k = record {
        below = omega (arith, found-small bytes w e z, ap (λ (b : Known). b.symbol.0) k);
        symbol = λ d.
            omega
            (arith, ap (λ (o : Prelude.Option Known). (unwrap_or o blank_agent).symbol.0) (sym z ∙ (e ∙ found-agent (agents_of bytes) w 0 d)), ap (λ (b : Known). b.symbol.0) k);
        arity = λ d.
            omega
            (arith, ap (λ (o : Prelude.Option Known). (unwrap_or o blank_agent).arity) (sym z ∙ (e ∙ found-agent (agents_of bytes) w 0 d)), ap (λ (b : Known). b.arity) k);
      }

-- One left agent.
pub agent_in : (l : List ℕ) (ags : List Agent) (at : ℕ) (v : Word) (h : Known) (p : ℕ) (s s₁ : Sheet)
    → ((w : Word) (ws : List Word) → at ≤ length l → words_in (drop at l) ≡ w ∷ ws → v ≡ w) → HeadIs ags v h
    → ((w : Word) (ws : List Word) → at ≤ length l → words_in (drop at l) ≡ w ∷ ws → (p ≤ length l) × (words_in (drop p l) ≡ ws))
    → (m : ℕ) → m ≡ h.arity → Entered l p m s s₁ → AgentIn l ags at s s₁ h.symbol.0
agent_in l ags at v h p s s₁ ev hv ep m em en = record {
  below = hv.below;
  count = en.count;
  meant = λ w vs more ws a t d n q hs.
      let z : v ≡ w = ev w (vs ++ more) a q in
      let dv : declared ags v ≡ true = ap (declared ags) z ∙ d in
      let k = ep w (vs ++ more) a q in (
        hv.symbol dv ∙ ap (symbol_of ags) z,
        en.holds [] ws vs more hs k.0 t k.1 (n ∙ sym (em ∙ (hv.arity dv ∙ ap (takes ags) z))),
      );
}

-- Both.
pub second-room : (l : List ℕ) (ags : List Agent) (s s₁ : Sheet) (x : ℕ) → AgentIn l ags 0 s s₁ x → s.names + 2 * arity_max ≤ net_names_max
    → s₁.names + arity_max ≤ net_names_max
second-room l ags s s₁ x a h = omega (arith, a.count)

pub lefts_in : (l : List ℕ) (ags : List Agent) (s s₁ s₂ : Sheet) (x y : SymbolNo) (at : ℕ) → AgentIn l ags 0 s s₁ x.0 → at ≡ field_start l 1
    → AgentIn l ags at s₁ s₂ y.0 → LeftsIn l ags s s₂ (record { left = x; right = y })
unfolding template
lefts_in l ags s s₁ s₂ x y at a e b = record {
  left_below = a.below;
  right_below = b.below;
  meant = λ r wf hs.
      let p = a.meant (head_of r.first) (args_of r.first) (words_of (nodes (r.second ∷ rights r))) [] (omega arith) wf.short wf.sound.named.first_agent
      (first_takes l ags r wf) (first_words l ags r wf) hs in
      let z : at ≤ length l = omega (arith, e, start_le l 1) in
      let w : words_in (drop at l) ≡ head_of r.second ∷ (args_of r.second ++ words_of (nodes (rights r))) = ap (λ n. words_in (drop n l)) e ∙ second-words l ags r wf in
      let q = b.meant (head_of r.second) (args_of r.second) (words_of (nodes (rights r))) (places (args_of r.first)) z wf.short wf.sound.named.second_agent
      (second-takes l ags r wf) w p.1 in
      (p.0, q.0, q.1);
}

-- A blank sheet.
pub blank_is : Blank (replicate sheet_size 0)
blank_is = record { long = length-replicate {A = ℕ} sheet_size 0; cells = refl; names = refl }

blank-names : (w : List ℕ) → Blank w → (view w).names ≡ 0
unfolding view
blank-names w b = b.names

pub blank-room : (w : List ℕ) → Blank w → (view w).names + 2 * arity_max ≤ net_names_max
blank-room w b = omega (arith, blank-names w b)

blank-holds : (l w : List ℕ) → Blank w → Holds l (view w) [] []
blank-holds l w b = holds-nothing l w b.long b.cells b.names

-- The whole rule.
module _ (l : List ℕ) (ags : List Agent) where
  pub some_fields : (r : Rule) × Wellformed l ags r → (m : ℕ) → m ≡ length (fields l) → 2 ≤ m
  some_fields p m e = omega (arith, e, fields-count l p.0 p.1.fields)

  pub some_room : (r : Rule) × Wellformed l ags r → (m to : ℕ) → m ≡ length (fields l) → to ≡ length l
      → (to ≤ length l) × (m - 2 ≤ 2 * rule_equations_max)
  some_room p m to e et = (omega (arith, et), omega (arith, e, fields-count l p.0 p.1.fields, p.1.equations))

  module _ (w : List ℕ) (blank : Blank w) (s s₁ : Sheet) (h : Heads) (hs : LeftsIn l ags (view w) s h) (m from to : ℕ) (em : m ≡ length (fields l)) (ef : from ≡ field_start l 2) (et : to ≡ length l)
      (a : Bool) (old new : List ℕ) (long : length old ≡ 2 * rule_equations_max) (e : ran a s₁ new ≡ fields_by l ags to (m - 2) 0 from s old) where
    count_is : m - 2 ≡ length (fields l) - 2
    count_is = ap (λ k. k - 2) em

    started : (r : Rule) (wf : Wellformed l ags r) → Holds l s [] (start l ags r wf)
    unfolding start
    started r wf = (hs.meant r wf (blank-holds l w blank)).2

    done : (r : Rule) (wf : Wellformed l ags r) → Done l ags r wf old new s₁
    done r wf = read_done l ags r wf s s₁ (started r wf) (m - 2) from to count_is ef et a old new e

    pub coded_asks : (r : Rule) × Wellformed l ags r → Makeable h.left.0 h.right.0 (m - 2) new s₁
    coded_asks p =
        rule_makeable l ags p.0 p.1 old new s₁ (done p.0 p.1) long (m - 2) count_is h.left.0 h.right.0 hs.left_below hs.right_below

    pub coded-stands : (c : Coded) → Made c h.left.0 h.right.0 (m - 2) new s₁ → (r : Rule) → Wellformed l ags r → stands ags c ≡ template ags r
    coded-stands c made r wf =
        let k = hs.meant r wf (blank-holds l w blank) in
        rule-stands l ags r wf old new s₁ (done r wf) long (m - 2) count_is c
        (subst (λ y. Made c (template ags r).left y (m - 2) new s₁) k.1 (subst (λ x. Made c x h.right.0 (m - 2) new s₁) k.0 made))
