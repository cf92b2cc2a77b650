-- The test of a table is equal to its soundness.
use Rattle.std.specs.Prelude.{suc, ◌+◌, ◌≤◌, ◌≡◌, refl, true, false, ◌&&◌, ◌||◌, ◌↔◌, length, ltb, leb}
use Rattle.std.proofs.Math.Path.{sym, ap}
use Rattle.std.proofs.Common.{◌∙◌, arith, leb-true, le-ltb}
use Rattle.std.proofs.Math.Bool.{not}
use Rattle.std.proofs.Math.Logic.{⊎_elim}
use mathlib.Core.List.Memᴰ
use mathlib.Core.List.{List, [], ◌∷◌, ◌++◌, map, map-append, append_assoc, append-nil}
use Rattle.std.proofs.Math.ListN.{length-append}
use Rattle.std.proofs.lemmas.Bool.{not-true}
use Rattle.parts.specs.Limits.{identifier_max, symbols_max, arity_max, rules_max}
use Rattle.texts.specs.Bytes.{any, In}
use Rattle.texts.specs.Terms.{symbol}
use Rattle.texts.specs.Books.{Agent, Rule, Book, Record, is_agent, is_rule, add, records_of, declared, head_of}
use Rattle.texts.specs.RuleText.{is_too_long, big_record, big_book, fault5, fault6, fault7, fault8, fault9, fault10, ruleless}
use Rattle.model.specs.Table.{Entry}
use Rattle.texts.specs.Coded.{symbol_of, template, Table, table_of}
use Rattle.texts.proofs.Beneath.Tools.{both, none_of, cons-eq}
use Rattle.texts.proofs.Beneath.BookSound.{sound_table_lem}
use Rattle.texts.proofs.Beneath.PairTable.{pair-table}
use Rattle.texts.specs.TableTest.{pair_test, agent_ok, test_agents, test_template, test_templates, test_table}
use Rattle.texts.proofs.Beneath.Forward.{table_pass}
use Rattle.texts.proofs.Beneath.Backward.{rule, template_back}
use Rattle.texts.proofs.Beneath.Faultless.{no_7, no_8, no_10, no_big, spelt, sound-rule}
use Rattle.texts.specs.Good.{Good, GoodFrom, GoodBook, Spelt, Placed, SoundTable}
use Rattle.texts.specs.RuleSound.{SoundRule}

-- A sound table passes.
pub sound-passes : (t : Table) → SoundTable t → test_table t ≡ true
sound-passes t s = let p = (sound_table_lem t).0 s in ap test_table (sym p.2) ∙ table_pass p.0 p.1

-- Rules.
module _ (ags : List Agent) (ha : test_agents [] ags ≡ true) (la : length ags ≤ symbols_max) where
  room : (qs : List Rule) (r : Rule) → suc (length qs) ≤ rules_max → big_book (add (record { agents = ags; rules = qs }) (is_rule r)) ≡ false
  unfolding big_book add
  room qs r h =
      none_of (ltb symbols_max (length ags)) (ltb rules_max (length (qs ++ (r ∷ [])))) (le-ltb symbols_max (length ags) la)
      (le-ltb rules_max (length (qs ++ (r ∷ []))) (let z = length-append qs (r ∷ []) in omega (arith, z, h)))

  firsts : (r : Rule) → ((template ags r).left ≡ symbol_of ags (head_of r.first)) × ((template ags r).right ≡ symbol_of ags (head_of r.second))
  unfolding template
  firsts r = (refl, refl)

  good-rule : (qs : List Rule) (t : Entry) (ht : test_template ags t ≡ true) → ((q : Rule) → In q qs → SoundRule ags q) → suc (length qs) ≤ rules_max
      → any (pair_test t.left t.right) (map (template ags) qs) ≡ false → Good (record { agents = ags; rules = qs }) (is_rule (rule ags t ha ht))
  unfolding fault5 fault6 fault9 Placed
  good-rule qs t ht h l n =
      let r : Rule = rule ags t ha ht in
      let s = sound-rule ags t ha ht in
      let e = template_back ags t ha ht in
      let z = firsts (rule ags t ha ht) in
      let x : symbol_of ags (head_of (rule ags t ha ht).first) ≡ t.left = sym z.0 ∙ ap (λ u. u.left) e in
      let y : symbol_of ags (head_of (rule ags t ha ht).second) ≡ t.right = sym z.1 ∙ ap (λ u. u.right) e in
      record {
        placed = tt;
        spelt = spelt ags t ha ht;
        no5 = none_of (big_record ags (is_rule (rule ags t ha ht))) _ (no_big ags t ha ht) (room qs (rule ags t ha ht) l);
        no6 = refl;
        no7 = no_7 ags t ha ht qs;
        no8 = no_8 ags t ha ht qs;
        no9 = sym (pair-table ags (rule ags t ha ht) qs s.named.first_agent s.named.second_agent h) ∙ (ap (λ i. any (pair_test i (symbol_of ags (head_of (rule ags t ha ht).second))) (map (template ags) qs)) x ∙ (ap (λ i. any (pair_test t.left i) (map (template ags) qs)) y ∙ n));
        no10 = no_10 ags t ha ht qs;
      }

  rules_back : (ts : List Entry) (qs : List Rule) → ((q : Rule) → In q qs → SoundRule ags q) → length qs + length ts ≤ rules_max
      → test_templates ags (map (template ags) qs) ts ≡ true → (rs : List Rule) × GoodFrom (record { agents = ags; rules = qs }) (map is_rule rs) × (map (template ags) rs ≡ ts)
  unfolding test_templates GoodFrom add
  rules_back [] qs h l k = ([], tt, refl)
  rules_back (t ∷ ts) qs h l k =
      let p = both (test_template ags t && not (any (pair_test t.left t.right) (map (template ags) qs))) _ k in
      let q = both (test_template ags t) (not (any (pair_test t.left t.right) (map (template ags) qs))) p.0 in
      let g = good-rule qs t q.0 h (omega (arith, l)) (not-true _ q.1) in
      let e = template_back ags t ha q.0 in
      let m : map (template ags) (qs ++ (rule ags t ha q.0 ∷ [])) ≡ map (template ags) qs ++ (t ∷ []) =
      map-append (template ags) qs (rule ags t ha q.0 ∷ []) ∙ ap (λ u. map (template ags) qs ++ (u ∷ [])) e in
      let ih = rules_back ts (qs ++ (rule ags t ha q.0 ∷ []))
      (λ v n. ⊎_elim (λ j. h v j) (λ j. ⊎_elim (λ z. rw z (sound-rule ags t ha q.0)) (λ o. absurd (Memᴰ.not-nil o)) (Memᴰ.cases_cons j)) (Memᴰ.append_cases qs n))
      (let z = length-append qs (rule ags t ha q.0 ∷ []) in omega (arith, z, l))
      (ap (λ u. test_templates ags u ts) m ∙ p.1) in
      (rule ags t ha q.0 ∷ ih.0, (g, ih.1), cons-eq e ih.2)

-- Agents.
good-agent : (seen : List Agent) (a : Agent) → agent_ok a ≡ true → declared seen a.symbol ≡ false → suc (length seen) ≤ symbols_max → Good (record { agents = seen; rules = [] }) (is_agent a)
unfolding agent_ok fault5 fault6 fault7 fault8 fault9 fault10 big_record big_book is_too_long add Placed Spelt ruleless
good-agent seen a h n l =
    let p = both (symbol a.symbol && leb (length a.symbol) identifier_max) (leb a.arity arity_max) h in
    let q = both (symbol a.symbol) (leb (length a.symbol) identifier_max) p.0 in
    record {
      placed = refl;
      spelt = q.0;
      no5 = none_of (ltb identifier_max (length a.symbol) || ltb arity_max a.arity) _
          (none_of (ltb identifier_max (length a.symbol)) (ltb arity_max a.arity) (le-ltb identifier_max (length a.symbol) (leb-true (length a.symbol) identifier_max q.1))
          (le-ltb arity_max a.arity (leb-true a.arity arity_max p.1)))
          (none_of (ltb symbols_max (length (seen ++ (a ∷ [])))) (ltb rules_max 0) (le-ltb symbols_max (length (seen ++ (a ∷ []))) (let z = length-append seen (a ∷ []) in omega (arith, z, l))) refl);
      no6 = n;
      no7 = refl;
      no8 = refl;
      no9 = refl;
      no10 = refl;
    }

agents_back : (bs seen : List Agent) (rs : List Record) → test_agents seen bs ≡ true → length seen + length bs ≤ symbols_max
    → GoodFrom (record { agents = seen ++ bs; rules = [] }) rs → GoodFrom (record { agents = seen; rules = [] }) (map is_agent bs ++ rs)
unfolding test_agents GoodFrom add
agents_back [] seen rs h l g = rw (append-nil seen) at g
agents_back (a ∷ bs) seen rs h l g =
    let p = both (agent_ok a && not (declared seen a.symbol)) _ h in
    let q = both (agent_ok a) (not (declared seen a.symbol)) p.0 in (
      good-agent seen a q.0 (not-true _ q.1) (omega (arith, l)),
      agents_back bs (seen ++ (a ∷ [])) rs p.1 (let z = length-append seen (a ∷ []) in omega (arith, z, l)) (rw (append_assoc seen (a ∷ []) bs) g),
    )

-- A table that passes is sound.
pub passes-sound : (t : Table) → test_table t ≡ true → (b : Book) × GoodBook b × (table_of b ≡ t)
unfolding test_table table_of GoodBook records_of
passes-sound t h =
    let p = both _ (test_templates t.agents [] t.rules) h in
    let q = both _ (test_agents [] t.agents) p.0 in
    let s = both (leb (length t.agents) symbols_max) (leb (length t.rules) rules_max) q.0 in
    let la : length t.agents ≤ symbols_max = leb-true (length t.agents) symbols_max s.0 in
    let lt : length t.rules ≤ rules_max = leb-true (length t.rules) rules_max s.1 in
    let r = rules_back t.agents q.1 la t.rules [] (λ v m. absurd (Memᴰ.not-nil m)) (omega (arith, lt)) p.1 in (
      record { agents = t.agents; rules = r.0 },
      agents_back t.agents [] (map is_rule r.0) q.1 (omega (arith, la)) r.1,
      ap (λ ts. record { agents = t.agents; rules = ts }) r.2,
    )

-- The test is soundness, both ways.
pub test_sound : (t : Table) → (test_table t ≡ true) ↔ SoundTable t
test_sound t = (λ h. (sound_table_lem t).1 (passes-sound t h), sound-passes t)
