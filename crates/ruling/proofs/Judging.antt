-- Each way out of the functions that judge a rule's line.
use Prim.Native.Nat.{ℕ, suc, ◌-◌, ◌<◌, ◌≤◌}
use mathlib.Core.Path.{◌≡◌, refl, sym, ap, ap₂, subst, ◌∙◌}
use mathlib.Core.Bool.{Bool, true, false, not}
use mathlib.Core.List.{List, [], ◌∷◌, ◌++◌, map}
use mathlib.Core.Option.{Option, none, some}
use native.Mathlib.Omega.{arith}
use lib.ListN.{length, take, drop, length-drop, drop_of_length-le}
use lib.Seq.{take_all}
use Rattle.std.specs.Prelude.{Result, Err}
use Rattle.parts.specs.Faults.{number_told}
use Rattle.parts.specs.declared.faults.Fault.{Fault}
use Rattle.parts.specs.Limits.{text_max, symbols_max}
use Rattle.coding.specs.Laws.Numbers.{fault_some}
use Rattle.texts.specs.Bytes.{Word, any, fields}
use Rattle.texts.specs.Terms.{Term, nodes}
use Rattle.texts.specs.Books.{Book, Rule, is_rule, add, head_of, lefts, rights}
use Rattle.texts.specs.Answers.{fine, refuse, ◌>>=◌}
use Rattle.texts.specs.RuleText.{big_node, terms_of, fault5, fault6, fault7, fault8, fault9, fault10, judged}
use Rattle.texts.specs.Coded.{Table, table_of, template, symbol_of}
use Rattle.texts.specs.Good.{GoodBook}
use Rattle.texts.specs.RuleSound.{SoundRule}
use Rattle.texts.proofs.Beneath.RuleSound.{faults_sound}
use Rattle.texts.specs.Reader.{term_of}
use Rattle.texts.proofs.Beneath.Tools.{never, found}
use Rattle.texts.proofs.Beneath.Agents.{agents-tested, symbol-number}
use Rattle.texts.proofs.Beneath.BookSound.{good-sound}
use Rattle.texts.proofs.Beneath.RuleMeans.{Sized, good-sized}
use Rattle.scan.specs.Cutting.{field_start}
use Rattle.table.specs.declared.Rule.{Rule as Coded}
use Rattle.table.specs.Layout.{agents_in, rules_in, equation_of, entry_of, bytes_of, table_bytes}
use Rattle.table.specs.Rule.{row, stands}
use Rattle.table.specs.Laws.Lists.{length-tab}
use Rattle.table.specs.Laws.Whole.{FitAgents, agents_back, rules_in_lem, tested-agents}
use Rattle.terms.specs.Agents.{agents_of}
use Rattle.terms.specs.Meaning.{Stops}
use Rattle.lines.specs.Laws.Fields.{fields-drop}
use Rattle.line_terms.specs.Arguments.{fields_argued}
use Rattle.line_terms.specs.Meaning.{Parted, Written}
use Rattle.line_terms.specs.Main.{fields_argued_lem}
use Rattle.coding.specs.Settled.{Putable, Ready, Settled}
use Rattle.rule_tests.specs.Fields.{Fields}
use Rattle.rule_tests.specs.Laws.Parts.{all_terms}
use Rattle.rule_tests.specs.Laws.Five.{five_none, terms-length}
use Rattle.rule_sheet.specs.Wellformed.{Wellformed}
use Rattle.rule_sheet.specs.Laws.Reading.{few, body-long}
use Rattle.ruling.specs.Judged.{Meant, Judged}
use Rattle.ruling.specs.Tested.{Stands, Clear, passed, Tested}

-- The numbers in rising order.
module _ (b : Book) (r : Rule) where
  no6 : fault6 b (is_rule r) ≡ false
  unfolding fault6
  no6 = refl

  five : fault5 b (is_rule r) ≡ true → Tested b r 5
  unfolding judged refuse
  five h = record { answer = rw h; clear = λ z. absurd (omega (arith, z)) }

  seven : fault5 b (is_rule r) ≡ false → fault7 b (is_rule r) ≡ true → Tested b r 7
  unfolding judged refuse
  seven h k = record { answer = rw (h, no6, k); clear = λ z. absurd (omega (arith, z)) }

  eight : fault5 b (is_rule r) ≡ false → fault7 b (is_rule r) ≡ false → fault8 b (is_rule r) ≡ true → Tested b r 8
  unfolding judged refuse
  eight h k j = record { answer = rw (h, no6, k, j); clear = λ z. absurd (omega (arith, z)) }

  none_given : fault5 b (is_rule r) ≡ false → fault7 b (is_rule r) ≡ false → fault8 b (is_rule r) ≡ false → Tested b r 0
  unfolding judged refuse
  none_given h k j = record { answer = rw (h, no6, k, j); clear = λ z. record { no5 = h; no7 = k; no8 = j } }

-- Number 7 on a whole part.
module _ (l : List ℕ) (r : Rule) (f : Fields l r) where
  whole-line : take (length l - 0) (drop 0 l) ≡ l
  whole-line = take_all (length l - 0) l (omega arith)

  ends : Stops (drop (length l) l)
  unfolding Stops
  ends = let z : length l ≤ length l = omega arith in rw (drop_of_length-le l z) tt

  parted : Parted l 0 (length l) (fields l)
  unfolding Parted
  parted = rw f.are (omega arith, ap fields whole-line ∙ f.are)

  written : Written l 0 (length l) (fields l) (lefts r ++ rights r)
  written = record { within = omega arith; stops = ends; parted = parted; terms = all_terms l r f }

  seven_is : (b : Book) (n to : ℕ) (t : Bool) → n ≡ length (fields l) → to ≡ length l → t ≡ fields_argued l b.agents to n 0
      → any big_node (nodes (lefts r ++ rights r)) ≡ false → t ≡ not (fault7 b (is_rule r))
  unfolding fault7
  seven_is b n to t en et e h =
      e ∙ (ap₂ (λ m k. fields_argued l b.agents m k 0) et en ∙ fields_argued_lem l b.agents 0 (length l) (fields l) (lefts r ++ rights r) written h)

not_true : (t : Bool) → true ≡ not t → t ≡ false
not_true true h = never (sym h)
not_true false h = refl

not_not : (t : Bool) → false ≡ not t → t ≡ true
not_not true h = refl
not_not false h = never h

-- The tests.
module _ (l : List ℕ) (a : List ℕ) (k : ℕ) (t : Bool)
    (et : (b : Book) (r : Rule) → agents_of a ≡ b.agents → length b.agents ≤ symbols_max → k ≡ length b.rules → Fields l r → t ≡ fault5 b (is_rule r)) where
  big_is : (b : Book) (r : Rule) → Stands b r l (agents_of a) k → t ≡ fault5 b (is_rule r)
  big_is b r s = et b r s.agents s.fit.few s.count s.fields

  pub tested-five : t ≡ true → (b : Book) (r : Rule) → Stands b r l (agents_of a) k → Tested b r 5
  tested-five h b r s = five b r (sym (big_is b r s) ∙ h)

  module _ (h : t ≡ false) (n to : ℕ) (en : n ≡ length (fields l)) (eto : to ≡ length l) (u : Bool) (eu : u ≡ fields_argued l (agents_of a) to n 0) where
    no5 : (b : Book) (r : Rule) → Stands b r l (agents_of a) k → fault5 b (is_rule r) ≡ false
    no5 b r s = sym (big_is b r s) ∙ h

    argued_is : (b : Book) (r : Rule) → Stands b r l (agents_of a) k → u ≡ not (fault7 b (is_rule r))
    argued_is b r s =
        seven_is l r s.fields b n to u en eto (eu ∙ ap (λ ags. fields_argued l ags to n 0) s.agents) (five_none b r (no5 b r s)).0

    pub tested-seven : u ≡ false → (b : Book) (r : Rule) → Stands b r l (agents_of a) k → Tested b r 7
    tested-seven e b r s = seven b r (no5 b r s) (not_not _ (sym e ∙ argued_is b r s))

    module _ (e : u ≡ true) (v : Bool) (ev : (b : Book) (r : Rule) → agents_of a ≡ b.agents → Fields l r → fault7 b (is_rule r) ≡ false → v ≡ fault8 b (is_rule r)) where
      no7 : (b : Book) (r : Rule) → Stands b r l (agents_of a) k → fault7 b (is_rule r) ≡ false
      no7 b r s = not_true _ (sym e ∙ argued_is b r s)

      ill_is : (b : Book) (r : Rule) → Stands b r l (agents_of a) k → v ≡ fault8 b (is_rule r)
      ill_is b r s = ev b r s.agents s.fields (no7 b r s)

      pub tested-eight : v ≡ true → (b : Book) (r : Rule) → Stands b r l (agents_of a) k → Tested b r 8
      tested-eight j b r s = eight b r (no5 b r s) (no7 b r s) (sym (ill_is b r s) ∙ j)

      pub tested_none : v ≡ false → (b : Book) (r : Rule) → Stands b r l (agents_of a) k → Tested b r 0
      tested_none j b r s = none_given b r (no5 b r s) (no7 b r s) (sym (ill_is b r s) ∙ j)

-- What a good book ensures.
fit-agents : (b : Book) → GoodBook b → FitAgents b.agents
unfolding Sized
fit-agents b g = record { few = (good-sized b g).0; good = tested-agents [] b.agents (agents-tested b g) }

lent : (b : Book) (w : List ℕ) → w ≡ table_bytes b → w ≡ bytes_of (table_of b)
unfolding table_bytes
lent b w e = e

table-agents : (b : Book) → (table_of b).agents ≡ b.agents
unfolding table_of
table-agents b = refl

rules-long : (b : Book) → length (table_of b).rules ≡ length b.rules
unfolding table_of
rules-long b = go b.rules
  where
    go : (rs : List Rule) → length (map (template b.agents) rs) ≡ length rs
    go [] = refl
    go (q ∷ rs) = ap suc (go rs)

-- The fields after the first.
pub record Two (fs : List Word) (s t : Term) (ts : List Term) : Type 0 where
  pub first : Word
  pub second : Word
  pub right : List Word
  pub are : fs ≡ first ∷ second ∷ right
  pub one : term_of first ≡ some s
  pub two : term_of second ≡ some t
  pub terms : terms_of right ≡ some ts

cons_in : {x y : Term} {xs ys : List Term} → some (x ∷ xs) ≡ some (y ∷ ys) → (x ≡ y) × (xs ≡ ys)
cons_in {x} {y} {xs} {ys} e =
    (ap (λ (o : Option (List Term)). elim o [ none ↦ x | some l ↦ elim l [ [] ↦ x | z ∷ zs ↦ z ] ]) e, ap (λ (o : Option (List Term)). elim o [ none ↦ xs | some l ↦ elim l [ [] ↦ xs | z ∷ zs ↦ zs ] ]) e)

one_more : (f : Word) (fs : List Word) (t : Term) (ts : List Term) → terms_of (f ∷ fs) ≡ some (t ∷ ts) → (term_of f ≡ some t) × (terms_of fs ≡ some ts)
unfolding terms_of
one_more f fs t ts h =
    let p = found (term_of f) (λ s. terms_of fs >>= λ us. some (s ∷ us)) h in
    let q = found (terms_of fs) (λ us. some (p.0 ∷ us)) p.2 in
    let c = cons_in q.2 in
    (p.1 ∙ ap some c.0, q.1 ∙ ap some c.1)

two_fields : (fs : List Word) (s t : Term) (ts : List Term) → terms_of fs ≡ some (s ∷ t ∷ ts) → Two fs s t ts
two_fields [] s t ts h = absurd (omega (arith, terms-length [] (s ∷ t ∷ ts) h))
two_fields (f ∷ []) s t ts h = absurd (omega (arith, terms-length (f ∷ []) (s ∷ t ∷ ts) h))
two_fields (f ∷ g ∷ gs) s t ts h =
    let p = one_more f (g ∷ gs) s (t ∷ ts) h in
    let q = one_more g gs t ts p.1 in
    record { first = f; second = g; right = gs; are = refl; one = p.0; two = q.0; terms = q.1 }

module _ (line w rest : List ℕ) (er : rest ≡ drop (field_start line 1) line) (b : Book) (r : Rule) (m : Meant b r line w) where
  some_terms : terms_of (drop 1 (fields line)) ≡ some (r.first ∷ r.second ∷ rights r)
  unfolding lefts
  some_terms = m.terms

  rest-fields : fields rest ≡ drop 1 (fields line)
  rest-fields =
      ap fields er
      ∙ sym (fields-drop line 1 (omega (arith, length-drop 1 (fields line), terms-length (drop 1 (fields line)) (r.first ∷ r.second ∷ rights r) some_terms)))

  in_rest : Fields rest r
  in_rest =
      let p = two_fields (drop 1 (fields line)) r.first r.second (rights r) some_terms in
      record { first = p.first; second = p.second; right = p.right; are = rest-fields ∙ p.are; one = p.one; two = p.two; terms = p.terms }

  rest-short : length rest < text_max
  rest-short = omega (arith, ap length er, length-drop (field_start line 1) line, m.short)

  fit : FitAgents b.agents
  fit = fit-agents b m.good

  bytes : w ≡ bytes_of (table_of b)
  bytes = lent b w m.table

  fit-table : FitAgents (table_of b).agents
  fit-table = subst FitAgents (sym (table-agents b)) fit

  count_is : rules_in w ≡ length b.rules
  count_is = ap rules_in bytes ∙ (rules_in_lem (table_of b) ∙ rules-long b)

  agents-are : (a : List ℕ) → ((t : Table) → w ≡ bytes_of t → FitAgents t.agents → agents_of a ≡ t.agents) → agents_of a ≡ b.agents
  agents-are a ea = ea (table_of b) bytes fit-table ∙ table-agents b

  stands-so : (a : List ℕ) → ((t : Table) → w ≡ bytes_of t → FitAgents t.agents → agents_of a ≡ t.agents) → (k : ℕ) → k ≡ rules_in w
      → Stands b r rest (agents_of a) k
  stands-so a ea k ek = record { fields = in_rest; short = rest-short; agents = agents-are a ea; fit = fit; count = ek ∙ count_is }

  module _ (c : Clear b r) where
    sound : SoundRule b.agents r
    sound = faults_sound b r c.no7 c.no8

    well : Wellformed rest b.agents r
    well =
        let p = five_none b r c.no5 in
        record { fields = in_rest; short = rest-short; agents = fit; sound = sound; small = p.0; equations = p.1; cells = p.2; names = p.3 }

    well_in : (a : List ℕ) → ((t : Table) → w ≡ bytes_of t → FitAgents t.agents → agents_of a ≡ t.agents) → Wellformed rest (agents_of a) r
    well_in a ea = subst (λ ags. Wellformed rest ags r) (sym (agents-are a ea)) well

    module _ (a : List ℕ) (ea : (t : Table) → w ≡ bytes_of t → FitAgents t.agents → agents_of a ≡ t.agents) (rule : Coded)
        (er' : (q : Rule) → Wellformed rest (agents_of a) q → stands (agents_of a) rule ≡ template (agents_of a) q) where
      coded_is : stands b.agents rule ≡ template b.agents r
      coded_is = subst (λ ags. stands ags rule ≡ template ags r) (agents-are a ea) (er' r (well_in a ea))

      symbols-are : (rule.left ≡ symbol_of b.agents (head_of r.first)) × (rule.right ≡ symbol_of b.agents (head_of r.second))
      unfolding stands entry_of template
      symbols-are = (ap (λ e. e.left) coded_is, ap (λ e. e.right) coded_is)

      equations-are : rule.equations ≡ length r.right
      unfolding stands entry_of
      equations-are =
          sym (length-tab rule.equations (equation_of (row rule))) ∙ (ap (λ e. length e.body) coded_is ∙ body-long rest b.agents r well)

      putable : Putable w rule
      putable =
          let p = five_none b r c.no5 in
          record {
            symbols = subst (λ n. n ≤ symbols_max) (sym (ap (λ v. length (agents_in v)) bytes ∙ (ap length (agents_back (table_of b) fit-table) ∙ ap length (table-agents b)))) fit.few;
            room = omega (arith, count_is, p.4);
            left = omega (arith, symbols-are.0, (symbol-number b.agents (head_of r.first) sound.named.first_agent).0, fit.few);
            right = omega (arith, symbols-are.1, (symbol-number b.agents (head_of r.second) sound.named.second_agent).0, fit.few);
            few = omega (arith, equations-are, p.1);
          }

      ready : Ready b r w rule
      ready = record {
        table = m.table;
        agents = fit;
        others = (good-sound b m.good).rules_sound;
        sound = sound;
        few = few rest b.agents r well;
        coded = coded_is;
      }

-- The line.
module _ (line w rest : List ℕ) (er : rest ≡ drop (field_start line 1) line) (a : List ℕ)
    (ea : (t : Table) → w ≡ bytes_of t → FitAgents t.agents → agents_of a ≡ t.agents) (k : ℕ) (ek : k ≡ rules_in w) (n : ℕ)
    (en : (b : Book) (r : Rule) → Stands b r rest (agents_of a) k → Tested b r n) where
  told : (b : Book) (r : Rule) → Meant b r line w → Tested b r n
  told b r m = en b r (stands-so line w rest er b r m a ea k ek)

  pub judged_early : (n ≡ 0 → ⊥) → (b : Book) (r : Rule) → Meant b r line w → Judged b r n w w
  judged_early h b r m = go n h (told b r m).answer
    where
      go : (i : ℕ) → (i ≡ 0 → ⊥) → judged b (is_rule r) ≡ passed i (refuse 9 (fault9 b (is_rule r)) (refuse 10 (fault10 b (is_rule r)) (fine (add b (is_rule r))))) → Judged b r i w w
      go ℕ.zero q e = absurd (q refl)
      go (ℕ.suc i) q e = record { answer = e; table = refl }

  pub judged_err : (t u : Result (Unit {0}) Fault) (f : Fault) → n ≡ number_told t → t ≡ Err f → u ≡ Err f
      → (b : Book) (r : Rule) → Meant b r line w → Judged b r (number_told u) w w
  judged_err t u f en et eu b r m =
      let z : n ≡ number_told u = en ∙ ap number_told (et ∙ sym eu) in
      let P : ℕ → Type 0 = λ i. Judged b r i w w in
      subst P z (judged_early (λ q. fault_some f (sym (en ∙ ap number_told et) ∙ q)) b r m)

  module _ (z : n ≡ 0) (a' : List ℕ) (ea' : (t : Table) → w ≡ bytes_of t → FitAgents t.agents → agents_of a' ≡ t.agents) where
    clear : (b : Book) (r : Rule) → Meant b r line w → Clear b r
    clear b r m = (told b r m).clear z

    pub coded_asks : ((b : Book) × (r : Rule) × Meant b r line w) → (r : Rule) × Wellformed rest (agents_of a') r
    coded_asks p = (p.1, well_in line w rest er p.0 p.1 p.2 (clear p.0 p.1 p.2) a' ea')

    module _ (rule : Coded) (er' : (q : Rule) → Wellformed rest (agents_of a') q → stands (agents_of a') rule ≡ template (agents_of a') q) where
      pub settle_asks : ((b : Book) × (r : Rule) × Meant b r line w) → Putable w rule
      settle_asks p = putable line w rest er p.0 p.1 p.2 (clear p.0 p.1 p.2) a' ea' rule er'

      pub judged_last : (i : ℕ) (v : List ℕ) → ((b : Book) (r : Rule) → Ready b r w rule → Settled b r i w v) → (b : Book) (r : Rule) → Meant b r line w → Judged b r i w v
      judged_last i v h b r m =
          let s = h b r (ready line w rest er b r m (clear b r m) a' ea' rule er') in
          record { answer = subst (λ j. judged b (is_rule r) ≡ passed j (refuse 9 (fault9 b (is_rule r)) (refuse 10 (fault10 b (is_rule r)) (fine (add b (is_rule r)))))) z (told b r m).answer ∙ s.answer; table = s.table }
