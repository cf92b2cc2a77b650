-- The least number by which a line of a rule text is wrong is that of the first of the reader's tests to hold.
use Rattle.std.specs.Prelude.{ℕ, zero, suc, ◌<◌, ◌≤◌, ◌≡◌, Bool, cond, not, ◌↔◌, List, ◌∷◌, get_or}
use Rattle.std.proofs.Math.Path.{refl, sym, ap}
use Rattle.std.proofs.Common.{◌∙◌}
use Rattle.std.proofs.Math.Bool.{true, false}
use Rattle.std.proofs.Math.Option.{Option, none, some}
use native.Mathlib.Omega.{arith}
use Rattle.std.proofs.lemmas.Bool.{not-true}
use Rattle.texts.specs.Bytes.{Word, Line, same, fields, number_of, decimal}
use Rattle.texts.specs.Terms.{spell}
use Rattle.texts.specs.Books.{Book, Record, is_agent, is_rule, sides, rights, write_record, word_rules}
use Rattle.texts.specs.Answers.{absent, holds, ◌>>=◌}
use Rattle.texts.specs.RuleText.{header_of, Shape, agent_shape, rule_shape, agent_fields, ruleless, shape_of, record_of, shape, meant, fault3, fault4, fault5, fault6, fault7, fault8, fault9, fault10}
use Rattle.texts.specs.Refused.{RulesSoFar, records, RuleFields, header, agent, rule, Stands, stands, RuleWrong, two, three, four, five, six, seven, eight, nine, ten}
use Rattle.texts.proofs.Beneath.Shapes.{shape_fields, Fits, shape_for}
use Rattle.texts.proofs.Beneath.Tools.{never, never', both, found}
use Rattle.texts.proofs.Beneath.Splitting.{line-fields, number_small}
use Rattle.texts.proofs.Beneath.Means.{header-absent, even-map, even-sides}
use Rattle.texts.proofs.Beneath.Shapes.{to_shape, from-shape, to_record, from_record, fault3-exact}
use Rattle.texts.proofs.Beneath.RuleMeans.{record_word, record_rest, write_line, shape-line, fields-spelt}
use Rattle.texts.proofs.Beneath.LineTests.{header_tests, rule_tests}
use Rattle.texts.proofs.Beneath.Stops.{First}
use Rattle.texts.proofs.Beneath.Firsts.{Least, first_exact}

-- A header.
header-fields : {fs : List Word} → RuleFields RulesSoFar.nothing fs → absent (header_of word_rules fs) ≡ true → ⊥
header-fields (header m n p q) h = (header-absent word_rules _).0 h (m, n, p, q, refl)

no_record : {A : Type 0} {s : RulesSoFar} {bs : List ℕ} {b : Book} {r : Record} → Stands s bs b r → s ≡ RulesSoFar.nothing → A
no_record (stands q) e = absurd (let z : ◌≡◌ {A = ℕ} 0 1 = cc in omega arith)

pub header_first : (l : Line) (n : ℕ) → First (header_tests word_rules l) n ↔ Least (RuleWrong RulesSoFar.nothing l) n
unfolding header_tests
header_first l = first_exact (header_tests word_rules l) (RuleWrong RulesSoFar.nothing l) gives given
  where
    gives : (m : ℕ) → get_or (header_tests word_rules l) m false ≡ true → RuleWrong RulesSoFar.nothing l m
    gives zero h = never h
    gives (suc zero) h = never h
    gives (suc (suc zero)) h = two h
    gives (suc (suc (suc zero))) h = three (λ f. header-fields f h)
    gives (suc (suc (suc (suc m)))) h = never h

    given : (m : ℕ) → RuleWrong RulesSoFar.nothing l m → (k : ℕ) × (k ≤ m) × (get_or (header_tests word_rules l) k false ≡ true)
    given m (two h) = (2, omega arith, h)
    given m (three h) = (3, omega arith, (header-absent word_rules (fields l.bytes)).1 λ (m, n, p, q, e). h (rw e (header m n p q)))
    given m (four o h) = absurd (o refl)
    given m (five t h) = no_record t refl
    given m (six t h) = no_record t refl
    given m (seven t h) = no_record t refl
    given m (eight t h) = no_record t refl
    given m (nine t h) = no_record t refl
    given m (ten t h) = no_record t refl

-- A record.
module _ (i k : ℕ) (b : Book) where
  fields-shape : {fs : List Word} → RuleFields (records i k b) fs → (s : Shape) × (shape_fields s ≡ fs) × Fits b s
  unfolding shape_fields Fits
  fields-shape (agent {s = s} n r h) = (agent_shape s n, refl, (r, h))
  fields-shape (rule {f = f} {g = g} {fs = fs} e) = (rule_shape f g fs, refl, e)

  shape_fields_lem : (s : Shape) → Fits b s → RuleFields (records i k b) (shape_fields s)
  unfolding shape_fields Fits
  shape_fields_lem (agent_shape s n) (r, h) = agent n r h
  shape_fields_lem (rule_shape f g fs) e = rule e

  no_fields : (l : Line) → (fault3 b l ≡ true) ↔ (¬ RuleFields (records i k b) (fields l.bytes))
  no_fields l = (
    λ h f. (fault3-exact b l).0 h (fields-shape f),
    λ h. (fault3-exact b l).1 λ (s, e, f). h (rw e at (shape_fields_lem s f)),
  )

  -- the record that a line means is written there
  meant-stands : (l : Line) (r : Record) → meant b l ≡ some r → Stands (records i k b) l.bytes b r
  unfolding meant shape
  meant-stands l r h =
      let p = found (shape_of b (fields l.bytes)) record_of h in
      let s = to_shape b (fields l.bytes) p.0 p.1 in
      let t = to_record b p.0 r s.1 p.2 in
      let e : fields l.bytes ≡ record_word r ∷ record_rest r = sym s.0 ∙ (ap shape_fields (sym t.0) ∙ shape-line r) in
      let z : write_record r ≡ l.bytes = write_line r ∙ line-fields l.bytes _ _ e in
      let w : Stands (records i k b) (write_record r) b r = stands t.1 in
      rw z at w

  -- where number 3 does not hold, an agent is not misplaced and its number is good
  fits_by : (r : Record) → absent (shape_of b (shape_fields (shape_for r))) ≡ false → Fits b (shape_for r)
  unfolding shape_of shape_fields shape_for Fits agent_fields same absent rights ◌>>=◌
  fits_by (is_agent a) h = go (ruleless b) (number_of (decimal a.arity)) refl refl h
    where
      go : (t : Bool) (o : Option ℕ) → ruleless b ≡ t → number_of (decimal a.arity) ≡ o
          → absent (cond t (o >>= λ n. some (agent_shape a.symbol n)) none) ≡ false → (ruleless b ≡ true) × (a.arity < 10000)
      go true none e f x = never' x
      go true (some n) e f x = (e, number_small a.arity n f)
      go false o e f x = never' x
  fits_by (is_rule r) h = even-map spell (sides r.right) ∙ even-sides r.right

  -- a well-spelt record that is written there is meant, unless number 3 holds
  stands-meant : (l : Line) {bs : List ℕ} {c : Book} {r : Record} → Stands (records i k b) bs c r → bs ≡ l.bytes
      → fault3 b l ≡ false → (c ≡ b) × (meant b l ≡ some r)
  unfolding fault3 meant shape ◌>>=◌
  stands-meant l {r = r} (stands s) e h =
      let f : fields l.bytes ≡ shape_fields (shape_for r) = ap fields (sym e) ∙ fields-spelt r s in
      let k : Fits b (shape_for r) = fits_by r (rw f at h) in
      (refl, rw (f, from-shape b (shape_for r) k, from_record r s))

  -- so either number 3 holds of its line, or its test does
  record_given : (l : Line) (m : ℕ) (test : Book → Record → Bool) {c : Book} {r : Record} → 3 ≤ m → Stands (records i k b) l.bytes c r
      → test c r ≡ true → get_or (rule_tests b l) m false ≡ holds (test b) (meant b l)
      → (n : ℕ) × (n ≤ m) × (get_or (rule_tests b l) n false ≡ true)
  unfolding rule_tests holds
  record_given l m test {c} {r} lt t h e = go (fault3 b l) refl
    where
      go : (u : Bool) → fault3 b l ≡ u → (n : ℕ) × (n ≤ m) × (get_or (rule_tests b l) n false ≡ true)
      go true f = (3, lt, f)
      go false f =
          let p = stands-meant l t refl f in
          let q : test b r ≡ true = ap (λ x. test x r) (sym p.0) ∙ h in
          (m, omega arith, e ∙ (ap (holds (test b)) p.1 ∙ q))

  record_gives : (l : Line) (test : Book → Record → Bool) → holds (test b) (meant b l) ≡ true
      → (r : Record) × Stands (records i k b) l.bytes b r × (test b r ≡ true)
  unfolding holds
  record_gives l test h = go (meant b l) refl h
    where
      go : (o : Option Record) → meant b l ≡ o → holds (test b) o ≡ true → (r : Record) × Stands (records i k b) l.bytes b r × (test b r ≡ true)
      go none e x = never x
      go (some r) e x = (r, meant-stands l r e, x)

  no_written : (l : Line) → absent (meant b l) ≡ true → fault3 b l ≡ false → ¬ ((c : Book) × (r : Record) × Stands (records i k b) l.bytes c r)
  unfolding absent
  no_written l h f (c, r, t) = never (sym (ap absent (stands-meant l t refl f).1) ∙ h)

  written_none : (l : Line) → ¬ ((c : Book) × (r : Record) × Stands (records i k b) l.bytes c r) → absent (meant b l) ≡ true
  unfolding absent
  written_none l h = go (meant b l) refl
    where
      go : (o : Option Record) → meant b l ≡ o → absent o ≡ true
      go none e = refl
      go (some r) e = absurd (h (b, r, meant-stands l r e))

  pub rule_first : (l : Line) (n : ℕ) → First (rule_tests b l) n ↔ Least (RuleWrong (records i k b) l) n
  unfolding rule_tests fault4
  rule_first l = first_exact (rule_tests b l) (RuleWrong (records i k b) l) gives given
    where
      of_record : (n : ℕ) (test : Book → Record → Bool)
          → ((r : Record) → Stands (records i k b) l.bytes b r → test b r ≡ true → RuleWrong (records i k b) l n)
          → holds (test b) (meant b l) ≡ true → RuleWrong (records i k b) l n
      of_record n test make h = let p = record_gives l test h in make p.0 p.1 p.2

      gives : (m : ℕ) → get_or (rule_tests b l) m false ≡ true → RuleWrong (records i k b) l m
      gives zero h = never h
      gives (suc zero) h = never h
      gives (suc (suc zero)) h = two h
      gives (suc (suc (suc zero))) h = three ((no_fields l).0 h)
      gives (suc (suc (suc (suc zero)))) h =
          let p = both (not (fault3 b l)) (absent (meant b l)) h in
          four (λ e. absurd (let z : ◌≡◌ {A = ℕ} 0 1 = cc in omega arith)) (no_written l p.1 (not-true _ p.0))
      gives (suc (suc (suc (suc (suc zero))))) h = of_record 5 fault5 (λ r. five) h
      gives (suc (suc (suc (suc (suc (suc zero)))))) h = of_record 6 fault6 (λ r. six) h
      gives (suc (suc (suc (suc (suc (suc (suc zero))))))) h = of_record 7 fault7 (λ r. seven) h
      gives (suc (suc (suc (suc (suc (suc (suc (suc zero)))))))) h = of_record 8 fault8 (λ r. eight) h
      gives (suc (suc (suc (suc (suc (suc (suc (suc (suc zero))))))))) h = of_record 9 fault9 (λ r. nine) h
      gives (suc (suc (suc (suc (suc (suc (suc (suc (suc (suc zero)))))))))) h = of_record 10 fault10 (λ r. ten) h
      gives (suc (suc (suc (suc (suc (suc (suc (suc (suc (suc (suc m))))))))))) h = never h

      spelling : (t : Bool) → fault3 b l ≡ t → absent (meant b l) ≡ true → (n : ℕ) × (n ≤ 4) × (get_or (rule_tests b l) n false ≡ true)
      spelling true e h = (3, omega arith, e)
      spelling false e h = (4, omega arith, rw (e, h))

      given : (m : ℕ) → RuleWrong (records i k b) l m → (n : ℕ) × (n ≤ m) × (get_or (rule_tests b l) n false ≡ true)
      given m (two h) = (2, omega arith, h)
      given m (three h) = (3, omega arith, (no_fields l).1 h)
      given m (four o h) = spelling (fault3 b l) refl (written_none l h)
      given m (five t h) = record_given l 5 fault5 (omega arith) t h refl
      given m (six t h) = record_given l 6 fault6 (omega arith) t h refl
      given m (seven t h) = record_given l 7 fault7 (omega arith) t h refl
      given m (eight t h) = record_given l 8 fault8 (omega arith) t h refl
      given m (nine t h) = record_given l 9 fault9 (omega arith) t h refl
      given m (ten t h) = record_given l 10 fault10 (omega arith) t h refl
