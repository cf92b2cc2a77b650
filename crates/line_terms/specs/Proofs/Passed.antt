-- A term that is spelled in the text is passed exactly where its identifiers have as many arguments as they take. Assumes nothing.
use Rattle.std.specs.Prelude.{ℕ, zero, suc, ◌+◌, ◌-◌, ◌<◌, ◌≤◌, ◌≡◌, Bool, cond, not, ◌||◌, eqb, ltb, get_or, take, Option, None, Some, refl, true, false, List, ◌∷◌, ◌++◌, length, drop}
use Rattle.std.proofs.Common.{sym, ◌∙◌, append_assoc, append-nil, arith, length-append, eq-eqb, ne_eqb, ltb-false}
use Rattle.std.proofs.Math.Bool.{or-true}
use Rattle.std.proofs.Math.Dec.{eqb-zero-suc, eqb-suc-suc}
use Rattle.parts.specs.Limits.{level_max, identifier_max}
use Rattle.texts.specs.Bytes.{Word, any}
use Rattle.texts.specs.Terms.{identifier, Term, Terms, term, nil, cons, spell, brackets, closing, worded, wordeds, count, nodes_at, nodes_in}
use Rattle.texts.specs.Books.{Agent, takes}
use Rattle.texts.specs.RuleText.{wrong_args, big_node, is_too_long}
use Rattle.texts.proofs.Beneath.Tools.{both, neither, any_append}
use Rattle.scan.specs.Words.{word_end}
use Rattle.terms.specs.Meaning.{Stops}
use Rattle.terms.proofs.Beneath.Spelt.{skip, skip_one, here, word-ends, word_here, word-stops}
use Rattle.terms.specs.Reads.{inner}
use Rattle.terms.proofs.Beneath.Trees.{closing-stops}
use Rattle.terms.proofs.Beneath.Only.{brackets-ends}
use Rattle.line_terms.specs.Arguments.{on_past, last_past, next_past, args_past, after_word, term_past}

-- what is said of a term that ends at p, where b tells whether an identifier is wrong
abbrev pub verdict : Bool → ℕ → Option ℕ
verdict b p = cond b None (Some p)

pub record TermPasses (text : List ℕ) (ags : List Agent) (t : Term) : Type 0 where
  pub run : (l lv at : ℕ) (rest : List ℕ) → l + lv ≡ suc level_max → worded t ≡ true
      → any big_node (nodes_at lv t) ≡ false → drop at text ≡ spell t ++ rest → Stops rest
      → term_past text ags l at ≡ verdict (any (wrong_args ags) (nodes_at lv t)) (at + length (spell t))

pub record ArgsPass (text : List ℕ) (ags : List Agent) (ts : Terms) : Type 0 where
  pub run : (l lv more at : ℕ) (rest : List ℕ) → 0 < count ts → l + lv ≡ suc level_max → wordeds ts ≡ true
      → any big_node (nodes_in lv ts) ≡ false → drop at text ≡ inner ts ++ rest
      → args_past text (term_past text ags l) more at
      ≡ verdict (not (eqb (count ts) (suc more)) || any (wrong_args ags) (nodes_in lv ts)) (at + length (inner ts))

-- levels that are left
level-small : (w : Word) (n lv : ℕ) → big_node (record { word = w; args = n; level = lv }) ≡ false → lv ≤ level_max
unfolding big_node is_too_long
level-small w n lv h = ltb-false level_max lv (neither (ltb identifier_max (length w)) (ltb level_max lv) h).1

split_big : (w : Word) (ts : Terms) (lv : ℕ) → any big_node (nodes_at lv (term w ts)) ≡ false
    → (lv ≤ level_max) × (any big_node (nodes_in (suc lv) ts) ≡ false)
unfolding nodes_at any
split_big w ts lv h =
    let p = neither (big_node (record { word = w; args = count ts; level = lv })) (any big_node (nodes_in (suc lv) ts)) h in
    (level-small w (count ts) lv p.0, p.1)

suc-zero : (n : ℕ) → eqb (suc n) 0 ≡ false
suc-zero n = ne_eqb (suc n) 0 (λ e. omega arith)

module _ (text : List ℕ) (ags : List Agent) where
  -- a word with no brackets after it
  after_none : (w : Word) (lv at n : ℕ) (args : ℕ → ℕ → Option ℕ) → n ≡ takes ags w → (get_or text (at + length w) 0 ≡ 40 → ⊥)
      → after_word text args (at + length w) n ≡ verdict (any (wrong_args ags) (nodes_at lv (term w nil))) (at + length (spell (term w nil)))
  unfolding after_word nodes_at any wrong_args count spell brackets
  after_none w lv at zero args e f = rw (← e, ne_eqb (get_or text (at + length w) 0) 40 f, append-nil w)
  after_none w lv at (suc m) args e f = rw (← e, ne_eqb (get_or text (at + length w) 0) 40 f, eqb-zero-suc)

  -- a word with brackets after it
  after_some : (w : Word) (t : Term) (us : Terms) → ArgsPass text ags (cons t us) → (l lv at n : ℕ) (rest : List ℕ) → n ≡ takes ags w
      → l + suc lv ≡ suc level_max
      → wordeds (cons t us) ≡ true → any big_node (nodes_in (suc lv) (cons t us)) ≡ false
      → drop at text ≡ w ++ (brackets (cons t us) ++ rest)
      → after_word text (args_past text (term_past text ags l)) (at + length w) n
      ≡ verdict (any (wrong_args ags) (nodes_at lv (term w (cons t us)))) (at + length (spell (term w (cons t us))))
  unfolding after_word nodes_at any wrong_args count spell brackets inner
  after_some w t us U l lv at zero rest e q wd b d =
      let dn = skip text at w (40 ∷ ((spell t ++ closing us) ++ rest)) d in
      rw (← e, eq-eqb (get_or text (at + length w) 0) 40 (here text (at + length w) 40 ((spell t ++ closing us) ++ rest) dn), suc-zero (count us))
  after_some w t us U l lv at (suc m) rest e q wd b d =
      let dn = skip text at w (40 ∷ ((spell t ++ closing us) ++ rest)) d in
      let A = U.run l (suc lv) m (at + length w + 1) rest (omega arith) q wd b (skip_one text (at + length w) 40 ((spell t ++ closing us) ++ rest) dn) in
      let len : at + length w + 1 + length (spell t ++ closing us) ≡ at + length (w ++ (40 ∷ (spell t ++ closing us))) = omega (arith, length-append w (40 ∷ (spell t ++ closing us))) in
      rw (← e, eq-eqb (get_or text (at + length w) 0) 40 (here text (at + length w) 40 ((spell t ++ closing us) ++ rest) dn)) (rw len at A)

  after_word_lem : (w : Word) (ts : Terms) → ArgsPass text ags ts → (l lv at n : ℕ) (rest : List ℕ) → n ≡ takes ags w
      → l + suc lv ≡ suc level_max → identifier w ≡ true → wordeds ts ≡ true
      → any big_node (nodes_in (suc lv) ts) ≡ false → drop at text ≡ w ++ (brackets ts ++ rest) → Stops rest
      → after_word text (args_past text (term_past text ags l)) (at + length w) n
      ≡ verdict (any (wrong_args ags) (nodes_at lv (term w ts))) (at + length (spell (term w ts)))
  unfolding brackets
  after_word_lem w nil U l lv at n rest e q ok wd b d st =
      after_none w lv at n (args_past text (term_past text ags l)) e (word-stops text at w rest ok d st)
  after_word_lem w (cons t us) U l lv at n rest e q ok wd b d st = after_some w t us U l lv at n rest e q wd b d

  term_after : (k at e : ℕ) (w : Word) → e ≡ word_end text at → take (e - at) (drop at text) ≡ w
      → term_past text ags (suc k) at ≡ after_word text (args_past text (term_past text ags k)) e (takes ags w)
  unfolding term_past
  term_after k at e w h q = rw (← h, q)

  term-step : (w : Word) (ts : Terms) → ArgsPass text ags ts → TermPasses text ags (term w ts)
  unfolding spell worded
  term-step w ts U = record {
    run = λ l lv at rest q wd b d st.
        let oks = both (identifier w) (wordeds ts) wd in
        let bs = split_big w ts lv b in
        by_level l lv at rest q oks.0 oks.1 bs.0 bs.1 (rw append_assoc at d) st;
  }
    where
      by_level : (l lv at : ℕ) (rest : List ℕ) → l + lv ≡ suc level_max → identifier w ≡ true → wordeds ts ≡ true
          → lv ≤ level_max → any big_node (nodes_in (suc lv) ts) ≡ false
          → drop at text ≡ w ++ (brackets ts ++ rest) → Stops rest
          → term_past text ags l at ≡ verdict (any (wrong_args ags) (nodes_at lv (term w ts))) (at + length (w ++ brackets ts))
      by_level zero lv at rest q ok wd s b d st = absurd (omega arith)
      by_level (suc k) lv at rest q ok wd s b d st =
          term_after k at (at + length w) w (word-ends text at w (brackets ts ++ rest) ok d (brackets-ends ts rest st)) (word_here text at w (brackets ts ++ rest) ok d)
          ∙ after_word_lem w ts U k lv at (takes ags w) rest refl (omega arith) ok wd b d st

  -- an argument, ending at q, and what stands after it
  args_after : (us : Terms) → ArgsPass text ags us → (l lv more q : ℕ) (rest : List ℕ) → l + lv ≡ suc level_max
      → wordeds us ≡ true → any big_node (nodes_in lv us) ≡ false → drop q text ≡ closing us ++ rest → (one : ℕ → Option ℕ) (at : ℕ)
      → one ≡ term_past text ags l → one at ≡ Some q
      → args_past text one more at
      ≡ verdict (not (eqb (suc (count us)) (suc more)) || any (wrong_args ags) (nodes_in lv us)) (q + length (closing us))
  unfolding args_past on_past last_past next_past closing count nodes_in any inner
  args_after nil U l lv zero q rest e wd b d one at o h = rw (h, eq-eqb (get_or text q 0) 41 (here text q 41 rest d))
  args_after nil U l lv (suc m) q rest e wd b d one at o h =
      rw (h, ne_eqb (get_or text q 0) 44 (λ y. omega (arith, here text q 41 rest d)), eqb-suc-suc, eqb-zero-suc)
  args_after (cons x xs) U l lv zero q rest e wd b d one at o h =
      rw (h, ne_eqb (get_or text q 0) 41 (λ y. omega (arith, here text q 44 ((spell x ++ closing xs) ++ rest) d)), eqb-suc-suc, suc-zero (count xs))
  args_after (cons x xs) U l lv (suc m) q rest e wd b d one at o h =
      let A = U.run l lv m (q + 1) rest (omega arith) e wd b (skip_one text q 44 ((spell x ++ closing xs) ++ rest) d) in
      let len : q + 1 + length (spell x ++ closing xs) ≡ q + suc (length (spell x ++ closing xs)) = omega arith in
      rw (h, eq-eqb (get_or text q 0) 44 (here text q 44 ((spell x ++ closing xs) ++ rest) d), eqb-suc-suc (suc (count xs)) (suc m)) (rw (← o, len) at A)

  args-lost : (one : ℕ → Option ℕ) (more at : ℕ) → one at ≡ None → args_past text one more at ≡ None
  unfolding args_past on_past
  args-lost one zero at h = rw h
  args-lost one (suc m) at h = rw h

  args-step : (t : Term) (us : Terms) → TermPasses text ags t → ArgsPass text ags us → ArgsPass text ags (cons t us)
  unfolding inner wordeds nodes_in count
  args-step t us T U = record {
    run = λ l lv more at rest some e wd b d.
        let oks = both (worded t) (wordeds us) wd in
        let bs = neither (any big_node (nodes_at lv t)) (any big_node (nodes_in lv us)) (sym (any_append big_node (nodes_at lv t) (nodes_in lv us)) ∙ b) in
        let d' : drop at text ≡ spell t ++ (closing us ++ rest) = rw append_assoc at d in
        let D = T.run l lv at (closing us ++ rest) e oks.0 bs.0 d' (closing-stops us rest) in
        by_first l lv more at rest e oks.1 bs.1 (skip text at (spell t) (closing us ++ rest) d') (any (wrong_args ags) (nodes_at lv t)) refl D;
  }
    where
      by_first : (l lv more at : ℕ) (rest : List ℕ) → l + lv ≡ suc level_max → wordeds us ≡ true
          → any big_node (nodes_in lv us) ≡ false → drop (at + length (spell t)) text ≡ closing us ++ rest
          → (x : Bool) → any (wrong_args ags) (nodes_at lv t) ≡ x → term_past text ags l at ≡ verdict x (at + length (spell t))
          → args_past text (term_past text ags l) more at
          ≡ verdict (not (eqb (suc (count us)) (suc more)) || any (wrong_args ags) (nodes_at lv t ++ nodes_in lv us)) (at + length (spell t ++ closing us))
      by_first l lv more at rest e wd b d true h q =
          rw (any_append (wrong_args ags) (nodes_at lv t) (nodes_in lv us), h, or-true (not (eqb (suc (count us)) (suc more)))) (args-lost (term_past text ags l) more at q)
      by_first l lv more at rest e wd b d false h q =
          let len : at + length (spell t ++ closing us) ≡ at + length (spell t) + length (closing us) = omega (arith, length-append (spell t) (closing us)) in
          rw (any_append (wrong_args ags) (nodes_at lv t) (nodes_in lv us), h, len)
          (args_after us U l lv more (at + length (spell t)) rest e wd b d (term_past text ags l) at refl q)

  args_none : ArgsPass text ags nil
  unfolding count
  args_none = record { run = λ l lv more at rest some. absurd (omega arith) }

  mutual
    pub term-passes : (t : Term) → TermPasses text ags t
    term-passes (term w ts) = term-step w ts (args_pass ts)

    pub args_pass : (ts : Terms) → ArgsPass text ags ts
    args_pass nil = args_none
    args_pass (cons t ts) = args-step t ts (term-passes t) (args_pass ts)
