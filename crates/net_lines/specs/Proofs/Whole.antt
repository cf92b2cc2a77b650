-- Each way out of a `face` line and of an `eq` line.
use Rattle.std.specs.Prelude.{ℕ, suc, ◌+◌, ◌*◌, ◌<◌, ◌≤◌, ◌≡◌, refl, Bool, true, false, ◌||◌, List, [], ◌∷◌, ◌++◌, ltb, length, drop, Result, Ok, Err, OnOk, ⊤}
use Rattle.std.proofs.Common.{sym, ap, subst, ◌∙◌, append-nil, append_assoc, arith, length-append, length-drop, lt-ltb, le-ltb}
use Rattle.std.proofs.lemmas.List.{map-append, length-map}
use Rattle.std.proofs.lemmas.Result.{on_ok_weaker}
use Rattle.std.proofs.Math.Option.{some}
use Rattle.parts.specs.Faults.{fault_number}
use Rattle.parts.specs.declared.faults.Fault.{Fault}
use Rattle.parts.specs.declared.faults.Fault.TheVariants.{TooBig}
use Rattle.parts.specs.Limits.{face_max, net_equations_max}
use Rattle.texts.specs.Bytes.{fields}
use Rattle.texts.specs.Terms.{Term, spell}
use Rattle.texts.specs.Books.{Agent, Equation, Net, pairs, sides, net_terms}
use Rattle.texts.specs.Answers.{OfLine, fault}
use Rattle.texts.specs.RuleText.{terms_of}
use Rattle.texts.specs.NetText.{face_fields, eq_fields, net_judged, face_net, more_net, face_line, eq_line, net_lines}
use Rattle.texts.proofs.Beneath.Means.{spell-terms}
use Rattle.texts.specs.Bytes.{ended_line}
use Rattle.terms.specs.Sheet.{Sheet}
use Rattle.lines.specs.Names.{between}
use Rattle.net_lines.specs.Draft.{Draft}
use Rattle.net_lines.specs.Judging.{Stands, Fit, Asked, Judged}
use Rattle.net_lines.specs.Records.{passing, Spelt, FaceRead, EqRead}
use Rattle.net_lines.specs.Proofs.Judges.{over-judged}

-- What holds anyway holds of a line that is fine.
on_all : {P : Type 0} (r : Result ⊤ Fault) → P → OnOk r P
on_all (Ok u) p = p
on_all (Err f) p = Prim.tt

terms-many : (line : List ℕ) (us : List Term) → terms_of (drop 1 (fields line)) ≡ some us → (n : ℕ) → suc n ≡ length (fields line) → length us ≡ n
terms-many line us h n e =
    let a = ap length (spell-terms (drop 1 (fields line)) us h).0 in
    let b = length-map us spell in
    let d = length-drop 1 (fields line) in
    omega (arith, a, b, d, e)

-- The `face` line.
face-passes : (ags : List Agent) (line : List ℕ) → face_line ags (ended_line line) ≡ passing face_fields line (λ ts. net_judged ags ts (face_net ts))
unfolding face_line passing ended_line
face-passes ags line = refl

face-terms : (us : List Term) → net_terms (face_net us) ≡ [] ++ us
unfolding net_terms face_net sides
face-terms us = append-nil us

face-over : (us : List Term) (t : Bool) → t ≡ ltb face_max (length us) → t ≡ (ltb face_max (length (face_net us).face) || ltb net_equations_max (length (face_net us).equations))
unfolding face_net
face-over us true e = rw (← e)
face-over us false e = rw (← e) (sym (le-ltb net_equations_max 0 (omega arith)))

face-face : (us : List Term) → ((face_net us).face ≡ us) × ((face_net us).equations ≡ [])
unfolding face_net
face-face us = (refl, refl)

module _ (text : List ℕ) (ags : List Agent) (at end : ℕ) (s : Sheet) (cs line : List ℕ) (is : line ≡ between text at end) where
  pub face-bad : {f : Fault} → ((g : List Term → OfLine Net) → passing face_fields line g ≡ fault (fault_number f)) → FaceRead text ags (between text at end) (Err f) s cs
  face-bad {f} bad =
      subst (λ l. FaceRead text ags l (Err f) s cs) is
      (record {
        net = face_net [];
        told = face-passes ags line ∙ bad (λ ts. net_judged ags ts (face_net ts));
        draft = Prim.tt;
        bare = (face-face []).1;
        many = Prim.tt;
      })

  module _ (spelt : Spelt face_fields line) (n : ℕ) (en : suc n ≡ length (fields line)) (st : Stands text at end) (fit : Fit text ags) (d : Draft text ags s cs []) where
    abbrev us : List Term
    us = spelt.terms

    many : length us ≡ n
    many = terms-many line us spelt.spelt n en

    asked : (t : Bool) → t ≡ ltb face_max n → Asked text ags at end t s cs 0 [] us (face_net us)
    asked t e = record {
      stands = st;
      fit = fit;
      terms = ap (λ l. terms_of (drop 1 (fields l))) (sym is) ∙ spelt.spelt;
      net = face-terms us;
      too_many = face-over us t (e ∙ ap (ltb face_max) (sym many));
      behind = refl;
      draft = d;
    }

    judged : {k : Result ⊤ Fault} {s₁ : Sheet} {cs₁ : List ℕ} → Judged text ags [] us (face_net us) k s₁ cs₁ → FaceRead text ags (between text at end) k s₁ cs₁
    judged {k} {s₁} {cs₁} j =
        subst (λ l. FaceRead text ags l k s₁ cs₁) is
        (record {
          net = face_net us;
          told = face-passes ags line ∙ spelt.goes (λ ts. net_judged ags ts (face_net ts)) ∙ j.told;
          draft = on_ok_weaker k (λ h. subst (Draft text ags s₁ cs₁) (sym (face-terms us)) h) j.draft;
          bare = (face-face us).1;
          many = on_all k (ap (λ l. suc (length l)) (face-face us).0 ∙ ap suc many ∙ en);
        })

    pub face_5 : {s₁ : Sheet} {cs₁ : List ℕ} → face_max < n → FaceRead text ags (between text at end) (Err TooBig) s₁ cs₁
    face_5 h = judged (over-judged (asked true (sym (lt-ltb face_max n h))) refl)

    pub face_end : {k : Result ⊤ Fault} {s₁ : Sheet} {cs₁ : List ℕ} → n ≤ face_max
        → ((ts us : List Term) (m : Net) → Asked text ags at end false s cs 0 ts us m → Judged text ags ts us m k s₁ cs₁) → FaceRead text ags (between text at end) k s₁ cs₁
    face_end h j = judged (j [] us (face_net us) (asked false (sym (le-ltb face_max n h))))

-- An `eq` line.
eq-passes : (ags : List Agent) (m : Net) (line : List ℕ) → eq_line ags m (ended_line line) ≡ passing eq_fields line (λ ts. net_judged ags ts (more_net m ts))
unfolding eq_line passing ended_line
eq-passes ags m line = refl

sides-append : (es fs : List Equation) → sides (es ++ fs) ≡ sides es ++ sides fs
unfolding sides
sides-append [] fs = refl
sides-append (e ∷ es) fs = ap (λ l. e.left ∷ e.right ∷ l) (sides-append es fs)

sides-length : (es : List Equation) → length (sides es) ≡ 2 * length es
unfolding sides
sides-length [] = refl
sides-length (e ∷ es) = let q = sides-length es in omega (arith, q)

pub net-length : (m : Net) → length (net_terms m) ≡ length m.face + 2 * length m.equations
unfolding net_terms
net-length m = let a = length-append m.face (sides m.equations) in let b = sides-length m.equations in omega (arith, a, b)

-- with two terms more
pub record More (m : Net) (us : List Term) : Type 0 where
  pub face : (more_net m us).face ≡ m.face
  pub terms : net_terms (more_net m us) ≡ net_terms m ++ us
  pub lines : net_lines (more_net m us) ≡ net_lines m ++ (us ∷ [])
  pub one : length (more_net m us).equations ≡ suc (length m.equations)

more : (m : Net) (us : List Term) → length us ≡ 2 → More m us
unfolding more_net net_terms net_lines pairs sides
more m [] h = absurd (omega arith)
more m (a ∷ []) h = absurd (omega arith)
more m (a ∷ b ∷ []) h = record {
  face = refl;
  terms = ap (λ l. m.face ++ l) (sides-append m.equations _) ∙ sym (append_assoc m.face (sides m.equations) (a ∷ b ∷ []));
  lines = ap (λ l. m.face ∷ l) (map-append _ m.equations _);
  one = (let q = length-append m.equations (record { left = a; right = b } ∷ []) in omega (arith, q));
}
more m (a ∷ b ∷ c ∷ us) h = absurd (omega arith)

eq-over : (m : Net) (us : List Term) (t : Bool) → More m us → length m.face ≤ face_max → t ≡ ltb net_equations_max (suc (length m.equations))
    → t ≡ (ltb face_max (length (more_net m us).face) || ltb net_equations_max (length (more_net m us).equations))
eq-over m us t o h e =
    let q : ltb face_max (length (more_net m us).face) ≡ false = le-ltb face_max (length (more_net m us).face) (let z = ap length o.face in omega (arith, z, h)) in
    e ∙ ap (ltb net_equations_max) (sym o.one) ∙ sym (ap (λ b. b || ltb net_equations_max (length (more_net m us).equations)) q)

module _ (text : List ℕ) (ags : List Agent) (at end : ℕ) (s : Sheet) (cs : List ℕ) (f k : ℕ) (line : List ℕ) (is : line ≡ between text at end) (m : Net) where
  pub eq-bad : {r : Fault} → ((g : List Term → OfLine Net) → passing eq_fields line g ≡ fault (fault_number r)) → EqRead text ags m (between text at end) (Err r) s cs
  eq-bad {r} bad =
      subst (λ l. EqRead text ags m l (Err r) s cs) is
      (record {
        net = m;
        told = eq-passes ags m line ∙ bad (λ ts. net_judged ags ts (more_net m ts));
        draft = Prim.tt;
        face = refl;
        terms = [];
        more = Prim.tt;
        one = Prim.tt;
      })

  module _ (spelt : Spelt eq_fields line) (three : length (fields line) ≡ 3) (st : Stands text at end) (fit : Fit text ags) (d : Draft text ags s cs (net_terms m))
      (ef : f ≡ length m.face) (ek : k ≡ length m.equations) (few : f ≤ face_max) where
    abbrev vs : List Term
    vs = spelt.terms

    two : length vs ≡ 2
    two = terms-many line vs spelt.spelt 2 (sym three)

    o : More m vs
    o = more m vs two

    eq-asked : (t : Bool) → t ≡ ltb net_equations_max (suc k) → Asked text ags at end t s cs (f + 2 * k) (net_terms m) vs (more_net m vs)
    eq-asked t e = record {
      stands = st;
      fit = fit;
      terms = ap (λ l. terms_of (drop 1 (fields l))) (sym is) ∙ spelt.spelt;
      net = o.terms;
      too_many = eq-over m vs t o (let z = ef in omega (arith, z, few)) (e ∙ ap (λ n. ltb net_equations_max (suc n)) ek);
      behind = (let a = ef in let b = ek in let c = net-length m in omega (arith, a, b, c));
      draft = d;
    }

    eq-judged : {r : Result ⊤ Fault} {s₁ : Sheet} {cs₁ : List ℕ} → Judged text ags (net_terms m) vs (more_net m vs) r s₁ cs₁ → EqRead text ags m (between text at end) r s₁ cs₁
    eq-judged {r} {s₁} {cs₁} j =
        subst (λ l. EqRead text ags m l r s₁ cs₁) is
        (record {
          net = more_net m vs;
          told = eq-passes ags m line ∙ spelt.goes (λ ts. net_judged ags ts (more_net m ts)) ∙ j.told;
          draft = on_ok_weaker r (λ h. subst (Draft text ags s₁ cs₁) (sym o.terms) h) j.draft;
          face = o.face;
          terms = vs;
          more = on_all r o.lines;
          one = on_all r o.one;
        })

    pub eq_5 : {s₁ : Sheet} {cs₁ : List ℕ} → net_equations_max ≤ k → EqRead text ags m (between text at end) (Err TooBig) s₁ cs₁
    eq_5 h = eq-judged (over-judged (eq-asked true (sym (lt-ltb net_equations_max (suc k) (omega (arith, h))))) refl)

    pub eq_end : {r : Result ⊤ Fault} {s₁ : Sheet} {cs₁ : List ℕ} → k < net_equations_max
        → ((ts us : List Term) (m : Net) → Asked text ags at end false s cs (f + 2 * k) ts us m → Judged text ags ts us m r s₁ cs₁) → EqRead text ags m (between text at end) r s₁ cs₁
    eq_end h j = eq-judged (j (net_terms m) vs (more_net m vs) (eq-asked false (sym (le-ltb net_equations_max (suc k) (omega (arith, h))))))
