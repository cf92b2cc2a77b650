-- The meaning of a whole line, field by field. Assumes nothing.
use Rattle.std.specs.Prelude.{ℕ, suc, ◌+◌, ◌≤◌, ◌≡◌, Bool, ◌||◌, set, Option, None, Some, refl, true, false, List, [], ◌∷◌, ◌++◌, length}
use Rattle.std.proofs.Common.{sym, ap, ◌∙◌, le-ltb, append_assoc, append-nil, arith, length-append}
use Rattle.parts.specs.Sides.{code}
use Rattle.texts.specs.Bytes.{Word, any, keep}
use Rattle.texts.specs.Terms.{Term, nodes, words_of}
use Rattle.texts.specs.Books.{Agent, names_of}
use Rattle.texts.specs.Coded.{packed, size, codes, cells_at, cells_from}
use Rattle.texts.specs.RuleText.{wrong_args}
use Rattle.texts.proofs.Beneath.Tools.{never}
use Rattle.model.specs.Table.{Cell}
use Rattle.terms.specs.Sheet.{Sheet}
use Rattle.terms.specs.Reader.{Done, done, field_by}
use Rattle.terms.specs.Meaning.{number, side_at, term_cells, Holds, grown, Spells, Room}
use Rattle.terms.proofs.Main.{read_right, read-wrong}
use Rattle.terms.proofs.Beneath.Numbers.{grown_on}
use Rattle.line_terms.specs.Fields.{field_end, Ran, ran, on_code, fields_by}
use Rattle.line_terms.specs.Meaning.{Written, Roomy, Left, Read}
use Rattle.line_terms.specs.Proofs.Cut.{First, no_terms, some_terms}
use Rattle.line_terms.specs.Proofs.Lines.{any-cons, none_cons, grown-cons, cells-size, room_first, room-rest}

-- one field more
module _ (text : List ℕ) (ags : List Agent) (to n i at : ℕ) (s : Sheet) (old : List ℕ) (order : at ≤ to) where
  go_on : (d : Done (Option ℕ)) → field_by text ags at (field_end text at to) s ≡ d
      → fields_by text ags to (suc n) i at s old ≡ on_code i old d (fields_by text ags to n (i + 1) (field_end text at to + 1))
  unfolding fields_by
  go_on d e = rw (le-ltb to at order, e)

  on_wrong : (s₁ : Sheet) → field_by text ags at (field_end text at to) s ≡ done None s₁
      → fields_by text ags to (suc n) i at s old ≡ ran false s₁ old
  unfolding on_code
  on_wrong s₁ e = go_on (done None s₁) e

  on_code_lem : (v : ℕ) (s₁ : Sheet) → field_by text ags at (field_end text at to) s ≡ done (Some v) s₁ → {x : Ran}
      → fields_by text ags to n (i + 1) (field_end text at to + 1) s₁ (set old i v) ≡ x
      → fields_by text ags to (suc n) i at s old ≡ x
  unfolding on_code
  on_code_lem v s₁ e q = go_on (done (Some v) s₁) e ∙ q

-- the first term, W being all names
one_right : (text : List ℕ) (ags : List Agent) (from to : ℕ) (s : Sheet) (t : Term) → Spells text from to t → (cs : List Cell) (ws zs W : List Word)
    → Holds text s cs ws → Room text ags (length cs) ws t
    → any (wrong_args ags) (nodes (t ∷ [])) ≡ false → grown ws (names_of ags (t ∷ [])) ++ zs ≡ W
    → (s₁ : Sheet) × (field_by text ags from to s ≡ done (Some (code (side_at ags (number W) (length cs) t))) s₁)
    × Holds text s₁ (cs ++ term_cells ags (number W) (length cs) t) (grown ws (names_of ags (t ∷ [])))
one_right text ags from to s t f cs ws zs W h r ok e = rw e at (read_right text ags from to s t f cs ws zs h r ok)

-- a line with no terms
left_none : (text : List ℕ) (ags : List Agent) (W : List Word) (i : ℕ) (old : List ℕ) (cs : List Cell) (ws : List Word) (s : Sheet)
    → Holds text s cs ws → Left text ags old cs ws [] W i s old
unfolding packed codes cells_at names_of nodes words_of keep grown
left_none text ags W i old cs ws s h = record { codes = refl; holds = rw (append-nil cs) h }

-- a line of a term and more
module _
    (text : List ℕ) (ags : List Agent) (W : List Word) (i : ℕ) (old : List ℕ) (cs : List Cell) (ws : List Word) (t : Term) (us : List Term) where
  left_more : (long : length (cells_at ags (number W) (length cs) t) ≡ size ags t) (s : Sheet) (new : List ℕ)
      → Left text ags (set old i (code (side_at ags (number W) (length cs) t))) (cs ++ term_cells ags (number W) (length cs) t)
      (grown ws (names_of ags (t ∷ []))) us W (i + 1) s new
      → Left text ags old cs ws (t ∷ us) W i s new
  unfolding packed codes cells_at
  left_more long s new l =
      let m : length (cs ++ term_cells ags (number W) (length cs) t) ≡ length cs + size ags t = length-append cs (term_cells ags (number W) (length cs) t) ∙ rw long in
      let z : i + 1 ≡ suc i = omega arith in
      record {
        codes = rw (m, z) at l.codes;
        holds = rw (grown-cons t us ags ws)
            (rw (m, append_assoc cs (term_cells ags (number W) (length cs) t) (cells_from ags (number W) (length cs + size ags t) (packed us))) at l.holds);
      }

-- every identifier has as many arguments as it takes
module _
    (text : List ℕ) (ags : List Agent) (W : List Word) (to n i from : ℕ) (s : Sheet) (old : List ℕ) (cs : List Cell)
    (ws : List Word) (ts : List Term) where
  pub record Right : Type 0 where
    pub after : Sheet
    pub new : List ℕ
    pub reads : fields_by text ags to n i from s old ≡ ran true after new
    pub left : Left text ags old cs ws ts W i after new

module _ (text : List ℕ) (ags : List Agent) (W : List Word) (to : ℕ) where
  pub fields_right : (fs : List Word) (ts : List Term) (i from : ℕ) (s : Sheet) (old : List ℕ) (cs : List Cell) (ws zs : List Word) → Written text from to fs ts
      → Holds text s cs ws
      → Roomy text ags (length cs) ws ts → any (wrong_args ags) (nodes ts) ≡ false
      → grown ws (names_of ags ts) ++ zs ≡ W
      → Right text ags W to (length fs) i from s old cs ws ts
  unfolding fields_by
  fields_right [] ts i from s old cs ws zs w h r ok e =
      rw (no_terms text from to ts w) (record { after = s; new = old; reads = refl; left = left_none text ags W i old cs ws s h })
  fields_right (f ∷ fs) ts i from s old cs ws zs w h r ok e =
      let p = some_terms text from to f fs ts w in
      step p.0 p.1 ts p.2 p.3 r ok e (fields_right fs p.1)
    where
      step : (t : Term) (us ts : List Term) → ts ≡ t ∷ us → First text from to fs t us → Roomy text ags (length cs) ws ts
          → any (wrong_args ags) (nodes ts) ≡ false
          → grown ws (names_of ags ts) ++ zs ≡ W
          → ((i from : ℕ) (s : Sheet) (old : List ℕ) (cs : List Cell) (ws zs : List Word) → Written text from to fs us → Holds text s cs ws
          → Roomy text ags (length cs) ws us → any (wrong_args ags) (nodes us) ≡ false
          → grown ws (names_of ags us) ++ zs ≡ W
          → Right text ags W to (length fs) i from s old cs ws us)
          → Right text ags W to (suc (length fs)) i from s old cs ws ts
      step t us ts q F r ok e ih =
          let r' : Roomy text ags (length cs) ws (t ∷ us) = rw q at r in
          let ok' : any (wrong_args ags) (nodes (t ∷ us)) ≡ false = rw q at ok in
          let oks = none_cons t us (wrong_args ags) ok' in
          let e' : grown ws (names_of ags (t ∷ us)) ++ zs ≡ W = rw q at e in
          let v : List Word = grown ws (names_of ags (t ∷ [])) in
          let e'' : grown v (names_of ags us) ++ zs ≡ W = rw (grown-cons t us ags ws) at e' in
          let g = grown_on v (names_of ags us) in
          let w1 : v ++ (g.0 ++ zs) ≡ W = sym (append_assoc v g.0 zs) ∙ (ap (λ (x : List Word). x ++ zs) (sym g.1) ∙ e'') in
          let D = one_right text ags from (field_end text from to) s t F.spells cs ws (g.0 ++ zs) W h (room_first t us ags text (length cs) ws r') oks.0 w1 in
          let c1 : List Cell = cs ++ term_cells ags (number W) (length cs) t in
          let long = cells-size t us ags (number W) (length cs) oks.0 in
          let n1 : length c1 ≡ length cs + size ags t = length-append cs (term_cells ags (number W) (length cs) t) ∙ rw long in
          let A = ih (i + 1) (field_end text from to + 1) D.0 (set old i (code (side_at ags (number W) (length cs) t))) c1 v zs F.rest D.2
          (room-rest t us ags text (length cs) ws r' (length c1) n1) oks.1 e'' in
          rw q (record {
            after = A.after;
            new = A.new;
            reads = on_code_lem text ags to (length fs) i from s old F.order
                (code (side_at ags (number W) (length cs) t)) D.0 D.1 {x = ran true A.after A.new} A.reads;
            left = left_more text ags W i old cs ws t us long A.after A.new A.left;
          })

-- some identifier has another number of arguments
abbrev Wrong : List ℕ → List Agent → ℕ → ℕ → ℕ → ℕ → Sheet → List ℕ → Type 0
Wrong text ags to n i from s old = (s₁ : Sheet) × (new : List ℕ) × (fields_by text ags to n i from s old ≡ ran false s₁ new)

module _ (text : List ℕ) (ags : List Agent) (to : ℕ) where
  pub fields-wrong : (fs : List Word) (ts : List Term) (i from : ℕ) (s : Sheet) (old : List ℕ) → Written text from to fs ts
      → any (wrong_args ags) (nodes ts) ≡ true → Wrong text ags to (length fs) i from s old
  unfolding nodes any
  fields-wrong [] ts i from s old w bad = never (rw (no_terms text from to ts w) at bad)
  fields-wrong (f ∷ fs) ts i from s old w bad =
      let p = some_terms text from to f fs ts w in
      step p.0 p.1 p.3 (sym (any-cons p.0 p.1 (wrong_args ags)) ∙ (rw p.2 at bad)) (fields-wrong fs p.1)
    where
      step : (t : Term) (us : List Term) → First text from to fs t us
          → (any (wrong_args ags) (nodes (t ∷ [])) || any (wrong_args ags) (nodes us)) ≡ true
          → ((i from : ℕ) (s : Sheet) (old : List ℕ) → Written text from to fs us → any (wrong_args ags) (nodes us) ≡ true
          → Wrong text ags to (length fs) i from s old)
          → Wrong text ags to (suc (length fs)) i from s old
      step t us F b ih = by_first (any (wrong_args ags) (nodes (t ∷ []))) refl b
        where
          by_read : (d : Done (Option ℕ)) → field_by text ags from (field_end text from to) s ≡ d
              → any (wrong_args ags) (nodes us) ≡ true
              → Wrong text ags to (suc (length fs)) i from s old
          by_read (done None s₁) e k = (s₁, old, on_wrong text ags to (length fs) i from s old F.order s₁ e)
          by_read (done (Some v) s₁) e k =
              let A = ih (i + 1) (field_end text from to + 1) s₁ (set old i v) F.rest k in
              (A.0, A.1, on_code_lem text ags to (length fs) i from s old F.order v s₁ e A.2)

          by_first : (x : Bool) → any (wrong_args ags) (nodes (t ∷ [])) ≡ x → (x || any (wrong_args ags) (nodes us)) ≡ true
              → Wrong text ags to (suc (length fs)) i from s old
          by_first true h k =
              let D = read-wrong text ags from (field_end text from to) s t F.spells h in
              (D.0, old, on_wrong text ags to (length fs) i from s old F.order D.0 D.1)
          by_first false h k = by_read (field_by text ags from (field_end text from to) s) refl k

-- what an answer says
ran-answer : {a b : Bool} {s t : Sheet} {k l : List ℕ} → ran a s k ≡ ran b t l → a ≡ b
ran-answer e = cc

ran-sheet : {a b : Bool} {s t : Sheet} {k l : List ℕ} → ran a s k ≡ ran b t l → s ≡ t
ran-sheet e = cc

ran-codes : {a b : Bool} {s t : Sheet} {k l : List ℕ} → ran a s k ≡ ran b t l → k ≡ l
ran-codes e = cc

module _
    (text : List ℕ) (ags : List Agent) (from to : ℕ) (fs : List Word) (ts : List Term) (w : Written text from to fs ts)
    (s : Sheet) (old : List ℕ) (cs : List Cell) (ws : List Word)
    (h : Holds text s cs ws) (r : Roomy text ags (length cs) ws ts) where
  by_right : any (wrong_args ags) (nodes ts) ≡ false → (zs : List Word)
      → Right text ags (grown ws (names_of ags ts) ++ zs) to (length fs) 0 from s old cs ws ts
  by_right b zs = fields_right text ags (grown ws (names_of ags ts) ++ zs) to fs ts 0 from s old cs ws zs w h r b refl

  left_as : (W : List Word) {s₁ s₂ : Sheet} {k l : List ℕ} → s₁ ≡ s₂ → k ≡ l → Left text ags old cs ws ts W 0 s₂ l
      → Left text ags old cs ws ts W 0 s₁ k
  left_as W p q d = rw (p, q) d

  pub fields_read : {a : Bool} {s₁ : Sheet} {new : List ℕ} → ran a s₁ new ≡ fields_by text ags to (length fs) 0 from s old
      → Read text ags old cs ws ts a s₁ new
  fields_read {a} {s₁} {new} e = go (any (wrong_args ags) (nodes ts)) refl
    where
      go : (x : Bool) → any (wrong_args ags) (nodes ts) ≡ x → Read text ags old cs ws ts a s₁ new
      go true b =
          let D = fields-wrong text ags to fs ts 0 from s old w b in
          let n : a ≡ false = ran-answer (e ∙ D.2) in
          record { answer = n ∙ rw b; left = λ y. never (sym n ∙ y) }
      go false b = record {
        answer = ran-answer (e ∙ (by_right b []).reads) ∙ rw b;
        left = λ y zs. let D = by_right b zs in left_as (grown ws (names_of ags ts) ++ zs) (ran-sheet (e ∙ D.reads)) (ran-codes (e ∙ D.reads)) D.left;
      }
