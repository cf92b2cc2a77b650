-- Each way out of the judgement of a line's terms.
use Rattle.std.specs.Prelude.{ℕ, suc, ◌+◌, ◌-◌, ◌*◌, ◌≤◌, ◌<◌, ◌≡◌, refl, Bool, true, false, not, ◌||◌, ltb, leb, drop, Result, Ok, Err, ⊤, List, [], ◌∷◌, ◌++◌}
use Rattle.std.proofs.Math.Path.{sym, ap}
use Rattle.std.proofs.Common.{subst, ◌∙◌, arith, length-take, ltb-false, leb-true, leb-false, lt-ltb, le-ltb}
use Rattle.std.proofs.Math.Option.{some}
use Rattle.std.proofs.Math.ListN.{length, length-drop}
use Rattle.parts.specs.Limits.{net_cells_max, net_names_max, face_max, net_equations_max, rule_equations_max}
use Rattle.parts.specs.declared.faults.Fault.{Fault}
use Rattle.parts.specs.declared.faults.Fault.TheVariants.{TooBig, WrongArguments}
use Rattle.texts.specs.Bytes.{Word, any, keep, fields, different}
use Rattle.texts.specs.Terms.{Term, nodes}
use Rattle.texts.specs.Books.{Agent, Net, declared, cells_of, names_of, net_terms}
use Rattle.texts.specs.Answers.{refuse}
use Rattle.texts.specs.RuleText.{big_node, wrong_args, terms_of}
use Rattle.texts.specs.NetText.{big_net, net_fault5, net_fault7, net_judged}
use Rattle.texts.specs.Coded.{packed, cells_from}
use Rattle.texts.proofs.Beneath.Tools.{never, never', none_of}
use Rattle.texts.proofs.Beneath.Linear.{cell-count}
use Rattle.scan.specs.Cutting.{field_start}
use Rattle.scan.specs.Words.{words_in}
use Rattle.scan.proofs.Beneath.Cutting.{start_le}
use Rattle.terms.specs.Sheet.{Sheet}
use Rattle.terms.specs.Meaning.{number, grown, Stops}
use Rattle.lines.specs.Names.{between, Within, Entered}
use Rattle.lines.specs.Laws.Fields.{fields-drop}
use Rattle.lines.specs.Laws.Words.{part-cells}
use Rattle.lines.specs.Laws.Parts.{rest_of, names-entered}
use Rattle.line_terms.specs.Meaning.{Parted, Written}
use Rattle.line_terms.specs.Main.{newline_stops}
use Rattle.net_lines.specs.Draft.{named}
use Rattle.net_lines.specs.Taking.{Took, Numbered}
use Rattle.net_lines.specs.Judging.{Asked, Judged}
use Rattle.net_lines.specs.Proofs.Codes.{cells-both}
use Rattle.net_lines.specs.Proofs.Drafts.{entered-told, entered-holds, taken-told, taken-draft}

or_right : (a b : Bool) → b ≡ true → (a || b) ≡ true
or_right true b h = refl
or_right false b h = h

or_left : (a b : Bool) → a ≡ true → (a || b) ≡ true
or_left a b h = rw h

module _ {text : List ℕ} {ags : List Agent} {at end : ℕ} {over : Bool} {s : Sheet} {cs : List ℕ} {used : ℕ} {ts us : List Term} {m : Net}
    (q : Asked text ags at end over s cs used ts us m) where
  five : {s₁ : Sheet} {cs₁ : List ℕ} → net_fault5 ags us m ≡ true → Judged text ags ts us m (Err TooBig) s₁ cs₁
  unfolding net_judged refuse
  five h = record { told = rw h; draft = Prim.tt }

  big : (any big_node (nodes us) ≡ true) → net_fault5 ags us m ≡ true
  unfolding net_fault5
  big h = or_left (any big_node (nodes us)) (big_net ags m) h

  net : big_net ags m ≡ true → net_fault5 ags us m ≡ true
  unfolding net_fault5
  net h = or_right (any big_node (nodes us)) (big_net ags m) h

  -- how the four tests make up one
  abbrev cells_big : Bool
  cells_big = ltb net_cells_max (length (cells_of ags (net_terms m)))

  abbrev names_big : Bool
  names_big = ltb net_names_max (length (different (names_of ags (net_terms m))))

  net_is : big_net ags m ≡ ((over || cells_big) || names_big)
  unfolding big_net
  net_is = ap (λ t. (t || cells_big) || names_big) (sym q.too_many)

  sheet-cells : s.cells ≡ length (cells_of ags ts)
  sheet-cells = (q.draft.holds []).count ∙ cell-count ags (number (named ags ts ++ [])) ts 0 q.draft.right

  cells_are : length (cells_of ags (net_terms m)) ≡ s.cells + length (cells_of ags us)
  cells_are = ap (λ l. length (cells_of ags l)) q.net ∙ cells-both ags ts us ∙ ap (λ k. k + length (cells_of ags us)) (sym sheet-cells)

  names-are : different (names_of ags (net_terms m)) ≡ named ags (ts ++ us)
  names-are = ap (λ l. different (names_of ags l)) q.net

  pub over-judged : {s₁ : Sheet} {cs₁ : List ℕ} → over ≡ true → Judged text ags ts us m (Err TooBig) s₁ cs₁
  over-judged h = five (net (net_is ∙ or_left _ names_big (or_left over cells_big h)))

  module _ (line : List ℕ) (is : line ≡ between text at end) where
    spelt : terms_of (drop 1 (fields line)) ≡ some us
    spelt = ap (λ l. terms_of (drop 1 (fields l))) is ∙ q.terms

    module _ (o : Bool) (eo : (vs : List Term) → terms_of (drop 1 (fields line)) ≡ some vs → o ≡ any big_node (nodes vs)) where
      pub big-judged : {s₁ : Sheet} {cs₁ : List ℕ} → o ≡ true → Judged text ags ts us m (Err TooBig) s₁ cs₁
      big-judged h = five (big (sym (eo us spelt) ∙ h))

      module _ (no : o ≡ false) (ov : over ≡ false) (c : Bool)
          (ec : c ≡ ltb net_cells_max (s.cells + length (keep (declared ags) (words_in (drop (field_start line 1) line))))) where
        small : any big_node (nodes us) ≡ false
        small = sym (eo us spelt) ∙ no

        cells_told : c ≡ cells_big
        cells_told = ec ∙ ap (λ l. ltb net_cells_max (s.cells + length l)) (part-cells line 1 us spelt ags) ∙ ap (ltb net_cells_max) (sym cells_are)

        pub cells-judged : {s₁ : Sheet} {cs₁ : List ℕ} → c ≡ true → Judged text ags ts us m (Err TooBig) s₁ cs₁
        cells-judged h = five (net (net_is ∙ or_left _ names_big (or_right over cells_big (sym cells_told ∙ h))))

        module _ (nc : c ≡ false) (f : ℕ) (ef : f ≡ field_start line 1) (s₁ : Sheet) (e₁ : Bool)
            (en : Entered text ags net_names_max (between text (at + f) end) e₁ s s₁) where
          within : (zs : List Word) → Within text net_names_max e₁ s₁ (cells_from ags (number (named ags ts ++ zs)) 0 (packed ts)) (grown (named ags ts) (names_of ags us))
          within zs =
              names-entered text line at end is ags net_names_max e₁ s s₁ (cells_from ags (number (named ags ts ++ zs)) 0 (packed ts)) (named ags ts) (q.draft.holds zs) q.fit.short
              1 us spelt small (subst (λ k. Entered text ags net_names_max (between text (at + k) end) e₁ s s₁) ef en)

          names-told : e₁ ≡ leb (length (different (names_of ags (net_terms m)))) net_names_max
          names-told = entered-told text ags ts us s₁ net_names_max e₁ within ∙ ap (λ l. leb (length l) net_names_max) (sym names-are)

          pub names-judged : {s₂ : Sheet} {cs₂ : List ℕ} → e₁ ≡ false → Judged text ags ts us m (Err TooBig) s₂ cs₂
          names-judged h =
              let l = leb-false (length (different (names_of ags (net_terms m)))) net_names_max (sym names-told ∙ h) in
              five (net (net_is ∙ or_right (over || cells_big) names_big (lt-ltb net_names_max (length (different (names_of ags (net_terms m)))) l)))

          module _ (yes : e₁ ≡ true) (n : ℕ) (sn : suc n ≡ length (fields line)) (narrow : n ≤ 2 * rule_equations_max)
              (room : used + n ≤ face_max + 2 * net_equations_max) (k : Bool) (s₂ : Sheet) (cs₂ : List ℕ) (t : Took text ags (at + f) end n s₁ cs used k s₂ cs₂) where
            few_names : length (different (names_of ags (net_terms m))) ≤ net_names_max
            few_names = leb-true (length (different (names_of ags (net_terms m)))) net_names_max (sym names-told ∙ yes)

            few_cells : s.cells + length (cells_of ags us) ≤ net_cells_max
            few_cells =
                let l = ltb-false net_cells_max (length (cells_of ags (net_terms m))) (sym cells_told ∙ nc) in
                let e = cells_are in omega (arith, l, e)

            no_five : net_fault5 ags us m ≡ false
            unfolding net_fault5
            no_five =
                none_of (any big_node (nodes us)) (big_net ags m) small
                (net_is ∙ none_of (over || cells_big) names_big (none_of over cells_big ov (sym cells_told ∙ nc)) (le-ltb net_names_max (length (different (names_of ags (net_terms m)))) few_names))

            from_end : at + field_start line 1 ≤ end
            from_end =
                let a = start_le line 1 in let b = ap length is in let d = length-take (end - at) (drop at text) in let g = q.stands.begins in
                omega (arith, a, b, d, g)

            parted : (fs : List Word) → fs ≡ drop 1 (fields line) → Parted text (at + field_start line 1) end fs
            unfolding Parted
            parted [] e = Prim.tt
            parted (g ∷ gs) e =
                let z : 1 < length (fields line) = (let a = ap length e in let b = length-drop 1 (fields line) in omega (arith, a, b)) in
                (from_end, ap fields (rest_of text line at end is (field_start line 1)) ∙ sym (fields-drop line 1 z) ∙ sym e)

            written : Written text (at + f) end (drop 1 (fields line)) us
            written = record {
              within = (let w = q.stands.within in omega (arith, w));
              stops = subst Stops (sym q.stands.ended) (newline_stops (drop (suc end) text));
              parted = subst (λ x. Parted text (at + x) end (drop 1 (fields line))) (sym ef) (parted (drop 1 (fields line)) refl);
              terms = spelt;
            }

            many : n ≡ length (drop 1 (fields line))
            many = let b = length-drop 1 (fields line) in omega (arith, b, sn)

            room' : length ts + n ≤ face_max + 2 * net_equations_max
            room' = let e = q.behind in omega (arith, e, room)

            names-few : length (named ags (ts ++ us)) ≤ net_names_max
            names-few = let e = ap length names-are in omega (arith, e, few_names)

            cells-few : length (cells_of ags ts) + length (cells_of ags us) ≤ net_cells_max
            cells-few = let e = sheet-cells in omega (arith, e, few_cells)

            took : Took text ags (at + f) end n s₁ cs (length ts) k s₂ cs₂
            took = subst (λ x. Took text ags (at + f) end n s₁ cs x k s₂ cs₂) q.behind t

            told : k ≡ not (any (wrong_args ags) (nodes us))
            told =
                taken-told text ags ts us s₁ s₂ cs cs₂ (at + f) end n (drop 1 (fields line)) k (entered-holds text ags ts us s₁ net_names_max e₁ within yes)
                q.draft.codes q.draft.long q.draft.right written many narrow room' q.fit.short q.fit.arities small cells-few names-few took

            seven : (a b : Bool) → a ≡ not b → a ≡ false → b ≡ true
            seven a true p z = refl
            seven a false p z = never' (sym p ∙ z)

            none : (a b : Bool) → a ≡ not b → a ≡ true → b ≡ false
            none a true p z = never (sym p ∙ z)
            none a false p z = refl

            seven-judged : k ≡ false → Judged text ags ts us m (Err WrongArguments) s₂ cs₂
            unfolding net_judged refuse net_fault7
            seven-judged h = record {
              told = rw (no_five, seven k (any (wrong_args ags) (nodes us)) told h);
              draft = Prim.tt;
            }

            fine-judged : k ≡ true → Judged text ags ts us m (Ok Prim.tt) s₂ cs₂
            unfolding net_judged refuse net_fault7
            fine-judged h = record {
              told = rw (no_five, none k (any (wrong_args ags) (nodes us)) told h);
              draft =
                  taken-draft text ags ts us s₁ s₂ cs cs₂ (at + f) end n (drop 1 (fields line)) k (entered-holds text ags ts us s₁ net_names_max e₁ within yes)
                  q.draft.codes q.draft.long q.draft.right written many narrow room' q.fit.short q.fit.arities small cells-few names-few took h;
            }

          pub all_judged : (yes : e₁ ≡ true) (n : ℕ) → suc n ≡ length (fields line) → n ≤ 2 * rule_equations_max → used + n ≤ face_max + 2 * net_equations_max
              → {r : Result ⊤ Fault} {s₂ : Sheet} {cs₂ : List ℕ} → Numbered text ags (at + f) end n s₁ cs used r s₂ cs₂ → Judged text ags ts us m r s₂ cs₂
          all_judged y n sn narrow room {r} {s₂} {cs₂} t = go r t
            where
              go : (r : Result ⊤ Fault) → Numbered text ags (at + f) end n s₁ cs used r s₂ cs₂ → Judged text ags ts us m r s₂ cs₂
              go (Ok u) t = fine-judged y n sn narrow room true s₂ cs₂ t.took refl
              go (Err g) t = subst (λ f. Judged text ags ts us m (Err f) s₂ cs₂) (sym t.number) (seven-judged y n sn narrow room false s₂ cs₂ t.took refl)
