-- A line's terms taken onto a draft: first its names are entered, then its terms are read.
use Rattle.std.proofs.lemmas.List.{map-append}
use Rattle.std.specs.Prelude.{ℕ, ◌+◌, ◌*◌, ◌≤◌, ◌≡◌, Bool, leb, take, drop, List, [], ◌++◌, map}
use Rattle.std.proofs.Math.Path.{refl, sym, ap, ap₂}
use Rattle.std.proofs.Common.{subst, ◌∙◌, arith, append_assoc}
use Rattle.std.proofs.Math.Bool.{true, false, not}
use Rattle.std.proofs.Math.ListN.{length, length-append, length-map, length-take}
use Rattle.std.proofs.Math.Seq.{sets, length-sets, take_at}
use Rattle.std.proofs.lemmas.List.Edits.{sets-eq}
use Rattle.parts.specs.Limits.{text_max, arity_max, net_cells_max, net_names_max, rule_equations_max, face_max, net_equations_max}
use Rattle.parts.specs.Sides.{code}
use Rattle.model.specs.Table.{Cell}
use Rattle.texts.specs.Bytes.{Word, any, all}
use Rattle.texts.specs.Terms.{Term, spell, nodes}
use Rattle.texts.specs.Books.{Agent, cells_of, names_of}
use Rattle.texts.specs.RuleText.{big_node, wrong_args}
use Rattle.texts.specs.Coded.{packed, codes, cells_from}
use Rattle.texts.proofs.Beneath.Tools.{any_append, none_of}
use Rattle.texts.proofs.Beneath.Means.{spell-terms}
use Rattle.texts.proofs.Beneath.NetMeans.{nodes-append}
use Rattle.texts.proofs.Beneath.Linear.{cell-count}
use Rattle.texts.proofs.Beneath.Loads.{cells-append, codes-append}
use Rattle.terms.specs.Sheet.{Sheet}
use Rattle.terms.specs.Meaning.{number, Holds, grown}
use Rattle.lines.specs.Names.{Within}
use Rattle.line_terms.specs.Meaning.{Written, Read}
use Rattle.line_terms.specs.Main.{fields_read}
use Rattle.net_lines.specs.Draft.{named, OnSheet, InCodes, Draft}
use Rattle.net_lines.specs.Taking.{Took}
use Rattle.net_lines.specs.Proofs.Names.{named-append, named_on, named_stays}
use Rattle.net_lines.specs.Proofs.Codes.{codes-length, cells-both}

holds_by : {text : List ℕ} {s : Sheet} {a b : List Cell} {v w : List Word} → a ≡ b → v ≡ w → Holds text s a v → Holds text s b w
holds_by {text} {s} {a} {b} {v} {w} e f h = subst (λ l. Holds text s l w) e (subst (λ l. Holds text s a l) f h)

module _ (text : List ℕ) (ags : List Agent) (ts us : List Term) where
  -- The names of the line entered.
  module _ (s₁ : Sheet) (limit : ℕ) (r : Bool)
      (w : (zs : List Word) → Within text limit r s₁ (cells_from ags (number (named ags ts ++ zs)) 0 (packed ts)) (grown (named ags ts) (names_of ags us))) where
    pub entered-told : r ≡ leb (length (named ags (ts ++ us))) limit
    entered-told = (w []).told ∙ ap (λ l. leb (length l) limit) (named-append ags ts us)

    pub entered-holds : r ≡ true → OnSheet text ags s₁ (named ags (ts ++ us)) ts
    entered-holds t zs =
        let o = named_on ags ts us in
        holds_by
        (ap (λ l. cells_from ags (number l) 0 (packed ts)) (sym (append_assoc (named ags ts) o.0 zs) ∙ ap (λ l. l ++ zs) (sym o.1)))
        (named-append ags ts us)
        ((w (o.0 ++ zs)).holds t)

  -- Its terms read.
  module _ (s s₁ : Sheet) (cs cs₁ : List ℕ) (from to n : ℕ) (fs : List Word) (r : Bool) (h : OnSheet text ags s (named ags (ts ++ us)) ts)
      (old-codes : InCodes ags cs (named ags ts) ts) (long : length cs ≡ face_max + 2 * net_equations_max) (right : any (wrong_args ags) (nodes ts) ≡ false)
      (w : Written text from to fs us) (many : n ≡ length fs) (narrow : n ≤ 2 * rule_equations_max) (room : length ts + n ≤ face_max + 2 * net_equations_max)
      (short : length text ≤ text_max) (arities : all (λ a. leb a.arity arity_max) ags ≡ true) (small : any big_node (nodes us) ≡ false)
      (few_cells : length (cells_of ags ts) + length (cells_of ags us) ≤ net_cells_max) (few_names : length (named ags (ts ++ us)) ≤ net_names_max)
      (t : Took text ags from to n s cs (length ts) r s₁ cs₁) where
    abbrev W : List Word
    W = named ags (ts ++ us)

    fields-terms : length fs ≡ length us
    fields-terms = ap length (sym (spell-terms fs us w.terms).0) ∙ length-map us spell

    before : List Word → List Cell
    before zs = cells_from ags (number (W ++ zs)) 0 (packed ts)

    before_many : (zs : List Word) → length (before zs) ≡ length (cells_of ags ts)
    unfolding before
    before_many zs = cell-count ags (number (W ++ zs)) ts 0 right

    read : (zs : List Word) → Read text ags t.old (before zs) W us r s₁ t.new
    unfolding before
    read zs =
        fields_read text ags from to fs us w s t.old (before zs) W (h zs)
        (record {
          short = short;
          arities = arities;
          small = small;
          cells = (let q = before_many zs in omega (arith, q, few_cells));
          names = (let q = ap length (named_stays ags ts us) in omega (arith, q, few_names));
        })
        (t.reads ∙ ap (λ k. Rattle.line_terms.specs.Fields.fields_by text ags to k 0 from s t.old) many)

    pub taken-told : r ≡ not (any (wrong_args ags) (nodes us))
    taken-told = (read []).answer

    module _ (ok : r ≡ true) where
      -- the codes of the line, as the whole text numbers its names
      new_codes : List Word → List ℕ
      new_codes zs = map code (codes ags (number (W ++ zs)) (0 + length (cells_of ags ts)) (packed us))

      new_many : (zs : List Word) → length (new_codes zs) ≡ n
      unfolding new_codes
      new_many zs = length-map (codes ags (number (W ++ zs)) (0 + length (cells_of ags ts)) (packed us)) code ∙ codes-length ags (number (W ++ zs)) us (0 + length (cells_of ags ts)) ∙ sym (many ∙ fields-terms)

      new_is : (zs : List Word) → t.new ≡ sets t.old 0 (new_codes zs)
      unfolding new_codes
      new_is zs =
          ((read zs).left ok zs).codes
          ∙ ap₂ (λ l k. sets t.old 0 (map code (codes ags (number (l ++ zs)) k (packed us)))) (named_stays ags ts us) (let q = before_many zs in omega (arith, q))

      new_at : (zs : List Word) → take n t.new ≡ new_codes zs
      new_at zs =
          ap (take n) (new_is zs ∙ sets-eq (new_codes zs) t.old 0 (let z = new_many zs in let y = t.wide in omega (arith, z, y, narrow)))
          ∙ take_at (new_codes zs) (drop (0 + length (new_codes zs)) t.old) n (new_many zs)

      put_is : (zs : List Word) → cs₁ ≡ (take (length ts) cs ++ new_codes zs) ++ drop (length ts + length (new_codes zs)) cs
      put_is zs =
          t.puts ok ∙ ap (sets cs (length ts)) (new_at zs) ∙ sets-eq (new_codes zs) cs (length ts) (let z = new_many zs in omega (arith, z, long, room))

      pub taken-draft : Draft text ags s₁ cs₁ (ts ++ us)
      unfolding before new_codes
      taken-draft =
          record {
            holds = λ zs.
                holds_by
                (ap₂ (λ l k. cells_from ags (number (W ++ zs)) 0 (packed ts) ++ cells_from ags (number (l ++ zs)) k (packed us)) (named_stays ags ts us) (let q = before_many zs in omega (arith, q))
                ∙ sym (cells-append ags (number (W ++ zs)) ts us 0))
                (named_stays ags ts us)
                ((read zs).left ok zs).holds;
            codes = λ zs.
                let o = named_on ags ts us in
                let c = old-codes (o.0 ++ zs) ∙ ap (λ l. map code (codes ags (number l) 0 (packed ts))) (sym (append_assoc (named ags ts) o.0 zs) ∙ ap (λ l. l ++ zs) (sym o.1)) in
                let m : length (take (length ts) cs ++ new_codes zs) ≡ length (ts ++ us) =
                (let a = length-append (take (length ts) cs) (new_codes zs) in let b = new_many zs in let d = length-append ts us in let e = length-take (length ts) cs in
                let f = many ∙ fields-terms in omega (arith, a, b, d, e, f, long, room)) in
                ap (take (length (ts ++ us))) (put_is zs)
                ∙ take_at (take (length ts) cs ++ new_codes zs) (drop (length ts + length (new_codes zs)) cs) (length (ts ++ us)) m
                ∙ ap (λ l. l ++ new_codes zs) c
                ∙ sym (map-append code (codes ags (number (W ++ zs)) 0 (packed ts)) (codes ags (number (W ++ zs)) (0 + length (cells_of ags ts)) (packed us)))
                ∙ ap (map code) (sym (codes-append ags (number (W ++ zs)) ts us 0));
            long = ap length (t.puts ok) ∙ length-sets cs (length ts) (take n t.new) ∙ long;
            right =
                ap (any (wrong_args ags)) (nodes-append ts us)
                ∙ any_append (wrong_args ags) (nodes ts) (nodes us)
                ∙ none_of _ _ right (not_so r (any (wrong_args ags) (nodes us)) taken-told ok);
            few = (let e = cells-both ags ts us in omega (arith, e, few_cells));
          }
        where
          not_so : (a b : Bool) → a ≡ not b → a ≡ true → b ≡ false
          not_so a true p q = Rattle.texts.proofs.Beneath.Tools.never (sym p ∙ q)
          not_so a false p q = refl
