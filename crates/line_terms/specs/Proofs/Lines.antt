-- The identifiers, cells and names of a line, from those of its first term and of the rest. Assumes nothing.
use Rattle.std.specs.Prelude.{ℕ, ◌+◌, ◌≡◌, Bool, false, ◌||◌, List, [], ◌∷◌, ◌++◌, not, length}
use Rattle.std.proofs.Common.{sym, ◌∙◌, append-nil, arith, ap}
use Rattle.texts.specs.Bytes.{Word, any, keep}
use Rattle.texts.specs.Terms.{Term, Node, nodes_at, nodes, words_of}
use Rattle.texts.specs.Books.{Agent, declared, names_of}
use Rattle.texts.specs.Coded.{packed, size, cells_at}
use Rattle.texts.specs.RuleText.{wrong_args, big_node}
use Rattle.texts.proofs.Beneath.Tools.{neither, any_append, keep_append}
use Rattle.texts.proofs.Beneath.Linear.{words_append, cell-count}
use Rattle.texts.proofs.Beneath.Loads.{cells-cons}
use Rattle.terms.specs.Meaning.{grown, Room}
use Rattle.terms.proofs.Beneath.Numbers.{grown-append, grown_longer}
use Rattle.line_terms.specs.Meaning.{Roomy}

module _ (t : Term) (ts : List Term) where
  nodes-cons : nodes (t ∷ ts) ≡ nodes (t ∷ []) ++ nodes ts
  unfolding nodes
  nodes-cons = rw (append-nil (nodes_at 1 t))

  words-cons : words_of (nodes (t ∷ ts)) ≡ words_of (nodes (t ∷ [])) ++ words_of (nodes ts)
  words-cons = ap words_of nodes-cons ∙ words_append (nodes (t ∷ [])) (nodes ts)

  pub any-cons : (g : Node → Bool) → any g (nodes (t ∷ ts)) ≡ (any g (nodes (t ∷ [])) || any g (nodes ts))
  any-cons g = ap (any g) nodes-cons ∙ any_append g (nodes (t ∷ [])) (nodes ts)

  pub none_cons : (g : Node → Bool) → any g (nodes (t ∷ ts)) ≡ false
      → (any g (nodes (t ∷ [])) ≡ false) × (any g (nodes ts) ≡ false)
  none_cons g h = neither (any g (nodes (t ∷ []))) (any g (nodes ts)) (sym (any-cons g) ∙ h)

  module _ (ags : List Agent) where
    pub names-cons : names_of ags (t ∷ ts) ≡ names_of ags (t ∷ []) ++ names_of ags ts
    unfolding names_of
    names-cons =
        ap (keep (λ w. not (declared ags w))) words-cons
        ∙ keep_append (λ w. not (declared ags w)) (words_of (nodes (t ∷ []))) (words_of (nodes ts))

    pub grown-cons : (ws : List Word)
        → grown ws (names_of ags (t ∷ ts)) ≡ grown (grown ws (names_of ags (t ∷ []))) (names_of ags ts)
    grown-cons ws = ap (grown ws) names-cons ∙ grown-append ws (names_of ags (t ∷ [])) (names_of ags ts)

    -- the cells of a term whose identifiers have as many arguments as they take
    pub cells-size : (number : Word → ℕ) (m : ℕ) → any (wrong_args ags) (nodes (t ∷ [])) ≡ false
        → length (cells_at ags number m t) ≡ size ags t
    unfolding packed cells_at size
    cells-size number m h = ap length (sym (append-nil (cells_at ags number m t))) ∙ cell-count ags number (t ∷ []) m h

    -- room for the first term, and for the rest behind it
    module _ (text : List ℕ) (used : ℕ) (ws : List Word) (r : Roomy text ags used ws (t ∷ ts)) where
      pub room_first : Room text ags used ws t
      unfolding size
      room_first = record {
        short = r.short;
        arities = r.arities;
        small = (none_cons big_node r.small).0;
        cells = omega (arith, r.cells, cells-cons ags t ts);
        names = omega (arith, r.names, ap length (grown-cons ws), grown_longer (grown ws (names_of ags (t ∷ []))) (names_of ags ts));
      }

      pub room-rest : (next : ℕ) → next ≡ used + size ags t → Roomy text ags next (grown ws (names_of ags (t ∷ []))) ts
      room-rest next e = record {
        short = r.short;
        arities = r.arities;
        small = (none_cons big_node r.small).1;
        cells = omega (arith, r.cells, cells-cons ags t ts);
        names = omega (arith, r.names, ap length (grown-cons ws));
      }
