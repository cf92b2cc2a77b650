-- Each way out of the call, and what it begins with.
use Rattle.std.specs.Prelude.{ℕ, suc, ◌+◌, ◌*◌, ◌≤◌, ◌<◌, ◌≡◌, Bool, true, false, ◌&&◌, ◌||◌, ◌↔◌, List, [], ◌∷◌, leb, length, get_or, Result, Ok, Err}
use Rattle.std.proofs.Math.Path.{refl, sym, ap, ap₂}
use Rattle.std.proofs.Common.{subst, ◌∙◌, arith, leb-true, lt-ltb, le-ltb, ltb-false}
use Rattle.std.proofs.Math.Dec.{ltb}
use Rattle.parts.specs.Faults.{fault_number}
use Rattle.parts.specs.declared.faults.Refusal.{Refusal}
use Rattle.nets.specs.declared.whole.Lengths.{Lengths}
use Rattle.parts.specs.Limits.{text_max, identifier_max, arity_max, face_max, net_equations_max, net_cells_max, net_names_max}
use Rattle.model.specs.State.{St, zeros}
use Rattle.model.proofs.Beneath.Facts.{zeros-length, zero_at}
use Rattle.model.specs.Load.{loaded}
use Rattle.texts.specs.Bytes.{any, all, keep, same, different, lines}
use Rattle.texts.specs.Terms.{nodes, words_of}
use Rattle.texts.specs.Books.{Agent, Book, cells_of, names_of, net_terms}
use Rattle.texts.specs.Answers.{accepted}
use Rattle.texts.specs.NetText.{big_net, net_of_lines, read_net, net_read}
use Rattle.texts.specs.Coded.{Table, table_of, packed, codes, cells_at, arity_at}
use Rattle.texts.specs.Good.{GoodBook}
use Rattle.texts.proofs.Main.{table-book, table_test, net-text-accepted}
use Rattle.texts.specs.TableTest.{agent_ok, test_table}
use Rattle.texts.specs.Terms as Terms
use Rattle.texts.proofs.Beneath.Tools.{both, pair, neither, never', all_mono, same_refl, same_eq}
use Rattle.texts.proofs.Beneath.NetMeans.{net-good-small}
use Rattle.texts.proofs.Beneath.Loads.{cells-nil}
use Rattle.table.specs.Layout.{agents_in, bytes_of, table_bytes}
use Rattle.table.specs.Layout as Layout
use Rattle.table.specs.Laws.Whole.{FitAgents, FitTable, agents_back, view-bytes, tested-fits}
use Rattle.table.specs.Given.{Given}
use Rattle.terms.specs.Agents.{agents_of}
use Rattle.terms.specs.Layout.{sheet_size}
use Rattle.terms.specs.Sheet.{Sheet}
use Rattle.terms.specs.Sheet as Sheets
use Rattle.terms.specs.Meaning.{Holds}
use Rattle.terms.proofs.Main.{holds-nothing}
use Rattle.loading.specs.OnSheet.{net_on, Lent, Ready}
use Rattle.net_lines.specs.Draft.{named, Draft}
use Rattle.nets.specs.Answer.{filled, kept, sound_table, call_by, net_call}
use Rattle.nets.specs.Reading.{outcome, Start, TextRead}
use Rattle.nets.specs.Proofs.OnSheet.{net_on_lem, names_on}
use Rattle.nets.specs.Proofs.Wholes.{cells-few}

-- Tables.
fits : (b : Book) → GoodBook b → FitTable (table_of b)
fits b g = tested-fits (table_of b) ((table_test (table_of b)).1 ((table-book (table_of b)).1 (b, g, refl)))

pub sound-given : (w : List ℕ) → sound_table w ≡ true → Given w
unfolding sound_table table_bytes
sound-given w h =
    let p = both (test_table (Layout.view w)) (same w (bytes_of (Layout.view w))) h in
    let b = (table-book (Layout.view w)).0 ((table_test (Layout.view w)).0 p.0) in
    (b.0, b.1, same_eq w (bytes_of (Layout.view w)) p.1 ∙ ap bytes_of (sym b.2))

pub given-sound : (w : List ℕ) → Given w → sound_table w ≡ true
unfolding sound_table table_bytes
given-sound w g =
    let v : Layout.view w ≡ table_of g.0 = ap Layout.view g.2 ∙ view-bytes (table_of g.0) (fits g.0 g.1) in
    pair (test_table (Layout.view w)) (same w (bytes_of (Layout.view w)))
    (ap test_table v ∙ (table_test (table_of g.0)).1 ((table-book (table_of g.0)).1 (g.0, g.1, refl)))
    (ap (same w) (ap bytes_of v ∙ sym g.2) ∙ same_refl w)

pub not_given : (w : List ℕ) (t : Bool) → (t ≡ true) ↔ Given w → t ≡ false → sound_table w ≡ false
not_given w t i h = go (sound_table w) refl
  where
    go : (u : Bool) → sound_table w ≡ u → sound_table w ≡ false
    go true e = never' (sym (i.1 (sound-given w e)) ∙ h)
    go false e = e

small-arity : (a : Agent) → agent_ok a ≡ true → leb a.arity arity_max ≡ true
unfolding agent_ok
small-arity a h = (both (Terms.symbol a.symbol && leb (length a.symbol) identifier_max) (leb a.arity arity_max) h).1

arity_le : (xs : List Agent) → all (λ a. leb a.arity arity_max) xs ≡ true → (k : ℕ) → arity_at xs k ≤ arity_max
unfolding arity_at all
arity_le [] h k = omega arith
arity_le (a ∷ xs) h ℕ.zero = leb-true a.arity arity_max (both (leb a.arity arity_max) (all (λ a. leb a.arity arity_max) xs) h).0
arity_le (a ∷ xs) h (ℕ.suc k) = arity_le xs (both (leb a.arity arity_max) (all (λ a. leb a.arity arity_max) xs) h).1 k

-- Nothing is read yet.
no_names : (ags : List Agent) → named ags [] ≡ []
unfolding names_of keep nodes words_of different
no_names ags = refl

draft_none : (text : List ℕ) (ags : List Agent) (sh cs : List ℕ) → length sh ≡ sheet_size → get_or sh 0 0 ≡ 0 → get_or sh 1 0 ≡ 0 → length cs ≡ face_max + 2 * net_equations_max
    → Draft text ags (Sheets.view sh) cs []
unfolding packed codes cells_at nodes any
draft_none text ags sh cs h c n l =
    record {
      holds = λ zs. subst (λ ws. Holds text (Sheets.view sh) [] ws) (sym (no_names ags)) (holds-nothing text sh h c n);
      codes = λ zs. refl;
      long = l;
      right = refl;
      few = (let z = cells-nil ags in omega (arith, z));
    }

-- The agents of a sound table.
module _ (w : List ℕ) (g : Given w) where
  abbrev ags : List Agent
  ags = (table_of g.0).agents

  fit-agents : FitAgents ags
  fit-agents = (fits g.0 g.1).agents

  pub given-agents : agents_in w ≡ ags
  unfolding table_bytes
  given-agents = ap agents_in g.2 ∙ agents_back (table_of g.0) fit-agents

  narrow : all (λ a. leb a.arity arity_max) ags ≡ true
  narrow = all_mono agent_ok (λ a. leb a.arity arity_max) small-arity ags fit-agents.good

  pub given-lent : Lent w
  given-lent =
      record {
        few = (let z = ap length given-agents in let y = fit-agents.few in omega (arith, z, y));
        narrow = λ k. subst (λ xs. arity_at xs k ≤ arity_max) (sym given-agents) (arity_le ags narrow k);
      }

  module _ (text part : List ℕ) (short : length text ≤ text_max) (ep : (t : Table) → w ≡ bytes_of t → FitAgents t.agents → agents_of part ≡ t.agents) where
    part_is : agents_of part ≡ ags
    unfolding table_bytes
    part_is = ep (table_of g.0) g.2 fit-agents

    pub given_same : agents_in w ≡ agents_of part
    given_same = given-agents ∙ sym part_is

    starts : (sh cs ms : List ℕ) → length sh ≡ sheet_size → get_or sh 0 0 ≡ 0 → get_or sh 1 0 ≡ 0 → length cs ≡ face_max + 2 * net_equations_max
        → length ms ≡ suc net_equations_max → Start text (agents_of part) w (Sheets.view sh) cs ms
    starts sh cs ms h c n l k =
        record {
          fit = record { short = short; arities = ap (all (λ a. leb a.arity arity_max)) part_is ∙ narrow };
          same = given_same;
          draft = draft_none text (agents_of part) sh cs h c n l;
          long = k;
        }

    pub starts_empty : Start text (agents_of part) w (Sheets.view (zeros sheet_size)) (zeros (face_max + 2 * net_equations_max)) (zeros (suc net_equations_max))
    starts_empty =
        starts (zeros sheet_size) (zeros (face_max + 2 * net_equations_max)) (zeros (suc net_equations_max)) (zeros-length sheet_size) (zero_at sheet_size 0) (zero_at sheet_size 1)
        (zeros-length (face_max + 2 * net_equations_max)) (zeros-length (suc net_equations_max))

-- The call.
module _ (text w : List ℕ) (s : St) where
  pub call_16 : sound_table w ≡ false → kept 16 0 s ≡ net_call text w s
  unfolding net_call net_read call_by
  call_16 h = rw h

  pub call_1 : sound_table w ≡ true → text_max < length text → kept 1 0 s ≡ net_call text w s
  unfolding net_call net_read read_net call_by
  call_1 h l = rw (h, lt-ltb text_max (length text) l)

  call-read : sound_table w ≡ true → length text ≤ text_max → net_call text w s ≡ call_by (agents_in w) s (net_of_lines (agents_in w) (lines text))
  unfolding net_call net_read read_net
  call-read h l = rw (h, le-ltb text_max (length text) l)

  module _ (ags : List Agent) (sound : sound_table w ≡ true) (short : length text ≤ text_max) (same' : agents_in w ≡ ags) (sh : Sheet) (cs ms : List ℕ) where
    by_text : {r : Result Lengths Refusal} (t : TextRead text ags (net_of_lines ags (lines text)) r sh cs ms) → net_call text w s ≡ call_by ags s (outcome r t.net)
    by_text t = call-read sound short ∙ ap (λ a. call_by a s (net_of_lines a (lines text))) same' ∙ ap (call_by ags s) t.told

    pub call-refused : {r : Refusal} → TextRead text ags (net_of_lines ags (lines text)) (Err r) sh cs ms → kept (fault_number r.fault) r.line s ≡ net_call text w s
    unfolding call_by
    call-refused t = sym (by_text t)

    module _ {n : Lengths} (t : TextRead text ags (net_of_lines ags (lines text)) (Ok n) sh cs ms) where
      accepted_here : read_net ags text ≡ accepted t.net
      unfolding read_net
      accepted_here = rw (le-ltb text_max (length text) short) t.told

      small : big_net ags t.net ≡ false
      small = net-good-small ags t.net ((net-text-accepted ags text t.net).0 accepted_here).1

      record Sizes : Type 0 where
        pub faces : length t.net.face ≤ face_max
        pub equations : length t.net.equations ≤ net_equations_max
        pub names : length (different (names_of ags (net_terms t.net))) ≤ net_names_max

      sizes : Sizes
      unfolding big_net
      sizes =
          let c = neither (ltb face_max (length t.net.face) || ltb net_equations_max (length t.net.equations) || ltb net_cells_max (length (cells_of ags (net_terms t.net))))
          (ltb net_names_max (length (different (names_of ags (net_terms t.net))))) small in
          let b = neither (ltb face_max (length t.net.face) || ltb net_equations_max (length t.net.equations)) (ltb net_cells_max (length (cells_of ags (net_terms t.net)))) c.0 in
          let a = neither (ltb face_max (length t.net.face)) (ltb net_equations_max (length t.net.equations)) b.0 in
          record {
            faces = ltb-false face_max (length t.net.face) a.0;
            equations = ltb-false net_equations_max (length t.net.equations) a.1;
            names = ltb-false net_names_max (length (different (names_of ags (net_terms t.net)))) c.1;
          }

      pub call-ready : Ready sh n.faces n.equations
      call-ready =
          let e = sizes in
          record {
            cells = cells-few text ags sh cs ms t.net t.drafted;
            names = (let a = names_on text ags sh cs t.net t.drafted.draft in let b = e.names in omega (arith, a, b));
            faces = (let a = t.faces in let b = e.faces in omega (arith, a, b));
            equations = (let a = t.equations in let b = e.equations in omega (arith, a, b));
          }

      pub call-filled : (s₁ : St) → s₁ ≡ loaded (net_on (agents_in w) sh cs n.faces n.equations) → filled s₁ ≡ net_call text w s
      unfolding call_by
      call-filled s₁ e =
          ap filled
          (e
          ∙ ap loaded (ap (λ a. net_on a sh cs n.faces n.equations) same' ∙ ap₂ (net_on ags sh cs) t.faces t.equations ∙ net_on_lem text ags sh cs t.net t.drafted.draft))
          ∙ sym (by_text t)
