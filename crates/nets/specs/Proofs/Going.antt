-- The loop over the `eq` lines: what it has read, and what is left to read.
use Rattle.std.specs.Prelude.{ℕ, suc, ◌+◌, ◌≡◌, refl, List, [], length, drop, Option, Some, None, Ok, Err}
use Rattle.std.proofs.Common.{sym, ap, subst, ◌∙◌, arith}
use Rattle.parts.specs.declared.faults.Fault.{Fault}
use Rattle.texts.specs.Bytes.{lines}
use Rattle.texts.specs.Books.{Agent, Net}
use Rattle.texts.specs.Answers.{read_lines, after_line}
use Rattle.texts.specs.NetText.{eq_line}
use Rattle.terms.specs.Sheet.{Sheet}
use Rattle.net_lines.specs.Judging.{Fit}
use Rattle.nets.specs.Drafted.{Drafted}
use Rattle.nets.specs.Reading.{StepFault, StepNext, Stepped, Moved, EqsRead}

pub record Going (text : List ℕ) (ags : List Agent) (from : ℕ) (m : Net) (at k : ℕ) (s : Sheet) (cs ms : List ℕ) : Type 0 where
  pub net : Net
  pub reads : read_lines (eq_line ags) 3 m (lines (drop from text)) ≡ read_lines (eq_line ags) (3 + k) net (lines (drop at text))
  pub drafted : Drafted text ags s cs ms net
  pub face : net.face ≡ m.face
  pub many : k ≡ length net.equations

pub going_start : (text : List ℕ) (ags : List Agent) (from : ℕ) (m : Net) (s : Sheet) (cs ms : List ℕ) → Drafted text ags s cs ms m → m.equations ≡ []
    → Going text ags from m from 0 s cs ms
going_start text ags from m s cs ms d e = record { net = m; reads = refl; drafted = d; face = refl; many = sym (ap length e) }

module _ {text : List ℕ} {ags : List Agent} {from f : ℕ} {m : Net} {at k : ℕ} {s : Sheet} {cs ms : List ℕ} (g : Going text ags from m at k s cs ms) (fit : Fit text ags)
    (ef : f ≡ length m.face) (s₁ : Sheet) (cs₁ ms₁ : List ℕ) where
  -- what a step says of each net, it says of the net so far
  here : {P : Net → Type 0} → ((m : Net) → Fit text ags → Drafted text ags s cs ms m → f ≡ length m.face → k ≡ length m.equations → P m) → P g.net
  here j = j g.net fit g.drafted (ef ∙ sym (ap length g.face)) g.many

  pub going_more : {o : Option ℕ} {a : ℕ} → o ≡ Some a
      → ((m : Net) → Fit text ags → Drafted text ags s cs ms m → f ≡ length m.face → k ≡ length m.equations → Stepped text ags at m (Ok o) s₁ cs₁ ms₁)
      → Going text ags from m a (k + 1) s₁ cs₁ ms₁
  unfolding read_lines after_line
  going_more {o} {a} e j =
      let st : StepNext text ags at g.net a s₁ cs₁ ms₁ = subst (λ x. Stepped text ags at g.net (Ok x) s₁ cs₁ ms₁) e (here j) in
      record {
        net = st.net;
        reads = g.reads ∙ rw (st.here, st.fair) (ap (λ n. read_lines (eq_line ags) n st.net (lines (drop a text))) (let z : suc (3 + k) ≡ 3 + (k + 1) = omega arith in z));
        drafted = st.drafted;
        face = st.face ∙ g.face;
        many = (let a = st.one in let b = g.many in omega (arith, a, b));
      }

  pub eqs-done : {o : Option ℕ} → o ≡ None
      → ((m : Net) → Fit text ags → Drafted text ags s cs ms m → f ≡ length m.face → k ≡ length m.equations → Stepped text ags at m (Ok o) s₁ cs₁ ms₁)
      → EqsRead text ags from m (Ok k) s₁ cs₁ ms₁
  unfolding read_lines
  eqs-done e j =
      let st : (lines (drop at text) ≡ []) × Drafted text ags s₁ cs₁ ms₁ g.net = subst (λ x. Stepped text ags at g.net (Ok x) s₁ cs₁ ms₁) e (here j) in
      record {
        net = g.net;
        told = g.reads ∙ rw st.0;
        drafted = st.1;
        face = g.face;
        many = g.many;
      }

  pub eqs-fault : {n : Fault} → ((m : Net) → Fit text ags → Drafted text ags s cs ms m → f ≡ length m.face → k ≡ length m.equations → StepFault text ags at m n)
      → EqsRead text ags from m (Err (record { fault = n; line = 3 + k })) s₁ cs₁ ms₁
  unfolding read_lines after_line
  eqs-fault {n} j =
      let st : StepFault text ags at g.net n = here j in
      record {
        net = g.net;
        told = g.reads ∙ rw (st.here, st.faulty);
        drafted = Prim.tt;
        face = g.face;
        many = Prim.tt;
      }

-- Where the reader goes on.
pub on : (text : List ℕ) (at k : ℕ) {o : Option ℕ} {a : ℕ} → o ≡ Some a → Moved text at k (Ok o) → Moved text at k (Ok (Some a))
on text at k e v = subst (λ x. Moved text at k (Ok x)) e v
