-- What an accepted net satisfies.
use Rattle.std.specs.Prelude.{ℕ, ◌≡◌, refl, false, List, [], ◌∷◌, ◌++◌}
use Rattle.std.proofs.Common.{eqb-true}
use Rattle.std.proofs.lemmas.Bool.{not-false}
use Rattle.texts.specs.Bytes.{Word, any, times, In}
use Rattle.texts.specs.Terms.{Term, Node, nodes}
use Rattle.texts.specs.Books.{Agent, Equation, Net, takes, names_of, sides, net_terms}
use Rattle.texts.specs.Answers.{accepted}
use Rattle.texts.specs.RuleText.{wrong_args}
use Rattle.texts.specs.NetText.{net_fault7, face_net, more_net, loose, read_net}
use Rattle.texts.proofs.Beneath.Tools.{any_false, any_append, none_of}
use Rattle.texts.proofs.Beneath.NetMeans.{nodes-append, net-accepted}
use Rattle.texts.specs.Good.{GoodEquations, GoodNet, terms_in}

pub record SoundNet (ags : List Agent) (n : Net) : Type 0 where
  -- an agent has as many arguments as its arity, a name none
  pub arities : (i : Node) → In i (nodes (net_terms n)) → i.args ≡ takes ags i.word
  -- each name occurs exactly twice
  pub twice : (w : Word) → In w (names_of ags (net_terms n)) → times w (names_of ags (net_terms n)) ≡ 2

eqs-args : (ags : List Agent) (es : List Equation) (n : Net) → GoodEquations ags n es → any (wrong_args ags) (nodes (sides es)) ≡ false
unfolding GoodEquations sides any nodes net_fault7
eqs-args ags [] n g = refl
eqs-args ags (e ∷ es) n (g, gs) =
    any_two (terms_in e) (sides es) g.no7 (eqs-args ags es (more_net n (terms_in e)) gs)
  where
    any_two : (ts us : List Term) → any (wrong_args ags) (nodes ts) ≡ false → any (wrong_args ags) (nodes us) ≡ false → any (wrong_args ags) (nodes (ts ++ us)) ≡ false
    any_two ts us h k = rw (nodes-append ts us, any_append (wrong_args ags) (nodes ts) (nodes us)) (none_of _ _ h k)

all_args : (ags : List Agent) (n : Net) → GoodNet ags n → any (wrong_args ags) (nodes (net_terms n)) ≡ false
unfolding net_terms net_fault7
all_args ags n g =
    rw (nodes-append n.face (sides n.equations), any_append (wrong_args ags) (nodes n.face) (nodes (sides n.equations)))
    (none_of _ _ g.good_face.no7 (eqs-args ags n.equations (face_net n.face) g.good_equations))

pub net-sound : (ags : List Agent) (n : Net) → GoodNet ags n → SoundNet ags n
unfolding wrong_args loose
net-sound ags n g = record {
  arities = λ i m. eqb-true i.args (takes ags i.word) (not-false _ (any_false (wrong_args ags) i (nodes (net_terms n)) (all_args ags n g) m));
  twice = λ w m. eqb-true _ 2 (not-false _ (any_false (loose (names_of ags (net_terms n))) w (names_of ags (net_terms n)) g.twice m));
}

-- An accepted text means a sound net.
pub net-accepted-sound : (ags : List Agent) (text : List ℕ) (n : Net) → read_net ags text ≡ accepted n → SoundNet ags n
net-accepted-sound ags text n h = net-sound ags n ((net-accepted ags text n).0 h).1
