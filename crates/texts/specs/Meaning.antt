-- What a book and a net mean in the calculus of document 001: terms with numbered names, lightweight rules,
-- configurations.
use Rattle.std.specs.Prelude.{ℕ, cond, List, map, length}
use Rattle.calculus.specs.Terms.{var, node, Eqn, ◌≐◌, Conf}
use Rattle.calculus.specs.Terms as Calculus
use Rattle.calculus.specs.Calculus as Rules
use Rattle.model.specs.State.{from}
use Rattle.texts.specs.Bytes.{Word}
use Rattle.texts.specs.Terms.{Term, Terms, term, nil, cons}
use Rattle.texts.specs.Books.{Agent, Equation, Rule, Net, declared, head_of, args_of, new_names_of}
use Rattle.texts.specs.Coded.{symbol_of, packed, second_from, new_from, rule_number, net_number}

-- An agent is a symbol over its arguments, a name is a number.
module _ (ags : List Agent) (number : Word → ℕ) where
  unfoldable mutual
    pub tree : Term → Calculus.Term
    tree (term w ts) = cond (declared ags w) (node (symbol_of ags w) (trees ts)) (var (number w))

    pub trees : Terms → Calculus.Terms
    trees nil = Calculus.nil
    trees (cons t ts) = Calculus.cons (tree t) (trees ts)

  unfoldable pub tree_equations : List Equation → List Eqn
  tree_equations es = map (λ e. tree e.left ≐ tree e.right) es

-- A rule: its meta-variables are its arguments, by their places.
unfoldable pub meant_rule : List Agent → Rule → Rules.Rule
meant_rule ags r = record {
  left = symbol_of ags (head_of r.first);
  right = symbol_of ags (head_of r.second);
  xs = from 0 (length (args_of r.first));
  ys = from second_from (length (args_of r.second));
  new = from new_from (length (new_names_of ags r));
  body = tree_equations ags (rule_number ags r) r.right;
}

-- A net: its interface and its equations.
unfoldable pub meant_net : List Agent → Net → Conf
meant_net ags n = record {
  face = trees ags (net_number ags n) (packed n.face);
  eqs = tree_equations ags (net_number ags n) n.equations;
}
