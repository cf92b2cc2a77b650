-- What numbers 7 and 8 ask of a rule, together.
use Rattle.std.specs.Prelude.{List, ◌++◌}
use Rattle.texts.specs.Books.{Agent, Rule, lefts, rights}
use Rattle.texts.specs.Conditions.{Argued, WellNamed}

-- Both conditions.
pub record SoundRule (ags : List Agent) (r : Rule) : Type 0 where
  pub arities : Argued ags (lefts r ++ rights r)
  pub named : WellNamed ags r
