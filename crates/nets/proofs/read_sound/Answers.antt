-- `nets::read_sound` meets its contract.
use Rattle.std.proofs.lemmas.Result.{err_from_is_err_and}
use Rattle.state.specs.Layout.{view}
use Rattle.nets.specs.Proofs.Calls.{given-sound, given-lent, given_same, starts_empty, call-refused, call-ready, call-filled}
use Rattle.nets.proofs.read_sound.Goals as goal

pub invariant_of-lent : goal.invariant_of-lent
invariant_of-lent c = record { lent = given-lent _ c.requires.0 }

pub read_lines-requires : goal.read_lines-requires
read_lines-requires c = starts_empty _ c.requires.0 _ _ c.requires.1 c.agents_part.ensures

pub returns-in_err-lengths : goal.returns-in_err-lengths
returns-in_err-lengths c = let p = err_from_is_err_and c.from_residual.result c.from_residual.ensures.1 in
    rw (p.1, p.2) (call-refused _ _ (view c.args.state.now) _ (given-sound _ c.requires.0) c.requires.1 (given_same _ c.requires.0 c.args.text.now _ c.requires.1 c.agents_part.ensures) _ _ _ c.in_err-lengths.ensures)

pub fill-requires : goal.fill-requires
fill-requires c = call-ready _ _ (view c.args.state.now) _ (given-sound _ c.requires.0) c.requires.1 (given_same _ c.requires.0 c.args.text.now _ c.requires.1 c.agents_part.ensures) _ _ _ c.in_ok-lengths.ensures

pub returns : goal.returns
returns c = call-filled _ _ _ _ (given-sound _ c.requires.0) c.requires.1 (given_same _ c.requires.0 c.args.text.now _ c.requires.1 c.agents_part.ensures) _ _ _ c.in_ok-lengths.ensures _ c.fill.ensures
