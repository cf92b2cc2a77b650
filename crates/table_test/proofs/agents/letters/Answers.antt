-- `table_test::agents::letters` meets its contract.
use Rattle.std.specs.Prelude.{refl}
use Rattle.table_test.proofs.Agreed.{letters-fit, letters_way}
use Rattle.table_test.proofs.agents.letters.Goals as goal

pub slice_bounds-result-end : goal.slice_bounds-result-end
slice_bounds-result-end c = letters-fit _ _ c.word_len.ensures

pub returns : goal.returns
returns c = letters_way c.args.table.now _ c.args.s c.word_len.result refl c.word_len.ensures
