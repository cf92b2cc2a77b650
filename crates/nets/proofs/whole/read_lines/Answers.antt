-- `nets::whole::read_lines` meets its contract.
use Rattle.nets.specs.Proofs.Wholes.{text_first, text-second}
use Rattle.nets.proofs.whole.read_lines.Goals as goal

pub returns-in-Err : goal.returns-in-Err
returns-in-Err c = text_first _ _ c.in-Err.ensures _ _ _

pub returns-in-Err-second_line : goal.returns-in-Err-second_line
returns-in-Err-second_line c = text-second _ _ _ c.in-Ok.ensures _ _ _ (c.in-Err-second_line.ensures.second_read c.requires.fit c.requires.draft c.requires.long)
