-- `evaluation::ending::print_read` meets its contract.
use Rattle.evaluation.proofs.Ends.{part-fits, read_way}
use borrow.Author.Rules.{rules}
use Rattle.evaluation.proofs.ending.print_read.Goals as goal

pub put_bytes-requires : goal.put_bytes-requires
put_bytes-requires c = search (rules, part-fits)

pub returns : goal.returns
returns c =
    let b = rw (c.from.ensures, c.from-2.ensures) at c.put_ended-at.ensures in
    read_way _ c.requires _ _ _ c.args.end _ _ _ _ c.part.ensures b c.put_bytes.ensures
