-- `net_lines::terms_of::take_terms` meets its contract.
use Rattle.std.proofs.Common.{rules, arith}
use Rattle.net_lines.proofs.Lines.{took_all, took_none, put_is}
use Rattle.net_lines.proofs.terms_of.take_terms.Goals as goal

pub returns-then-not-read_fields : goal.returns-then-not-read_fields
returns-then-not-read_fields c = search (rules, took_none)

pub returns : goal.returns
returns c = let e = put_is c.args.codes.now c.copy_from_slice.new.self c.read_fields.new.codes c.args.used c.args.n c.copy_from_slice.ensures.after (omega arith) (omega arith) in search (rules, took_all)
