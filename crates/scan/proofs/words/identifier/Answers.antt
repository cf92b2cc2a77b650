-- `scan::words::identifier` meets its contract: it asks so of the first byte.
use Rattle.scan.proofs.Compare.{identifier_asks, asks_told}
use Rattle.scan.proofs.words.identifier.Goals as goal

pub returns : goal.returns
returns c = asks_told identifier_asks _ c.word_that.ensures.empty c.word_that.ensures.first
