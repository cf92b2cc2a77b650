-- `scan::words::symbol` meets its contract: it asks so of the first byte.
use Rattle.scan.proofs.Compare.{symbol_asks, asks_told}
use Rattle.scan.proofs.words.symbol.Goals as goal

pub returns : goal.returns
returns c = asks_told symbol_asks _ c.word_that.ensures.empty c.word_that.ensures.first
