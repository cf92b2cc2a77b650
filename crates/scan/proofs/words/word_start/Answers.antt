-- `scan::words::word_start` meets its contract: what the search found is the place.
use Rattle.texts.specs.Bytes.{word_byte}
use Rattle.scan.proofs.Scans.{place_told, place_from}
use Rattle.scan.proofs.words.word_start.Goals as goal

pub returns : goal.returns
returns c =
    place_from word_byte _ _ c.min.ensures
    (place_told word_byte _ _ c.first_place.ensures.within c.first_place.ensures.before c.first_place.ensures.found)
