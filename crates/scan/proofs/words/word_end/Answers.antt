-- `scan::words::word_end` meets its contract: what the search found is the place.
use Rattle.std.specs.Prelude.{not}
use Rattle.std.proofs.Common.{rules, of_calls}
use Rattle.texts.specs.Bytes.{word_byte}
use Rattle.scan.proofs.Scans.{place_told, place_from}
use Rattle.scan.proofs.words.word_end.Goals as goal

pub returns : goal.returns
returns c = place_from (λ b. not (word_byte b)) _ _ c.min.ensures (place_told (λ b. not (word_byte b)) _ _ c.first_place.ensures.within
    (λ k h. let p = c.first_place.ensures.before k h in search (rules, of_calls))
    (λ h. let p = c.first_place.ensures.found h in search (rules, of_calls)))
