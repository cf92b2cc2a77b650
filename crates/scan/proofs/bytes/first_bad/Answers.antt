-- `scan::bytes::first_bad` meets its contract: what the search found is the place.
use Rattle.std.specs.Prelude.{not}
use Rattle.std.proofs.Common.{rules, of_calls}
use Rattle.texts.specs.Bytes.{allowed}
use Rattle.scan.proofs.Scans.{place_told}
use Rattle.scan.proofs.bytes.first_bad.Goals as goal

pub returns : goal.returns
returns c = place_told (λ b. not (allowed b)) _ _ c.first_place.ensures.within
    (λ k h. let p = c.first_place.ensures.before k h in search (rules, of_calls))
    (λ h. let p = c.first_place.ensures.found h in search (rules, of_calls))
