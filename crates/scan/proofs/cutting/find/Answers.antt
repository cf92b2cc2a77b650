-- `scan::cutting::find` meets its contract: what the search found is the place.
use Rattle.std.proofs.Common.{rules, of_calls}
use Rattle.scan.specs.Places.{is}
use Rattle.scan.proofs.Scans.{place_told}
use Rattle.scan.proofs.cutting.find.Goals as goal

pub returns : goal.returns
returns c = place_told (is c.args.b) _ _ c.first_place.ensures.within
    (λ k h. let p = c.first_place.ensures.before k h in search (rules, of_calls))
    (λ h. let p = c.first_place.ensures.found h in search (rules, of_calls))
