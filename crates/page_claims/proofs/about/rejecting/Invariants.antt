use Rattle.std.proofs.Common.{◌≡◌, ◌++◌, drop}
use Rattle.page_claims.specs.Asking.{rejecting_from}
use Rattle.page_claims.proofs.about.rejecting.Given as goal

abbrev pub invariant-loop-at : goal.invariant-loop-at
invariant-loop-at l =
    l.places.items ++ rejecting_from l.at (drop l.at l.matchers) l.labels
    ≡ rejecting_from 0 l.matchers l.labels
