use Rattle.std.proofs.Common.{◌≡◌, [], List, length}
use Rattle.remote_write.specs.Format.{SeriesValue}
use Rattle.remote_write.specs.Reading.{request_from}
use Rattle.remote_requests.specs.Counts.{AreCounts}
use Rattle.remote_requests.proofs.body.counts_of.Given as goal

-- the counts are those of the series so far, and the rest of the text has the others
abbrev pub invariant-loop-after : goal.invariant-loop-after
invariant-loop-after l =
    (front : List SeriesValue) × AreCounts l.counts front
    × (request_from [] l.text ≡ request_from front l.rest)

abbrev pub decreases-loop-after : goal.decreases-loop-after
decreases-loop-after l = length l.rest
