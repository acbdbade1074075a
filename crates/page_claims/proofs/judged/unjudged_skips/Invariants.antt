use Rattle.std.proofs.Common.{◌≡◌, ◌++◌, drop}
use Rattle.std.specs.List.{flat_map}
use Rattle.page_claims.specs.Judging.{unjudged_skip}
use Rattle.page_claims.proofs.judged.unjudged_skips.Given as goal

abbrev pub invariant-loop-place : goal.invariant-loop-place
invariant-loop-place l =
    l.names.items ++ flat_map (unjudged_skip l.tables l.lines) (drop l.place-index l.places)
    ≡ flat_map (unjudged_skip l.tables l.lines) l.places
