use Rattle.std.proofs.Common.{◌≡◌, take}
use Rattle.std.specs.Int.{int_min, int_max}
use Rattle.std.specs.List.{fold}
use Rattle.commands.specs.Listing.{times_in}
use Rattle.commands.proofs.listing.times_of.Given as goal

-- the least and the greatest time so far
abbrev pub invariant-loop-sample : goal.invariant-loop-sample
invariant-loop-sample l =
    (l.from ≡ fold int_min l.first (times_in (take l.sample-index l.samples)))
    × (l.to ≡ fold int_max l.first (times_in (take l.sample-index l.samples)))
