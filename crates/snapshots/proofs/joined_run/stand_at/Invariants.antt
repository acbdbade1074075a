use Rattle.std.proofs.Common.{◌≡◌, take}
use Rattle.snapshots.proofs.joined_run.stand_at.Given as goal

-- so many are the same
abbrev pub invariant-loop-at : goal.invariant-loop-at
invariant-loop-at l = take l.at l.behind ≡ take l.at l.others
