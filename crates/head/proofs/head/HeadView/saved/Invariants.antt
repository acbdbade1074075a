use Rattle.std.proofs.Common.{◌≡◌, take}
use Rattle.head.specs.Shown.{series_of}
use Rattle.head.proofs.head.HeadView.saved.Given as goal

-- the series so far
abbrev pub invariant-loop-place : goal.invariant-loop-place
invariant-loop-place l = l.all.items ≡ take l.place (series_of l.self)
