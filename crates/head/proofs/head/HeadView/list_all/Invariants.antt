use Rattle.std.proofs.Common.{◌≡◌, take}
use Rattle.head.specs.Heads.{head_part}
use Rattle.head.specs.Shown.{series_of}
use Rattle.head.proofs.head.HeadView.list_all.Given as goal

abbrev pub invariant-loop-place : goal.invariant-loop-place
invariant-loop-place l = l.rows.items ≡ head_part (take l.place (series_of l.self))
