use Rattle.std.proofs.Common.{take}
use Rattle.head.specs.Heads.{head_part}
use Rattle.head.specs.Index.{IsIndexOf}
use Rattle.head.proofs.head.HeadView.index_of.Given as goal

-- the series so far are listed
abbrev pub invariant-loop-place : goal.invariant-loop-place
invariant-loop-place l = IsIndexOf l.index (head_part (take l.place l.series))
