use Rattle.std.proofs.Common.{◌≡◌, ◌++◌, length}
use Rattle.series_merge.specs.Walking.{behind, front_of}
use Rattle.series_merge.proofs.remaining.Remaining.take_alike.Given as goal

abbrev pub invariant-loop-run : goal.invariant-loop-run
invariant-loop-run l = record {
  alike : l.alike.items ++ front_of l.labels l.self ≡ l.initial.alike.items ++ front_of l.labels l.initial.self;
  left : behind l.labels l.self ≡ behind l.labels l.initial.self;
}

abbrev pub decreases-loop-run : goal.decreases-loop-run
decreases-loop-run l = length l.self
