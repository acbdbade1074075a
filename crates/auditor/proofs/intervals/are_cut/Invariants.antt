use Rattle.std.proofs.Common.{◌≡◌, drop}
use Rattle.std.specs.List.Sorted.{IsStrictlyIncreasing}
use Rattle.labels.specs.Parts.{references}
use Rattle.auditor.specs.Looking.{cuts}
use Rattle.auditor.proofs.intervals.are_cut.Given as goal

abbrev pub invariant-loop-interval : goal.invariant-loop-interval
invariant-loop-interval l = record {
  rises : IsStrictlyIncreasing (references l.rest);
  left : cuts (drop l.interval-index l.certificate) l.rest ≡ cuts l.certificate l.series;
}
