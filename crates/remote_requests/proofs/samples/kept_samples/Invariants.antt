use Rattle.std.proofs.Common.{map, take}
use Rattle.remote_write.specs.Reading.{sample_seen}
use Rattle.remote_requests.proofs.SampleTurns.{SoFar}
use Rattle.remote_requests.proofs.samples.kept_samples.Given as goal

abbrev pub invariant-loop-sample : goal.invariant-loop-sample
invariant-loop-sample l =
    SoFar l.now (map sample_seen (take l.sample-index l.samples)) l.found.items l.fn.left l.left
