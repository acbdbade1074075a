use Rattle.std.proofs.Common.{take}
use Rattle.exposition.specs.Rows.{ArePut}
use Rattle.exposition.proofs.rows.put_samples.Given as goal

abbrev pub invariant-loop-sample : goal.invariant-loop-sample
invariant-loop-sample l =
    ArePut l.labels (take l.sample-index l.samples) l.initial.runs l.runs
