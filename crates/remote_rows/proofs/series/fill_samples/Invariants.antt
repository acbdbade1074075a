use Rattle.std.proofs.Common.{take, map}
use Rattle.protobuf_fields.specs.Format.{EachIs}
use Rattle.remote_write.specs.Reading.{sample_seen}
use Rattle.remote_rows.specs.Sent.{IsSampleOf}
use Rattle.remote_rows.proofs.series.fill_samples.Given as goal

abbrev pub invariant-loop-sample : goal.invariant-loop-sample
invariant-loop-sample l =
    EachIs IsSampleOf (take l.sample-index l.samples) (map sample_seen l.out.items)
