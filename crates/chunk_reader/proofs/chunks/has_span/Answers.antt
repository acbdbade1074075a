use Rattle.std.proofs.Common.{◌-◌, ap, ◌&&◌}
use Rattle.std.specs.Ordering.{int_eq}
use Rattle.chunk_reader.specs.Grammar.{time_at}
use Rattle.chunk_reader.proofs.Spans.{same_time}
use Rattle.chunk_reader.proofs.chunks.has_span.Goals as goal

pub returns : goal.returns
returns c =
    let samples = c.args.samples.now in
    let first =
    same_time samples 0 c.get.result c.t-first.result c.args.mint c.get.ensures c.t-first.ensures
    (record { sfits = c.t-first.type_inv }) c.ranges.mint in
    let last =
    same_time samples (c.len.result - 1) c.get-2.result c.t-last.result c.args.maxt c.get-2.ensures
    c.t-last.ensures (record { sfits = c.t-last.type_inv }) c.ranges.maxt in
    rw (first, last) (ap (λ n. int_eq (time_at samples 0) c.args.mint
    && int_eq (time_at samples (n - 1)) c.args.maxt) c.len.ensures)
