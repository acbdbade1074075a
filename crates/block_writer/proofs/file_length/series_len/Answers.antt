use Rattle.std.proofs.Common.{◌+◌, ◌*◌, ◌/◌, ◌%◌, ◌<◌, ap, arith}
use Rattle.block_writer.proofs.Sizes.{whole_series, parted_series, chunk_small}
use Rattle.block_writer.proofs.file_length.series_len.Goals as goal

pub returns-then-rest-eq0 : goal.returns-then-rest-eq0
returns-then-rest-eq0 c =
    let full = ap (λ n. c.args.count / 120 * n) c.chunk_len.ensures in
    record {
      exact = λ samples e. whole_series samples c.args.count _ e c.if-rest-eq0.true full;
      small = omega (arith, full);
    }

pub returns-else-rest-eq0 : goal.returns-else-rest-eq0
returns-else-rest-eq0 c =
    let last = c.chunk_len-else-rest-eq0 in
    let full = ap (λ n. c.args.count / 120 * n) c.chunk_len.ensures in
    let some : 0 < c.args.count % 120 = grind (arith, c.if-rest-eq0.false) in
    record {
      exact = λ samples e.
          parted_series samples c.args.count _ last.result e c.if-rest-eq0.false
          last.ensures (ap (λ n. n + last.result) full);
      small = omega (arith, full, last.ensures, chunk_small (c.args.count % 120) some);
    }
