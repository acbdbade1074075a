use Rattle.std.proofs.Common.{length, sym, ap, arith}
use Rattle.labels.specs.Rows.{Row}
use Rattle.block_writer.specs.Writing.{chunks_text}
use Rattle.block_writer.proofs.Sizes.{series_big, rows_big}
use Rattle.block_writer.proofs.part_rows.PartRows.chunks_len.Goals as goal

pub returns-then-count-gt-MAX_LEN-clause-long : goal.returns-then-count-gt-MAX_LEN-clause-long
returns-then-count-gt-MAX_LEN-clause-long c =
    let rows = c.rows-row-items.result.now in
    let row : Row = c.row-item.result in
    let big = rows_big rows c.loop-row.row-index row (omega arith) c.row-item.is in
    let own = series_big row.1 in
    let counted = ap length c.samples-count.ensures in
    let all = ap (λ rs. length (chunks_text rs)) c.rows-row-items.ensures.shown in
    omega (arith, big, own, counted, all, c.if-count-gt-MAX_LEN.true)

pub overflow_add-len : goal.overflow_add-len
overflow_add-len c =
    omega (
      arith,
      c.loop-row.invariant.short,
      c.series_len-len.ensures.small,
      c.if-count-gt-MAX_LEN.false,
    )

pub returns-then-len-gt-MAX_LEN-clause-long : goal.returns-then-len-gt-MAX_LEN-clause-long
returns-then-len-gt-MAX_LEN-clause-long c =
    let rows = c.rows-row-items.result.now in
    let row : Row = c.row-item.result in
    let big = rows_big rows c.loop-row.row-index row (omega arith) c.row-item.is in
    let one =
    c.series_len-len.ensures.exact row.1 (sym (ap length c.samples-count.ensures)) in
    let all = ap (λ rs. length (chunks_text rs)) c.rows-row-items.ensures.shown in
    omega (arith, big, one, all, c.loop-row.invariant.counted, c.if-len-gt-MAX_LEN.true)
