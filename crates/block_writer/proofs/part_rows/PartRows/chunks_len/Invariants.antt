use Rattle.std.proofs.Common.{◌≡◌, ◌+◌, ◌≤◌, length, take}
use Rattle.std.specs.List.{flat_map}
use Rattle.labels.specs.Rows.{Row}
use Rattle.block_writer.specs.Writing.{series_text}
use Rattle.block_writer.specs.Written.{limit}
use Rattle.block_writer.proofs.part_rows.PartRows.chunks_len.Given as goal

abbrev pub invariant-loop-row : goal.invariant-loop-row
invariant-loop-row l = record {
  counted : l.len
      ≡ 8 + length (flat_map (λ (row : Row). series_text row.1) (take l.row-index l.row-items));
  short : l.len ≤ limit;
}
