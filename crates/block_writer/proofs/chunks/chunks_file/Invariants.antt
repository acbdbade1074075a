use Rattle.std.proofs.Common.{◌≡◌, [], ◌∷◌, ◌++◌, take}
use Rattle.std.specs.List.{flat_map}
use Rattle.labels.specs.Rows.{Row}
use Rattle.block_writer.specs.Typed.{Have64Bits}
use Rattle.block_writer.specs.Writing.{series_text}
use Rattle.block_writer.proofs.chunks.chunks_file.Given as goal

abbrev pub invariant-loop-row : goal.invariant-loop-row
invariant-loop-row l = record {
  text : l.file.items ≡ (0x85 ∷ 0xBD ∷ 0x40 ∷ 0xDD ∷ 1 ∷ 0 ∷ 0 ∷ 0 ∷ [])
      ++ flat_map (λ (row : Row). series_text row.1) (take l.row-index l.row-items);
  typed : Have64Bits (take l.row-index l.row-items);
}
