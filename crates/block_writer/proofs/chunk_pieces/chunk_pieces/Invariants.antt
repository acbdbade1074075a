use Rattle.std.proofs.Common.{◌≡◌, ◌++◌, reverse, vec_len}
use Rattle.std.specs.List.{flat_map}
use Rattle.block_writer.specs.Typed.{Have64Bits}
use Rattle.block_writer.specs.Writing.{chunks_text, rows_text}
use Rattle.block_writer.proofs.chunk_pieces.chunk_pieces.Given as goal

abbrev pub invariant-loop-row : goal.invariant-loop-row
invariant-loop-row l = record {
  text : flat_map (λ piece. piece.items) l.pieces.items ++ rows_text (reverse l.left.items)
      ≡ chunks_text l.fn.rows.items;
  typed : Have64Bits (reverse l.left.items) → Have64Bits l.fn.rows.items;
}

abbrev pub decreases-loop-row : goal.decreases-loop-row
decreases-loop-row l = vec_len l.left
