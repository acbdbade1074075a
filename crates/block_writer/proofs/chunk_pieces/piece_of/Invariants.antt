use Rattle.std.proofs.Common.{◌≡◌, ◌≤◌, ◌++◌, ◌∷◌, reverse, vec_len}
use Rattle.block_writer.specs.Typed.{Have64Bits}
use Rattle.block_writer.specs.Writing.{rows_text, series_text}
use Rattle.block_writer.proofs.chunk_pieces.piece_of.Given as goal

abbrev pub invariant-loop-left : goal.invariant-loop-left
invariant-loop-left l = record {
  text : l.piece.items ++ rows_text (reverse l.left.items)
      ≡ series_text l.row.1 ++ rows_text (reverse l.initial.left.items);
  typed : Have64Bits (reverse l.left.items) → Have64Bits (l.row ∷ reverse l.initial.left.items);
  fewer : vec_len l.left ≤ vec_len l.initial.left;
}

abbrev pub decreases-loop-left : goal.decreases-loop-left
decreases-loop-left l = vec_len l.left
