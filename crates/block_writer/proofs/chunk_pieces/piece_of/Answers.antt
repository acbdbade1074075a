use Rattle.std.proofs.Common.{arith}
use Rattle.block_writer.proofs.InPieces.{first_put, next_put, row_typed, next_typed}
use Rattle.block_writer.proofs.chunk_pieces.piece_of.Goals as goal

pub loop-left-init : goal.loop-left-init
loop-left-init c = record {
  text =
      first_put c.in_ok-piece.piece.items _ c.samples.result.now c.args.row.now _
      c.in_ok-piece.ensures.items c.samples.ensures c.in_ok-put_series.ensures.text;
  typed =
      row_typed c.args.row.now c.samples.result.now _ c.samples.ensures
      c.in_ok-put_series.ensures.typed;
  fewer = omega arith;
}

pub loop-left-preserved : goal.loop-left-preserved
loop-left-preserved c =
    let l = c.loop-left in
    record {
      text =
          next_put l.piece.items _ l.left.items c.pop.new.self.items c.in-Some.next
          c.samples-in-loop-left.result.now _ c.in-Some.ensures.items
          c.samples-in-loop-left.ensures c.in_ok-put_series-2.ensures.text l.invariant.text;
      typed =
          λ after. l.invariant.typed (next_typed l.left.items c.pop.new.self.items c.in-Some.next
          c.samples-in-loop-left.result.now c.in-Some.ensures.items
          c.samples-in-loop-left.ensures c.in_ok-put_series-2.ensures.typed after);
      fewer = omega (arith, c.in-Some.ensures.cases, l.invariant.fewer);
    }
