use Rattle.std.proofs.Common.{arith}
use Rattle.block_writer.proofs.InPieces.{begun, rows_typed, one_more, one_more_typed, none_left}
use Rattle.block_writer.proofs.InPieces.{none_left_typed}
use Rattle.block_writer.proofs.chunk_pieces.chunk_pieces.Goals as goal

pub loop-row-init : goal.loop-row-init
loop-row-init c = record {
  text =
      begun c.args.rows.items c.reverse.new.self.items c.in_ok-head_of.field-0 _
      c.push.new.self.items c.reverse.ensures.items c.in_ok-head_of.ensures
      c.new-pieces.ensures.items c.in_ok-push.ensures.items;
  typed = rows_typed c.args.rows.items c.reverse.new.self.items c.reverse.ensures.items;
}

pub loop-row-preserved : goal.loop-row-preserved
loop-row-preserved c =
    let l = c.loop-row in
    record {
      text =
          one_more l.pieces.items _ c.in_ok-piece.piece l.left.items c.pop.new.self.items
          c.piece_of.new.left.items c.in-Some.row _ c.in-Some.ensures.items
          c.in_ok-piece.ensures.text c.in_ok-push-2.ensures.items l.invariant.text;
      typed =
          one_more_typed l.left.items c.pop.new.self.items c.piece_of.new.left.items c.in-Some.row
          c.args.rows.items c.in-Some.ensures.items c.in_ok-piece.ensures.typed l.invariant.typed;
    }

pub loop-row-smaller : goal.loop-row-smaller
loop-row-smaller c = omega (arith, c.in-Some.ensures.cases, c.in_ok-piece.ensures.fewer)

pub returns-clause-spelled : goal.returns-clause-spelled
returns-clause-spelled c =
    none_left c.loop-row.pieces.items c.loop-row.left.items _
    (omega (arith, c.in_default.ensures.cases.0, c.loop-row.left.ok.0)) c.loop-row.invariant.text

pub returns-clause-typed : goal.returns-clause-typed
returns-clause-typed c =
    none_left_typed c.loop-row.left.items c.args.rows.items
    (omega (arith, c.in_default.ensures.cases.0, c.loop-row.left.ok.0)) c.loop-row.invariant.typed
