use Rattle.std.proofs.Common.{◌≡◌, ◌<◌, length, arith}
use Rattle.block_writer.specs.Typed.{IsOf64Bits}
use Rattle.block_writer.proofs.Pieces.{drop_shorter, one_piece, all_written}
use Rattle.block_writer.proofs.Taken.{all_joined, all_none}
use Rattle.block_writer.proofs.chunks.put_series.Goals as goal

pub loop-rest-smaller : goal.loop-rest-smaller
loop-rest-smaller c =
    let some : 0 < length c.loop-rest.rest.now = grind arith in
    drop_shorter c.loop-rest.rest.now c.first_piece.result.1.now some c.first_piece.ensures.back

pub loop-rest-preserved : goal.loop-rest-preserved
loop-rest-preserved c =
    let l = c.loop-rest in
    let some : 0 < length l.rest.now = grind arith in
    record {
      text =
          one_piece l.out.items c.put_chunk.new.out.items l.rest.now c.first_piece.result.0.now
          c.first_piece.result.1.now _ some c.first_piece.ensures.front c.first_piece.ensures.back
          c.in_ok-put_chunk.ensures.text l.invariant.text;
      typed =
          λ after. l.invariant.typed (all_joined IsOf64Bits l.rest.now c.first_piece.result.0.now
          c.first_piece.result.1.now c.first_piece.ensures.front c.first_piece.ensures.back
          c.in_ok-put_chunk.ensures.typed after);
    }

pub returns-clause-text : goal.returns-clause-text
returns-clause-text c =
    let l = c.loop-rest in
    let none : length l.rest.now ≡ 0 = grind arith in
    all_written l.out.items l.rest.now _ none l.invariant.text

pub returns-clause-typed : goal.returns-clause-typed
returns-clause-typed c =
    let none : length c.loop-rest.rest.now ≡ 0 = grind arith in
    c.loop-rest.invariant.typed (all_none IsOf64Bits c.loop-rest.rest.now none)
