use Rattle.std.proofs.Common.{◌≡◌, ◌<◌, ◌+◌, length, ap, arith}
use Rattle.block_writer.proofs.Pieces.{drop_shorter}
use Rattle.block_writer.proofs.Placing.{none_placed, place_fits, place_on, all_placed}
use Rattle.block_writer.proofs.body.chunks_of.Goals as goal

pub overflow_add-place : goal.overflow_add-place
overflow_add-place c =
    let l = c.loop-rest in
    let some : 0 < length l.rest.now = grind arith in
    let fits =
    place_fits l.chunks.items _ l.place _ l.rest.now c.first_piece.result.0.now some
    c.first_piece.ensures.front l.invariant in
    omega (arith, fits, c.piece_len-place.ensures)

pub loop-rest-init : goal.loop-rest-init
loop-rest-init c =
    none_placed c.new-chunks.result.items c.args.at c.args.samples.now
    c.new-chunks.ensures.items c.requires

pub loop-rest-smaller : goal.loop-rest-smaller
loop-rest-smaller c =
    let some : 0 < length c.loop-rest.rest.now = grind arith in
    drop_shorter c.loop-rest.rest.now c.first_piece.result.1.now some c.first_piece.ensures.back

pub loop-rest-preserved : goal.loop-rest-preserved
loop-rest-preserved c =
    let l = c.loop-rest in
    let some : 0 < length l.rest.now = grind arith in
    place_on l.chunks.items c.push.new.self.items _ l.place _ _ l.rest.now
    c.first_piece.result.0.now c.first_piece.result.1.now some c.first_piece.ensures.front
    c.first_piece.ensures.back (grind arith) (ap (λ n. l.place + n) c.piece_len-place.ensures)
    l.invariant

pub returns-clause-chunks : goal.returns-clause-chunks
returns-clause-chunks c =
    let l = c.loop-rest in
    let none : length l.rest.now ≡ 0 = grind arith in
    (all_placed l.chunks.items _ l.place _ l.rest.now none l.invariant).0

pub returns-clause-behind : goal.returns-clause-behind
returns-clause-behind c =
    let l = c.loop-rest in
    let none : length l.rest.now ≡ 0 = grind arith in
    (all_placed l.chunks.items _ l.place _ l.rest.now none l.invariant).1
