use Rattle.std.proofs.Common.{◌≤◌, arith, vec_len, inl}
use Rattle.waiting_room.proofs.HeadTexts.{bad_from_never}
use Rattle.waiting_room.proofs.reading.read_head.Goals as goal

pub returns-in-Never-clause-comes : goal.returns-in-Never-clause-comes
returns-in-Never-clause-comes g c =
    let fits : vec_len c.read_piece.new.buf ≤ 8192 = grind arith in
    inl (bad_from_never c.read_piece.new.buf.items (rw c.read_piece.new.buf.ok.0 at fits)
    (rw c.as_slice.ensures.value at c.in-Never.ensures))
