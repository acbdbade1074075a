use Rattle.std.proofs.Common.{sym}
use Rattle.wire.proofs.Shifts.{word_apart}
use Rattle.wire.proofs.checksum.word_after_4.Goals as goal

pub returns : goal.returns
returns c = rw (
  c.byte_after_4.ensures,
  c.byte_after_3.ensures,
  c.byte_after_2.ensures,
  c.byte_after_1.ensures,
) (sym (word_apart 0 c.args.x))
