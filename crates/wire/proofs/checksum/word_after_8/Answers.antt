use Rattle.std.proofs.Common.{sym}
use Rattle.wire.proofs.Shifts.{word_apart}
use Rattle.wire.proofs.checksum.word_after_8.Goals as goal

pub returns : goal.returns
returns c = rw (
  c.byte_after_8.ensures,
  c.byte_after_7.ensures,
  c.byte_after_6.ensures,
  c.byte_after_5.ensures,
) (sym (word_apart 32 c.args.x))
