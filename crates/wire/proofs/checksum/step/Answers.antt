use Rattle.std.proofs.Common.{sym, bit_xor}
use Rattle.wire.proofs.Shifts.{byte_apart}
use Rattle.wire.proofs.checksum.step.Goals as goal

pub returns : goal.returns
returns c =
    rw (c.byte_after_1.ensures, c.from.ensures)
    (sym (byte_apart (bit_xor c.args.state c.args.byte)))
