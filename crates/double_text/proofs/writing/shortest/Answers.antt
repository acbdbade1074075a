use Rattle.std.proofs.Common.{arith}
use Rattle.double_text.proofs.Patterns.{copied, no_nan}
use Rattle.double_text.proofs.writing.shortest.Goals as goal

pub float_from_bits-bits : goal.float_from_bits-bits
float_from_bits-bits c = no_nan c.args.bits c.requires

pub returns : goal.returns
returns c =
    copied c.args.bits c.format-text.result.now c.as_bytes.result.now c.from_slice.result
    (omega (arith, c.ranges.bits)) c.requires c.format-text.ensures.parses c.as_bytes.ensures.value
    c.from_slice.ensures.items
