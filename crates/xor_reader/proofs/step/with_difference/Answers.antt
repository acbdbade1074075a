use Rattle.std.proofs.Common.{◌+◌, ◌-◌, ap, arith, bit_xor}
use Rattle.std.proofs.lemmas.Nat.{shl_whole}
use Rattle.xor_reader.proofs.step.with_difference.Goals as goal

pub returns : goal.returns
returns c =
    let w = c.args.window in
    ap (bit_xor c.args.value)
    (shl_whole c.args.raw w.significant (64 - (w.leading + w.significant)) 64 c.requires.few
    (omega (arith, c.requires.window.0, c.requires.window.1)))
