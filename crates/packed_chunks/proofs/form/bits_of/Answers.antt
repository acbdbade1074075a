use Rattle.std.proofs.Common.{◌/◌, ◌^◌, ◌∙◌, ap, bit_and}
use Rattle.std.proofs.lemmas.Nat.{and_mask}
use Rattle.packed_chunks.proofs.form.bits_of.Goals as goal

pub returns : goal.returns
returns c =
    ap (bit_and (c.args.word / 2 ^ c.args.skipped)) (c.ones.ensures c.requires.bits)
    ∙ and_mask (c.args.word / 2 ^ c.args.skipped) c.args.bits
