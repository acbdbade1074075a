use Rattle.std.proofs.Common.{◌∙◌}
use Rattle.block_writer.proofs.Sizes.{piece_size}
use Rattle.block_writer.proofs.body.piece_len.Goals as goal

pub returns : goal.returns
returns c =
    c.chunk_len.ensures
    ∙ piece_size c.args.samples.now c.requires
