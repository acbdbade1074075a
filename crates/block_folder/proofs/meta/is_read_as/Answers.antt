use Rattle.block_folder.proofs.Said.{said_if}
use Rattle.block_folder.proofs.meta.is_read_as.Goals as goal

pub returns : goal.returns
returns c = said_if c.is_same.result c.args.text.now c.in-Ok.read c.args.range c.in-Ok.ensures
    c.is_same.ensures
