use Rattle.std.proofs.Common.{sym}
use Rattle.block_writer.proofs.Found.{same_if}
use Rattle.block_writer.proofs.symbols.is_same.Goals as goal

pub returns : goal.returns
returns c = same_if c.eq.result c.args.a.now c.args.b.now (sym c.eq.ensures)
