use Rattle.std.proofs.Common.{arith}
use Rattle.block_writer.proofs.Found.{pair_before}
use Rattle.block_writer.proofs.symbols.stood_before.Goals as goal

pub returns : goal.returns
returns c =
    pair_before c.args.rows.now c.args.at c.args.i c.index-rows-at.result c.labels-labels.result.now
    c.pair.result.0.now c.pair.result.1.now c.args.name.now c.args.value.now c.is_same.result
    c.is_same-2.result (omega arith) c.requires c.index-rows-at.is c.labels-labels.ensures c.pair.ensures
    c.is_same.ensures c.is_same-2.ensures
