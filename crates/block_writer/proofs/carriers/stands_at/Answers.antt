use Rattle.labels.specs.Pairs.{texts_of}
use Rattle.block_writer.proofs.Found.{same_pair_there}
use Rattle.block_writer.proofs.carriers.stands_at.Goals as goal

pub returns : goal.returns
returns c =
    same_pair_there c.is_same.result c.is_same-2.result (texts_of c.args.pairs.now) c.args.at
    c.pair_at.result.0.now c.pair_at.result.1.now c.args.pair.0.now c.args.pair.1.now
    c.pair_at.ensures c.is_same.ensures c.is_same-2.ensures
