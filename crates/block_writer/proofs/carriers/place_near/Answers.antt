use Rattle.labels.specs.Labels.{pair_cmp}
use Rattle.labels.specs.Pairs.{texts_of}
use Rattle.labels.proofs.Texts.{pair_total}
use Rattle.block_writer.proofs.Found.{found_there}
use Rattle.block_writer.proofs.carriers.place_near.Goals as goal

pub returns-then-stands_at : goal.returns-then-stands_at
returns-then-stands_at c =
    found_there pair_cmp pair_total (texts_of c.args.pairs.now) c.args.guess
    (c.args.pair.0.now, c.args.pair.1.now) c.stands_at.result c.requires c.if-stands_at.true
    c.stands_at.ensures
