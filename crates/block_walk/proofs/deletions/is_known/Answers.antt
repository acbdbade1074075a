use Rattle.std.proofs.Common.{◌∙◌}
use Rattle.block_walk.proofs.BlockFiles.Refusals.{known_is}
use Rattle.block_walk.proofs.deletions.is_known.Goals as goal

pub returns : goal.returns
returns c =
    c.is_some.ensures
    ∙ known_is c.args.entries.now c.args.deletion.now c.new.result c.place_of.result c.new.ensures
    c.place_of.ensures.found c.place_of.ensures.none
