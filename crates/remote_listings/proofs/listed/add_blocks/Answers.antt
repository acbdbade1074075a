use Rattle.std.specs.BTreeSet.{insert_key}
use Rattle.block.specs.Blocks.{Shown}
use Rattle.labels.specs.Labels.{labels_cmp}
use Rattle.remote_listings.specs.Listed.{found_in_part}
use Rattle.remote_listings.proofs.Folds.{list_turn}
use Rattle.remote_listings.proofs.listed.add_blocks.Goals as goal

pub loop-block-preserved : goal.loop-block-preserved
loop-block-preserved c =
    list_turn (insert_key labels_cmp) (λ (b : Shown). found_in_part c.args.query.now b.part)
    c.args.blocks.now c.loop-block.block-index c.block-item.result _ _ _
    c.loop-block-test.true c.block-item.is c.in_ok-add_block.ensures
    c.loop-block.invariant
