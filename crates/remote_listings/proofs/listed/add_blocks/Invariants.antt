use Rattle.std.proofs.Common.{◌≡◌, drop}
use Rattle.std.specs.Prelude.{fold, flat_map}
use Rattle.std.specs.BTreeSet.{insert_key}
use Rattle.block.specs.Blocks.{Shown}
use Rattle.labels.specs.Labels.{labels_cmp}
use Rattle.remote_listings.specs.Listed.{found_in_part}
use Rattle.remote_listings.proofs.listed.add_blocks.Given as goal

abbrev pub invariant-loop-block : goal.invariant-loop-block
invariant-loop-block l =
    fold (insert_key labels_cmp) l.sets.keys
    (flat_map (λ (b : Shown). found_in_part l.query b.part) (drop l.block-index l.blocks))
    ≡ fold (insert_key labels_cmp) l.fn.sets.keys
    (flat_map (λ (b : Shown). found_in_part l.query b.part) l.blocks)
