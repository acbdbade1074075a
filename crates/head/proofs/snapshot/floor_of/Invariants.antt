use Rattle.std.proofs.Common.{◌≡◌, true, take}
use Rattle.labels.specs.declared.sample.TheConstants.{MIN_TIME}
use Rattle.labels.specs.Contents.{is_time}
use Rattle.head.specs.Blocks.{EachInside}
use Rattle.head.proofs.Opening.{end_after}
use Rattle.head.proofs.snapshot.floor_of.Given as goal

-- the greatest end of the blocks so far, a time; and they lie in their ranges
abbrev pub invariant-loop-block : goal.invariant-loop-block
invariant-loop-block l = record {
  floor : l.floor ≡ end_after MIN_TIME (take l.block-index l.blocks);
  time : is_time l.floor ≡ true;
  inside : EachInside (take l.block-index l.blocks);
}
