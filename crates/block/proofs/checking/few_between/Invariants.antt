use Rattle.std.proofs.Common.{◌≡◌, take, drop}
use Rattle.std.specs.List.{AllByRecursion, list_all}
use Rattle.block.specs.Opening.{each, chunk_check, have_few}
use Rattle.block.specs.Shared.{lists_between}
use Rattle.block.specs.Sound.{IsReadChunk}
use Rattle.block.proofs.checking.few_between.Given as goal

abbrev pub invariant-loop-at : goal.invariant-loop-at
invariant-loop-at l = record {
  so_far : each (each (chunk_check l.chunks))
      (drop l.at (lists_between l.index.series l.from l.count))
      ≡ each (each (chunk_check l.chunks)) (lists_between l.index.series l.from l.count);
  held : AllByRecursion (AllByRecursion (IsReadChunk l.chunks))
      (take l.at (lists_between l.index.series l.from l.count));
  few_is : l.few
      ≡ list_all (have_few l.chunks) (take l.at (lists_between l.index.series l.from l.count));
}
