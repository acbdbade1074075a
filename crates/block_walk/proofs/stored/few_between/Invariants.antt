use Rattle.std.proofs.Common.{◌≡◌, take, drop}
use Rattle.std.specs.List.{AllByRecursion, list_all}
use Rattle.block_walk.specs.IndexFile.Series.{chunk_lists}
use Rattle.block_walk.specs.BlockFiles.Reading.{each_check, chunk_check, have_few}
use Rattle.block_walk.specs.BlockFiles.Shared.{stretch}
use Rattle.block_walk.specs.BlockFiles.Sound.{IsHeld}
use Rattle.block_walk.proofs.stored.few_between.Given as goal

abbrev pub invariant-loop-at : goal.invariant-loop-at
invariant-loop-at l = record {
  so_far : each_check (each_check (chunk_check l.chunks))
      (drop l.at (stretch l.from l.count (chunk_lists l.entries)))
      ≡ each_check (each_check (chunk_check l.chunks))
      (stretch l.from l.count (chunk_lists l.entries));
  held : AllByRecursion (AllByRecursion (IsHeld l.chunks))
      (take l.at (stretch l.from l.count (chunk_lists l.entries)));
  few_is : l.few
      ≡ list_all (have_few l.chunks) (take l.at (stretch l.from l.count (chunk_lists l.entries)));
}
