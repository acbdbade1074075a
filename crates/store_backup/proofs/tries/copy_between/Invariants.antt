use Rattle.std.proofs.Common.{◌≡◌, ℕ, ◌≤◌, true, slice_index_or}
use Rattle.data_folder.specs.Folders.{Untouched}
use Rattle.store_backup.specs.Tries.{AreLookedAt, HaveChanged}
use Rattle.store_backup.proofs.tries.copy_between.Given as goal

abbrev pub invariant-loop-view : goal.invariant-loop-view
invariant-loop-view g l = record {
  looked : AreLookedAt g.F.Folder.shows g.F.Folder.kept g.F.Folder.moment g.F.Folder.left_since
      l.initial.views l.views;
  rest : (k : ℕ) (d : _) → l.view-index ≤ k
      → slice_index_or l.views k d ≡ slice_index_or l.initial.views k d;
  changed : HaveChanged g.F.Folder.shows g.F.Folder.kept l.views l.view-index;
  target : Untouched g.G.Folder.shows g.G.Folder.kept g.G.Folder.moment g.G.Folder.left_since
      l.initial.target l.target;
  sound : g.G.Folder.sound l.target ≡ true;
}
