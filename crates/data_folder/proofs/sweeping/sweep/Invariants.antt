use Rattle.std.proofs.Common.{◌≡◌, ◌≤◌, true}
use Rattle.data_folder.specs.Sweeping.{KeepsStore, names_in}
use Rattle.data_folder.proofs.sweeping.sweep.Given as goal

abbrev pub invariant-loop-name : goal.invariant-loop-name
invariant-loop-name g l =
    let f = g.F.Folder in
    record {
      sound : f.sound l.folder ≡ true;
      lasting : f.failed l.fn.folder ≡ true → f.failed l.folder ≡ true;
      few : l.left ≤ l.name-index;
      kept : KeepsStore f.shows f.kept f.sound f.moment f.left_since (names_in l.kept) l.fn.folder
          l.folder;
    }
