use Rattle.std.proofs.Common.{◌≡◌, true, List, map, take, drop}
use Rattle.data_folder.specs.Folders.{Untouched}
use Rattle.head.specs.Blocks.{part_in}
use Rattle.head.specs.Heads.{BlockPart}
use Rattle.store_folder.specs.Faults.{TellsFiles}
use Rattle.store_folder.specs.Holding.{AreAt}
use Rattle.store_folder.proofs.Told.{ReadSoFar}
use Rattle.store_folder.proofs.blocks.read_blocks.Given as goal

abbrev pub invariant-loop-place : goal.invariant-loop-place
invariant-loop-place g l =
    let f = g.F.Folder in
    record {
      sound : f.sound l.folder ≡ true;
      untouched : Untouched f.shows f.kept f.moment f.left_since l.fn.folder l.folder;
      blocks : AreAt f.shows f.kept (take l.place-index l.places) (map part_in l.blocks.items)
          l.folder;
      told : TellsFiles f.shows → (parts : List BlockPart)
          → AreAt f.shows f.kept l.places parts l.fn.folder
          → ReadSoFar f.shows f.kept (drop l.place-index l.places) parts
          (map part_in l.blocks.items) l.folder;
    }
