use Rattle.std.proofs.Common.{◌≡◌, ◌≤◌, ◌+◌, ◌-◌, ◌++◌, List, drop, length, map, true}
use Rattle.data_folder.specs.Sweeping.{KeepsStore, names_in}
use Rattle.head.specs.Blocks.{part_in}
use Rattle.head.specs.Heads.{BlockPart}
use Rattle.store_folder.specs.Holding.{AreAt}
use Rattle.store_folder.specs.Sweeps.{names_at}
use Rattle.store_folder.specs.Writing.{AreRewritten, EachSays, places_from, places_with, unfound}
use Rattle.store_folder.proofs.writing.write_blocks.Given as goal

-- the blocks so far, and what is left to be written and to be placed
abbrev pub invariant-loop-at : goal.invariant-loop-at
invariant-loop-at g l =
    let f = g.F.Folder in
    record {
      blocks : (done parts : List BlockPart) × AreRewritten done parts
          × AreAt f.shows f.kept (places_from l.first l.written) parts l.folder
          × (length done ≡ l.written)
          × (done ++ unfound (drop l.at l.found) (map part_in (drop l.at l.blocks))
          ≡ unfound l.found (map part_in l.blocks));
      says : EachSays f.shows f.kept l.values (places_from l.first l.written) l.folder;
      places : l.places.items
          ++ places_with (l.first + l.written) (drop l.at l.found) (length l.blocks - l.at)
          ≡ places_with l.first l.found (length l.blocks);
      few : l.written ≤ l.at;
      names : names_in l.kept.items
          ≡ names_in l.fn.kept.items ++ names_at (places_from l.first l.written);
      sound : f.sound l.folder ≡ true;
      stays : KeepsStore f.shows f.kept f.sound f.moment f.left_since (names_in l.fn.kept.items)
          l.fn.folder l.folder;
    }
