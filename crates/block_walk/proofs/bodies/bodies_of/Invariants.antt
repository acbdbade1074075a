use Rattle.std.proofs.Common.{◌≡◌, drop, length}
use Rattle.block_walk.specs.IndexFile.Seen.{texts, entries_seen}
use Rattle.block_walk.specs.IndexFile.Each.{each, behind_items}
use Rattle.block_walk.specs.IndexFile.Flat.{bodies_in, AllIn, body_of_entry}
use Rattle.block_walk.proofs.bodies.bodies_of.Given as goal

abbrev pub invariant-loop-at : goal.invariant-loop-at
invariant-loop-at l = record {
  inside : AllIn l.labels.items l.chunks.items l.rows.items;
  counted : length l.rows.items ≡ l.at;
  so_far : behind_items (bodies_in l.labels.items l.chunks.items l.rows.items)
      (each (body_of_entry (texts l.symbols)) (drop l.at (entries_seen l.entries)))
      ≡ each (body_of_entry (texts l.symbols)) (entries_seen l.entries);
}
