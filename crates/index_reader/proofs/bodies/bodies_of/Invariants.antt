use Rattle.std.proofs.Common.{◌≡◌, ◌++◌, drop}
use Rattle.index_reader.specs.Seen.{bytes_of, entries_seen}
use Rattle.index_reader.specs.Reading.Steps.{each, behind_items}
use Rattle.index_reader.specs.Reading.Flat.{bodies_in, AllIn, body_of_entry, references_in_order}
use Rattle.index_reader.specs.Reading.Agreement.{entry_references}
use Rattle.index_reader.proofs.bodies.bodies_of.Given as goal

abbrev pub invariant-loop-at : goal.invariant-loop-at
invariant-loop-at l = record {
  inside : AllIn l.labels.items l.chunks.items l.series.items;
  referred : references_in_order l.series.items
      ++ drop l.at (entry_references (entries_seen l.entries))
      ≡ entry_references (entries_seen l.entries);
  so_far : behind_items (bodies_in l.labels.items l.chunks.items l.series.items)
      (each (body_of_entry (bytes_of l.symbols.texts.items)) (drop l.at (entries_seen l.entries)))
      ≡ each (body_of_entry (bytes_of l.symbols.texts.items)) (entries_seen l.entries);
}
