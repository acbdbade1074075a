use Rattle.std.proofs.Common.{◌≡◌, drop, length}
use Rattle.index_reader.specs.Reading.Steps.{each, behind_items}
use Rattle.index_reader.specs.Seen.{strings_of, table_seen}
use Rattle.index_reader.specs.Reading.Agreement.{key_at}
use Rattle.index_reader.proofs.pairs.keys_of_entries.Given as goal

abbrev pub invariant-loop-at : goal.invariant-loop-at
invariant-loop-at l = record {
  counted : length l.keys.items ≡ l.at;
  so_far : behind_items l.keys.items
      (each (key_at (strings_of l.symbols.texts.items)) (drop l.at (table_seen l.table)))
      ≡ each (key_at (strings_of l.symbols.texts.items)) (table_seen l.table);
}
