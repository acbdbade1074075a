use Rattle.std.proofs.Common.{◌≡◌, ◌-◌}
use Rattle.index_reader.specs.Reading.Steps.{steps, with_front}
use Rattle.index_reader.specs.Reading.Table.{table_entry_at}
use Rattle.index_reader.specs.Seen.{table_seen}
use Rattle.index_reader.proofs.offset_table.read_entries.Given as goal

abbrev pub invariant-loop : goal.invariant-loop
invariant-loop l =
    with_front (table_seen l.table.items) (steps table_entry_at (l.count - l.counter) l.cut)
    ≡ steps table_entry_at l.count l.fn.cut
