use Rattle.std.proofs.Common.{◌≡◌, ◌≤◌, ◌+◌, ◌++◌, drop, length}
use Rattle.std.specs.List.{flat_map}
use Rattle.labels.specs.Rows.{Row}
use Rattle.index_reader.specs.Seen.{bytes_of}
use Rattle.block_writer.specs.Writing.{series_text}
use Rattle.block_writer.specs.Written.{limit}
use Rattle.block_writer.specs.EntryBodies.{bodies_of}
use Rattle.block_writer.specs.IndexText.{references_from, with_entries}
use Rattle.block_writer.proofs.entries.put_entries.Given as goal

abbrev pub invariant-loop-row : goal.invariant-loop-row
invariant-loop-row l =
    (with_entries l.out.items (bodies_of (bytes_of l.symbols) l.place (drop l.row-index l.rows))
    ≡ with_entries l.initial.out.items (bodies_of (bytes_of l.symbols) 8 l.rows))
    × (l.references.items ++ references_from (length l.out.items)
    (bodies_of (bytes_of l.symbols) l.place (drop l.row-index l.rows))
    ≡ references_from (length l.initial.out.items) (bodies_of (bytes_of l.symbols) 8 l.rows))
    × (l.place + length (flat_map (λ (row : Row). series_text row.1) (drop l.row-index l.rows))
    ≤ limit)
