use Rattle.std.proofs.Common.{◌≡◌, drop}
use Rattle.index_reader.specs.Reading.Steps.{each, behind_items}
use Rattle.index_reader.specs.Reading.Postings.{section_at}
use Rattle.index_reader.specs.Seen.{table_seen, bytes_of}
use Rattle.index_reader.proofs.postings.sections_of.Given as goal

abbrev pub invariant-loop-at : goal.invariant-loop-at
invariant-loop-at l =
    behind_items (bytes_of l.contents.items)
    (each (section_at l.file l.to) (drop l.at (table_seen l.table)))
    ≡ each (section_at l.file l.to) (table_seen l.table)
