use Rattle.std.proofs.Common.{◌≡◌, drop}
use Rattle.index_reader.specs.Reading.Steps.{each, behind_items}
use Rattle.index_reader.specs.Reading.Postings.{references_at}
use Rattle.index_reader.specs.Seen.{bytes_of}
use Rattle.index_reader.proofs.postings.references_of_each.Given as goal

abbrev pub invariant-loop-at : goal.invariant-loop-at
invariant-loop-at l =
    behind_items (bytes_of l.lists.items) (each references_at (drop l.at (bytes_of l.contents)))
    ≡ each references_at (bytes_of l.contents)
