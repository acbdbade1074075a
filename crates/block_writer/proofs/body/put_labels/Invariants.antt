use Rattle.std.proofs.Common.{◌≡◌, ◌++◌, drop}
use Rattle.std.specs.List.{flat_map}
use Rattle.index_reader.specs.Seen.{bytes_of}
use Rattle.index_reader.specs.Spelled.{label_text}
use Rattle.block_writer.specs.EntryBodies.{numbers_of, labels_text}
use Rattle.block_writer.proofs.body.put_labels.Given as goal

abbrev pub invariant-loop-i : goal.invariant-loop-i
invariant-loop-i l =
    l.out.items
    ++ flat_map (λ p. label_text (numbers_of (bytes_of l.symbols) p)) (drop l.i l.labels)
    ≡ l.fn.out.items ++ labels_text (bytes_of l.symbols) l.labels
