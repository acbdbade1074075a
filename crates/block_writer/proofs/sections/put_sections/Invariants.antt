use Rattle.std.proofs.Common.{◌≡◌, ◌++◌, [], ◌∷◌, drop, length}
use Rattle.std.specs.Prelude.{map}
use Rattle.std.specs.List.{flat_map}
use Rattle.labels.specs.Pairs.{texts_of}
use Rattle.index_reader.specs.Spelled.{listed_text, table_text}
use Rattle.block_writer.specs.IndexText.{listed_from, section_text}
use Rattle.block_writer.proofs.sections.put_sections.Given as goal

abbrev pub invariant-loop-i : goal.invariant-loop-i
invariant-loop-i l =
    (l.out.items ++ flat_map section_text (drop l.i (map (λ x. x.items) l.lists))
    ≡ l.fn.out.items ++ flat_map section_text (l.all ∷ map (λ x. x.items) l.lists))
    × (l.table.items ++ flat_map listed_text (listed_from (length l.out.items)
    (drop l.i (texts_of l.pairs)) (drop l.i (map (λ x. x.items) l.lists)))
    ≡ table_text (listed_from (length l.fn.out.items) (([], []) ∷ texts_of l.pairs)
    (l.all ∷ map (λ x. x.items) l.lists)))
