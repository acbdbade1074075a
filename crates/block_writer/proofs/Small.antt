-- The bodies of a written index have few labels.
use Rattle.std.proofs.Common.{ℕ, zero, suc, ◌+◌, ◌<◌, ◌≤◌, List, [], ◌∷◌, length, get_or, arith}
use Rattle.std.specs.List.{AllByRecursion}
use Rattle.std.proofs.lemmas.List.{length-map}
use Rattle.labels.specs.LabelSets.{IsLabelSet}
use Rattle.labels.specs.Rows.{Row}
use Rattle.index_reader.specs.Layout.{Body}
use Rattle.block_writer.specs.EntryBodies.{numbers_of}
use Rattle.block_writer.specs.Writing.{series_text}
use Rattle.block_writer.proofs.WrittenAs.{entries_of}

pub few_labels : (symbols : List (List ℕ)) (rows : List Row) (at k : ℕ) (d : Body)
    → AllByRecursion (λ (row : Row). IsLabelSet row.0) rows
    → k < length (entries_of symbols at rows)
    → length (get_or (entries_of symbols at rows) k d).labels ≤ 64
unfolding entries_of
few_labels symbols [] at k d sets lt = absurd (omega (arith, lt))
few_labels symbols (row ∷ rows) at zero d sets lt =
    omega (arith, sets.0.few, length-map row.0 (numbers_of symbols))
few_labels symbols (row ∷ rows) at (suc k) d sets lt =
    few_labels symbols rows (at + length (series_text row.1)) k d sets.1 (omega (arith, lt))
