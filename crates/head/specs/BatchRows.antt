-- Batches whose samples stand in rows.
use Rattle.std.specs.Prelude.{ℤ, List, [], ◌∷◌, ◌++◌, map}
use Rattle.labels.specs.Labels.{Labels}
use Rattle.labels.specs.Rows.{Row}
use Rattle.head.specs.Worlds.{Batch}
use Rattle.head.specs.declared.draft.Samples.{Samples}
use Rattle.head.specs.declared.draft.Samples.TheVariants.{Pairs, Rows}

-- the samples of one label set as samples of a batch
abbrev pub pairs_with : Labels → List (ℤ × ℤ) → Batch
pairs_with l samples = map (λ (s : ℤ × ℤ). (l, s)) samples

-- the batch that rows spell: their samples in order, each with its label set
abbrev pub batch_of_rows : List Row → Batch
batch_of_rows [] = []
batch_of_rows (row ∷ rows) = pairs_with row.0 row.1 ++ batch_of_rows rows

-- the batch of samples that stand in pairs or in rows
abbrev pub batch_in : Samples → Batch
batch_in (Pairs pairs) = pairs.now
batch_in (Rows rows) = batch_of_rows rows.now
