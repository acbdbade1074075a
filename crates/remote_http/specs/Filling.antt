-- Batches as they are filled with rows.
use Rattle.std.specs.Prelude.{◌≡◌, ◌+◌, ℕ, List, ◌++◌, IsTrue, length, map}
use Rattle.std.specs.List.{list_all}
use Rattle.labels.specs.Rows.{Row}
use Rattle.head.specs.BatchRows.{batch_of_rows}
use Rattle.head.specs.Batches.{is_batch}
use Rattle.head.specs.Laws.{all_of}
use Rattle.head.specs.Worlds.{Batch}
use Rattle.remote_http.specs.Cutting.{are_timed}

-- the batches of rows
abbrev pub batches_of : List (List Row) → List Batch
batches_of parts = map batch_of_rows parts

-- all samples, those of the batch that is being filled last
abbrev pub filled : List (List Row) → List Row → Batch
filled parts rows = all_of (batches_of parts) ++ batch_of_rows rows

-- the batch that is being filled has room for so many samples more
pub record HasRoom (rows : List Row) (room : ℕ) : Type 0 where
  pub timed : IsTrue (are_timed (batch_of_rows rows))
  pub counted : length (batch_of_rows rows) + room ≡ 4096

-- each of them is a batch
abbrev pub AreBatches : List (List Row) → Type 0
AreBatches parts = IsTrue (list_all is_batch (batches_of parts))
