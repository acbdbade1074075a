-- Batches that are cut into parts.
use Rattle.std.specs.Prelude.{◌≡◌, ◌≤◌, Bool, List, IsTrue, length}
use Rattle.std.specs.List.{list_all}
use Rattle.labels.specs.Contents.{is_time}
use Rattle.head.specs.Batches.{is_batch}
use Rattle.head.specs.Laws.{all_of}
use Rattle.head.specs.Worlds.{Batch}

-- The parts are the batch, in its order. Each has at most 4,096 samples, all at times.
pub record IsCutInto (xs : Batch) (parts : List Batch) : Type 0 where
  pub whole : all_of parts ≡ xs
  pub each : IsTrue (list_all is_batch parts)

-- whether each sample is at a time
abbrev pub are_timed : Batch → Bool
are_timed xs = list_all (λ x. is_time x.1.0) xs

-- what a write brings to a store: at most 65,536 samples, all at times
pub record IsFew (xs : Batch) : Type 0 where
  pub timed : IsTrue (are_timed xs)
  pub few : length xs ≤ 65536
