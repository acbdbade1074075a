-- The parts that were published so far.
use Rattle.std.specs.Prelude.{◌≡◌, ◌≤◌, List, ◌++◌, length}
use Rattle.head.specs.Heads.{SnapshotParts}
use Rattle.head.specs.Laws.{all_of}
use Rattle.head.specs.Telling.{total}
use Rattle.head.specs.Worlds.{Batch}
use Rattle.head.specs.declared.left.Left.{Left}
use Rattle.remote_http.specs.Told.{all_left}
use Rattle.remote_http.specs.Workers.{Worker}
use Rattle.remote_http.specs.Writing.{ArePublished}

-- these parts were published, and this is what all of them left out
pub record IsPublished (opening : SnapshotParts) (parts : List Batch) (before after : Worker)
    (left : Left) : Type 0 where
  pub lefts : List Left
  pub each : ArePublished opening parts lefts before after
  pub all : left ≡ all_left lefts
  pub few : total left ≤ length (all_of parts)

-- the first of these parts were published, and no more
pub record PublishesFirst (opening : SnapshotParts) (parts : List Batch)
    (before after : Worker) : Type 0 where
  pub front : List Batch
  pub back : List Batch
  pub whole : parts ≡ front ++ back
  pub lefts : List Left
  pub each : ArePublished opening front lefts before after
