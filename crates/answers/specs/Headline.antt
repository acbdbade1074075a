-- The headline: what the audited answer of a store says.
use mathlib.Core.List.{IsPrefix}
use Rattle.labels.specs.Rows.{AreRows}
use Rattle.matchers.specs.Views.{QueryView}
use Rattle.matchers.specs.Queries.{selected_by}
use Rattle.head.specs.Heads.{SnapshotParts, world_of}
use Rattle.block_search.specs.Skipping.{LosesNothing}
use Rattle.block_search.specs.Answered.{AreAnsweredParts}
use Rattle.snapshots.specs.Replays.{IsAfter}
use Rattle.snapshots.specs.Views.{Known}
use Rattle.answers.specs.declared.audited.AuditedAnswer.{AuditedAnswer}
use Rattle.answers.specs.MergedRows.{rows_of}

-- A pass asked a store that had opened with this snapshot. It knew `before` when it asked and
-- `after` when it was answered. The list of events that it has seen then begins with what it
-- had seen and with what receipts had told it. There is a snapshot that these events make of the
-- opening: its world is their replay from the opening's world, and if none of them joins blocks,
-- the opening's blocks stand first in it, each with the range, the references and the label sets
-- that it was opened with. The rows are those of its content, restricted to the matchers and the
-- range. Each of its parts is told of: it is skipped, which loses nothing of what is asked, or its
-- own selected rows stand under a certificate that is leftmost, valid and least, and that is shown
-- by its separators, the first references of its intervals, no two of which lie in one fitting run.
pub record IsHeadline (opening : SnapshotParts) (query : QueryView) (before after : Known)
    (answer : AuditedAnswer) : Type 0 where
  pub seen : IsPrefix before.seen after.seen
  pub told : IsPrefix before.told after.seen
  pub snapshot : SnapshotParts
  pub replay : IsAfter opening after.seen snapshot
  pub rows : AreRows (rows_of answer) (selected_by query (world_of snapshot).content)
  pub whole : LosesNothing query snapshot
  pub parts : AreAnsweredParts query snapshot answer.parts.items
