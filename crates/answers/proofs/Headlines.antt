-- The answer of a snapshot that stands after the events that were seen.
use Rattle.std.proofs.Common.{◌≡◌, refl, subst}
use mathlib.Core.List.{IsPrefix}
use Rattle.labels.specs.Contents.{Content}
use Rattle.labels.specs.Rows.{AreRows}
use Rattle.labels.specs.Parts.{content_of}
use Rattle.matchers.specs.Views.{QueryView}
use Rattle.matchers.specs.Queries.{selected_by}
use Rattle.head.specs.Heads.{SnapshotParts, parts_of, world_of}
use Rattle.block_search.specs.Skipping.{LosesNothing}
use Rattle.block_search.specs.Answered.{AreAnsweredParts}
use Rattle.snapshots.specs.Replays.{IsAfter}
use Rattle.snapshots.specs.Views.{Known}
use Rattle.answers.specs.Audited.{selected_in}
use Rattle.answers.specs.MergedRows.{rows_of}
use Rattle.answers.specs.Headline.{IsHeadline}
use Rattle.answers.specs.declared.audited.AuditedAnswer.{AuditedAnswer}

-- the content of a snapshot's world is that of its parts
pub world_content : (s : SnapshotParts) → content_of (parts_of s) ≡ (world_of s).content
unfolding world_of
world_content s = refl

module _ (opening : SnapshotParts) (query : QueryView) (before after : Known)
    (answer : AuditedAnswer) where
  pub headline : (s : SnapshotParts) → IsPrefix before.seen after.seen
      → IsPrefix before.told after.seen → IsAfter opening after.seen s
      → AreRows (rows_of answer) (selected_in query s)
      → LosesNothing query s
      → AreAnsweredParts query s answer.parts.items
      → IsHeadline opening query before after answer
  headline s seen told after_events rows whole parts = record {
    seen = seen;
    told = told;
    snapshot = s;
    replay = after_events;
    rows =
        subst (λ (c : Content). AreRows (rows_of answer) (selected_by query c))
        (world_content s) rows;
    whole = whole;
    parts = parts;
  }
