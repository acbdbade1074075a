-- Audited answers to a query.
use Rattle.labels.specs.Contents.{Content}
use Rattle.labels.specs.Rows.{AreRows}
use Rattle.labels.specs.Parts.{content_of}
use Rattle.matchers.specs.Views.{QueryView}
use Rattle.matchers.specs.Queries.{selected_by}
use Rattle.head.specs.Heads.{SnapshotParts, parts_of}
use Rattle.block_search.specs.Answered.{AreAnsweredParts}
use Rattle.answers.specs.declared.audited.AuditedAnswer.{AuditedAnswer}
use Rattle.answers.specs.MergedRows.{rows_of}

-- the samples that a query asks of all parts of a snapshot
abbrev pub selected_in : QueryView → SnapshotParts → Content
selected_in query snapshot = selected_by query (content_of (parts_of snapshot))

-- Each part of the snapshot is told of, and the rows are those of the content of all parts
-- restricted to the matchers and the range.
pub record IsAudited (query : QueryView) (snapshot : SnapshotParts)
    (answer : AuditedAnswer) : Type 0 where
  pub each : AreAnsweredParts query snapshot answer.parts.items
  pub rows : AreRows (rows_of answer) (selected_in query snapshot)
