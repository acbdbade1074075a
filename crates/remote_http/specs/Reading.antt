-- What a read comes to: the answers of one snapshot, and the reply that carries them.
use Rattle.std.specs.Prelude.{◌≡◌, ◌⊎◌, ℕ, Bool, false, List, [], ◌∷◌, ◌++◌}
use Rattle.std.specs.Prelude.{Option, None, Some, IsTrue}
use Rattle.std.specs.List.{list_all}
use Rattle.labels.specs.Rows.{Row}
use Rattle.matchers.specs.Views.{QueryView}
use Rattle.protobuf_fields.specs.Format.{EachIs}
use Rattle.head.specs.Heads.{SnapshotParts}
use Rattle.snapshots.specs.Views.{Known}
use Rattle.answers.specs.declared.audited.AuditedAnswer.{AuditedAnswer}
use Rattle.answers.specs.Headline.{IsHeadline}
use Rattle.answers.specs.MergedRows.{rows_of}
use Rattle.remote_rows.specs.Sent.{Answer, IsBodyOf}
use Rattle.remote_requests.specs.declared.asked.Reading.{Reading}
use Rattle.remote_requests.specs.declared.refusal.Refusal.TheVariants.{NoMetric, Unavailable}
use Rattle.remote_requests.specs.declared.status.Status.{Status}
use Rattle.remote_requests.specs.declared.status.Status.TheVariants.{Done}
use Rattle.remote_requests.specs.Names.{names_metric}
use Rattle.remote_http.specs.Text.{packed_text}
use Rattle.remote_http.specs.Writing.{IsReplyOfRefusal}

-- The rows are those of the query's audited answer, and the snapshot of its headline is this one.
pub record IsAnswerOf (opening : SnapshotParts) (before after : Known) (snapshot : SnapshotParts)
    (query : QueryView) (rows : List Row) : Type 0 where
  pub audited : AuditedAnswer
  pub headline : IsHeadline opening query before after audited
  pub same : headline.snapshot ≡ snapshot
  pub are : rows ≡ rows_of audited

-- the rows that a query asks of the snapshot; none where its range has no time of the store
abbrev pub AreRowsFor : SnapshotParts → Known → Known → SnapshotParts → Option QueryView
    → List Row → Type 0
AreRowsFor opening before after snapshot None rows = rows ≡ []
AreRowsFor opening before after snapshot (Some query) rows =
    IsAnswerOf opening before after snapshot query rows

-- the answer to a reading, of this snapshot
pub record Answers (opening : SnapshotParts) (before after : Known) (snapshot : SnapshotParts)
    (reading : Reading) (answer : Answer) : Type 0 where
  pub names : answer.0 ≡ reading.names_alone
  pub rows : AreRowsFor opening before after snapshot reading.query answer.1

-- whether each row has no `__name__`, or one that names a metric
abbrev pub are_named : List Row → Bool
are_named rows = list_all (λ row. names_metric row.0) rows

abbrev pub has_names : Answer → Bool
has_names answer = are_named answer.1

-- The reply carries an answer for each reading, in their order, all of one snapshot.
pub record IsRowsReply (opening : SnapshotParts) (readings : List Reading) (before after : Known)
    (status : Status) (text : List ℕ) : Type 0 where
  pub snapshot : SnapshotParts
  pub answers : List Answer
  pub each : EachIs (Answers opening before after snapshot) readings answers
  pub named : IsTrue (list_all has_names answers)
  pub body : List ℕ
  pub means : IsBodyOf answers body
  pub number : status ≡ Done
  pub spelled : text ≡ packed_text body

-- The answer to one of the readings has a row whose `__name__` names no metric.
pub record IsUnnamedReply (opening : SnapshotParts) (readings : List Reading)
    (before after : Known) (status : Status) (text : List ℕ) : Type 0 where
  pub snapshot : SnapshotParts
  pub front : List Reading
  pub reading : Reading
  pub back : List Reading
  pub is : readings ≡ front ++ reading ∷ back
  pub answer : Answer
  pub answered : Answers opening before after snapshot reading answer
  pub unnamed : has_names answer ≡ false
  pub refused : IsReplyOfRefusal NoMetric status text

-- the reply to a read: its answers, or that a row of them cannot be sent, or that the store lends
-- no snapshot
abbrev pub IsReadReply : SnapshotParts → List Reading → Known → Known → Status → List ℕ → Type 0
IsReadReply opening readings before after status text =
    IsRowsReply opening readings before after status text
    ⊎ (IsUnnamedReply opening readings before after status text
    ⊎ IsReplyOfRefusal Unavailable status text)
