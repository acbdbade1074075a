-- What a snapshot answers to readings, and what is written of it.
use Rattle.std.specs.Prelude.{◌≡◌, ℕ, false, true, List, [], ◌∷◌, ◌++◌, IsTrue}
use Rattle.std.specs.Prelude.{Option, None, Some}
use Rattle.std.specs.List.{list_all}
use Rattle.labels.specs.Rows.{Row}
use Rattle.matchers.specs.Views.{QueryView}
use Rattle.protobuf_fields.specs.Format.{EachIs}
use Rattle.head.specs.Heads.{SnapshotParts}
use Rattle.block_search.specs.Skipping.{LosesNothing}
use Rattle.answers.specs.declared.audited.AuditedAnswer.{AuditedAnswer}
use Rattle.answers.specs.Audited.{IsAudited}
use Rattle.answers.specs.MergedRows.{rows_of}
use Rattle.remote_rows.specs.Sent.{Answer, IsReplyTo}
use Rattle.remote_requests.specs.declared.asked.Reading.{Reading}
use Rattle.remote_http.specs.Reading.{has_names}

-- the rows are those of the audited answer of the snapshot
pub record IsAuditedAt (snapshot : SnapshotParts) (query : QueryView)
    (rows : List Row) : Type 0 where
  pub audited : AuditedAnswer
  pub is : IsAudited query snapshot audited
  pub whole : LosesNothing query snapshot
  pub are : rows ≡ rows_of audited

abbrev pub AreRowsAt : SnapshotParts → Option QueryView → List Row → Type 0
AreRowsAt snapshot None rows = rows ≡ []
AreRowsAt snapshot (Some query) rows = IsAuditedAt snapshot query rows

-- the answer of the snapshot to a reading
pub record AnswersAt (snapshot : SnapshotParts) (reading : Reading)
    (answer : Answer) : Type 0 where
  pub names : answer.0 ≡ reading.names_alone
  pub rows : AreRowsAt snapshot reading.query answer.1

-- an answer, each row of which can be sent, was added to a reply
pub record AddsAnswer (snapshot : SnapshotParts) (reading : Reading)
    (old new : List ℕ) : Type 0 where
  pub answer : Answer
  pub answers : AnswersAt snapshot reading answer
  pub named : has_names answer ≡ true
  pub adds : (front : List Answer) → IsReplyTo front old → IsReplyTo (front ++ answer ∷ []) new

-- a row of the answer cannot be sent
pub record IsUnnamed (snapshot : SnapshotParts) (reading : Reading) : Type 0 where
  pub answer : Answer
  pub answers : AnswersAt snapshot reading answer
  pub unnamed : has_names answer ≡ false

-- the reply has an answer for each reading, behind others
pub record HasAnswers (front : List Answer) (snapshot : SnapshotParts) (readings : List Reading)
    (text : List ℕ) : Type 0 where
  pub answers : List Answer
  pub each : EachIs (AnswersAt snapshot) readings answers
  pub named : IsTrue (list_all has_names answers)
  pub reply : IsReplyTo (front ++ answers) text

-- a row of the answer to one of the readings cannot be sent
pub record HasUnnamed (snapshot : SnapshotParts) (readings : List Reading) : Type 0 where
  pub front : List Reading
  pub reading : Reading
  pub back : List Reading
  pub is : readings ≡ front ++ reading ∷ back
  pub found : IsUnnamed snapshot reading
