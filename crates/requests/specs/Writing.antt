-- What the body of `/write` asks.
use Rattle.std.specs.Prelude.{◌≡◌, ◌<◌, ◌≤◌, ◌⊎◌, ℕ, List, Option, None, Some, Ok, Err, length}
use Rattle.labels.specs.Rows.{Row}
use Rattle.requests.specs.declared.refusal.Refusal.TheVariants.{BadBody}
use Rattle.requests.specs.declared.request.Request.TheVariants.{Write}
use Rattle.requests.specs.Requests.{Meaning}
use Rattle.requests.specs.Rows.{WrittenRow, rows_in_body, AreRowsOf, batch_of}

-- the rows that a body writes
pub record IsWritten (body : List ℕ) (rows : List Row) : Type 0 where
  pub written : List WrittenRow
  pub spelled : rows_in_body body ≡ Some written
  pub each : AreRowsOf written rows

-- the rows that a body writes, or none where it writes none
abbrev pub AreRowsInBody : List ℕ → Option (List Row) → Type 0
AreRowsInBody body None = rows_in_body body ≡ None
AreRowsInBody body (Some rows) = IsWritten body rows

-- rows of at most 4,096 samples ask a batch; another body is a bad one
abbrev pub WriteMeans : List ℕ → Meaning → Type 0
WriteMeans body (Ok (Write rows)) =
    IsWritten body rows.items × (length (batch_of rows.items) ≤ 4096)
WriteMeans body (Ok _) = ⊥
WriteMeans body (Err BadBody) =
    (rows_in_body body ≡ None)
    ⊎ ((rows : List Row) × IsWritten body rows × (4096 < length (batch_of rows)))
WriteMeans body (Err _) = ⊥
