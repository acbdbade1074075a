-- What the body of a write asks.
use Rattle.std.specs.Prelude.{◌≡◌, ◌≤◌, ℕ, ℤ, true, List, length, filter, Result, Ok, Err}
use Rattle.std.specs.Prelude.{if◌then◌else◌, map, ⊤}
use Rattle.std.specs.List.{AllZip}
use Rattle.wire.specs.Outcome.{◌>>=◌}
use Rattle.protobuf_fields.specs.Reading as fields
use Rattle.remote_write.specs.Format.{SeriesValue, IsRequest}
use Rattle.remote_write.specs.Reading.{request_at, series_seen}
use Rattle.remote_write.specs.declared.error.ReadError as write_errors
use Rattle.remote_write.specs.declared.error.ReadError.TheVariants as write_error
use Rattle.remote_write.specs.declared.series.Series.{Series}
use Rattle.snappy.specs.Format.{IsStream}
use Rattle.snappy.specs.Reading.{text_at}
use Rattle.snappy.specs.declared.error.SnappyError.{SnappyError}
use Rattle.snappy.specs.declared.error.SnappyError.TheVariants as snappy_errors
use Rattle.remote_requests.specs.declared.asked.Asked.{Asked}
use Rattle.remote_requests.specs.declared.asked.Asked.TheVariants.{Write}
use Rattle.remote_requests.specs.declared.asked.ReadError.{ReadError}
use Rattle.remote_requests.specs.declared.asked.ReadError.TheVariants.{Closed, Lost, Memory}
use Rattle.remote_requests.specs.declared.asked.ReadError.TheVariants.{Refused}
use Rattle.remote_requests.specs.declared.asked.Received.{Received}
use Rattle.remote_requests.specs.declared.refusal.BodyFault.TheVariants.{Packed, Spelled}
use Rattle.remote_requests.specs.declared.refusal.Refusal.{Refusal}
use Rattle.remote_requests.specs.declared.refusal.Refusal.TheVariants.{BadBody, TooMany}
use Rattle.remote_requests.specs.Left.{IsTally}
use Rattle.remote_requests.specs.Series.{has_row, left_of, points_in, are_few, IsRowOf}

-- what is asked, or why it is refused
abbrev pub Meaning : Type 0
Meaning = Result Asked Refusal

-- the answer is a meaning of bytes that are at hand, unless memory was refused
abbrev pub Told : (Meaning → Type 0) → Result Asked ReadError → Type 0
Told Means (Ok asked) = Means (Ok asked)
Told Means (Err Closed) = ⊥
Told Means (Err Lost) = ⊥
Told Means (Err Memory) = ⊤
Told Means (Err (Refused refusal)) = Means (Err refusal)

-- a fault of Snappy as a refusal; a want of memory says nothing of bytes
abbrev pub packed : {A : Type 0} → Result A SnappyError → Result A Refusal
packed (Ok x) = Ok x
packed (Err (snappy_errors.Fault fault at)) = Err (BadBody (Packed fault))
packed (Err snappy_errors.Memory) = Err TooMany

-- a fault of a message as a refusal
abbrev pub spelled : {A : Type 0} → Result A fields.Refusal → Result A Refusal
spelled (Ok x) = Ok x
spelled (Err e) = Err (BadBody (Spelled e.0))

-- the refusal is that of reading; a want of memory says nothing of it
abbrev pub IsTold : {Y : Type 0} → ReadError → Result Y Refusal → Type 0
IsTold Closed read = ⊥
IsTold Lost read = ⊥
IsTold Memory read = ⊤
IsTold (Refused refusal) read = read ≡ Err refusal

-- what a function returned, seen by view, is what reading gives, unless memory ran out
abbrev pub Tells : {X Y : Type 0} → (X → Y) → Result X ReadError → Result Y Refusal → Type 0
Tells view (Ok x) read = read ≡ Ok (view x)
Tells view (Err e) read = IsTold e read

-- a fault of a message, as an error
abbrev pub misspelled : write_errors.ReadError → ReadError
misspelled write_error.Memory = Memory
misspelled (write_error.Fault fault left) = Refused (BadBody (Spelled fault))

-- the most bytes of the text of a write
abbrev pub most_written : ℕ
most_written = 16777216

-- the series, if they are not too many
unfoldable pub if_few : List SeriesValue → Result (List SeriesValue) Refusal
if_few all = if are_few all then Ok all else Err TooMany

-- the series of a text
unfoldable pub series_in : List ℕ → Result (List SeriesValue) Refusal
series_in text = spelled (request_at text) >>= if_few

-- the series of a body, or the first refusal that it meets
unfoldable pub body_series : List ℕ → Result (List SeriesValue) Refusal
body_series body = packed (text_at most_written body) >>= series_in

-- how many samples and histograms a text has
unfoldable pub points_at : List ℕ → Result ℕ Refusal
points_at text = series_in text >>= λ all. Ok (points_in all)

-- all series of a text, or why it has none
abbrev pub AllSeriesTold : {X : Type 0} → List ℕ → (X → List Series) → Result X ReadError → Type 0
AllSeriesTold text items (Ok v) =
    IsRequest text (map series_seen (items v)) × (request_at text ≡ Ok (map series_seen (items v)))
AllSeriesTold text items (Err e) = IsTold e (spelled (request_at text))

-- the body is a stream of the text of these series, which are not too many
pub record AreSent (body : List ℕ) (all : List SeriesValue) : Type 0 where
  pub text : List ℕ
  pub stream : IsStream body text
  pub short : length text ≤ 16777216
  pub request : IsRequest text all
  pub few : are_few all ≡ true

-- A row for each series that gives one, in the order of the body; what is left out; and of how
-- many samples and histograms.
pub record IsReceived (now : ℤ) (all : List SeriesValue) (received : Received) : Type 0 where
  pub rows : AllZip (IsRowOf now) (filter (has_row now) all) received.rows.items
  pub left : IsTally received.left (left_of now all)
  pub of : received.of ≡ points_in all

-- a body of series asks for what they come to; another is refused
abbrev pub WriteMeans : ℤ → List ℕ → Meaning → Type 0
WriteMeans now body (Ok (Write received)) =
    (all : List SeriesValue) × AreSent body all × IsReceived now all received
WriteMeans now body (Ok _) = ⊥
WriteMeans now body (Err refusal) = body_series body ≡ Err refusal
