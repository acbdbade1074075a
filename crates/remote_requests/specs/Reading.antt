-- What the body of a read asks.
use Rattle.std.specs.Prelude.{◌≡◌, ◌≤◌, ◌⊎◌, ℕ, List, length, nat_lt, Result, Ok, Err}
use Rattle.std.specs.Prelude.{if◌then◌else◌}
use Rattle.std.specs.List.{AllZip}
use Rattle.wire.specs.Outcome.{◌>>=◌}
use Rattle.remote_read.specs.Format.{QueryValue, IsRequest}
use Rattle.remote_read.specs.Reading.{request_at}
use Rattle.snappy.specs.Format.{IsStream}
use Rattle.snappy.specs.Reading.{text_at}
use Rattle.remote_requests.specs.declared.asked.Asked.TheVariants.{Read}
use Rattle.remote_requests.specs.declared.refusal.QueryFault.{QueryFault}
use Rattle.remote_requests.specs.declared.refusal.Refusal.{Refusal}
use Rattle.remote_requests.specs.declared.refusal.Refusal.TheVariants.{BadQuery, TooMany}
use Rattle.remote_requests.specs.Queries.{IsReadingOf, HasQueryFault}
use Rattle.remote_requests.specs.Writing.{Meaning, packed, spelled}

-- the most bytes of the text of a read
abbrev pub most_read : ℕ
most_read = 1048576

-- the queries, if they are at most 64
unfoldable pub if_few_queries : List QueryValue → Result (List QueryValue) Refusal
if_few_queries all = if nat_lt 64 (length all) then Err TooMany else Ok all

-- the queries of a text
unfoldable pub queries_in : List ℕ → Result (List QueryValue) Refusal
queries_in text = spelled (request_at text) >>= if_few_queries

-- the queries of a body, or the first refusal that it meets
unfoldable pub body_queries : List ℕ → Result (List QueryValue) Refusal
body_queries body = packed (text_at most_read body) >>= queries_in

-- the body is a stream of the text of these queries, which are not too many
pub record AreAsked (body : List ℕ) (all : List QueryValue) : Type 0 where
  pub text : List ℕ
  pub stream : IsStream body text
  pub short : length text ≤ 1048576
  pub request : IsRequest text all
  pub few : length all ≤ 64

-- the bytes are no queries, or the first of them that is refused is refused for this cause
abbrev pub IsRefusedRead : List ℕ → Refusal → Type 0
IsRefusedRead body refusal =
    (body_queries body ≡ Err refusal)
    ⊎ ((all : List QueryValue) × (why : QueryFault) × AreAsked body all × HasQueryFault all why
    × (refusal ≡ BadQuery why))

-- a body of queries asks for a reading each, in their order; another is refused
abbrev pub ReadMeans : List ℕ → Meaning → Type 0
ReadMeans body (Ok (Read readings)) =
    (all : List QueryValue) × AreAsked body all × AllZip IsReadingOf all readings.items
ReadMeans body (Ok _) = ⊥
ReadMeans body (Err refusal) = IsRefusedRead body refusal
