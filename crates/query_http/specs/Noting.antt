-- What is noted of a request.
use Rattle.std.specs.Prelude.{ℕ, length}
use Rattle.requests.specs.declared.refusal.Refusal.{Refusal}
use Rattle.requests.specs.declared.refusal.Refusal.TheVariants.{BadHead, HeadTooLong, NoSuchPath}
use Rattle.requests.specs.declared.refusal.Refusal.TheVariants.{Method, BadQuery, BadSelector}
use Rattle.requests.specs.declared.refusal.Refusal.TheVariants.{BadBody, BodyTooLong, Refused}
use Rattle.requests.specs.declared.refusal.Refusal.TheVariants.{Unavailable, NotKept, Guarded}
use Rattle.requests.specs.declared.refusal.Refusal.TheVariants.{NoRoom}
use Rattle.requests.specs.declared.request.Request.{Request}
use Rattle.requests.specs.declared.request.Request.TheVariants.{Select, Write, Delete, Cut}
use Rattle.requests.specs.declared.target.Path.{Path}
use Rattle.requests.specs.declared.target.Path.TheVariants as paths
use Rattle.requests.specs.Rows.{batch_of}

-- the path of a request
abbrev pub path_of : Request → Path
path_of (Select query) = paths.Select
path_of (Write rows) = paths.Write
path_of (Delete matchers from to) = paths.Delete
path_of (Cut at) = paths.Cut

-- how many samples it writes
abbrev pub samples_of : Request → ℕ
samples_of (Select query) = 0
samples_of (Write rows) = length (batch_of rows.items)
samples_of (Delete matchers from to) = 0
samples_of (Cut at) = 0

-- the number of a refusal, as 3 of `H3`
abbrev pub number_of : Refusal → ℕ
number_of BadHead = 1
number_of HeadTooLong = 2
number_of NoSuchPath = 3
number_of Method = 4
number_of BadQuery = 5
number_of (BadSelector error) = 6
number_of BadBody = 7
number_of BodyTooLong = 8
number_of (Refused cause) = 9
number_of Unavailable = 10
number_of NotKept = 11
number_of Guarded = 12
number_of NoRoom = 13
