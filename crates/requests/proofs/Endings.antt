-- A refusal that reading ends in is of what came.
use Rattle.std.proofs.Common.{◌≡◌, ℕ, Bool, true, false, List, Option, None, Some, Result, Ok, Err}
use Rattle.std.proofs.Common.{IfErr, nat_lt, codes}
use Rattle.std.specs.Prelude.{if◌then◌else◌}
use Rattle.std.specs.Str.Parse.{digits_value}
use Rattle.matchers.proofs.Makings.{not_memory}
use Rattle.requests.specs.declared.refusal.Refusal.{Refusal}
use Rattle.requests.specs.declared.refusal.Refusal.TheVariants.{BadHead, HeadTooLong, NoSuchPath}
use Rattle.requests.specs.declared.refusal.Refusal.TheVariants.{Method, BadQuery, BadSelector}
use Rattle.requests.specs.declared.refusal.Refusal.TheVariants.{BadBody, BodyTooLong}
use Rattle.requests.specs.declared.refusal.Refusal.TheVariants.{Refused as RefusedEvent}
use Rattle.requests.specs.declared.refusal.Refusal.TheVariants.{Unavailable, NotKept, Guarded}
use Rattle.requests.specs.declared.refusal.Refusal.TheVariants.{NoRoom}
use Rattle.requests.specs.declared.request.Request.{Request}
use Rattle.requests.specs.declared.request.ReadError.{ReadError}
use Rattle.requests.specs.declared.request.ReadError.TheVariants.{Closed, Fault, Memory, Refused}
use Rattle.requests.specs.declared.target.Path.{Path}
use Rattle.requests.specs.declared.target.Path.TheVariants as to_path
use Rattle.requests.specs.Ending.{IsOfBytes, EndsReading}
use Rattle.requests.specs.Fields.{is_decimal, allowed, length_alone, length_told, length_asked}
use Rattle.requests.specs.Fields.{field_values, has_field}
use Rattle.requests.specs.QueryStrings.{only}
use Rattle.requests.specs.Requests.{Meaning, Told}
use Rattle.requests.specs.Selecting.{SelectMeans}
use Rattle.requests.specs.Changes.{CutMeans, DeleteMeans}
use Rattle.requests.specs.Writing.{WriteMeans}
use Rattle.requests.specs.Reading.{BodyMeans}

-- a refused length is of what came
abbrev IsLength : Result ℕ Refusal → Type 0
IsLength r = IfErr r IsOfBytes

allowed_at : (n : ℕ) (past : Bool) → IsLength (if past then Err BodyTooLong else Ok n)
allowed_at n true = tt
allowed_at n false = tt

in_at : (n : ℕ) (digits : Bool) → IsLength (if digits then allowed n else Err BadBody)
in_at n true = allowed_at n (nat_lt 1048576 n)
in_at n false = tt

told_length : (value : Option (List ℕ)) → IsLength (length_told value)
told_length None = tt
told_length (Some value) = in_at (digits_value 10 value) (is_decimal value)

alone_length : (encoded : Bool) (told : Result ℕ Refusal) → IsLength told
    → IsLength (length_alone encoded told)
alone_length encoded (Err refusal) p = p
alone_length true (Ok n) p = tt
alone_length false (Ok n) p = tt

asked_length : (fields : List (List ℕ × List ℕ)) → IsLength (length_asked fields)
asked_length fields =
    alone_length (has_field (codes "transfer-encoding") fields) (length_told
    (only (field_values (codes "content-length") fields)))
    (told_length (only (field_values (codes "content-length") fields)))

pub length_ends : (fields : List (List ℕ × List ℕ)) (refusal : Refusal) → length_asked fields
    ≡ Err refusal → IsOfBytes refusal
length_ends fields refusal e = rw e at (asked_length fields)

pub select_ends : (query : List ℕ) (refusal : Refusal) → SelectMeans query (Err refusal)
    → IsOfBytes refusal
select_ends query BadHead p = absurd p
select_ends query HeadTooLong p = absurd p
select_ends query NoSuchPath p = absurd p
select_ends query Method p = absurd p
select_ends query BadQuery p = tt
select_ends query (BadSelector error) p = not_memory _ error p.2
select_ends query BadBody p = absurd p
select_ends query BodyTooLong p = absurd p
select_ends query (RefusedEvent cause) p = absurd p
select_ends query Unavailable p = absurd p
select_ends query NotKept p = absurd p
select_ends query Guarded p = absurd p
select_ends query NoRoom p = absurd p

delete_ends : (body : List ℕ) (refusal : Refusal) → DeleteMeans body (Err refusal)
    → IsOfBytes refusal
delete_ends body BadHead p = absurd p
delete_ends body HeadTooLong p = absurd p
delete_ends body NoSuchPath p = absurd p
delete_ends body Method p = absurd p
delete_ends body BadQuery p = absurd p
delete_ends body (BadSelector error) p = not_memory _ error p.2
delete_ends body BadBody p = tt
delete_ends body BodyTooLong p = absurd p
delete_ends body (RefusedEvent cause) p = absurd p
delete_ends body Unavailable p = absurd p
delete_ends body NotKept p = absurd p
delete_ends body Guarded p = absurd p
delete_ends body NoRoom p = absurd p

cut_ends : (body : List ℕ) (refusal : Refusal) → CutMeans body (Err refusal) → IsOfBytes refusal
cut_ends body BadHead p = absurd p
cut_ends body HeadTooLong p = absurd p
cut_ends body NoSuchPath p = absurd p
cut_ends body Method p = absurd p
cut_ends body BadQuery p = absurd p
cut_ends body (BadSelector error) p = absurd p
cut_ends body BadBody p = tt
cut_ends body BodyTooLong p = absurd p
cut_ends body (RefusedEvent cause) p = absurd p
cut_ends body Unavailable p = absurd p
cut_ends body NotKept p = absurd p
cut_ends body Guarded p = absurd p
cut_ends body NoRoom p = absurd p

write_ends : (body : List ℕ) (refusal : Refusal) → WriteMeans body (Err refusal) → IsOfBytes refusal
write_ends body BadHead p = absurd p
write_ends body HeadTooLong p = absurd p
write_ends body NoSuchPath p = absurd p
write_ends body Method p = absurd p
write_ends body BadQuery p = absurd p
write_ends body (BadSelector error) p = absurd p
write_ends body BadBody p = tt
write_ends body BodyTooLong p = absurd p
write_ends body (RefusedEvent cause) p = absurd p
write_ends body Unavailable p = absurd p
write_ends body NotKept p = absurd p
write_ends body Guarded p = absurd p
write_ends body NoRoom p = absurd p

pub body_ends : (path : Path) (body : List ℕ) (refusal : Refusal) → BodyMeans path body
    (Err refusal) → IsOfBytes refusal
body_ends to_path.Select body refusal p = let same : BadBody ≡ refusal = cc in rw (← same) tt
body_ends to_path.Write body refusal p = write_ends body refusal p
body_ends to_path.Delete body refusal p = delete_ends body refusal p
body_ends to_path.Cut body refusal p = cut_ends body refusal p

pub told_ends : (P : Meaning → Type 0) → ((refusal : Refusal) → P (Err refusal) → IsOfBytes refusal)
    → (r : Result Request ReadError) → Told P r → IfErr r EndsReading
told_ends P f (Ok request) p = tt
told_ends P f (Err Closed) p = tt
told_ends P f (Err Fault) p = tt
told_ends P f (Err Memory) p = tt
told_ends P f (Err (Refused refusal)) p = f refusal p
