-- What one connection adds to what is counted.
use Rattle.std.specs.Prelude.{ℕ, Option, None, Some, unwrap_or}
use Rattle.requests.specs.declared.status.Status.{Status}
use Rattle.requests.specs.declared.status.Status.TheVariants.{Done, BadRequest, Forbidden, NotFound}
use Rattle.requests.specs.declared.status.Status.TheVariants.{MethodNotAllowed, Conflict}
use Rattle.requests.specs.declared.status.Status.TheVariants.{ContentTooLarge, HeadTooLarge}
use Rattle.requests.specs.declared.status.Status.TheVariants.{ServiceUnavailable}
use Rattle.requests.specs.declared.target.Path.{Path}
use Rattle.requests.specs.declared.target.Path.TheVariants.{Select, Write, Delete, Cut}
use Rattle.query_http.specs.declared.note.Note.{Note}
use Rattle.server.specs.declared.tally.Event.{Event}
use Rattle.server.specs.declared.tally.Event.TheVariants.{Batch, Deletion, Cutting, Nothing}

-- the number of the refusal of a store in a reply with the status 503, by the path: it lends no
-- snapshot to a query, with 10, or does not keep an event, with 11
abbrev pub refusal_unavailable : Option Path → ℕ
refusal_unavailable None = 10
refusal_unavailable (Some Select) = 10
refusal_unavailable (Some Write) = 11
refusal_unavailable (Some Delete) = 11
refusal_unavailable (Some Cut) = 11

-- the number of the refusal in a reply with the status 503: the one that is noted, which is 13,
-- that the memory for replies has no room, or that of a store
abbrev pub refusal_noted : Note → ℕ
refusal_noted note = unwrap_or note.refusal (refusal_unavailable note.path)

-- the number of the refusal in a reply with this status: the store refuses with 9, with 10 or with
-- 11; every other refusal is of what came, or 13
abbrev pub refusal_told : Note → Status → Option ℕ
refusal_told note Done = note.refusal
refusal_told note BadRequest = note.refusal
refusal_told note Forbidden = note.refusal
refusal_told note NotFound = note.refusal
refusal_told note MethodNotAllowed = note.refusal
refusal_told note Conflict = Some 9
refusal_told note ContentTooLarge = note.refusal
refusal_told note HeadTooLarge = note.refusal
refusal_told note ServiceUnavailable = Some (refusal_noted note)

-- the event that a request of a path publishes
abbrev pub event_at : Option Path → ℕ → Event
event_at None samples = Nothing
event_at (Some Select) samples = Nothing
event_at (Some Write) samples = Batch samples
event_at (Some Delete) samples = Deletion
event_at (Some Cut) samples = Cutting

-- the event that was accepted, by the status of the reply
abbrev pub event_of : Note → Status → Event
event_of note Done = event_at note.path note.samples
event_of note BadRequest = Nothing
event_of note Forbidden = Nothing
event_of note NotFound = Nothing
event_of note MethodNotAllowed = Nothing
event_of note Conflict = Nothing
event_of note ContentTooLarge = Nothing
event_of note HeadTooLarge = Nothing
event_of note ServiceUnavailable = Nothing
