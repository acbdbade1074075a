-- The numbers of refusals, their statuses and the causes behind them.
use Rattle.std.specs.Prelude.{ℕ, List, Option, None, Some, codes, ◌++◌}
use Rattle.matchers.specs.declared.error.SelectorError.{SelectorError}
use Rattle.matchers.specs.declared.error.SelectorError.TheVariants.{Syntax, Empty, TooMany}
use Rattle.matchers.specs.declared.error.SelectorError.TheVariants.{PatternTooLong, PatternRefused}
use Rattle.matchers.specs.declared.error.SelectorError.TheVariants.{Memory}
use Rattle.matchers.specs.Errors.{selector_code, selector_text}
use Rattle.requests.specs.declared.status.Status.{Status}
use Rattle.requests.specs.declared.status.Status.TheVariants as status
use Rattle.requests.specs.declared.refusal.Cause.{Cause}
use Rattle.requests.specs.declared.refusal.Refusal.{Refusal}
use Rattle.requests.specs.declared.refusal.Refusal.TheVariants.{BadHead, HeadTooLong, NoSuchPath}
use Rattle.requests.specs.declared.refusal.Refusal.TheVariants.{Method, BadQuery, BadSelector}
use Rattle.requests.specs.declared.refusal.Refusal.TheVariants.{BadBody, BodyTooLong, Refused}
use Rattle.requests.specs.declared.refusal.Refusal.TheVariants.{Unavailable, NotKept, Guarded}
use Rattle.requests.specs.declared.refusal.Refusal.TheVariants.{NoRoom}

-- the number of a refusal
abbrev pub code_of : Refusal → List ℕ
code_of BadHead = codes "H1"
code_of HeadTooLong = codes "H2"
code_of NoSuchPath = codes "H3"
code_of Method = codes "H4"
code_of BadQuery = codes "H5"
code_of (BadSelector error) = codes "H6"
code_of BadBody = codes "H7"
code_of BodyTooLong = codes "H8"
code_of (Refused cause) = codes "H9"
code_of Unavailable = codes "H10"
code_of NotKept = codes "H11"
code_of Guarded = codes "H12"
code_of NoRoom = codes "H13"

-- the status of the reply to it
abbrev pub status_of : Refusal → Status
status_of BadHead = status.BadRequest
status_of HeadTooLong = status.HeadTooLarge
status_of NoSuchPath = status.NotFound
status_of Method = status.MethodNotAllowed
status_of BadQuery = status.BadRequest
status_of (BadSelector error) = status.BadRequest
status_of BadBody = status.BadRequest
status_of BodyTooLong = status.ContentTooLarge
status_of (Refused cause) = status.Conflict
status_of Unavailable = status.ServiceUnavailable
status_of NotKept = status.ServiceUnavailable
status_of Guarded = status.Forbidden
status_of NoRoom = status.ServiceUnavailable

-- where a selector is refused, if a place is told
abbrev pub place_of : SelectorError → Option ℕ
place_of (Syntax at) = Some at
place_of Empty = None
place_of TooMany = None
place_of PatternTooLong = None
place_of PatternRefused = None
place_of Memory = None

-- a cause as its number and its place
abbrev pub told_cause : Cause → List ℕ × Option ℕ
told_cause cause = (cause.code.now, cause.at)

-- the number and the place of the refusal behind this one, if there is one
abbrev pub cause_of : Refusal → Option (List ℕ × Option ℕ)
cause_of BadHead = None
cause_of HeadTooLong = None
cause_of NoSuchPath = None
cause_of Method = None
cause_of BadQuery = None
cause_of (BadSelector error) = Some (selector_code error, place_of error)
cause_of BadBody = None
cause_of BodyTooLong = None
cause_of (Refused cause) = Some (told_cause cause)
cause_of Unavailable = None
cause_of NotKept = None
cause_of Guarded = None
cause_of NoRoom = None

-- a refusal in a line, for people
abbrev pub refusal_message : Refusal → List ℕ
refusal_message BadHead = codes "H1: the bytes are no head of a request"
refusal_message HeadTooLong = codes "H2: the head has more than 8192 bytes"
refusal_message NoSuchPath = codes "H3: there is no such path"
refusal_message Method = codes "H4: the path takes another method"
refusal_message BadQuery = codes "H5: the query string is not of the path's form"
refusal_message (BadSelector error) = codes "H6: the selector is refused: " ++ selector_text error
refusal_message BadBody = codes "H7: the body is not of the path's form, or is cut short"
refusal_message BodyTooLong = codes "H8: the body has more than 1048576 bytes"
refusal_message (Refused cause) = codes "H9: the store refuses the event: " ++ cause.code.now
refusal_message Unavailable = codes "H10: the store lends no snapshot"
refusal_message NotKept = codes "H11: the event is not kept"
refusal_message Guarded = codes "H12: the rules of the server do not admit it"
refusal_message NoRoom = codes "H13: the memory for replies has no room for this one"
