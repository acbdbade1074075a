-- The numbers of refusals, their statuses and the numbers behind them.
use Rattle.std.specs.Prelude.{ℕ, List, Option, None, Some, codes}
use Rattle.matchers.specs.Errors.{selector_code}
use Rattle.page_requests.specs.Refusals as page_refusals
use Rattle.protobuf_fields.specs.Codes as protobuf_codes
use Rattle.snappy.specs.Codes as snappy_codes
use Rattle.remote_requests.specs.declared.status.Status.{Status}
use Rattle.remote_requests.specs.declared.status.Status.TheVariants as status
use Rattle.remote_requests.specs.declared.refusal.BodyFault.{BodyFault}
use Rattle.remote_requests.specs.declared.refusal.BodyFault.TheVariants as body
use Rattle.remote_requests.specs.declared.refusal.QueryFault.{QueryFault}
use Rattle.remote_requests.specs.declared.refusal.QueryFault.TheVariants as query
use Rattle.remote_requests.specs.declared.refusal.Refusal.{Refusal}
use Rattle.remote_requests.specs.declared.refusal.Refusal.TheVariants as refusals

abbrev pub body_fault_code : BodyFault → List ℕ
body_fault_code (body.Packed fault) = snappy_codes.code_of fault
body_fault_code (body.Spelled fault) = protobuf_codes.code_of fault

abbrev pub query_fault_code : QueryFault → List ℕ
query_fault_code query.TooMany = codes "M5"
query_fault_code query.Kind = codes "M7"
query_fault_code query.BadText = codes "L4"
query_fault_code query.BadName = codes "M1"
query_fault_code query.PatternTooLong = codes "M3"
query_fault_code query.PatternRefused = codes "M2"

-- the number of a refusal
abbrev pub code_of : Refusal → List ℕ
code_of refusals.BadHead = codes "H1"
code_of refusals.HeadTooLong = codes "H2"
code_of refusals.Guarded = codes "H12"
code_of refusals.NoSuchPath = codes "H3"
code_of refusals.Method = codes "H4"
code_of refusals.NoLength = codes "G1"
code_of refusals.BadLength = codes "G2"
code_of refusals.Encoding = codes "G3"
code_of refusals.Form = codes "G4"
code_of (refusals.BadBody fault) = codes "G6"
code_of refusals.TooMany = codes "G7"
code_of (refusals.BadQuery fault) = codes "G8"
code_of refusals.NoLabel = codes "G12"
code_of refusals.NoMatch = codes "G13"
code_of refusals.BadParameter = codes "G14"
code_of (refusals.BadSelector error) = codes "G15"
code_of (refusals.BadPage refusal) = page_refusals.code_of refusal
code_of refusals.NoMetric = codes "G9"
code_of refusals.ClockBehind = codes "G10"
code_of refusals.Unavailable = codes "H10"
code_of refusals.NotKept = codes "H11"

-- the status of the reply to it
abbrev pub status_of : Refusal → Status
status_of refusals.BadHead = status.BadRequest
status_of refusals.HeadTooLong = status.HeadTooLarge
status_of refusals.Guarded = status.Forbidden
status_of refusals.NoSuchPath = status.NotFound
status_of refusals.Method = status.MethodNotAllowed
status_of refusals.NoLength = status.LengthRequired
status_of refusals.BadLength = status.BadRequest
status_of refusals.Encoding = status.UnsupportedMediaType
status_of refusals.Form = status.UnsupportedMediaType
status_of (refusals.BadBody fault) = status.BadRequest
status_of refusals.TooMany = status.BadRequest
status_of (refusals.BadQuery fault) = status.BadRequest
status_of refusals.NoLabel = status.BadRequest
status_of refusals.NoMatch = status.BadRequest
status_of refusals.BadParameter = status.BadRequest
status_of (refusals.BadSelector error) = status.BadRequest
status_of (refusals.BadPage refusal) = status.BadRequest
status_of refusals.NoMetric = status.BadRequest
status_of refusals.ClockBehind = status.ServiceUnavailable
status_of refusals.Unavailable = status.ServiceUnavailable
status_of refusals.NotKept = status.ServiceUnavailable

-- the number of the refusal behind this one, if there is one
abbrev pub cause_of : Refusal → Option (List ℕ)
cause_of refusals.BadHead = None
cause_of refusals.HeadTooLong = None
cause_of refusals.Guarded = None
cause_of refusals.NoSuchPath = None
cause_of refusals.Method = None
cause_of refusals.NoLength = None
cause_of refusals.BadLength = None
cause_of refusals.Encoding = None
cause_of refusals.Form = None
cause_of (refusals.BadBody fault) = Some (body_fault_code fault)
cause_of refusals.TooMany = None
cause_of (refusals.BadQuery fault) = Some (query_fault_code fault)
cause_of refusals.NoLabel = None
cause_of refusals.NoMatch = None
cause_of refusals.BadParameter = None
cause_of (refusals.BadSelector error) = Some (selector_code error)
cause_of (refusals.BadPage refusal) = page_refusals.cause_of refusal
cause_of refusals.NoMetric = None
cause_of refusals.ClockBehind = None
cause_of refusals.Unavailable = None
cause_of refusals.NotKept = None

-- what is wrong with what is asked of a listing, in words; none for other refusals
abbrev pub error_of : Refusal → Option (List ℕ)
error_of refusals.BadHead = None
error_of refusals.HeadTooLong = None
error_of refusals.Guarded = None
error_of refusals.NoSuchPath = None
error_of refusals.Method = None
error_of refusals.NoLength = None
error_of refusals.BadLength = None
error_of refusals.Encoding = None
error_of refusals.Form = None
error_of (refusals.BadBody fault) = None
error_of refusals.TooMany = None
error_of (refusals.BadQuery fault) = None
error_of refusals.NoLabel = Some (codes "G12: the name in the path is no label name")
error_of refusals.NoMatch = Some (codes "G13: series are asked for by at least one match[]")
error_of refusals.BadParameter =
    Some
    (codes "G14: start and end are seconds, perhaps with a point, and limit is a whole number")
error_of (refusals.BadSelector error) =
    Some (codes "G15: a match[] is refused for its cause")
error_of (refusals.BadPage refusal) = None
error_of refusals.NoMetric = None
error_of refusals.ClockBehind = None
error_of refusals.Unavailable = None
error_of refusals.NotKept = None
