-- The numbers and the reasons of statuses.
use Rattle.std.specs.Prelude.{ℕ, List, codes}
use Rattle.requests.specs.declared.status.Status.{Status}
use Rattle.requests.specs.declared.status.Status.TheVariants.{Done, BadRequest, Forbidden}
use Rattle.requests.specs.declared.status.Status.TheVariants.{NotFound}
use Rattle.requests.specs.declared.status.Status.TheVariants.{MethodNotAllowed, Conflict}
use Rattle.requests.specs.declared.status.Status.TheVariants.{ContentTooLarge, HeadTooLarge}
use Rattle.requests.specs.declared.status.Status.TheVariants.{ServiceUnavailable}

abbrev pub status_number : Status → ℕ
status_number Done = 200
status_number BadRequest = 400
status_number Forbidden = 403
status_number NotFound = 404
status_number MethodNotAllowed = 405
status_number Conflict = 409
status_number ContentTooLarge = 413
status_number HeadTooLarge = 431
status_number ServiceUnavailable = 503

abbrev pub status_reason : Status → List ℕ
status_reason Done = codes "OK"
status_reason BadRequest = codes "Bad Request"
status_reason Forbidden = codes "Forbidden"
status_reason NotFound = codes "Not Found"
status_reason MethodNotAllowed = codes "Method Not Allowed"
status_reason Conflict = codes "Conflict"
status_reason ContentTooLarge = codes "Content Too Large"
status_reason HeadTooLarge = codes "Request Header Fields Too Large"
status_reason ServiceUnavailable = codes "Service Unavailable"
