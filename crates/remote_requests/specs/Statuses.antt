-- The numbers and the reasons of statuses.
use Rattle.std.specs.Prelude.{ℕ, List, codes}
use Rattle.remote_requests.specs.declared.status.Status.{Status}
use Rattle.remote_requests.specs.declared.status.Status.TheVariants.{Done, BadRequest, Forbidden}
use Rattle.remote_requests.specs.declared.status.Status.TheVariants.{NotFound, MethodNotAllowed}
use Rattle.remote_requests.specs.declared.status.Status.TheVariants.{LengthRequired}
use Rattle.remote_requests.specs.declared.status.Status.TheVariants.{UnsupportedMediaType}
use Rattle.remote_requests.specs.declared.status.Status.TheVariants.{HeadTooLarge}
use Rattle.remote_requests.specs.declared.status.Status.TheVariants.{ServiceUnavailable}

abbrev pub status_number : Status → ℕ
status_number Done = 200
status_number BadRequest = 400
status_number Forbidden = 403
status_number NotFound = 404
status_number MethodNotAllowed = 405
status_number LengthRequired = 411
status_number UnsupportedMediaType = 415
status_number HeadTooLarge = 431
status_number ServiceUnavailable = 503

abbrev pub status_reason : Status → List ℕ
status_reason Done = codes "OK"
status_reason BadRequest = codes "Bad Request"
status_reason Forbidden = codes "Forbidden"
status_reason NotFound = codes "Not Found"
status_reason MethodNotAllowed = codes "Method Not Allowed"
status_reason LengthRequired = codes "Length Required"
status_reason UnsupportedMediaType = codes "Unsupported Media Type"
status_reason HeadTooLarge = codes "Request Header Fields Too Large"
status_reason ServiceUnavailable = codes "Service Unavailable"
