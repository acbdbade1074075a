-- Why no request was read, in a line.
use Rattle.std.specs.Prelude.{ℕ, List, codes}
use Rattle.requests.specs.Refusals.{refusal_message}
use Rattle.requests.specs.declared.request.ReadError.{ReadError}
use Rattle.requests.specs.declared.request.ReadError.TheVariants.{Closed, Fault, Memory, Refused}

-- what is told of it, for people
abbrev pub read_error_message : ReadError → List ℕ
read_error_message Closed = codes "the input ends before its first byte"
read_error_message Fault = codes "the input cannot be read"
read_error_message Memory = codes "no memory"
read_error_message (Refused refusal) = refusal_message refusal
