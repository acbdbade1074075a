-- What is said of the answer of a call that reads a request.
use Rattle.std.specs.Prelude.{Result, Ok, Err, ⊤}
use Rattle.requests.specs.declared.refusal.Refusal.{Refusal}
use Rattle.requests.specs.declared.request.Request.{Request}
use Rattle.requests.specs.declared.request.ReadError.{ReadError}
use Rattle.requests.specs.declared.request.ReadError.TheVariants.{Closed, Fault, Memory, Refused}

-- what is asked, or why it is refused
abbrev pub Meaning : Type 0
Meaning = Result Request Refusal

-- the answer is a meaning of the bytes that are at hand, unless memory was refused
abbrev pub Told : (Meaning → Type 0) → Result Request ReadError → Type 0
Told Means (Ok request) = Means (Ok request)
Told Means (Err Closed) = ⊥
Told Means (Err Fault) = ⊥
Told Means (Err Memory) = ⊤
Told Means (Err (Refused refusal)) = Means (Err refusal)
