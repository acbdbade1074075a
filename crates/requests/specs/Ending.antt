-- What reading a request can end in.
use Rattle.std.specs.Prelude.{◌≢◌, ℕ, Result, IsErrOf, ⊤}
use Rattle.matchers.specs.declared.error.SelectorError.TheVariants as selector
use Rattle.requests.specs.declared.refusal.Refusal.{Refusal}
use Rattle.requests.specs.declared.refusal.Refusal.TheVariants.{BadHead, HeadTooLong, NoSuchPath}
use Rattle.requests.specs.declared.refusal.Refusal.TheVariants.{Method, BadQuery, BadSelector}
use Rattle.requests.specs.declared.refusal.Refusal.TheVariants.{BadBody, BodyTooLong, Refused}
use Rattle.requests.specs.declared.refusal.Refusal.TheVariants.{Unavailable, NotKept, Guarded}
use Rattle.requests.specs.declared.refusal.Refusal.TheVariants.{NoRoom}
use Rattle.requests.specs.declared.request.ReadError.{ReadError}
use Rattle.requests.specs.declared.request.ReadError.TheVariants as ends
use Rattle.requests.specs.Edge.{HasGrown}

-- the refusal is of what came, `H1` to `H8` and `H12`, and none of a store
abbrev pub IsOfBytes : Refusal → Type 0
IsOfBytes BadHead = ⊤
IsOfBytes HeadTooLong = ⊤
IsOfBytes NoSuchPath = ⊤
IsOfBytes Method = ⊤
IsOfBytes BadQuery = ⊤
IsOfBytes (BadSelector error) = error ≢ selector.Memory
IsOfBytes BadBody = ⊤
IsOfBytes BodyTooLong = ⊤
IsOfBytes (Refused cause) = ⊥
IsOfBytes Unavailable = ⊥
IsOfBytes NotKept = ⊥
IsOfBytes Guarded = ⊤
IsOfBytes NoRoom = ⊥

-- where a refusal is the end, it is of what came
abbrev pub EndsReading : ReadError → Type 0
EndsReading ends.Closed = ⊤
EndsReading ends.Fault = ⊤
EndsReading ends.Memory = ⊤
EndsReading (ends.Refused refusal) = IsOfBytes refusal

-- the answer is `Fault` only where the count of failed reads has grown, or is the greatest `u64`
abbrev pub IsCountedFault : {A : Type 0} → Result A ReadError → ℕ → ℕ → Type 0
IsCountedFault result old new = IsErrOf result ends.Fault → HasGrown old new
