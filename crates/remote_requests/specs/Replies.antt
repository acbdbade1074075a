-- The line that tells of a refusal.
use Rattle.std.specs.Prelude.{ℕ, List, Option, None, Some, codes}
use Rattle.serde_json.specs.Data.{Data, Members, object, string, no_members, member}
use Rattle.serde_json.specs.Written.{compact_text}
use Rattle.remote_requests.specs.declared.refusal.Refusal.{Refusal}
use Rattle.remote_requests.specs.Refusals.{code_of, cause_of, error_of}

-- the number behind, if there is one, and then these
abbrev pub with_cause : Option (List ℕ) → Members → Members
with_cause None members = members
with_cause (Some cause) members = member (codes "cause") (string cause) members

-- a number, after the number behind it, and of a listing what Prometheus says of bad data
abbrev pub refusal_members : List ℕ → Option (List ℕ) → Members
refusal_members code None = member (codes "refused") (string code) no_members
refusal_members code (Some error) =
    member (codes "error") (string error) (member (codes "errorType") (string (codes "bad_data"))
    (member (codes "refused") (string code)
    (member (codes "status") (string (codes "error")) no_members)))

abbrev pub refusal_data : List ℕ → Option (List ℕ) → Option (List ℕ) → Data
refusal_data code cause error = object (with_cause cause (refusal_members code error))

-- the line, compact JSON
abbrev pub refusal_line : Refusal → List ℕ
refusal_line refusal =
    compact_text (refusal_data (code_of refusal) (cause_of refusal) (error_of refusal))
