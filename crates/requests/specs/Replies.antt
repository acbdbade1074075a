-- The bytes of replies.
use Rattle.std.specs.Prelude.{ℕ, true, List, Option, None, Some, codes, ◌++◌, decimal, length}
use Rattle.serde_json.specs.Data.{Data, object, string, number, boolean, unsigned, no_members}
use Rattle.serde_json.specs.Data.{member}
use Rattle.serde_json.specs.Written.{compact_text}
use Rattle.requests.specs.declared.status.Status.{Status}
use Rattle.requests.specs.declared.status.Status.TheVariants.{Done}
use Rattle.requests.specs.declared.refusal.Refusal.{Refusal}
use Rattle.requests.specs.Statuses.{status_number, status_reason}
use Rattle.requests.specs.Refusals.{code_of, status_of, cause_of}

-- the lines of a status before a body of so many bytes
abbrev pub head_text : ℕ → List ℕ → ℕ → List ℕ
head_text status reason len =
    codes "HTTP/1.1 " ++ (decimal status ++ (codes " " ++ (reason
    ++ (codes "\r\nContent-Type: application/json\r\nContent-Length: " ++ (decimal len
    ++ codes "\r\nConnection: close\r\n\r\n")))))

-- the reply with this status and this body
abbrev pub reply_text : Status → List ℕ → List ℕ
reply_text status body =
    head_text (status_number status) (status_reason status) (length body) ++ body

-- the lines of success before a body of so many bytes
abbrev pub success_head : ℕ → List ℕ
success_head len = head_text (status_number Done) (status_reason Done) len

-- what is said of a change that was made
abbrev pub done_data : Data
done_data = object (member (codes "ok") (boolean true) no_members)

-- a refusal with the cause behind it, and with its place, if one is told
abbrev pub cause_data : List ℕ → List ℕ × Option ℕ → Data
cause_data code (cause, None) =
    object (member (codes "cause") (string cause)
    (member (codes "refused") (string code) no_members))
cause_data code (cause, Some at) =
    object (member (codes "at") (number (unsigned at))
    (member (codes "cause") (string cause) (member (codes "refused") (string code) no_members)))

-- what is said of a refusal
abbrev pub refusal_data : List ℕ → Option (List ℕ × Option ℕ) → Data
refusal_data code None = object (member (codes "refused") (string code) no_members)
refusal_data code (Some cause) = cause_data code cause

-- the reply to a change that was made
abbrev pub done_text : List ℕ
done_text = reply_text Done (compact_text done_data)

-- the body of the reply to a refused request
abbrev pub refusal_body : Refusal → List ℕ
refusal_body refusal = compact_text (refusal_data (code_of refusal) (cause_of refusal))

-- the reply to a refused request
abbrev pub refusal_text : Refusal → List ℕ
refusal_text refusal = reply_text (status_of refusal) (refusal_body refusal)
