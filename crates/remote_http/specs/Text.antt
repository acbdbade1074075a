-- The bytes of replies.
use Rattle.std.specs.Prelude.{ℕ, true, List, codes, ◌++◌, decimal, length}
use Rattle.serde_json.specs.Data.{Data, object, string, boolean, no_members, member}
use Rattle.serde_json.specs.Written.{compact_text}
use Rattle.remote_requests.specs.declared.status.Status.{Status}
use Rattle.remote_requests.specs.declared.status.Status.TheVariants.{Done}
use Rattle.remote_requests.specs.declared.refusal.Refusal.{Refusal}
use Rattle.remote_requests.specs.Statuses.{status_number, status_reason}
use Rattle.remote_requests.specs.Refusals.{status_of}
use Rattle.remote_requests.specs.Replies.{refusal_line}

-- how a body is spelled: as JSON, as a message that is compressed, or as a page
abbrev pub json_lines : List ℕ
json_lines = codes "Content-Type: application/json\r\n"

abbrev pub packed_lines : List ℕ
packed_lines = codes "Content-Type: application/x-protobuf\r\nContent-Encoding: snappy\r\n"

abbrev pub html_lines : List ℕ
html_lines = codes "Content-Type: text/html; charset=utf-8\r\n"

-- the lines before a body of so many bytes, which is spelled so
abbrev pub head_text : Status → List ℕ → ℕ → List ℕ
head_text status lines len =
    codes "HTTP/1.1 " ++ (decimal (status_number status) ++ (codes " " ++ (status_reason status
    ++ (codes "\r\n" ++ (lines ++ (codes "Content-Length: " ++ (decimal len
    ++ codes "\r\nConnection: close\r\n\r\n")))))))

-- the reply with this status and this line of JSON
abbrev pub json_text : Status → List ℕ → List ℕ
json_text status body = head_text status json_lines (length body) ++ body

-- the reply of success with this message, compressed
abbrev pub packed_text : List ℕ → List ℕ
packed_text body = head_text Done packed_lines (length body) ++ body

-- the reply of success with this page
abbrev pub html_text : List ℕ → List ℕ
html_text body = head_text Done html_lines (length body) ++ body

-- the reply of a refusal
abbrev pub refusal_text : Refusal → List ℕ
refusal_text refusal = json_text (status_of refusal) (refusal_line refusal)

-- what is said where all was done
abbrev pub done_data : Data
done_data = object (member (codes "ok") (boolean true) no_members)

-- what is said of the program
abbrev pub build_data : List ℕ → Data
build_data version =
    object (member (codes "data") (object (member (codes "version") (string version) no_members))
    (member (codes "status") (string (codes "success")) no_members))

-- the reply that tells the version
abbrev pub build_text : List ℕ → List ℕ
build_text version = json_text Done (compact_text (build_data version))
