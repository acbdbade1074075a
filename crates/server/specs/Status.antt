-- What the status port is asked, and what it replies.
use Rattle.std.specs.Prelude.{◌≡◌, ◌≢◌, ◌⊎◌, ℕ, Bool, true, false, List, [], ◌∷◌, ◌++◌, length}
use Rattle.std.specs.Prelude.{Option, codes, decimal, nat_eq}
use Rattle.std.specs.Io.KnownBytes.{Appends}
use Rattle.std.specs.List.{AllByRecursion, starts_with}
use Rattle.server_metrics.specs.Families.{server_metrics}
use Rattle.server_metrics.specs.declared.counts.Counts.{Counts}
use Rattle.server_metrics.specs.declared.counts.State.{State}
use Rattle.server.specs.declared.status.Asked.{Asked}
use Rattle.server.specs.declared.status.Asked.TheVariants.{Metrics, Healthy, Ready, NoPath}
use Rattle.server.specs.declared.status.Asked.TheVariants.{NoMethod, NoRequest}

-- no byte of a text is this one
abbrev pub Lacks : ℕ → List ℕ → Type 0
Lacks byte text = AllByRecursion (λ (one : ℕ). one ≢ byte) text

-- a text has such a byte, the first of them between these two parts
abbrev pub IsParted : ℕ → List ℕ → List ℕ → List ℕ → Type 0
IsParted byte text before behind = Lacks byte before × (text ≡ before ++ byte ∷ behind)

-- the head of a request has ended: an empty line stands somewhere in the bytes
abbrev pub HasEnd : List ℕ → Type 0
HasEnd bytes = (front rest : List ℕ) × (bytes ≡ front ++ (codes "\r\n\r\n" ++ rest))

-- a line is a method, a target and a version, with a space between them
pub record IsLine (line method target : List ℕ) : Type 0 where
  pub minor : List ℕ
  pub spelled : line ≡ method ++ 32 ∷ (target ++ 32 ∷ (codes "HTTP/1." ++ minor))
  pub words : Lacks 32 method × Lacks 32 target
  pub some : (method ≢ []) × (target ≢ [])

-- the first line of the bytes, up to a carriage return, has this method and this target
abbrev pub IsFirstLine : List ℕ → List ℕ → List ℕ → Type 0
IsFirstLine bytes method target =
    (line rest : List ℕ) × IsParted 13 bytes line rest × IsLine line method target

-- the bytes are a request: its head has ended, and has such a first line
abbrev pub IsRequest : List ℕ → List ℕ → List ℕ → Type 0
IsRequest bytes method target = HasEnd bytes × IsFirstLine bytes method target

-- the path of a target: all before its query, which begins at a question mark
abbrev pub IsPath : List ℕ → List ℕ → Type 0
IsPath target path =
    Lacks 63 path × ((target ≡ path) ⊎ ((query : List ℕ) × (target ≡ path ++ 63 ∷ query)))

-- the bytes ask for a path, by one of the methods that paths take
abbrev pub AsksAt : List ℕ → List ℕ → Type 0
AsksAt bytes path =
    (method target : List ℕ) × IsRequest bytes method target
    × ((method ≡ codes "GET") ⊎ (method ≡ codes "HEAD")) × IsPath target path

-- what the bytes that came ask for
abbrev pub Asks : List ℕ → Asked → Type 0
Asks bytes Metrics = AsksAt bytes (codes "/metrics")
Asks bytes Healthy = AsksAt bytes (codes "/healthy")
Asks bytes Ready = AsksAt bytes (codes "/ready")
Asks bytes NoPath =
    (path : List ℕ) × AsksAt bytes path
    × (path ≢ codes "/metrics") × (path ≢ codes "/healthy") × (path ≢ codes "/ready")
Asks bytes NoMethod =
    (method target : List ℕ) × IsRequest bytes method target
    × (method ≢ codes "GET") × (method ≢ codes "HEAD")
Asks bytes NoRequest = (method target : List ℕ) → IsRequest bytes method target → ⊥

-- no bytes ask for two things
abbrev pub AreAskedOnce : Type 0
AreAskedOnce =
    (bytes : List ℕ) (one other : Asked) → Asks bytes one → Asks bytes other → one ≡ other

-- the status of a reply that tells no counts
abbrev pub plain_line : Asked → Bool → List ℕ
plain_line Metrics ready = codes "503 Service Unavailable"
plain_line Healthy ready = codes "200 OK"
plain_line Ready true = codes "200 OK"
plain_line Ready false = codes "503 Service Unavailable"
plain_line NoPath ready = codes "404 Not Found"
plain_line NoMethod ready = codes "405 Method Not Allowed"
plain_line NoRequest ready = codes "400 Bad Request"

-- its body
abbrev pub plain_body : Asked → Bool → List ℕ
plain_body Metrics ready = codes "not known\n"
plain_body Healthy ready = codes "healthy\n"
plain_body Ready true = codes "ready\n"
plain_body Ready false = codes "not ready\n"
plain_body NoPath ready = codes "no such path\n"
plain_body NoMethod ready = codes "not this method\n"
plain_body NoRequest ready = codes "no request\n"

-- the status and the body of a reply without counts
abbrev pub IsPlain : Asked → Bool → List ℕ → List ℕ → Type 0
IsPlain asked ready line body = (line ≡ plain_line asked ready) × (body ≡ plain_body asked ready)

-- the status and the body of a reply with counts
abbrev pub TellsCounts : List ℕ → List ℕ → Type 0
TellsCounts line body =
    (counts : Counts) × (state : State)
    × (line ≡ codes "200 OK") × (body ≡ server_metrics counts state)

-- the status and the body of a reply, by whether the blocks are open
abbrev pub IsAnswer : Asked → Bool → List ℕ → List ℕ → Type 0
IsAnswer Metrics ready line body = TellsCounts line body ⊎ IsPlain Metrics ready line body
IsAnswer Healthy ready line body = IsPlain Healthy ready line body
IsAnswer Ready ready line body = IsPlain Ready ready line body
IsAnswer NoPath ready line body = IsPlain NoPath ready line body
IsAnswer NoMethod ready line body = IsPlain NoMethod ready line body
IsAnswer NoRequest ready line body = IsPlain NoRequest ready line body

-- the field with the methods that there are
abbrev pub allow_of : Asked → List ℕ
allow_of Metrics = codes ""
allow_of Healthy = codes ""
allow_of Ready = codes ""
allow_of NoPath = codes ""
allow_of NoMethod = codes "Allow: GET, HEAD\r\n"
allow_of NoRequest = codes ""

-- the lines of a reply before a body of so many bytes
abbrev pub head_text : List ℕ → List ℕ → ℕ → List ℕ
head_text line allow len =
    codes "HTTP/1.1 " ++ (line
    ++ (codes "\r\nContent-Type: text/plain; version=0.0.4; charset=utf-8\r\nConnection: close\r\n"
    ++ (allow ++ (codes "Content-Length: " ++ (decimal len ++ codes "\r\n\r\n")))))

-- a reply, which has no body if it is to be bare
abbrev pub reply_text : Bool → List ℕ → List ℕ → List ℕ → List ℕ
reply_text true line allow body = head_text line allow (length body)
reply_text false line allow body = head_text line allow (length body) ++ body

-- the reply to what is asked, by whether the blocks are open
abbrev pub IsReply : Asked → Bool → Bool → List ℕ → Type 0
IsReply asked bare ready reply =
    (line body : List ℕ) × IsAnswer asked ready line body
    × (reply ≡ reply_text bare line (allow_of asked) body)

-- whether a client wants no body: the method, which is the first word of what came, is `HEAD`
abbrev pub is_bare : List ℕ → Bool
is_bare bytes = starts_with nat_eq bytes (codes "HEAD ")

-- the reply to what came, by whether the blocks are open
abbrev pub IsReplyTo : List ℕ → Bool → List ℕ → Type 0
IsReplyTo bytes ready reply =
    (asked : Asked) × Asks bytes asked × IsReply asked (is_bare bytes) ready reply

-- a reply to what came without its body, whose length it tells
abbrev pub IsHeadOfReply : List ℕ → Bool → List ℕ → Type 0
IsHeadOfReply bytes ready text =
    (line allow body : List ℕ) × (text ≡ head_text line allow (length body))
    × IsReplyTo bytes ready (text ++ body)

-- exactly one reply to what came was written
abbrev pub IsReplied : List ℕ → Bool → Option (List ℕ) → Option (List ℕ) → Type 0
IsReplied bytes ready before after =
    (reply : List ℕ) × IsReplyTo bytes ready reply × Appends before after reply
