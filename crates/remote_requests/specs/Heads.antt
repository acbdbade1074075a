-- The head of a request, as far as it is read.
use Rattle.std.specs.Prelude.{◌≡◌, ◌≤◌, ℕ, List, drop, length}
use Rattle.guard.specs.Hosts.{claimed}
use Rattle.httparse.specs.Grammar.{RequestHead, ReadsRequest, HasNoRequest, MayBecomeRequest}
use Rattle.httparse.specs.Spans.{RequestOverflows}
use Rattle.requests.specs.Fields.{fields_of}
use Rattle.requests.specs.Heads.{IsBadHead, IsHeadTooLong}
use Rattle.remote_requests.specs.declared.head.Head.{Head}
use Rattle.remote_requests.specs.declared.head.Parsed.{Parsed}
use Rattle.remote_requests.specs.declared.head.Parsed.TheVariants.{Whole, More, Never}
use Rattle.remote_requests.specs.declared.refusal.Refusal.{Refusal}
use Rattle.remote_requests.specs.declared.refusal.Refusal.TheVariants.{BadHead, HeadTooLong}
use Rattle.remote_requests.specs.Admitting.{claims_of}
use Rattle.remote_requests.specs.Fields.{form_of, length_asked}
use Rattle.remote_requests.specs.Paths.{path_asked}

-- the head at the front of these bytes, of at most 64 fields, is h
pub record IsHeadIn (buf : List ℕ) (head : Head) (h : RequestHead) : Type 0 where
  pub reads : ReadsRequest buf h (drop head.end buf)
  pub within : head.end ≤ length buf
  pub few : length h.fields ≤ 64
  pub claims : claimed head.claims ≡ claims_of h
  pub target : head.target.now ≡ h.target
  pub path : head.path ≡ path_asked h.method h.target
  pub length : head.length ≡ length_asked (fields_of h)
  pub form : head.form ≡ form_of (path_asked h.method h.target) (fields_of h)

-- how bytes stand to a head
abbrev pub IsParsed : List ℕ → Parsed → Type 0
IsParsed buf (Whole head) = (h : RequestHead) × IsHeadIn buf head h
IsParsed buf More = HasNoRequest buf × MayBecomeRequest buf
IsParsed buf Never = RequestOverflows 64 buf

-- why there is no head
abbrev pub IsNoHead : List ℕ → Refusal → Type 0
IsNoHead buf BadHead = IsBadHead buf
IsNoHead buf HeadTooLong = IsHeadTooLong buf
IsNoHead buf _ = ⊥
