-- What the bytes of a connection mean under rules: a head that they do not admit is refused.
use Rattle.std.specs.Prelude.{◌≡◌, ◌≤◌, ◌⊎◌, ℕ, Bool, List, [], length, codes, ⊤}
use Rattle.std.specs.Prelude.{Result, Ok, Err}
use Rattle.std.specs.Str.{bytes_eq}
use Rattle.httparse.specs.Grammar.{RequestHead, ReadsRequest, print_request}
use Rattle.guard.specs.declared.rules.Denial.{Denial}
use Rattle.guard.specs.declared.rules.Denial.TheVariants.{ReadOnly, Guarded}
use Rattle.guard.specs.declared.rules.Rules.{Rules}
use Rattle.guard.specs.Hosts.{Claimed}
use Rattle.guard.specs.Judging.{judgement}
use Rattle.requests.specs.declared.refusal.Refusal.{Refusal}
use Rattle.requests.specs.declared.refusal.Refusal.TheVariants as refusals
use Rattle.requests.specs.declared.request.Request.{Request}
use Rattle.requests.specs.declared.request.ReadError.{ReadError}
use Rattle.requests.specs.declared.request.ReadError.TheVariants.{Closed, Fault, Memory, Refused}
use Rattle.requests.specs.Fields.{field_values, has_field, fields_of}
use Rattle.requests.specs.Heads.{IsBadHead, IsHeadTooLong}
use Rattle.requests.specs.QueryStrings.{only}
use Rattle.requests.specs.Reading.{HeadMeans}
use Rattle.requests.specs.Requests.{Meaning}

-- the claims that fields make, of a request that changes the store or does not
abbrev pub claims_among : Bool → List (List ℕ × List ℕ) → Claimed
claims_among changes fields = record {
  changes = changes;
  has_origin = has_field (codes "origin") fields;
  host = only (field_values (codes "host") fields);
  authorization = only (field_values (codes "authorization") fields);
}

-- the claims of a head: each `POST` changes the store
abbrev pub claims_of : RequestHead → Claimed
claims_of h = claims_among (bytes_eq h.method (codes "POST")) (fields_of h)

-- a head of at most 64 fields stands at the front, and these are its claims
pub record AreClaimsIn (buf : List ℕ) (claims : Claimed) : Type 0 where
  pub h : RequestHead
  pub rest : List ℕ
  pub reads : ReadsRequest buf h rest
  pub few : length h.fields ≤ 64
  pub claims_are : claims ≡ claims_of h

-- the refusal of a request that is not admitted
abbrev pub refusal_of : Denial → Refusal
refusal_of ReadOnly = refusals.NoSuchPath
refusal_of Guarded = refusals.Guarded

abbrev pub refused_by : Result (Unit {0}) Denial → Result (Unit {0}) Refusal
refused_by (Ok admitted) = Ok tt
refused_by (Err denial) = Err (refusal_of denial)

-- whether the rules admit a head
abbrev pub admission : Rules → RequestHead → Result (Unit {0}) Refusal
admission rules h = refused_by (judgement rules (claims_of h))

-- a head of at most 64 fields stands at the front, and this is whether the rules admit it
pub record IsAdmission (rules : Rules) (buf : List ℕ)
    (result : Result (Unit {0}) Refusal) : Type 0 where
  pub h : RequestHead
  pub rest : List ℕ
  pub reads : ReadsRequest buf h rest
  pub few : length h.fields ≤ 64
  pub is : result ≡ admission rules h

-- a head of at most 64 fields stands at the front, and the rules do not admit it
pub record IsBarred (rules : Rules) (buf : List ℕ) : Type 0 where
  pub claims : Claimed
  pub are : AreClaimsIn buf claims
  pub why : Denial
  pub denied : judgement rules claims ≡ Err why

-- what a head asks with what follows it, if it is admitted
abbrev pub AdmittedMeans : Result (Unit {0}) Refusal → RequestHead → List ℕ → Meaning → Type 0
AdmittedMeans (Err refusal) h rest meaning = meaning ≡ Err refusal
AdmittedMeans (Ok admitted) h rest meaning = HeadMeans h rest meaning

-- a head of at most 64 fields and 8,192 bytes, and what it asks with what follows it
pub record AsksUnder (rules : Rules) (input : List ℕ) (meaning : Meaning) : Type 0 where
  pub h : RequestHead
  pub rest : List ℕ
  pub reads : ReadsRequest input h rest
  pub few : length h.fields ≤ 64
  pub short : length (print_request h) ≤ 8192
  pub asks : AdmittedMeans (admission rules h) h rest meaning

-- what the bytes of a connection mean under rules
abbrev pub MeansUnder : Rules → List ℕ → Meaning → Type 0
MeansUnder rules input meaning =
    AsksUnder rules input meaning
    ⊎ ((IsBadHead input × (meaning ≡ Err refusals.BadHead))
    ⊎ (IsHeadTooLong input × (meaning ≡ Err refusals.HeadTooLong)))

-- the answer is a meaning of the bytes, unless the reader failed or memory was refused
abbrev pub AnswersUnder : Rules → Result Request ReadError → List ℕ → Type 0
AnswersUnder rules (Ok request) input = MeansUnder rules input (Ok request)
AnswersUnder rules (Err Closed) input = input ≡ []
AnswersUnder rules (Err Fault) input = ⊤
AnswersUnder rules (Err Memory) input = ⊤
AnswersUnder rules (Err (Refused refusal)) input = MeansUnder rules input (Err refusal)
