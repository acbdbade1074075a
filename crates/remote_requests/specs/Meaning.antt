-- What the bytes of a connection to the port ask: the request of them, or the first refusal that
-- they meet.
use Rattle.std.specs.Prelude.{◌≡◌, ◌<◌, ◌≤◌, ◌⊎◌, ℕ, ℤ, List, [], take, length}
use Rattle.std.specs.Prelude.{Result, Ok, Err, ⊤}
use Rattle.guard.specs.declared.rules.Rules.{Rules}
use Rattle.httparse.specs.Grammar.{RequestHead, ReadsRequest, print_request}
use Rattle.requests.specs.Fields.{fields_of}
use Rattle.requests.specs.Heads.{IsBadHead, IsHeadTooLong}
use Rattle.remote_requests.specs.declared.asked.Asked.{Asked}
use Rattle.remote_requests.specs.declared.asked.Asked.TheVariants as asks
use Rattle.remote_requests.specs.declared.asked.ReadError.{ReadError}
use Rattle.remote_requests.specs.declared.asked.ReadError.TheVariants.{Closed, Lost, Memory}
use Rattle.remote_requests.specs.declared.asked.ReadError.TheVariants.{Refused}
use Rattle.remote_requests.specs.declared.came.Came.{Came}
use Rattle.remote_requests.specs.declared.came.End.{End}
use Rattle.remote_requests.specs.declared.came.End.TheVariants as ends
use Rattle.remote_requests.specs.declared.path.Path.{Path}
use Rattle.remote_requests.specs.declared.path.Path.TheVariants.{Write, Read, BuildInfo}
use Rattle.remote_requests.specs.declared.path.Path.TheVariants.{Labels, LabelsByForm, Values}
use Rattle.remote_requests.specs.declared.path.Path.TheVariants.{Series, SeriesByForm}
use Rattle.remote_requests.specs.declared.path.Path.TheVariants.{Home, Page}
use Rattle.remote_requests.specs.declared.refusal.Refusal.{Refusal}
use Rattle.remote_requests.specs.declared.refusal.Refusal.TheVariants.{BadHead, HeadTooLong}
use Rattle.remote_requests.specs.declared.refusal.Refusal.TheVariants.{BadLength}
use Rattle.remote_requests.specs.Admitting.{admission}
use Rattle.remote_requests.specs.Asking.{ListingMeans}
use Rattle.remote_requests.specs.Fields.{form_of, length_asked}
use Rattle.remote_requests.specs.Paging.{PageMeans}
use Rattle.remote_requests.specs.Paths.{path_asked}
use Rattle.remote_requests.specs.Reading.{ReadMeans}
use Rattle.remote_requests.specs.Writing.{Meaning, WriteMeans}

-- what a body asks of a path
abbrev pub BodyMeans : Path → List ℕ → ℤ → List ℕ → Meaning → Type 0
BodyMeans Write target now body meaning = WriteMeans now body meaning
BodyMeans Read target now body meaning = ReadMeans body meaning
BodyMeans BuildInfo target now body meaning = meaning ≡ Ok asks.BuildInfo
BodyMeans Labels target now body meaning = ListingMeans Labels target body meaning
BodyMeans LabelsByForm target now body meaning = ListingMeans LabelsByForm target body meaning
BodyMeans Values target now body meaning = ListingMeans Values target body meaning
BodyMeans Series target now body meaning = ListingMeans Series target body meaning
BodyMeans SeriesByForm target now body meaning = ListingMeans SeriesByForm target body meaning
BodyMeans Home target now body meaning = meaning ≡ Ok asks.Home
BodyMeans Page target now body meaning = PageMeans target meaning

-- the same, where the body is packed and spelled as its path takes it
abbrev pub FormMeans : Result (Unit {0}) Refusal → Path → List ℕ → ℤ → List ℕ → Meaning → Type 0
FormMeans (Err refusal) path target now body meaning = meaning ≡ Err refusal
FormMeans (Ok fits) path target now body meaning = BodyMeans path target now body meaning

-- what follows a head is as long as it says, and asks this; else it is refused
abbrev pub PostMeans : Path → List ℕ → Result ℕ Refusal → Result (Unit {0}) Refusal → ℤ → List ℕ
    → Meaning → Type 0
PostMeans path target (Err refusal) form now rest meaning = meaning ≡ Err refusal
PostMeans path target (Ok n) form now rest meaning =
    ((length rest < n) × (meaning ≡ Err BadLength))
    ⊎ ((n ≤ length rest) × FormMeans form path target now (take n rest) meaning)

-- what a path asks, with its query string, the length of its body, its form and what follows the
-- head
abbrev pub PathMeans : Result Path Refusal → List ℕ → Result ℕ Refusal → Result (Unit {0}) Refusal
    → ℤ → List ℕ → Meaning → Type 0
PathMeans (Err refusal) target length form now rest meaning = meaning ≡ Err refusal
PathMeans (Ok BuildInfo) target length form now rest meaning = meaning ≡ Ok asks.BuildInfo
PathMeans (Ok Write) target length form now rest meaning =
    PostMeans Write target length form now rest meaning
PathMeans (Ok Read) target length form now rest meaning =
    PostMeans Read target length form now rest meaning
PathMeans (Ok Labels) target length form now rest meaning = ListingMeans Labels target [] meaning
PathMeans (Ok LabelsByForm) target length form now rest meaning =
    PostMeans LabelsByForm target length form now rest meaning
PathMeans (Ok Values) target length form now rest meaning = ListingMeans Values target [] meaning
PathMeans (Ok Series) target length form now rest meaning = ListingMeans Series target [] meaning
PathMeans (Ok SeriesByForm) target length form now rest meaning =
    PostMeans SeriesByForm target length form now rest meaning
PathMeans (Ok Home) target length form now rest meaning = meaning ≡ Ok asks.Home
PathMeans (Ok Page) target length form now rest meaning = PageMeans target meaning

-- what a head asks with what follows it, if it is admitted: path and method first, then the length
-- of the body, then its form, then the body
abbrev pub AdmittedMeans : Result (Unit {0}) Refusal → RequestHead → ℤ → List ℕ → Meaning → Type 0
AdmittedMeans (Err refusal) h now rest meaning = meaning ≡ Err refusal
AdmittedMeans (Ok admitted) h now rest meaning =
    PathMeans (path_asked h.method h.target) h.target (length_asked (fields_of h))
    (form_of (path_asked h.method h.target) (fields_of h)) now rest meaning

-- a head of at most 64 fields and 8,192 bytes, and what it asks with what follows it
pub record AsksUnder (rules : Rules) (now : ℤ) (input : List ℕ) (meaning : Meaning) : Type 0 where
  pub h : RequestHead
  pub rest : List ℕ
  pub reads : ReadsRequest input h rest
  pub few : length h.fields ≤ 64
  pub short : length (print_request h) ≤ 8192
  pub asks : AdmittedMeans (admission rules h) h now rest meaning

-- what the bytes of a connection mean under rules, at a time of the clock
abbrev pub MeansUnder : Rules → ℤ → List ℕ → Meaning → Type 0
MeansUnder rules now input meaning =
    AsksUnder rules now input meaning
    ⊎ ((IsBadHead input × (meaning ≡ Err BadHead))
    ⊎ (IsHeadTooLong input × (meaning ≡ Err HeadTooLong)))

-- nothing more comes of what was read: it is whole, or the client closed
abbrev pub HasEnded : End → Type 0
HasEnded ends.Whole = ⊤
HasEnded ends.Closed = ⊤
HasEnded ends.Silent = ⊥
HasEnded ends.Failed = ⊥

-- more may have come, and was not read
abbrev pub IsLost : End → Type 0
IsLost ends.Whole = ⊥
IsLost ends.Closed = ⊥
IsLost ends.Silent = ⊤
IsLost ends.Failed = ⊤

-- the answer is a meaning of the bytes that came, unless more were lost or memory was refused
abbrev pub Answers : Rules → ℤ → Came → Result Asked ReadError → Type 0
Answers rules now came (Ok asked) =
    HasEnded came.end × MeansUnder rules now came.bytes.now (Ok asked)
Answers rules now came (Err Closed) = HasEnded came.end × (came.bytes.now ≡ [])
Answers rules now came (Err Lost) = IsLost came.end
Answers rules now came (Err Memory) = ⊤
Answers rules now came (Err (Refused refusal)) =
    HasEnded came.end × MeansUnder rules now came.bytes.now (Err refusal)
