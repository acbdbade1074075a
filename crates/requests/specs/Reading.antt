-- What the bytes of a connection ask: the request of them, or the first refusal that they meet.
use Rattle.std.specs.Prelude.{◌≡◌, ◌<◌, ◌≤◌, ◌⊎◌, ◌++◌, ℕ, List, [], take, length, Option, IfSome}
use Rattle.std.specs.Prelude.{Result, Ok, Err, ⊤}
use Rattle.httparse.specs.Grammar.{RequestHead, ReadsRequest, print_request}
use Rattle.requests.specs.declared.refusal.Refusal.{Refusal}
use Rattle.requests.specs.declared.refusal.Refusal.TheVariants.{BadHead, HeadTooLong, BadBody}
use Rattle.requests.specs.declared.request.Request.{Request}
use Rattle.requests.specs.declared.request.Request.TheVariants as asks
use Rattle.requests.specs.declared.request.ReadError.{ReadError}
use Rattle.requests.specs.declared.request.ReadError.TheVariants.{Closed, Fault, Memory, Refused}
use Rattle.requests.specs.declared.target.Path.{Path}
use Rattle.requests.specs.declared.target.Path.TheVariants.{Select, Write, Delete, Cut}
use Rattle.requests.specs.Changes.{CutMeans, DeleteMeans}
use Rattle.requests.specs.Fields.{fields_of, length_asked}
use Rattle.requests.specs.Heads.{IsBadHead, IsHeadTooLong}
use Rattle.requests.specs.Requests.{Meaning}
use Rattle.requests.specs.Selecting.{SelectMeans}
use Rattle.requests.specs.Targets.{path_asked, query_text}
use Rattle.requests.specs.Writing.{WriteMeans}

-- what a body asks of a path
abbrev pub BodyMeans : Path → List ℕ → Meaning → Type 0
BodyMeans Select body meaning = meaning ≡ Err BadBody
BodyMeans Write body meaning = WriteMeans body meaning
BodyMeans Delete body meaning = DeleteMeans body meaning
BodyMeans Cut body meaning = CutMeans body meaning

-- what follows a head is as long as it says, and asks this; else it is a bad body
abbrev pub PostMeans : Path → Result ℕ Refusal → List ℕ → Meaning → Type 0
PostMeans path (Err refusal) rest meaning = meaning ≡ Err refusal
PostMeans path (Ok n) rest meaning =
    ((length rest < n) × (meaning ≡ Err BadBody))
    ⊎ ((n ≤ length rest) × BodyMeans path (take n rest) meaning)

-- what a path asks, with its head and what follows it
abbrev pub PathMeans : Result Path Refusal → RequestHead → List ℕ → Meaning → Type 0
PathMeans (Err refusal) h rest meaning = meaning ≡ Err refusal
PathMeans (Ok Select) h rest meaning = SelectMeans (query_text h.target) meaning
PathMeans (Ok Write) h rest meaning = PostMeans Write (length_asked (fields_of h)) rest meaning
PathMeans (Ok Delete) h rest meaning = PostMeans Delete (length_asked (fields_of h)) rest meaning
PathMeans (Ok Cut) h rest meaning = PostMeans Cut (length_asked (fields_of h)) rest meaning

-- what a head asks with what follows it: path and method first, then the query string, then the
-- body
abbrev pub HeadMeans : RequestHead → List ℕ → Meaning → Type 0
HeadMeans h rest meaning = PathMeans (path_asked h.method h.target) h rest meaning

-- a head of at most 64 fields and 8,192 bytes, and what it asks with what follows it
pub record AsksByHead (input : List ℕ) (meaning : Meaning) : Type 0 where
  pub h : RequestHead
  pub rest : List ℕ
  pub reads : ReadsRequest input h rest
  pub few : length h.fields ≤ 64
  pub short : length (print_request h) ≤ 8192
  pub asks : HeadMeans h rest meaning

-- what the bytes of a connection mean
abbrev pub Means : List ℕ → Meaning → Type 0
Means input meaning =
    AsksByHead input meaning
    ⊎ ((IsBadHead input × (meaning ≡ Err BadHead))
    ⊎ (IsHeadTooLong input × (meaning ≡ Err HeadTooLong)))

-- the answer is a meaning of the bytes, unless the reader failed or memory was refused
abbrev pub Answers : Result Request ReadError → List ℕ → Type 0
Answers (Ok request) input = Means input (Ok request)
Answers (Err Closed) input = input ≡ []
Answers (Err Fault) input = ⊤
Answers (Err Memory) input = ⊤
Answers (Err (Refused refusal)) input = Means input (Err refusal)

-- the answer for a head that has come, with what follows it
abbrev pub AnswersAfter : (Meaning → Type 0) → Result Request ReadError → Type 0
AnswersAfter Asks (Ok request) = Asks (Ok request)
AnswersAfter Asks (Err Closed) = ⊥
AnswersAfter Asks (Err Fault) = ⊤
AnswersAfter Asks (Err Memory) = ⊤
AnswersAfter Asks (Err (Refused refusal)) = Asks (Err refusal)

-- the bytes that have come begin with a head, and this is the answer for it with what follows
pub record AsksWith (come more : List ℕ) (result : Result Request ReadError) : Type 0 where
  pub h : RequestHead
  pub rest : List ℕ
  pub reads : ReadsRequest come h rest
  pub few : length h.fields ≤ 64
  pub asks : AnswersAfter (HeadMeans h (rest ++ more)) result

-- the same, where it is known what follows
abbrev pub AsksAfter : List ℕ → Option (List ℕ) → Result Request ReadError → Type 0
AsksAfter come input result = IfSome input (λ more. AsksWith come more result)

-- why no body came, of what came before and what was left
abbrev pub EndsBody : List ℕ → ℕ → ReadError → List ℕ → Type 0
EndsBody come end Closed more = ⊥
EndsBody come end Fault more = ⊤
EndsBody come end Memory more = ⊤
EndsBody come end (Refused BadBody) more = length (come ++ more) < end
EndsBody come end (Refused _) more = ⊥

-- The most bytes that are taken for a request: 8,192 for one without a body, and 1,048,576 more for
-- one with a body.
abbrev pub most_taken : Request → ℕ
most_taken (asks.Select query) = 8192
most_taken (asks.Write rows) = 1056768
most_taken (asks.Delete matchers from to) = 1056768
most_taken (asks.Cut t) = 1056768
