-- What the first bytes of a connection are.
use Rattle.std.specs.Prelude.{◌≡◌, ℕ, ◌<◌, ◌≤◌, ◌⊎◌, List, [], ◌++◌, length, ⊤}
use Rattle.httparse.specs.Grammar.{RequestHead, ReadsRequest, HasNoRequest, MayBecomeRequest}
use Rattle.httparse.specs.Spans.{RequestOverflows}
use Rattle.requests.specs.declared.refusal.Refusal.TheVariants.{BadHead, HeadTooLong}
use Rattle.requests.specs.declared.request.ReadError.{ReadError}
use Rattle.requests.specs.declared.request.ReadError.TheVariants.{Closed, Fault, Memory, Refused}

-- a head of at most 64 fields stands at the front
abbrev pub BeginsWithHead : List ℕ → Type 0
BeginsWithHead bytes =
    (h : RequestHead) × (rest : List ℕ) × ReadsRequest bytes h rest × (length h.fields ≤ 64)

-- the second list begins with the first
abbrev pub IsFrontOf : List ℕ → List ℕ → Type 0
IsFrontOf front bytes = (rest : List ℕ) × (bytes ≡ front ++ rest)

-- the input has a byte and ends before a head does; or whatever follows some front of it, a head
-- has more than 64 fields
abbrev pub IsBadHead : List ℕ → Type 0
IsBadHead input =
    (HasNoRequest input × (0 < length input) × (length input < 8192))
    ⊎ ((front : List ℕ) × IsFrontOf front input × (length front ≤ 8192) × RequestOverflows 64 front)

-- 8,192 bytes do not end a head that can still be one
abbrev pub IsHeadTooLong : List ℕ → Type 0
IsHeadTooLong input =
    (front : List ℕ) × IsFrontOf front input × (length front ≡ 8192)
    × HasNoRequest front × MayBecomeRequest front

-- what the input is where no head was read
abbrev pub EndsHead : ReadError → List ℕ → Type 0
EndsHead Closed input = input ≡ []
EndsHead (Refused BadHead) input = IsBadHead input
EndsHead (Refused HeadTooLong) input = IsHeadTooLong input
EndsHead (Refused _) input = ⊥
EndsHead Fault input = ⊤
EndsHead Memory input = ⊤
