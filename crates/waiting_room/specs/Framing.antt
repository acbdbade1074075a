-- Where the request at the front of some bytes ends, by its own head.
use Rattle.std.specs.Prelude.{◌≡◌, ℕ, ◌<◌, ◌≤◌, ◌⊎◌, List, ◌++◌, length, Ok, Err}
use Rattle.httparse.specs.Grammar.{RequestHead, ReadsRequest, print_request}
use Rattle.httparse.specs.Grammar.{HasNoRequest, MayBecomeRequest}
use Rattle.httparse.specs.Spans.{RequestOverflows}
use Rattle.waiting_room.specs.declared.frame.LengthFault.{LengthFault}
use Rattle.waiting_room.specs.declared.frame.Look.{Look}
use Rattle.waiting_room.specs.declared.frame.Look.TheVariants.{Whole, More, Never}
use Rattle.waiting_room.specs.Fields.{fields_of, length_asked}

-- what bytes show of the request at their front: its head and its whole body; that there is no
-- head of at most 64 fields, or none of at most 8,192 bytes; or a head, and why it tells no length
pub data Framing : Type 0 where
  Request : RequestHead → List ℕ → Framing
  BadHead : Framing
  LongHead : Framing
  NoLength : RequestHead → LengthFault → Framing

-- a head of at most 64 fields stands at the front
abbrev pub BeginsWithHead : List ℕ → Type 0
BeginsWithHead bytes =
    (h : RequestHead) × (rest : List ℕ) × ReadsRequest bytes h rest × (length h.fields ≤ 64)

-- how bytes stand to a head
abbrev pub Looks : List ℕ → Look → Type 0
Looks bytes Whole = BeginsWithHead bytes
Looks bytes More = HasNoRequest bytes × MayBecomeRequest bytes
Looks bytes Never = RequestOverflows 64 bytes

-- a head of at most 64 fields and 8,192 bytes, and what follows it
pub record HasHead (bytes : List ℕ) (h : RequestHead) (rest : List ℕ) : Type 0 where
  pub reads : ReadsRequest bytes h rest
  pub few : length h.fields ≤ 64
  pub short : length (print_request h) ≤ 8192

-- the second list begins with the first
abbrev pub IsFrontOf : List ℕ → List ℕ → Type 0
IsFrontOf front bytes = (rest : List ℕ) × (bytes ≡ front ++ rest)

-- whatever follows the first 8,192 bytes or fewer, a head has more than 64 fields
abbrev pub IsBadHead : List ℕ → Type 0
IsBadHead bytes =
    (front : List ℕ) × IsFrontOf front bytes × (length front ≤ 8192) × RequestOverflows 64 front

-- 8,192 bytes do not end a head that can still be one
abbrev pub IsLongHead : List ℕ → Type 0
IsLongHead bytes =
    (front : List ℕ) × IsFrontOf front bytes × (length front ≡ 8192)
    × HasNoRequest front × MayBecomeRequest front

-- what these bytes show, of a body of at most so many bytes
abbrev pub IsFramed : ℕ → List ℕ → Framing → Type 0
IsFramed most bytes (Request h body) =
    (rest : List ℕ) × HasHead bytes h (body ++ rest)
    × (length_asked most (fields_of h) ≡ Ok (length body))
IsFramed most bytes BadHead = IsBadHead bytes
IsFramed most bytes LongHead = IsLongHead bytes
IsFramed most bytes (NoLength h fault) =
    (rest : List ℕ) × HasHead bytes h rest × (length_asked most (fields_of h) ≡ Err fault)

-- one whole request, and nothing behind it
pub record IsRequest (most : ℕ) (bytes : List ℕ) : Type 0 where
  pub h : RequestHead
  pub body : List ℕ
  pub head : HasHead bytes h body
  pub length_is : length_asked most (fields_of h) ≡ Ok (length body)

-- bytes that show no end of a request, whatever follows: no head, or one that tells no length
abbrev pub IsAstray : ℕ → List ℕ → Type 0
IsAstray most bytes =
    IsBadHead bytes ⊎ (IsLongHead bytes
    ⊎ ((h : RequestHead) × (fault : LengthFault) × IsFramed most bytes (NoLength h fault)))

-- fewer than 8,192 bytes, which do not end a head that can still be one
abbrev pub IsOpenHead : List ℕ → Type 0
IsOpenHead bytes = HasNoRequest bytes × MayBecomeRequest bytes × (length bytes < 8192)

-- a part of a head, or a head and a part of its body
abbrev pub IsBegun : ℕ → List ℕ → Type 0
IsBegun most bytes =
    IsOpenHead bytes
    ⊎ ((h : RequestHead) × (rest : List ℕ) × (count : ℕ) × HasHead bytes h rest
    × (length_asked most (fields_of h) ≡ Ok count) × (length rest < count))
