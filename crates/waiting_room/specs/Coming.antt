-- What is handed over of a connection's bytes.
use Rattle.std.specs.Prelude.{◌≡◌, ◌≢◌, ◌⊎◌, ◌<◌, ℕ, List, [], ◌++◌, length, Option, Some, ⊤}
use Rattle.std.specs.Io.KnownBytes.{Consumes, IsAtEnd}
use Rattle.waiting_room.specs.declared.source.Missed.{Missed}
use Rattle.waiting_room.specs.declared.source.Missed.TheVariants as missed
use Rattle.waiting_room.specs.declared.reading.End.{End}
use Rattle.waiting_room.specs.declared.reading.End.TheVariants.{Whole, Astray, Closed, CutShort}
use Rattle.waiting_room.specs.declared.reading.End.TheVariants.{Silent, Late, Failed}
use Rattle.waiting_room.specs.Framing.{IsRequest, IsAstray, IsBegun}
use Rattle.waiting_room.specs.Framing.{IsBadHead, IsLongHead, IsOpenHead}

-- bytes went from the front of the input to the end of the buffer
abbrev pub IsReadInto : Option (List ℕ) → Option (List ℕ) → List ℕ → List ℕ → Type 0
IsReadInto input rest before after =
    (bytes : List ℕ) × (after ≡ before ++ bytes) × Consumes input rest bytes

-- nothing, or a part of a request
abbrev pub IsPart : ℕ → List ℕ → Type 0
IsPart most bytes = (bytes ≡ []) ⊎ IsBegun most bytes

-- what the bytes are that are handed over with this end
abbrev pub Comes : ℕ → List ℕ → End → Type 0
Comes most bytes Whole = IsRequest most bytes
Comes most bytes Astray = IsAstray most bytes
Comes most bytes Closed = bytes ≡ []
Comes most bytes CutShort = (0 < length bytes) × IsBegun most bytes
Comes most bytes Silent = IsPart most bytes
Comes most bytes Late = IsPart most bytes
Comes most bytes Failed = IsPart most bytes

-- what the bytes are if this end has come before a head
abbrev pub HeadEnds : List ℕ → End → Type 0
HeadEnds bytes Whole = ⊥
HeadEnds bytes Astray = IsBadHead bytes ⊎ IsLongHead bytes
HeadEnds bytes Closed = bytes ≡ []
HeadEnds bytes CutShort = (0 < length bytes) × IsOpenHead bytes
HeadEnds bytes Silent = (bytes ≡ []) ⊎ IsOpenHead bytes
HeadEnds bytes Late = (bytes ≡ []) ⊎ IsOpenHead bytes
HeadEnds bytes Failed = (bytes ≡ []) ⊎ IsOpenHead bytes

-- the end is one that a read gave behind these bytes
abbrev pub IsStop : List ℕ → End → Type 0
IsStop bytes Whole = ⊥
IsStop bytes Astray = ⊥
IsStop bytes Closed = bytes ≡ []
IsStop bytes CutShort = 0 < length bytes
IsStop bytes Silent = ⊤
IsStop bytes Late = ⊤
IsStop bytes Failed = ⊤

-- the end of a read that gave nothing
abbrev pub end_of : Missed → End
end_of missed.Silent = Silent
end_of missed.Late = Late
end_of missed.Failed = Failed

-- what an end says of the input: it is at its end, or its last read gave nothing for this reason
abbrev pub IsTold : Option (List ℕ) → Option Missed → End → Type 0
IsTold input last Whole = ⊤
IsTold input last Astray = ⊤
IsTold input last Closed = IsAtEnd input
IsTold input last CutShort = IsAtEnd input
IsTold input last Silent = last ≡ Some missed.Silent
IsTold input last Late = last ≡ Some missed.Late
IsTold input last Failed = last ≡ Some missed.Failed

-- these bytes went from the front of the input, and ended so; only behind a whole request more
-- bytes may have come, which are dropped
pub record IsHanded (most : ℕ) (input left : Option (List ℕ)) (last : Option Missed)
    (bytes : List ℕ) (end : End) : Type 0 where
  pub comes : Comes most bytes end
  pub more : List ℕ
  pub front : Consumes input left (bytes ++ more)
  pub all : end ≢ Whole → more ≡ []
  pub told : IsTold left last end

-- the bytes alone show what the input shows, whatever follows them
abbrev pub IsSettled : End → Type 0
IsSettled Whole = ⊤
IsSettled Astray = ⊤
IsSettled Closed = ⊥
IsSettled CutShort = ⊥
IsSettled Silent = ⊥
IsSettled Late = ⊥
IsSettled Failed = ⊥
