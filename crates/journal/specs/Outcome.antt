-- What `recover` answers, against what the file stands for.
use Rattle.std.specs.Prelude.{◌≡◌, ◌++◌, ⊤, ℕ, List, Vec, length, Result, Ok, Err}
use Rattle.std.specs.declared.alloc.Global.{Global}
use Rattle.std.specs.List.{AllByRecursion}
use Rattle.journal.specs.declared.error.JournalError.{JournalError}
use Rattle.journal.specs.declared.error.JournalError.TheVariants.{Memory, Magic, Version, Checksum}
use Rattle.journal.specs.declared.error.JournalError.TheVariants.{Length, Size, Medium, Closed}
use Rattle.journal.specs.declared.recovery.Recovered.{Recovered}
use Rattle.journal.specs.declared.record.Stop.{Stop}
use Rattle.journal.specs.declared.record.Stop.TheVariants as stop
use Rattle.journal.specs.Contents.{contents_in}
use Rattle.journal.specs.Reading.{after_header, record_at}
use Rattle.journal.specs.Records.{file_of, IsContent}

-- the answer is the error, or memory ran out
abbrev pub Refuses : {X : Type 0} → JournalError → Result X JournalError → Type 0
Refuses e (Ok x) = ⊥
Refuses e (Err Memory) = ⊤
Refuses e (Err f) = f ≡ e

-- the answer is these, seen by view, or memory ran out
abbrev pub GivesThese : {X Y : Type 0} → (X → Y) → Y → Result X JournalError → Type 0
GivesThese view y (Ok x) = view x ≡ y
GivesThese view y (Err e) = e ≡ Memory

-- the file is these records, and then bytes that begin none, for this reason
pub record Stops (why : Stop) (file : List ℕ) (contents : List (List ℕ)) : Type 0 where
  pub rest : List ℕ
  pub whole : file ≡ file_of contents ++ rest
  pub each : AllByRecursion IsContent contents
  pub stop : record_at rest ≡ Err why

-- what reading the file gives
abbrev pub Scans : List ℕ → Result Recovered JournalError → Type 0
Scans file (Ok r) =
    Stops stop.Torn file (contents_in r.contents.items)
    × (r.len ≡ length (file_of (contents_in r.contents.items)))
Scans file (Err Memory) = (bytes : List ℕ) × (after_header file ≡ Ok bytes)
Scans file (Err Magic) = after_header file ≡ Err Magic
Scans file (Err Version) = after_header file ≡ Err Version
Scans file (Err (Checksum at)) =
    (contents : List (List ℕ)) × Stops stop.Checksum file contents
    × (at ≡ length (file_of contents))
Scans file (Err (Length at)) =
    (contents : List (List ℕ)) × Stops stop.Length file contents × (at ≡ length (file_of contents))
Scans file (Err Size) = ⊥
Scans file (Err Medium) = ⊥
Scans file (Err Closed) = ⊥

-- the answer where the bytes after these records stop for this reason
abbrev pub IsAnswer : Vec (Vec ℕ Global) Global → ℕ → Stop → Result Recovered JournalError → Type 0
IsAnswer contents len stop.Torn result = result ≡ Ok (record { contents = contents; len = len })
IsAnswer contents len stop.Checksum result = result ≡ Err (Checksum len)
IsAnswer contents len stop.Length result = result ≡ Err (Length len)

-- a refusal of a file that is read, or want of memory
abbrev pub IsOfReading : {X : Type 0} → Result X JournalError → Type 0
IsOfReading (Ok x) = ⊤
IsOfReading (Err Size) = ⊥
IsOfReading (Err Medium) = ⊥
IsOfReading (Err Closed) = ⊥
IsOfReading (Err e) = ⊤

-- a refusal of a content that is to be kept, or want of memory
abbrev pub IsOfKeeping : {X : Type 0} → Result X JournalError → Type 0
IsOfKeeping (Err Magic) = ⊥
IsOfKeeping (Err Version) = ⊥
IsOfKeeping (Err (Checksum at)) = ⊥
IsOfKeeping (Err (Length at)) = ⊥
IsOfKeeping r = ⊤
