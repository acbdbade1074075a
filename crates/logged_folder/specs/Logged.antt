-- A folder as a log of what was done to its files.
use Rattle.std.specs.Prelude.{◌≡◌, ◌⊎◌, ◌≤◌, ◌++◌, ℕ, Bool, List, [], ◌∷◌, Option, None, Some}
use Rattle.std.specs.Prelude.{length, take, not, slice_get, if◌then◌else◌, string_bytes, Vec}
use Rattle.std.specs.declared.alloc.Global.{Global}
use Rattle.std.specs.Str.{bytes_eq}
use Rattle.logged_folder.specs.declared.Entry.{Entry}
use Rattle.logged_folder.specs.declared.LoggedFolder.{LoggedFolder}
use Rattle.data_folder.specs.Folders.{Left, MayLeaveOf}

-- what a name has, and how much of it is there for good
pub record State : Type 0 where
  pub bytes : Option (List ℕ)
  pub synced : ℕ

abbrev pub nothing : State
nothing = record { bytes = None; synced = 0 }

abbrev pub bytes_of : Option (Vec ℕ Global) → Option (List ℕ)
bytes_of None = None
bytes_of (Some v) = Some v.items

-- what an entry says of its name
abbrev pub state_in : Entry → State
state_in e = record { bytes = bytes_of e.bytes; synced = e.synced }

-- what a name has after entries, if it had this before
abbrev pub state_after : List ℕ → State → List Entry → State
state_after name s [] = s
state_after name s (e ∷ log) =
    state_after name (if bytes_eq (string_bytes e.name) name then state_in e else s) log

abbrev pub state_of : List ℕ → List Entry → State
state_of name log = state_after name nothing log

-- the last entry of a name stands here, or there is none
abbrev pub IsAt : List Entry → List ℕ → Option ℕ → Type 0
IsAt log name None = state_of name log ≡ nothing
IsAt log name (Some i) =
    (e : Entry) × (slice_get log i ≡ Some e) × (state_of name log ≡ state_in e)

-- the same, of the first few entries
abbrev pub IsAtAmong : List Entry → List ℕ → ℕ → Option ℕ → Type 0
IsAtAmong log name n None = state_of name (take n log) ≡ nothing
IsAtAmong log name n (Some i) =
    (e : Entry) × (slice_get log i ≡ Some e) × (state_of name (take n log) ≡ state_in e)

-- one entry came to the log: it says this of a name
pub record Pushes (name : List ℕ) (state : State) (old new : List Entry) : Type 0 where
  pub entry : Entry
  pub named : string_bytes entry.name ≡ name
  pub says : state_in entry ≡ state
  pub pushed : new ≡ old ++ entry ∷ []

-- a file has a front of some bytes more, of which nothing is there for good
pub record GrowsInPart (name more : List ℕ) (old new : List Entry) : Type 0 where
  pub bytes : List ℕ
  pub few : ℕ
  pub had : (state_of name old).bytes ≡ Some bytes
  pub within : (state_of name old).synced ≤ length bytes
  pub pushes : Pushes name (record {
    bytes = Some (bytes ++ take few more);
    synced = (state_of name old).synced;
  }) old new

-- it does, or nothing came to the log
abbrev pub MayGrowInPart : List ℕ → List ℕ → List Entry → List Entry → Type 0
MayGrowInPart name more old new = (new ≡ old) ⊎ GrowsInPart name more old new

-- what a crash may leave of all files
abbrev pub MayLeaveAll : List Entry → Left → Type 0
MayLeaveAll log left =
    (name : List ℕ) → MayLeaveOf (state_of name log).synced (state_of name log).bytes (left name)

-- an entry of the same name, with what a crash may leave of the bytes
pub record IsLeftOf (entry left : Entry) : Type 0 where
  pub named : string_bytes left.name ≡ string_bytes entry.name
  pub bytes : MayLeaveOf entry.synced (bytes_of entry.bytes) (bytes_of left.bytes)

-- what each name has
abbrev pub files_of : List Entry → Left
files_of log name = (state_of name log).bytes

-- a crash left what a front of the log says that is no shorter than this
abbrev pub LeftSince : List Entry → ℕ → Left → Type 0
LeftSince log t left =
    (k : ℕ) × (t ≤ k) × (k ≤ length log) × MayLeaveAll (take k log) left

abbrev pub logged_shows : LoggedFolder → List ℕ → Option (List ℕ) → Type 0
logged_shows f name x = (state_of name f.log.items).bytes ≡ x

abbrev pub logged_kept : LoggedFolder → List ℕ → ℕ → Type 0
logged_kept f name n = n ≤ (state_of name f.log.items).synced

abbrev pub logged_left : LoggedFolder → ℕ → Left → Type 0
logged_left f t left = LeftSince f.log.items t left

abbrev pub logged_sound : LoggedFolder → Bool
logged_sound f = not f.lost
