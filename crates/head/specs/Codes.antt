-- The numbers of refusals, and their texts.
use Rattle.std.specs.Prelude.{ℕ, List, ◌++◌, codes, decimal}
use Rattle.head.specs.declared.error.AppendError.{AppendError}
use Rattle.head.specs.declared.error.AppendError.TheVariants.{Full, TimeRange, Memory as NoRoom}
use Rattle.head.specs.declared.error.CommitError.{CommitError}
use Rattle.head.specs.declared.error.CommitError.TheVariants.{OutOfBounds, OutOfOrder, Duplicate}
use Rattle.head.specs.declared.error.CommitError.TheVariants.{Limit, CutTooLow, TooManyParts, Seat}
use Rattle.head.specs.declared.error.CommitError.TheVariants.{Journal, Memory}
use Rattle.head.specs.declared.error.ResumeError.{ResumeError}
use Rattle.head.specs.declared.error.ResumeError.TheVariants.{Unsound, Memory as NoMemory}

-- the number of a refusal, as text
abbrev pub append_code : AppendError → List ℕ
append_code Full = codes "A1"
append_code TimeRange = codes "A2"
append_code NoRoom = codes "memory"

-- a refusal in a line, for people
abbrev pub append_text : AppendError → List ℕ
append_text Full = codes "A1: a batch has at most 4096 samples"
append_text TimeRange = codes "A2: a time is from -2^62 to 2^62 - 1"
append_text NoRoom = codes "no memory"

-- the number of a refusal, as text
abbrev pub commit_code : CommitError → List ℕ
commit_code (OutOfBounds at) = codes "E1"
commit_code (OutOfOrder at) = codes "E2"
commit_code (Duplicate at) = codes "E3"
commit_code Limit = codes "E4"
commit_code CutTooLow = codes "E5"
commit_code TooManyParts = codes "E6"
commit_code Seat = codes "E7"
commit_code Journal = codes "E8"
commit_code Memory = codes "memory"

-- a refusal in a line, for people
abbrev pub commit_text : CommitError → List ℕ
commit_text (OutOfBounds at) = codes "E1: sample " ++ decimal at ++ codes " is below the floor"
commit_text (OutOfOrder at) =
    codes "E2: sample " ++ decimal at ++ codes " is older than the newest of its series"
commit_text (Duplicate at) =
    codes "E3: sample " ++ decimal at
    ++ codes " has the newest time of its series and another value"
commit_text Limit = codes "E4: too many series, too many samples of one, or too large a block"
commit_text CutTooLow = codes "E5: the time of the cut is not above the floor"
commit_text TooManyParts = codes "E6: there would be more than 63 blocks"
commit_text Seat = codes "E7: the seat is none of this store's"
commit_text Journal = codes "E8: the journal did not take the event"
commit_text Memory = codes "no memory"

-- the number of a refusal, as text
abbrev pub resume_code : ResumeError → List ℕ
resume_code Unsound = codes "J17"
resume_code NoMemory = codes "memory"

-- the number of the refusal of an event whose step is refused so, as text
abbrev pub replay_code : CommitError → List ℕ
replay_code (OutOfBounds at) = codes "J18"
replay_code (OutOfOrder at) = codes "J18"
replay_code (Duplicate at) = codes "J18"
replay_code Limit = codes "J18"
replay_code CutTooLow = codes "J18"
replay_code TooManyParts = codes "J18"
replay_code Seat = codes "J18"
replay_code Journal = codes "J18"
replay_code Memory = codes "memory"
