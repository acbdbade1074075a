-- The numbers of refusals, and their texts.
use Rattle.std.specs.Prelude.{ℕ, List, codes}
use Rattle.head.specs.declared.error.CommitError.{CommitError}
use Rattle.head.specs.declared.error.CommitError.TheVariants as commit
use Rattle.snapshots.specs.declared.error.JoinError.{JoinError}
use Rattle.snapshots.specs.declared.error.JoinError.TheVariants as join
use Rattle.snapshots.specs.declared.error.OpenError.{OpenError}
use Rattle.snapshots.specs.declared.error.OpenError.TheVariants.{BadPasses, Limit, Unavailable}
use Rattle.snapshots.specs.declared.error.OpenError.TheVariants.{Memory}
use Rattle.snapshots.specs.declared.error.SnapshotError.{SnapshotError}
use Rattle.snapshots.specs.declared.error.SnapshotError.TheVariants.{Unavailable as Unentered}

abbrev pub open_code : OpenError → List ℕ
open_code BadPasses = codes "O2"
open_code Limit = codes "O3"
open_code Unavailable = codes "O4"
open_code Memory = codes "memory"

abbrev pub open_text : OpenError → List ℕ
open_text BadPasses = codes "O2: a store has 1 to 64 passes and 1 to 64 seats"
open_text Limit = codes "O3: a store is opened with at most 63 blocks"
open_text Unavailable = codes "O4: there is no room for another reader"
open_text Memory = codes "no memory"

abbrev pub snapshot_code : SnapshotError → List ℕ
snapshot_code Unentered = codes "S1"

abbrev pub snapshot_text : SnapshotError → List ℕ
snapshot_text Unentered = codes "S1: the published version is not available"

abbrev pub join_code : JoinError → List ℕ
join_code join.Stale = codes "E9"
join_code join.Seat = codes "E7"
join_code join.Journal = codes "E8"
join_code join.Memory = codes "memory"

abbrev pub join_text : JoinError → List ℕ
join_text join.Stale = codes "E9: the blocks that are joined are not the store's"
join_text join.Seat = codes "E7: the seat is none of the store's"
join_text join.Journal = codes "E8: the journal did not take the event"
join_text join.Memory = codes "no memory"

-- the refusal of a join, where the store's is this one
abbrev pub join_refusal : CommitError → JoinError
join_refusal (commit.OutOfBounds at) = join.Memory
join_refusal (commit.OutOfOrder at) = join.Memory
join_refusal (commit.Duplicate at) = join.Memory
join_refusal commit.Limit = join.Memory
join_refusal commit.CutTooLow = join.Memory
join_refusal commit.TooManyParts = join.Memory
join_refusal commit.Seat = join.Seat
join_refusal commit.Journal = join.Journal
join_refusal commit.Memory = join.Memory
