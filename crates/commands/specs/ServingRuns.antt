-- What is told of a store that is served, and why none is.
use Rattle.std.specs.Prelude.{◌≡◌, ◌⊎◌, ℕ, ◌≤◌, ◌<◌, ◌+◌, ◌==◌, List, ◌++◌, Option, None, Some}
use Rattle.std.specs.Prelude.{length, codes, decimal, if◌then◌else◌, min, ◌*◌}
use Rattle.std.specs.Borrow.{Bor}
use Rattle.std.specs.Io.KnownBytes.{Appends}
use Rattle.head.specs.Heads.{BlockPart}
use Rattle.snapshots.specs.Seats.{IsRoom}
use Rattle.snapshots.specs.declared.error.OpenError.TheVariants as store
use Rattle.guard.specs.declared.rules.Rules.{Rules}
use Rattle.commands.specs.Guarding.{AreRulesOf, IsGuardFault}
use Rattle.store_folder.specs.declared.reading.FoundStore.{FoundStore}
use Rattle.commands.specs.Keeping.{IsDataFault, IsPortFault}
use Rattle.commands.specs.Opening.{AreBlocksAt, IsOpeningFault}
use Rattle.commands.specs.Reading.{Host}
use Rattle.commands.specs.Selecting.{KeepsAt}
use Rattle.commands.specs.Upkeep.{IsKeepFault}
use Rattle.commands.specs.declared.command.Serving.{Serving}
use Rattle.commands.specs.declared.fault.Fault.{Fault}
use Rattle.commands.specs.declared.fault.Fault.TheVariants.{Refused, CannotWrite, CannotListen}
use Rattle.commands.specs.declared.fault.Fault.TheVariants.{NoListener, NoThread, Memory}
use Rattle.commands.specs.declared.fault.Refusal.TheVariants.{Open}

-- the line of a port
abbrev pub listening_line : ℕ → List ℕ
listening_line port = codes "listening " ++ decimal port ++ codes "\n"

-- the line of some port was written, and nothing else
pub record TellsPort (old new : Option (List ℕ)) : Type 0 where
  pub port : ℕ
  pub written : Appends old new (listening_line port)

-- the directories hold blocks that a store can be opened over
pub record AreServable (reads : Host) (directories : List (List ℕ)) : Type 0 where
  pub blocks : List BlockPart
  pub opened : AreBlocksAt reads directories blocks
  pub few : length directories ≤ 63

-- the options ask for rules, the directories hold blocks, and the port at which a store over them
-- is served was told
pub record IsListening (reads : Host) (serving : Serving) (directories : List (List ℕ))
    (old new : Option (List ℕ)) : Type 0 where
  pub rules : Rules
  pub ruled : AreRulesOf reads serving rules
  pub servable : AreServable reads directories
  pub told : TellsPort old new

-- the options ask for rules, and the port was told at which the store of a folder is served; what
-- the folder holds, no clause can say
pub record IsKeeping (reads : Host) (serving : Serving) (old new : Option (List ℕ)) : Type 0 where
  pub rules : Rules
  pub ruled : AreRulesOf reads serving rules
  pub told : TellsPort old new

-- what was told of a store that is served: of one over directories, or of the one of a folder
abbrev pub TellsOf : Option (Bor (List ℕ)) → Host → Serving → List (List ℕ) → Option (List ℕ)
    → Option (List ℕ) → Type 0
TellsOf None reads serving directories old new = IsListening reads serving directories old new
TellsOf (Some folder) reads serving directories old new = IsKeeping reads serving old new

-- what was told of the store that the options ask for
abbrev pub IsServing : Host → Serving → List (List ℕ) → Option (List ℕ) → Option (List ℕ) → Type 0
IsServing reads serving directories old new = TellsOf serving.folder reads serving directories old new

-- the bytes of so many MB of replies, as far as they can be counted; any number of 0
abbrev pub reply_bytes_of : ℕ → Option ℕ
reply_bytes_of mb = if mb == 0 then None else Some (min (mb * 1000000) 18446744073709551615)

-- how many workers serve the port of Prometheus
abbrev pub remote_workers_of : Serving → ℕ
remote_workers_of serving =
    if serving.prometheus_port == 0 then 0 else serving.prometheus_workers

-- how many seats there are: one for each worker of either port, and one for the cuts of the server
-- itself
abbrev pub seats_of : Serving → ℕ
seats_of serving =
    serving.workers + remote_workers_of serving + (if serving.cut_every == 0 then 0 else 1)

-- how many passes there are: one for each seat, and one for those that watch
abbrev pub passes_of : Serving → ℕ
passes_of serving = if serving.status_port == 0 then seats_of serving else seats_of serving + 1

-- why those that watch, or a Prometheus, are not answered: their port cannot be listened on
abbrev pub IsWatchFault : Serving → Fault → Type 0
IsWatchFault serving (CannotListen port) =
    ((0 < serving.status_port) × (port ≡ serving.status_port))
    ⊎ ((0 < serving.prometheus_port) × (port ≡ serving.prometheus_port))
IsWatchFault serving other = ⊥

-- why a store over blocks is not served: there are not 1 to 64 workers (fewer by one if they are
-- watched, by one if the server cuts by itself, and by those of the port of Prometheus), the store
-- has no room for so many readers, the port cannot be listened on, or memory or the writer failed
abbrev pub IsStoreFault : Serving → Fault → Type 0
IsStoreFault serving (Refused (Open store.BadPasses)) =
    ¬ IsRoom (passes_of serving) (seats_of serving)
IsStoreFault serving (Refused (Open store.Unavailable)) = Unit {0}
IsStoreFault serving (CannotListen port) = port ≡ serving.port
IsStoreFault serving CannotWrite = Unit {0}
IsStoreFault serving Memory = Unit {0}
IsStoreFault serving other = ⊥

-- why a store is not served any more before each worker has served its connections: there is no
-- listener any more, a thread cannot be made, or memory failed
abbrev pub IsLateFault : Fault → Type 0
IsLateFault NoListener = Unit {0}
IsLateFault NoThread = Unit {0}
IsLateFault Memory = Unit {0}
IsLateFault other = ⊥

-- why a store over blocks is not served, or not until each worker has ended, and what was written
-- by then
abbrev pub IsServingFault : Serving → Option (List ℕ) → Option (List ℕ) → Fault → Type 0
IsServingFault serving old new fault =
    (IsStoreFault serving fault × KeepsAt fault old new) ⊎ (TellsPort old new × IsLateFault fault)

-- why a store over directories is not served, or not until each worker has ended, and what was
-- written by then: by the directories; or, where they hold blocks, by the store
pub data IsDirectoriesFault (reads : Host) (directories : List (List ℕ)) (serving : Serving)
    (old new : Option (List ℕ)) (fault : Fault) : Type 0 where
  by_opening : IsOpeningFault reads directories fault → KeepsAt fault old new
      → IsDirectoriesFault reads directories serving old new fault
  by_serving : AreServable reads directories → IsServingFault serving old new fault
      → IsDirectoriesFault reads directories serving old new fault

-- why the store of a folder is not served, or not until each worker has ended, and what was written
-- by then: by the folder and its journal, or by the store
pub data IsKeepingFault (folder : List ℕ) (serving : Serving) (old new : Option (List ℕ))
    (fault : Fault) : Type 0 where
  by_folder : IsDataFault folder fault → KeepsAt fault old new
      → IsKeepingFault folder serving old new fault
  by_workers : IsServingFault serving old new fault → IsKeepingFault folder serving old new fault

-- the port of Prometheus is refused over what was found in a folder, and nothing was written
pub record IsRefusedPort (serving : Serving) (old new : Option (List ℕ)) (fault : Fault)
    : Type 0 where
  pub found : Option FoundStore
  pub is : IsPortFault found serving fault
  pub keeps : KeepsAt fault old new

-- why a folder is not served, or not until each worker has ended: the port of Prometheus is refused
-- over the store that it has; or by the folder, or by the store
abbrev pub IsFolderRunFault : List ℕ → Serving → Option (List ℕ) → Option (List ℕ) → Fault
    → Type 0
IsFolderRunFault folder serving old new fault =
    IsRefusedPort serving old new fault ⊎ IsKeepingFault folder serving old new fault

-- why the store that is asked for is not served, or not until each worker has ended
abbrev pub IsFaultOf : Option (Bor (List ℕ)) → Host → List (List ℕ) → Serving → Option (List ℕ)
    → Option (List ℕ) → Fault → Type 0
IsFaultOf None reads directories serving old new fault =
    IsDirectoriesFault reads directories serving old new fault
IsFaultOf (Some folder) reads directories serving old new fault =
    IsFolderRunFault folder.now serving old new fault

-- Why a line of `serve` ends before each worker has: by the options of how long samples are kept;
-- by the file of its token; by the status port or that of Prometheus; by the directories, or if a
-- store is kept by its folder; or by the store, the port or the writer, or once the port was told
-- by the listener, a thread or want of memory. Before that the writer holds what it held, unless it
-- failed.
pub data IsServeFault (reads : Host) (directories : List (List ℕ)) (serving : Serving)
    (old new : Option (List ℕ)) (fault : Fault) : Type 0 where
  by_keep : IsKeepFault serving fault → KeepsAt fault old new
      → IsServeFault reads directories serving old new fault
  by_guard : IsGuardFault serving fault → KeepsAt fault old new
      → IsServeFault reads directories serving old new fault
  by_watch : IsWatchFault serving fault → KeepsAt fault old new
      → IsServeFault reads directories serving old new fault
  by_store : IsFaultOf serving.folder reads directories serving old new fault
      → IsServeFault reads directories serving old new fault
