-- Files and directories by their paths, and what a crash leaves of calls.
use Rattle.std.specs.Prelude.{◌≡◌, ◌≢◌, ◌⊎◌, ℕ, Bool, true, false, List, [], ◌∷◌, ◌++◌, codes}
use Rattle.std.specs.Prelude.{Option, None, Some}
use Rattle.std.specs.List.{AllByRecursion}
use Rattle.block_folder.specs.Steps.{Call, Make, Write, Sync, Rename, Did}

-- what stands at a path
pub data Node : Type 0 where
  Directory : Node
  File : List ℕ → Node

abbrev pub Tree : Type 0
Tree = List ℕ → Option Node

-- the path of a name in a directory
abbrev pub path_in : List ℕ → List ℕ → List ℕ
path_in folder name = folder ++ (codes "/" ++ name)

-- a name without a slash
abbrev pub IsName : List ℕ → Type 0
IsName name = AllByRecursion (λ (c : ℕ). c ≢ 47) name

-- what may stand behind the path of a directory: nothing, or a slash and more
abbrev pub IsBehind : List ℕ → Type 0
IsBehind [] = Unit {0}
IsBehind (c ∷ cs) = c ≡ 47

-- the path is this one, or lies below it
abbrev pub IsAt : List ℕ → List ℕ → Type 0
IsAt top path = (behind : List ℕ) × IsBehind behind × (path ≡ top ++ behind)

-- nothing stands at this path or below it
abbrev pub IsFree : List ℕ → Tree → Type 0
IsFree top tree = (behind : List ℕ) → IsBehind behind → tree (top ++ behind) ≡ None

abbrev pub AreSame : Tree → Tree → Type 0
AreSame old new = (path : List ℕ) → new path ≡ old path

-- something is put at a path
pub record Puts (path : List ℕ) (node : Node) (old new : Tree) : Type 0 where
  pub there : new path ≡ Some node
  pub others : (other : List ℕ) → other ≢ path → new other ≡ old other

-- what stands at a path and below it moves to another, at once
pub record Moves (from to : List ℕ) (old new : Tree) : Type 0 where
  pub moved : (behind : List ℕ) → IsBehind behind → new (to ++ behind) ≡ old (from ++ behind)
  pub others : (other : List ℕ) → (IsAt from other → ⊥) → (IsAt to other → ⊥)
      → new other ≡ old other

-- what a call does, if it is not lost; a write that is not done leaves any bytes
abbrev pub Happens : Call → Bool → Tree → Tree → Type 0
Happens (Make path) done old new = Puts path Directory old new
Happens (Write path bytes) true old new = Puts path (File bytes) old new
Happens (Write path bytes) false old new = (some : List ℕ) × Puts path (File some) old new
Happens (Sync path) done old new = AreSame old new
Happens (Rename from to) done old new = Moves from to old new

-- a call puts an entry of this name into this directory
abbrev pub Enters : Call → List ℕ → List ℕ → Type 0
Enters (Make path) folder name = path ≡ path_in folder name
Enters (Write path bytes) folder name = path ≡ path_in folder name
Enters (Sync path) folder name = ⊥
Enters (Rename from to) folder name = to ≡ path_in folder name

-- the directory is synced by one of these calls
abbrev pub IsSyncedBy : List Did → List ℕ → Type 0
IsSyncedBy [] folder = ⊥
IsSyncedBy (d ∷ log) folder = (d ≡ (Sync folder, true)) ⊎ IsSyncedBy log folder

-- A call may be lost if it was not done, or if none of the later calls syncs the directory that has
-- its entry.
abbrev pub MayBeLost : Call → Bool → List Did → Type 0
MayBeLost call false later = Unit {0}
MayBeLost call true later = (folder name : List ℕ) → Enters call folder name → IsName name
    → IsSyncedBy later folder → ⊥

-- a crash after these calls leaves what each of them did in its turn, but for those that are lost
abbrev pub MayLeave : List Did → Tree → Tree → Type 0
MayLeave [] old new = AreSame old new
MayLeave (d ∷ later) old new =
    (mid : Tree) × (Happens d.0 d.1 old mid ⊎ (MayBeLost d.0 d.1 later × AreSame old mid))
    × MayLeave later mid new

-- What was called of these calls when the machine stops: some of the first, and perhaps one more
-- that was not done.
abbrev pub IsCutOff : List Call → List Did → Type 0
IsCutOff [] log = log ≡ []
IsCutOff (call ∷ calls) log =
    (log ≡ []) ⊎ (log ≡ (call, false) ∷ [])
    ⊎ ((more : List Did) × (log ≡ (call, true) ∷ more) × IsCutOff calls more)
