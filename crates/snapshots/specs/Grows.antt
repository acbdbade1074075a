-- The rule of the published versions.
use Rattle.std.specs.Prelude.{ℕ, ◌≡◌, List}
use mathlib.Core.Option.{some}
use mathlib.Core.List.{IsPrefix}
use lib.ListN.{get_elem?}
use Rattle.logbook.specs.Pages.{Book}
use Rattle.head.specs.Heads.{SnapshotParts}
use Rattle.head.specs.Worlds.{Event}
use Rattle.snapshots.specs.declared.entry.Entry.{Entry}
use Rattle.snapshots.specs.declared.plate.Plate.{Plate}
use Rattle.snapshots.specs.Asking.{AreAsked}
use Rattle.snapshots.specs.Marks.{list_of, tried_of}
use Rattle.snapshots.specs.Replays.{IsAfter}
use Rattle.snapshots.specs.Views.{Edition}

-- The version is of this store and has this list, and its snapshot is what the list makes of the
-- opening one. Each event of the list was asked for, and each that waits beside it in the log; and
-- the list is kept.
abbrev pub Shows : Book → SnapshotParts → (Event → ℕ → ℕ → Type 0) → (List Entry → Type 0)
    → Edition → List Entry → Type 0
Shows book opening asked kept x entries =
    (x.book ≡ book) × (list_of x.marks ≡ entries) × IsAfter opening entries x.parts
    × AreAsked asked (tried_of x.marks) × kept entries

-- Every published version shows its list, and what each handle has seen is a prefix of that. It is
-- shown by a right of this store, of which there are two. A press holds two, whatever it shows.
abbrev pub Keeps : Book → SnapshotParts → (Event → ℕ → ℕ → Type 0) → (List Entry → Type 0)
    → Plate → List (List Entry) → Type 0
Keeps book opening asked kept x views =
    (x.right ≡ book)
    × Shows book opening asked kept x.version (list_of x.version.marks)
    × ((seat : ℕ) (v : List Entry) → get_elem? views seat ≡ some v
    → IsPrefix v (list_of x.version.marks))

-- the version y may follow x: it shows its list, of which that of x is a prefix
abbrev pub MayFollow : Book → SnapshotParts → (Event → ℕ → ℕ → Type 0) → (List Entry → Type 0)
    → Edition → Edition → Type 0
MayFollow book opening asked kept x y =
    Shows book opening asked kept y (list_of y.marks)
    × IsPrefix (list_of x.marks) (list_of y.marks)

-- a handle that had seen v has seen w, the list that the plate y shows, of which v is a prefix; it
-- is shown by a right of this store
abbrev pub SeesList : Book → SnapshotParts → (Event → ℕ → ℕ → Type 0) → (List Entry → Type 0)
    → List Entry → Plate → Plate → List Entry → Type 0
SeesList book opening asked kept v x y w =
    Shows book opening asked kept y.version w × IsPrefix v w × (y.right ≡ book)
