-- What a press shows.
use Rattle.snapshots.specs.declared.plate.Plate.{Plate}
use Rattle.snapshots.specs.Views.{Edition}

-- the plate with another version, and the right that it had
abbrev pub with_version : Plate → Edition → Plate
with_version plate version = record { version = version; right = plate.right }
