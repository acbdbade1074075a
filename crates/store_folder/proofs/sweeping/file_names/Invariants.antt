use Rattle.std.proofs.Common.{◌≡◌, take}
use Rattle.data_folder.specs.Sweeping.{names_in}
use Rattle.store_folder.specs.Sweeps.{names_at}
use Rattle.store_folder.proofs.sweeping.file_names.Given as goal

abbrev pub invariant-loop-place : goal.invariant-loop-place
invariant-loop-place l = names_in l.names.items ≡ names_at (take l.place-index l.places)
