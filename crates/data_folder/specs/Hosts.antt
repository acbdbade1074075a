-- What clauses see of a folder of a host.
use Rattle.std.specs.Prelude.{Bool, not}
use Rattle.data_folder.specs.declared.host_folder.HostFolder.{HostFolder}

abbrev pub host_sound : {R : Type 0} → HostFolder R → Bool
host_sound f = not f.lost
