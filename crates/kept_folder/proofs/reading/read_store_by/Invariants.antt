use Rattle.std.proofs.Common.{◌<◌}
use Rattle.kept_folder.specs.Folders.{IsChanging}
use Rattle.kept_folder.proofs.reading.read_store_by.Given as goal

abbrev pub invariant-loop-turn : goal.invariant-loop-turn
invariant-loop-turn g l =
    0 < l.turn → IsChanging (g.F.ReadFiles.may_read l.fn.files) l.folder
