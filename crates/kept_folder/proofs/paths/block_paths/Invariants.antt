use Rattle.std.proofs.Common.{◌≡◌, map, take, string_bytes}
use Rattle.kept_folder.specs.Folders.{block_paths}
use Rattle.kept_folder.proofs.paths.block_paths.Given as goal

abbrev pub invariant-loop-number : goal.invariant-loop-number
invariant-loop-number l =
    map (λ path. string_bytes path) l.paths.items
    ≡ block_paths l.folder (take l.number-index l.numbers)
