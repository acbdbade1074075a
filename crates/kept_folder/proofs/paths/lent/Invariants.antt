use Rattle.std.proofs.Common.{◌≡◌, map, take, string_bytes}
use Rattle.kept_folder.proofs.paths.lent.Given as goal

abbrev pub invariant-loop-path : goal.invariant-loop-path
invariant-loop-path l =
    map (λ text. text.now) l.texts.items
    ≡ map (λ path. string_bytes path) (take l.path-index l.paths)
