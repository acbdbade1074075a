use Rattle.std.proofs.Common.{◌≡◌, ◌++◌, drop}
use Rattle.std.specs.List.{flat_map}
use Rattle.page_escape.specs.Escaping.{entity}
use Rattle.page_escape.proofs.escape.append_word.Given as goal

abbrev pub invariant-loop-byte : goal.invariant-loop-byte
invariant-loop-byte l =
    l.out.items ++ flat_map entity (drop l.byte-index l.byte-items)
    ≡ l.fn.out.items ++ flat_map entity l.byte-items
