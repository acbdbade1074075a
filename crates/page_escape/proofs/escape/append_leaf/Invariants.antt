use Rattle.std.proofs.Common.{◌≡◌, ◌++◌, drop}
use Rattle.std.specs.List.{flat_map}
use Rattle.page_escape.specs.Escaping.{char_text}
use Rattle.page_escape.proofs.escape.append_leaf.Given as goal

abbrev pub invariant-loop-c : goal.invariant-loop-c
invariant-loop-c l =
    l.out.items ++ flat_map char_text (drop l.c-index l.chars)
    ≡ l.fn.out.items ++ flat_map char_text l.chars
