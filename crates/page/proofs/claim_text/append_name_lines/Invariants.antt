use Rattle.std.proofs.Common.{◌≡◌, ◌++◌, drop}
use Rattle.std.specs.List.{flat_map}
use Rattle.page.specs.Saying.{name_line}
use Rattle.page.proofs.claim_text.append_name_lines.Given as goal

abbrev pub invariant-loop-name : goal.invariant-loop-name
invariant-loop-name l =
    l.out.items ++ flat_map name_line (drop l.name-index l.names)
    ≡ l.fn.out.items ++ flat_map name_line l.names
