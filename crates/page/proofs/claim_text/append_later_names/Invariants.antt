use Rattle.std.proofs.Common.{◌≡◌, ◌++◌, drop}
use Rattle.std.specs.List.{flat_map}
use Rattle.page.specs.Saying.{later_name}
use Rattle.page.proofs.claim_text.append_later_names.Given as goal

abbrev pub invariant-loop-name : goal.invariant-loop-name
invariant-loop-name l =
    l.out.items ++ flat_map later_name (drop l.name-index l.names)
    ≡ l.fn.out.items ++ flat_map later_name l.names
