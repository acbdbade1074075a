use Rattle.std.proofs.Common.{◌≡◌, ◌++◌, drop}
use Rattle.answers.specs.Body.{part_data}
use Rattle.answers.specs.AfterCommas.{after_commas}
use Rattle.answers.proofs.parts.append_parts_after_commas.Given as goal

abbrev pub invariant-loop-part : goal.invariant-loop-part
invariant-loop-part l =
    l.out.items ++ after_commas part_data (drop l.part-index l.parts)
    ≡ l.fn.out.items ++ after_commas part_data l.parts
