use Rattle.std.proofs.Common.{◌≡◌, ◌++◌, drop}
use Rattle.answers.specs.Body.{part_data}
use Rattle.answers.specs.AfterCommas.{after_commas}
use Rattle.answers.specs.Joined.{joined}
use Rattle.answers.proofs.part_pieces.push_parts.Given as goal

abbrev pub invariant-loop-part : goal.invariant-loop-part
invariant-loop-part g l =
    joined l.pieces.items ++ after_commas part_data (drop l.part-index l.parts)
    ≡ joined l.fn.pieces.items ++ after_commas part_data l.parts
