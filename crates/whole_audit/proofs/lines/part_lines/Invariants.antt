use Rattle.std.proofs.Common.{take}
use Rattle.std.specs.List.{AllZip}
use Rattle.whole_audit.specs.StateLines.{IsStatePartLine}
use Rattle.whole_audit.proofs.lines.part_lines.Given as goal

abbrev pub invariant-loop-part : goal.invariant-loop-part
invariant-loop-part l =
    AllZip (IsStatePartLine l.blocks l.head l.query) (take l.part-index l.parts) l.lines.items
