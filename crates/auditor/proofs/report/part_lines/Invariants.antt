use Rattle.std.proofs.Common.{take}
use Rattle.std.specs.List.{AllZip}
use Rattle.auditor.specs.Judgements.{IsPartLine}
use Rattle.auditor.proofs.report.part_lines.Given as goal

abbrev pub invariant-loop-part : goal.invariant-loop-part
invariant-loop-part l =
    AllZip (IsPartLine l.blocks l.query) (take l.part-index l.parts) l.lines.items
