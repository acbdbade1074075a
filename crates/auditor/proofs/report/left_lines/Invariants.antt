use Rattle.std.specs.List.{AllZip}
use Rattle.auditor.specs.Judgements.{IsLeftLine, unnamed}
use Rattle.auditor.proofs.report.left_lines.Given as goal

abbrev pub invariant-loop-number : goal.invariant-loop-number
invariant-loop-number l =
    AllZip (IsLeftLine l.blocks l.query) (unnamed l.parts l.number) l.lines.items
