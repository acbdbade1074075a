use Rattle.std.specs.List.{AllZip}
use Rattle.auditor.specs.Judgements.{unnamed}
use Rattle.whole_audit.specs.StateLines.{IsLeftBlockLine}
use Rattle.whole_audit.proofs.lines.left_block_lines.Given as goal

abbrev pub invariant-loop-number : goal.invariant-loop-number
invariant-loop-number l =
    AllZip (IsLeftBlockLine l.blocks l.query) (unnamed l.parts l.number) l.lines.items
