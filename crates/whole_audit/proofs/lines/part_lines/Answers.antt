use Rattle.std.proofs.Common.{arith}
use Rattle.auditor.proofs.Lines.{zip_more, zip_whole}
use Rattle.whole_audit.specs.StateLines.{IsStatePartLine}
use Rattle.whole_audit.proofs.lines.part_lines.Goals as goal

pub loop-part-preserved : goal.loop-part-preserved
loop-part-preserved c =
    zip_more (IsStatePartLine c.args.blocks.now c.args.head.now c.args.query.now) c.args.parts.now
    c.loop-part.part-index c.part-item.result c.loop-part.lines.items _ c.in_ok-part_line.field-0
    c.loop-part-test.true c.part-item.is c.in_ok-push.ensures.items c.loop-part.invariant
    c.in_ok-part_line.ensures

pub returns : goal.returns
returns c =
    zip_whole (IsStatePartLine c.args.blocks.now c.args.head.now c.args.query.now) c.args.parts.now
    c.loop-part.part-index c.loop-part.lines.items (omega arith) c.loop-part.invariant
