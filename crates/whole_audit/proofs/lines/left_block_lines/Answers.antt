use Rattle.std.proofs.Common.{◌+◌, Vec, Global, sym, ap, ◌∙◌, subst}
use Rattle.std.specs.List.{AllZip}
use Rattle.auditor.specs.Judgements.{unnamed}
use Rattle.auditor.proofs.Lines.{left_same, left_more}
use Rattle.whole_audit.specs.declared.lines.StateLine.{StateLine}
use Rattle.whole_audit.specs.StateLines.{IsLeftBlockLine}
use Rattle.whole_audit.proofs.Left.{left_of}
use Rattle.whole_audit.proofs.lines.left_block_lines.Goals as goal
use Rattle.whole_audit.proofs.lines.left_block_lines.Goals.{then-not-is_named+in_ok-left_line+in_ok-push, else-not-is_named}

pub loop-number-preserved : goal.loop-number-preserved
loop-number-preserved c =
    let told = c.args.parts.now in
    let n = c.loop-number.number in
    let done = c.loop-number.lines in
    let R = IsLeftBlockLine c.args.blocks.now c.args.query.now in
    elim c.if-not-is_named.branch [
      | then-not-is_named+in_ok-left_line+in_ok-push w ↦
          left_more R told n done.items c.if-not-is_named.lines.items w.in_ok-left_line.field-0
          (sym c.is_named.ensures ∙ w.if-not-is_named.true)
          (ap (λ (v : Vec StateLine Global). v.items) w.lines-is
          ∙ w.in_ok-push.ensures.items) c.loop-number.invariant
          (left_of c.args.blocks.now c.args.query.now n c.index-blocks-number.result
          w.in_ok-left_line.field-0 c.index-blocks-number.is
          w.in_ok-left_line.ensures)
      | else-not-is_named w ↦
          subst (λ (v : Vec StateLine Global). AllZip R (unnamed told (n + 1)) v.items)
          (sym w.lines-is)
          (left_same R told n done.items (sym c.is_named.ensures
          ∙ w.if-not-is_named.false) c.loop-number.invariant)
    ]
