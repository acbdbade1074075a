use Rattle.std.proofs.Common.{sym, ap, ◌∙◌, arith}
use Rattle.block_walk.proofs.BlockFiles.Rows.{kept_on, left_out, all_kept}
use Rattle.block_walk.proofs.samples.push_each.Goals as goal
use Rattle.block_walk.proofs.samples.push_each.Goals.{then-is_kept+in_ok-push, else-is_kept}

pub loop-i-preserved : goal.loop-i-preserved
loop-i-preserved c =
    let ds = c.args.tombstones.now in
    elim c.if-is_kept.branch [
      | then-is_kept+in_ok-push b ↦
          kept_on ds c.args.reference c.args.samples.now c.loop-i.i c.get-sample.result
          c.loop-i.found.items c.if-is_kept.found.items _ c.get-sample.ensures
          (sym c.is_kept.ensures ∙ b.if-is_kept.true) (ap (λ v. v.items) b.found-is
          ∙ b.in_ok-push.ensures.items) c.loop-i.invariant
      | else-is_kept b ↦
          rw (ap (λ v. v.items) b.found-is) (left_out ds c.args.reference c.args.samples.now
          c.loop-i.i c.get-sample.result c.loop-i.found.items _ c.get-sample.ensures
          (sym c.is_kept.ensures ∙ b.if-is_kept.false) c.loop-i.invariant)
    ]

pub returns : goal.returns
returns c =
    all_kept c.args.tombstones.now c.args.reference c.args.samples.now c.loop-i.i
    c.loop-i.found.items _ (omega arith) c.loop-i.invariant
