use Rattle.std.proofs.Common.{ap, ◌∙◌, arith}
use Rattle.block.proofs.Passing.{kept_ended}
use Rattle.block.proofs.Wanting.{is_asked, sample_kept, sample_left}
use Rattle.block.proofs.samples.push_wanted.Goals as goal
use Rattle.block.proofs.samples.push_wanted.Goals.{then-has+in_ok-push, else-has}

pub loop-i-preserved : goal.loop-i-preserved
loop-i-preserved c =
    let w = c.args.wanted.now in
    elim c.if-has.branch [
      | then-has+in_ok-push b ↦
          sample_kept w.tombstones.now w.reference w.times.from w.times.to c.args.samples.now
          c.loop-i.i c.get-sample.result c.has.result c.loop-i.found.items c.if-has.found.items _
          (omega arith) c.get-sample.ensures c.has.ensures b.if-has.true
          (ap (λ v. v.items) b.found-is ∙ b.in_ok-push.ensures.items) c.loop-i.invariant
      | else-has b ↦
          sample_left w.tombstones.now w.reference w.times.from w.times.to c.args.samples.now
          c.loop-i.i c.get-sample.result c.has.result c.loop-i.found.items c.if-has.found.items _
          (omega arith) c.get-sample.ensures c.has.ensures b.if-has.false
          (ap (λ v. v.items) b.found-is) c.loop-i.invariant
    ]

pub returns : goal.returns
returns c =
    let w = c.args.wanted.now in
    kept_ended (is_asked w.tombstones.now w.reference w.times.from w.times.to) c.args.samples.now
    c.loop-i.i c.loop-i.found.items _ (omega arith) c.loop-i.invariant
