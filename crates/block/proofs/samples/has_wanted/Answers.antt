use Rattle.std.proofs.Common.{sym, ◌∙◌, arith}
use Rattle.block.proofs.Passing.{any_ended}
use Rattle.block.proofs.Wanting.{is_asked, sample_passed, sample_found}
use Rattle.block.proofs.samples.has_wanted.Goals as goal

pub loop-i-preserved : goal.loop-i-preserved
loop-i-preserved c =
    let w = c.args.wanted.now in
    sample_passed w.tombstones.now w.reference w.times.from w.times.to c.args.samples.now c.loop-i.i
    c.get.result c.has.result (omega arith) c.get.ensures c.has.ensures c.if-has.false
    ∙ c.loop-i.invariant

pub returns-then-has : goal.returns-then-has
returns-then-has c =
    let w = c.args.wanted.now in
    sym (sample_found w.tombstones.now w.reference w.times.from w.times.to c.args.samples.now
    c.loop-i.i c.get.result c.has.result (omega arith) c.get.ensures c.has.ensures c.if-has.true)
    ∙ c.loop-i.invariant

pub returns : goal.returns
returns c =
    let w = c.args.wanted.now in
    sym (any_ended (is_asked w.tombstones.now w.reference w.times.from w.times.to)
    c.args.samples.now c.loop-i.i (omega arith))
    ∙ c.loop-i.invariant
