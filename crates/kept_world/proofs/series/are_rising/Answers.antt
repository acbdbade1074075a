use Rattle.std.proofs.Common.{sym, ◌∙◌, arith}
use Rattle.kept_world.proofs.Rising.{rises_on}
use Rattle.kept_world.proofs.series.are_rising.Goals as goal

pub loop-i-preserved : goal.loop-i-preserved
loop-i-preserved c =
    rises_on c.args.newest.now.0 c.args.samples.now c.loop-i.i c.index-samples-i.result c.index-samples-i-in-loop-i.result (omega arith) (omega arith)
    c.index-samples-i.is c.index-samples-i-in-loop-i.is (sym c.is_earlier.ensures ∙ c.if-not-is_earlier.false)
    ∙ c.loop-i.invariant
