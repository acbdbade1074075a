use Rattle.std.proofs.Common.{arith, sym, ap, ◌∙◌, slice_set}
use Rattle.std.proofs.lemmas.List.Edits.{map_over_more}
use Rattle.kept_world.specs.States.{rest_of}
use Rattle.kept_world.proofs.head.raise_each.Goals as goal

pub loop-one-preserved : goal.loop-one-preserved
loop-one-preserved c =
    let step = rest_of c.args.time.now in
    ap (λ r. slice_set c.loop-one.series c.loop-one.one-index r) c.raise.ensures
    ∙ ap (λ r. slice_set c.loop-one.series c.loop-one.one-index (step r)) (sym c.one-item.is)
    ∙ map_over_more step c.args.series.now c.loop-one.series c.loop-one.one-index c.one-item.result (omega arith) c.loop-one.invariant c.one-item.is
