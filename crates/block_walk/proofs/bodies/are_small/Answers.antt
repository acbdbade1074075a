use Rattle.std.proofs.Common.{sym, arith}
use Rattle.std.specs.Prelude.{slice_range}
use Rattle.std.proofs.lemmas.List.{length-map}
use Rattle.block_walk.specs.declared.bodies.Span.{Span}
use Rattle.block_walk.specs.IndexFile.Flat.{label_sets_in}
use Rattle.block_walk.specs.IndexFile.Whole.{is_small}
use Rattle.block_walk.proofs.IndexFile.Sound.{all_step, all_end}
use Rattle.block_walk.proofs.bodies.are_small.Goals as goal

pub returns-then-not-is_small : goal.returns-then-not-is_small
returns-then-not-is_small c =
    let n =
    all_step is_small (label_sets_in c.args.labels.now c.args.rows.now) c.loop-at.at _
    c.is_small.result _ c.label_set_at.ensures c.is_small.ensures c.loop-at.invariant in
    sym (rw c.if-not-is_small.true at n)

pub loop-at-preserved : goal.loop-at-preserved
loop-at-preserved c =
    let n =
    all_step is_small (label_sets_in c.args.labels.now c.args.rows.now) c.loop-at.at _
    c.is_small.result _ c.label_set_at.ensures c.is_small.ensures c.loop-at.invariant in
    sym (rw c.if-not-is_small.false at n)

pub returns : goal.returns
returns c =
    all_end is_small (label_sets_in c.args.labels.now c.args.rows.now) c.loop-at.at _ (omega (
      arith,
      length-map c.args.rows.now (λ (r : Span).
          slice_range c.args.labels.now r.labels_start r.labels_end),
    )) c.loop-at.invariant
