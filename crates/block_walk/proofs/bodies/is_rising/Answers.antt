use Rattle.std.proofs.Common.{◌≡◌, ◌+◌, ◌-◌, sym, arith}
use Rattle.std.specs.Prelude.{slice_range}
use Rattle.std.proofs.lemmas.List.{length-map}
use Rattle.block_walk.proofs.IndexFile.Rising.{next, at_end}
use Rattle.block_walk.specs.declared.bodies.Span.{Span}
use Rattle.block_walk.specs.IndexFile.Flat.{is_before, label_sets_in}
use Rattle.block_walk.proofs.bodies.is_rising.Goals as goal

pub returns-then-not-is_before : goal.returns-then-not-is_before
returns-then-not-is_before c =
    let n =
    next is_before (label_sets_in c.args.labels.now c.args.rows.now) c.loop-at.at _ _
    c.is_before.result _ c.loop-at.invariant.0 c.label_set_at.ensures
    c.label_set_at-in-loop-at.ensures c.is_before.ensures c.loop-at.invariant.1 in
    sym (rw c.if-not-is_before.true at n)

pub loop-at-preserved : goal.loop-at-preserved
loop-at-preserved c =
    let n =
    next is_before (label_sets_in c.args.labels.now c.args.rows.now) c.loop-at.at _ _
    c.is_before.result _ c.loop-at.invariant.0 c.label_set_at.ensures
    c.label_set_at-in-loop-at.ensures c.is_before.ensures c.loop-at.invariant.1 in
    let e : c.loop-at.at + 1 - 1 ≡ c.loop-at.at = omega arith in
    (omega arith, rw e (sym (rw c.if-not-is_before.false at n)))

pub returns : goal.returns
returns c =
    at_end is_before (label_sets_in c.args.labels.now c.args.rows.now) c.loop-at.at _ (omega (
      arith,
      length-map c.args.rows.now (λ (r : Span).
          slice_range c.args.labels.now r.labels_start r.labels_end),
    )) c.loop-at.invariant.1
