use Rattle.std.proofs.Common.{sym, arith}
use Rattle.std.specs.Prelude.{slice_range}
use Rattle.std.proofs.lemmas.List.{length-map}
use Rattle.index_reader.specs.declared.series.Series.{Series}
use Rattle.index_reader.specs.Reading.Flat.{label_sets_in}
use Rattle.index_reader.specs.Reading.Whole.{is_small}
use Rattle.index_reader.proofs.Sound.{all_step, all_end}
use Rattle.index_reader.proofs.bodies.are_small.Goals as goal

pub returns-then-not-is_small : goal.returns-then-not-is_small
returns-then-not-is_small c =
    let b = c.args.bodies.now in
    let n =
    all_step is_small (label_sets_in b.labels.items b.series.items) c.loop-at.at _
    c.is_small.result _ c.label_set_at.ensures c.is_small.ensures c.loop-at.invariant in
    sym (rw c.if-not-is_small.true at n)

pub loop-at-preserved : goal.loop-at-preserved
loop-at-preserved c =
    let b = c.args.bodies.now in
    let n =
    all_step is_small (label_sets_in b.labels.items b.series.items) c.loop-at.at _
    c.is_small.result _ c.label_set_at.ensures c.is_small.ensures c.loop-at.invariant in
    sym (rw c.if-not-is_small.false at n)

pub returns : goal.returns
returns c =
    let b = c.args.bodies.now in
    all_end is_small (label_sets_in b.labels.items b.series.items) c.loop-at.at _ (omega (
      arith,
      length-map b.series.items (λ (r : Series).
          slice_range b.labels.items r.labels_start r.labels_end),
    )) c.loop-at.invariant
