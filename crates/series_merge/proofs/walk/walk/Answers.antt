use Rattle.std.proofs.Common.{◌≡◌, ◌++◌, List, sym, ap, ◌∙◌, subst}
use Rattle.labels.specs.Labels.{Labels}
use Rattle.labels.specs.Rows.{Row}
use Rattle.series_merge.specs.Merging.{laid_all}
use Rattle.series_merge.specs.Walking.{all_rows, fronts}
use Rattle.series_merge.proofs.Walks.{IsSofar, sofar_nothing, sofar_step, sofar_all, left_less}
use Rattle.series_merge.proofs.walk.walk.Goals as goal

pub walk-init : goal.walk-init
walk-init c =
    subst (IsSofar (all_rows c.args.parts.now) c.args.parts.now) (sym c.new-rows.ensures.items)
    (sofar_nothing c.args.parts.now c.requires.full c.requires.sorted)

pub walk-smaller : goal.walk-smaller
walk-smaller c =
    left_less c.walk.parts c.take_each.new.parts c.in-Some.labels.now c.in-Some.ensures.1
    c.in_ok-take_each.ensures.left

pub walk-preserved : goal.walk-preserved
walk-preserved c =
    let l : Labels = c.in-Some.labels.now in
    let old : List (List Row) = c.walk.parts in
    let alike : List Row = c.take_each.new.alike.items in
    let taken : alike ≡ fronts l old =
    c.in_ok-take_each.ensures.alike ∙ ap (λ (rows : List Row). rows ++ fronts l old) c.clear.ensures.items in
    sofar_step (all_rows c.args.parts.now) old c.take_each.new.parts c.walk.rows.items
    c.push.new.self.items alike c.in_ok-join_alike.field-0 c.in-Some.labels c.walk.invariant
    c.in-Some.ensures c.in_ok-take_each.ensures.left taken
    (c.in_ok-join_alike.ensures ∙ ap (λ (rows : List Row). (l, laid_all rows)) c.as_slice.ensures.value)
    c.in_ok-push.ensures.items

pub returns : goal.returns
returns c =
    sofar_all (all_rows c.args.parts.now) c.walk.parts c.walk.rows.items c.walk.invariant
    c.in_default.ensures
