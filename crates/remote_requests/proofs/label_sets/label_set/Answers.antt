use Rattle.labels.specs.declared.error.LabelError.TheVariants as labels
use Rattle.remote_requests.proofs.LabelTurns.{set_made, set_unnamed, set_refused}
use Rattle.remote_requests.proofs.label_sets.label_set.Goals as goal

pub returns-then-names_metric : goal.returns-then-names_metric
returns-then-names_metric c =
    let p = rw c.in-Some.is at c.in_ok-pairs.ensures in
    set_made _ _ c.in-Ok.set p.1 c.if-are_long.ensures p.0 c.in-Ok.ensures.refused
    c.in-Ok.ensures.made c.if-names_metric.ensures

pub returns-else-names_metric : goal.returns-else-names_metric
returns-else-names_metric c =
    let p = rw c.in-Some.is at c.in_ok-pairs.ensures in
    set_unnamed _ _ c.in-Ok.set p.1 c.if-are_long.ensures p.0 c.in-Ok.ensures.refused
    c.in-Ok.ensures.made c.if-names_metric.ensures

pub returns-in-Err-BadName : goal.returns-in-Err-BadName
returns-in-Err-BadName c =
    let p = rw c.in-Some.is at c.in_ok-pairs.ensures in
    set_refused _ _ c.in-Err-BadName.field-0 labels.BadName p.1 c.if-are_long.ensures p.0
    c.in-Err-BadName.field-0-is c.in-Err-BadName.ensures.refused c.in-Err-BadName.ensures.made
    (λ e. cc)

pub returns-in-Err-Repeated : goal.returns-in-Err-Repeated
returns-in-Err-Repeated c =
    let p = rw c.in-Some.is at c.in_ok-pairs.ensures in
    set_refused _ _ c.in-Err-Repeated.field-0 labels.Repeated p.1 c.if-are_long.ensures p.0
    c.in-Err-Repeated.field-0-is c.in-Err-Repeated.ensures.refused c.in-Err-Repeated.ensures.made
    (λ e. cc)

pub returns-in-Err-Limit : goal.returns-in-Err-Limit
returns-in-Err-Limit c =
    let p = rw c.in-Some.is at c.in_ok-pairs.ensures in
    set_refused _ _ c.in-Err-Limit.field-0 labels.Limit p.1 c.if-are_long.ensures p.0
    c.in-Err-Limit.field-0-is c.in-Err-Limit.ensures.refused c.in-Err-Limit.ensures.made
    (λ e. cc)
