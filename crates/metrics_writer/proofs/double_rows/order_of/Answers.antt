use Rattle.std.proofs.Common.{◌≡◌, ◌++◌, ◌∷◌, ◌+◌, [], ◌∙◌, ap, map, take, refl}
use Rattle.std.proofs.lemmas.List.{map-append}
use Rattle.std.specs.Borrow.{Bor}
use Rattle.std.proofs.Common.{List}
use Rattle.labels.specs.Labels.{Labels}
use Rattle.labels.specs.Rows.{Row}
use Rattle.metrics_writer.specs.Groups.{metrics_of}
use Rattle.metrics_writer.specs.Series.{metric_of}
use Rattle.metrics_writer.proofs.Grouping.{left_next, left_of, take_next}
use Rattle.metrics_writer.proofs.Joining.{rows_next}
use Rattle.metrics_writer.proofs.double_rows.order_of.Goals as goal

pub loop-row-init : goal.loop-row-init
loop-row-init c = (ap (map (λ (r : Bor Row). r.now)) c.in_ok-order.ensures.items, c.requires.groups)

pub loop-row-preserved : goal.loop-row-preserved
loop-row-preserved c =
    let l = c.loop-row in
    let rows = c.args.rows.now in
    let front = take l.row-index rows in
    let next = take (l.row-index + 1) rows in
    let row = c.row-item.result in
    let name = c.metric_of.result.now in
    let more : next ≡ front ++ row ∷ [] =
    take_next rows l.row-index row c.loop-row-test.true c.row-item.is in
    let named : name ≡ metric_of row.0 =
    c.metric_of.ensures ∙ ap (λ (x : Labels). metric_of x) c.labels.ensures in
    let group = map (λ (r : Bor Row). r.now) c.take_group-group.result.items in
    let taken : group ≡ left_of name (metrics_of front) rows =
    c.take_group-group.ensures.taken ∙ l.invariant.1 name in (
      rows_next rows front next row more name named group taken _ _ l.invariant.0
          (ap (map (λ (r : Bor Row). r.now)) c.in_ok-extend_from_slice.ensures.items
          ∙ (map-append (λ (r : Bor Row). r.now) l.order.items c.as_slice.result.now
          ∙ ap (λ (g : List (Bor Row)). map (λ (r : Bor Row). r.now) l.order.items
          ++ map (λ (r : Bor Row). r.now) g) c.as_slice.ensures.value)),
      λ q. left_next rows front next row more name named q _ _
          (c.take_group-group.ensures.left q) (l.invariant.1 q),
    )
