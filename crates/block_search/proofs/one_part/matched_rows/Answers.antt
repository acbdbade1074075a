use Rattle.std.proofs.Common.{ap, sym, ◌∙◌, append-nil, Some, None}
use Rattle.block_search.specs.Answering.{row_of_interval}
use Rattle.block_search.proofs.Steps.{filter_map_step}
use Rattle.block_search.proofs.one_part.matched_rows.Goals as goal
use Rattle.block_search.proofs.one_part.matched_rows.Goals.{in-Some+in_ok-push-in-Some, in-None}

pub loop-interval-preserved : goal.loop-interval-preserved
loop-interval-preserved g c =
    let item = c.interval-item.result in
    let row = row_of_interval c.args.query.now.from c.args.query.now.to
    (g.S.Source.part c.args.source.now) in
    let certificate = c.args.certificate.now in
    let old = c.loop-interval.rows.items in
    let new = c.match-branch-2.rows.items in
    elim c.match-branch-2.branch [
      | in-Some+in_ok-push-in-Some w ↦ filter_map_step row certificate
          c.loop-interval.interval-index item (Some w.in-Some.row) old new
          c.loop-interval-test.true c.interval-item.is (sym w.in-Some.is ∙ c.in_ok-row.ensures)
          c.loop-interval.invariant
          (ap (λ v. v.items) w.rows-is ∙ w.in_ok-push-in-Some.ensures.items)
      | in-None w ↦ filter_map_step row certificate c.loop-interval.interval-index item None old new
          c.loop-interval-test.true c.interval-item.is (sym w.in-None.is ∙ c.in_ok-row.ensures)
          c.loop-interval.invariant
          (ap (λ v. v.items) w.rows-is ∙ sym (append-nil old))
    ]
