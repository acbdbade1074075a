use Rattle.std.proofs.lemmas.Result.{err_from_is_err_and}
use Rattle.labels.specs.Pairs.{pairs_of}
use Rattle.exposition.proofs.AllLines.{no_utf8, pairs_more, utf8_more}
use Rattle.exposition.proofs.series.push_pairs.Goals as goal

pub loop-label-preserved : goal.loop-label-preserved
loop-label-preserved c =
    let l = c.loop-label in
    let labels = c.args.labels.now in
    let x = c.label-item.result in (
      pairs_more (pairs_of c.args.pairs.now.items) (pairs_of l.pairs.items)
          (pairs_of c.push_label.new.pairs.items) labels l.label-index x
          c.loop-label-test.true c.label-item.is l.invariant.0 c.in_ok-push_label.ensures.0,
      utf8_more labels l.label-index x c.loop-label-test.true c.label-item.is l.invariant.1
          c.in_ok-push_label.ensures.1,
    )

pub returns-in_err-push_label : goal.returns-in_err-push_label
returns-in_err-push_label c =
    let p = err_from_is_err_and c.from_residual.result c.from_residual.ensures.1 in
    rw (p.1, p.2) (no_utf8 c.args.labels.now c.loop-label.label-index c.label-item.result
    c.in_err-push_label.field-0.0 c.loop-label-test.true c.label-item.is
    c.in_err-push_label.ensures)
