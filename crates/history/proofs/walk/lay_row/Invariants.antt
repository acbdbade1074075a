use Rattle.std.proofs.Common.{◌≡◌, vec_len}
use Rattle.labels.specs.Rows.{points_in}
use Rattle.labels.specs.Parts.{laid_over, within}
use Rattle.history.proofs.walk.lay_row.Given as goal

abbrev pub invariant-loop-sample : goal.invariant-loop-sample
invariant-loop-sample l =
    laid_over (points_in l.fn.row.0
    (within l.query.from l.query.to l.samples.items)) l.content.entries
    ≡ laid_over (points_in l.fn.row.0 (within l.query.from l.query.to l.fn.row.1))
    l.fn.content.entries

abbrev pub decreases-loop-sample : goal.decreases-loop-sample
decreases-loop-sample l = vec_len l.samples
