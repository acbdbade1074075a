use Rattle.std.proofs.Common.{◌≡◌, vec_len}
use Rattle.labels.specs.Rows.{points_of}
use Rattle.labels.specs.Parts.{laid_over, rows_in}
use Rattle.matchers.specs.Queries.{selected_by}
use Rattle.history.proofs.walk.lay_part.Given as goal

abbrev pub invariant-loop-row : goal.invariant-loop-row
invariant-loop-row l =
    laid_over (selected_by l.query (points_of (rows_in l.part.items))) l.content.entries
    ≡ laid_over (selected_by l.query (points_of (rows_in l.fn.part.items))) l.fn.content.entries

abbrev pub decreases-loop-row : goal.decreases-loop-row
decreases-loop-row l = vec_len l.part
