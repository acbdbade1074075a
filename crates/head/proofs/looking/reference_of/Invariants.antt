use Rattle.std.specs.Prelude.{◌≢◌, ◌<◌, ℕ, Some, slice_index_or}
use Rattle.labels.specs.Parts.{labels_in, row_at}
use Rattle.head.proofs.looking.reference_of.Given as goal

-- none of the references before has the label set
abbrev pub invariant-loop-reference : goal.invariant-loop-reference
invariant-loop-reference l = (k : ℕ) → k < l.reference-index → labels_in (row_at (slice_index_or l.reference-items k 0) l.block.part) ≢ Some l.labels
