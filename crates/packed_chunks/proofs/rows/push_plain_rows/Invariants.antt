use Rattle.packed_chunks.proofs.RowLaws.{Written}
use Rattle.packed_chunks.proofs.rows.push_plain_rows.Given as goal

abbrev pub invariant-loop-place : goal.invariant-loop-place
invariant-loop-place l = Written l.form l.rows.items l.place l.samples
