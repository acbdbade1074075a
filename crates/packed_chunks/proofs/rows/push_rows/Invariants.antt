use Rattle.packed_chunks.proofs.RowLaws.{Written}
use Rattle.packed_chunks.proofs.rows.push_rows.Given as goal

abbrev pub invariant-loop-i : goal.invariant-loop-i
invariant-loop-i l = Written l.form l.rows.items l.i l.samples
