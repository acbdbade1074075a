use Rattle.std.proofs.Common.{take}
use Rattle.labels.specs.Pairs.{texts_of}
use Rattle.block_writer.specs.InUse.{pairs_in, HoldsThose}
use Rattle.block_writer.specs.Typed.{HaveTexts}
use Rattle.block_writer.proofs.symbols.all_pairs.Given as goal

abbrev pub invariant-loop-i : goal.invariant-loop-i
invariant-loop-i l = record {
  held : HoldsThose (pairs_in (take l.i l.rows)) (texts_of l.found.items);
  typed : HaveTexts (take l.i l.rows);
}
