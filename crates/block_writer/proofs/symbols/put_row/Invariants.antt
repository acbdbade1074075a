use Rattle.std.proofs.Common.{take}
use Rattle.std.specs.List.{All}
use Rattle.labels.specs.Pairs.{texts_of}
use Rattle.block_writer.specs.InUse.{HoldsAlso}
use Rattle.block_writer.specs.Typed.{IsOfTexts}
use Rattle.block_writer.proofs.symbols.put_row.Given as goal

abbrev pub invariant-loop-i : goal.invariant-loop-i
invariant-loop-i l = record {
  added : HoldsAlso (texts_of l.initial.found.items) (take l.i l.labels) (texts_of l.found.items);
  typed : All IsOfTexts (take l.i l.labels);
}
