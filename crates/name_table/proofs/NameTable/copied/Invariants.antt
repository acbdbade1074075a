use Rattle.std.proofs.Common.{◌≡◌, take}
use Rattle.name_table.proofs.NameTable.copied.Given as goal

abbrev pub invariant-loop-number : goal.invariant-loop-number
invariant-loop-number l = l.copy ≡ take l.number l.self
