use Rattle.std.proofs.Common.{◌≡◌, ◌++◌, map, drop}
use Rattle.server.specs.Shifts.{served_in}
use Rattle.commands.proofs.serve.counts_of.Given as goal

abbrev pub invariant-loop-shift : goal.invariant-loop-shift
invariant-loop-shift l =
    l.counts.items ++ map served_in (drop l.shift-index l.shifts) ≡ map served_in l.shifts
