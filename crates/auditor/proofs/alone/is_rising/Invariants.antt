use Rattle.std.proofs.Common.{◌≡◌, ◌-◌, drop}
use Rattle.std.specs.FinMap.Entries.{is_sorted}
use Rattle.std.specs.Ordering.{int_cmp}
use Rattle.auditor.proofs.alone.is_rising.Given as goal

abbrev pub invariant-loop-i : goal.invariant-loop-i
invariant-loop-i l = is_sorted int_cmp (drop (l.i - 1) l.samples) ≡ is_sorted int_cmp l.samples
