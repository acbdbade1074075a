use Rattle.std.proofs.Common.{◌≡◌, take}
use Rattle.store_audit.proofs.copies.copied_head.Given as goal

abbrev pub invariant-loop-series : goal.invariant-loop-series
invariant-loop-series l = l.copies.items ≡ take l.series-index l.head
