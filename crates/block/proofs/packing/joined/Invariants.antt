use Rattle.std.proofs.Common.{◌≡◌, ◌+◌, ◌++◌, map, take}
use Rattle.block.proofs.packing.joined.Given as goal

abbrev pub invariant-loop-i : goal.invariant-loop-i
invariant-loop-i l =
    l.starts.items ≡ l.fn.front.starts.items ++ map (λ s. s + l.by) (take l.i l.back.starts.items)
