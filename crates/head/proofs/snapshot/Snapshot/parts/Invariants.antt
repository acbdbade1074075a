use Rattle.std.proofs.Common.{◌≡◌, ◌-◌, ◌++◌}
use Rattle.head.specs.Blocks.{block_names}
use Rattle.head.proofs.snapshot.Snapshot.parts.Given as goal

-- the names so far and those to come are all
abbrev pub invariant-loop-n : goal.invariant-loop-n
invariant-loop-n l = l.names.items ++ block_names l.n (l.n-end - l.n) ≡ block_names 0 l.n-end
