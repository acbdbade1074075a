use Rattle.std.proofs.Common.{arith}
use Rattle.kept_walk.specs.Fields.{differs}
use Rattle.kept_walk.proofs.NextTo.{ends}
use Rattle.kept_walk.proofs.neighbours.differ.Goals as goal

pub returns : goal.returns
returns c = ends differs c.args.runs.now c.loop-i.i (omega arith) c.loop-i.invariant
