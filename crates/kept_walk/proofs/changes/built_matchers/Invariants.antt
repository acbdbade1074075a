use Rattle.std.proofs.Common.{◌≡◌, take}
use Rattle.kept_walk.specs.Parts.{matchers_in}
use Rattle.kept_walk.proofs.changes.built_matchers.Given as goal

abbrev pub invariant-loop-part : goal.invariant-loop-part
invariant-loop-part l = l.matchers.items ≡ matchers_in (take l.part-index l.parts)
