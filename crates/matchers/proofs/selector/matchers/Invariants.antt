use Rattle.std.proofs.Common.{◌≡◌, ◌++◌}
use Rattle.std.specs.Vec.Iter.{into_iter_items}
use Rattle.matchers.specs.Limits.{AreMadeWithin}
use Rattle.matchers.proofs.selector.matchers.Given as goal

abbrev pub invariant-loop-part : goal.invariant-loop-part
invariant-loop-part l =
    (l.made.items ≡ l.yielded) × AreMadeWithin l.limits l.yielded × (l.fn.parts.items ≡ l.yielded ++ into_iter_items l.part-iterator)
