use Rattle.std.proofs.Common.{◌≡◌, take}
use Rattle.event_text.specs.Views.{matchers_in}
use Rattle.event_text.proofs.reading.built_matchers.Given as goal

abbrev pub invariant-loop-part : goal.invariant-loop-part
invariant-loop-part l = l.matchers.items ≡ matchers_in (take l.part-index l.parts)
