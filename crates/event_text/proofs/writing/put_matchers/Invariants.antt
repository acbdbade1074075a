use Rattle.std.proofs.Common.{◌≡◌, ◌++◌, length, take}
use Rattle.std.specs.List.{flat_map, AllByRecursion}
use Rattle.wire.specs.Spelling.{uvarint}
use Rattle.event_text.specs.Spelling.{matcher_text, IsMatcher}
use Rattle.event_text.proofs.writing.put_matchers.Given as goal

abbrev pub invariant-loop-matcher : goal.invariant-loop-matcher
invariant-loop-matcher l =
    (l.out.items ≡ l.fn.out.items ++ (uvarint (length l.matchers) ++ flat_map matcher_text (take l.matcher-index l.matchers)))
    × AllByRecursion IsMatcher (take l.matcher-index l.matchers)
