use Rattle.std.proofs.Common.{◌≡◌, ◌++◌, length, take}
use Rattle.std.specs.List.{flat_map, AllByRecursion}
use Rattle.wire.specs.Spelling.{uvarint}
use Rattle.event_text.specs.Spelling.{pair_text, IsPair}
use Rattle.event_text.proofs.writing.put_labels.Given as goal

abbrev pub invariant-loop-i : goal.invariant-loop-i
invariant-loop-i l =
    (l.out.items ≡ l.fn.out.items ++ (uvarint (length l.labels) ++ flat_map pair_text (take l.i l.labels)))
    × AllByRecursion IsPair (take l.i l.labels)
