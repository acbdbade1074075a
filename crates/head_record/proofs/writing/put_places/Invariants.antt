use Rattle.std.proofs.Common.{◌≡◌, ◌++◌, length, take}
use Rattle.std.specs.List.{flat_map, AllByRecursion}
use Rattle.wire.specs.Spelling.{uvarint}
use Rattle.head_record.specs.Spelling.{place_text, IsPlace}
use Rattle.head_record.proofs.writing.put_places.Given as goal

abbrev pub invariant-loop-place : goal.invariant-loop-place
invariant-loop-place l =
    (l.out.items ≡ l.fn.out.items ++ (uvarint (length l.places) ++ flat_map place_text (take l.place-index l.places)))
    × AllByRecursion IsPlace (take l.place-index l.places)
