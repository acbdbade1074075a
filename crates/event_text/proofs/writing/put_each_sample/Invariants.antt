use Rattle.std.proofs.Common.{◌≡◌, ◌++◌, length, take}
use Rattle.std.specs.List.{flat_map, AllByRecursion}
use Rattle.wire.specs.Spelling.{uvarint}
use Rattle.event_text.specs.Spelling.{sample_text, IsSample}
use Rattle.event_text.proofs.writing.put_each_sample.Given as goal

abbrev pub invariant-loop-sample : goal.invariant-loop-sample
invariant-loop-sample l =
    (l.out.items ≡ l.fn.out.items ++ (uvarint (length l.samples) ++ flat_map sample_text (take l.sample-index l.samples)))
    × AllByRecursion IsSample (take l.sample-index l.samples)
