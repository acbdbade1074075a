use Rattle.std.proofs.Common.{◌≡◌, ◌+◌, drop, take, length}
use Rattle.journal.specs.Contents.{contents_in}
use Rattle.head_record.specs.Reading.{each_series}
use Rattle.head_record.specs.Spelling.{SpellEach}
use Rattle.head_record.proofs.Loops.{with_front}
use Rattle.head_record.proofs.reading.each_series.Given as goal

abbrev pub invariant-loop-content : goal.invariant-loop-content
invariant-loop-content l =
    (with_front l.series.items (each_series (length l.series.items + 1)
    (contents_in (drop l.content-index l.contents)))
    ≡ each_series 1 (contents_in l.contents))
    × SpellEach (contents_in (take l.content-index l.contents)) l.series.items
