use Rattle.std.proofs.Common.{◌≡◌, ◌∷◌, map, take}
use Rattle.std.specs.List.{AllByRecursion}
use Rattle.journal.specs.Contents.{contents_in}
use Rattle.head_record.specs.Spelling.{opening_content, opening_of_saved, series_content, IsSeries}
use Rattle.head_record.proofs.writing.head_contents.Given as goal

abbrev pub invariant-loop-series : goal.invariant-loop-series
invariant-loop-series l =
    (contents_in l.contents.items
    ≡ opening_content (opening_of_saved l.head)
    ∷ map series_content (take l.series-index l.head.head))
    × AllByRecursion IsSeries (take l.series-index l.head.head)
