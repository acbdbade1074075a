use Rattle.std.proofs.Common.{take}
use Rattle.std.specs.List.{AllZip}
use Rattle.journal.specs.Contents.{contents_in}
use Rattle.kept_walk.specs.Contents.{SpellsSeries}
use Rattle.kept_walk.proofs.heads.each_series.Given as goal

abbrev pub invariant-loop-content : goal.invariant-loop-content
invariant-loop-content l =
    AllZip SpellsSeries (contents_in (take l.content-index l.contents)) l.series.items
