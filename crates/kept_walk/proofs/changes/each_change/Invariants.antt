use Rattle.std.proofs.Common.{map, take, []}
use Rattle.journal.specs.Contents.{contents_in}
use Rattle.kept_walk.specs.Contents.{AreFrom}
use Rattle.kept_walk.specs.Kept.{event_of}
use Rattle.kept_walk.specs.Numbered.{AreBytes}
use Rattle.kept_walk.proofs.changes.each_change.Given as goal

abbrev pub invariant-loop-content : goal.invariant-loop-content
invariant-loop-content l = record {
  so_far : AreFrom [] (contents_in (take l.content-index l.contents))
      (map event_of l.changes.items) l.names;
  bytes : AreBytes l.names;
}
