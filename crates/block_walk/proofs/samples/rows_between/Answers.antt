use Rattle.std.proofs.Common.{refl, arith}
use Rattle.std.proofs.lemmas.List.{length-map}
use Rattle.block_walk.specs.BlockFiles.Samples.{undeleted_row, part_of}
use Rattle.block_walk.specs.BlockFiles.Shared.{stretch}
use Rattle.block_walk.proofs.BlockFiles.Shared.{stretch_at, stretch_length}
use Rattle.block_walk.proofs.IndexFile.Places.{moved_on, ended_so}
use Rattle.block_walk.proofs.samples.rows_between.Goals as goal

pub loop-at-init : goal.loop-at-init
loop-at-init c = rw c.in_ok-rows.ensures.items refl

pub loop-at-preserved : goal.loop-at-preserved
loop-at-preserved c =
    let l = c.loop-at in
    let part = part_of c.args.chunks.now c.args.tombstones.now c.args.entries.now in
    let many = length-map c.args.entries.now
    (undeleted_row c.args.chunks.now c.args.tombstones.now) in
    let at = stretch_at part c.args.from c.args.count l.at _
    (omega (arith, many, c.requires.within)) c.loop-at-test.true c.in_ok-row.ensures in
    rw c.in_ok-push.ensures.items (moved_on l.rows.items (stretch c.args.from c.args.count part)
    l.at _ _ at refl l.invariant)

pub returns : goal.returns
returns c =
    let l = c.loop-at in
    let part = part_of c.args.chunks.now c.args.tombstones.now c.args.entries.now in
    let many = length-map c.args.entries.now
    (undeleted_row c.args.chunks.now c.args.tombstones.now) in
    let long =
    stretch_length part c.args.from c.args.count (omega (arith, many, c.requires.within)) in
    ended_so l.rows.items (stretch c.args.from c.args.count part) l.at
    (omega (arith, long, c.loop-at-test.false)) l.invariant
