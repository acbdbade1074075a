use Rattle.std.proofs.Common.{sym, ◌∙◌}
use Rattle.std.proofs.lemmas.Option.{slice_get-get_or}
use Rattle.block_walk.specs.BlockFiles.Reading.{is_known}
use Rattle.block_walk.proofs.BlockFiles.Steps.{tests_next, tests_stop, tests_end}
use Rattle.block_walk.proofs.deletions.are_known.Goals as goal

pub returns-then-not-is_known : goal.returns-then-not-is_known
returns-then-not-is_known c =
    let l = c.loop-deletion in
    let at = slice_get-get_or c.args.deletions.now l.deletion-index _ c.loop-deletion-test.true in
    sym (tests_stop (is_known c.args.entries.now) c.args.deletions.now l.deletion-index _ _ at
    (sym c.is_known.ensures ∙ c.if-not-is_known.true) l.invariant)

pub loop-deletion-preserved : goal.loop-deletion-preserved
loop-deletion-preserved c =
    let l = c.loop-deletion in
    let at = slice_get-get_or c.args.deletions.now l.deletion-index _ c.loop-deletion-test.true in
    tests_next (is_known c.args.entries.now) c.args.deletions.now l.deletion-index _ _ at
    (sym c.is_known.ensures ∙ c.if-not-is_known.false) l.invariant

pub returns : goal.returns
returns c =
    sym (tests_end (is_known c.args.entries.now) c.args.deletions.now c.loop-deletion.deletion-index
    _ c.loop-deletion-test.false c.loop-deletion.invariant)
