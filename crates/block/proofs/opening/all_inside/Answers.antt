use Rattle.std.proofs.Common.{sym, ◌∙◌}
use Rattle.std.proofs.lemmas.Option.{slice_get-get_or}
use Rattle.block.specs.Sound.{lies_in}
use Rattle.block.proofs.Steps.{tests_next, tests_stop, tests_end}
use Rattle.block.proofs.opening.all_inside.Goals as goal

pub returns-then-not-lies_in : goal.returns-then-not-lies_in
returns-then-not-lies_in c =
    let l = c.loop-chunk in
    let at = slice_get-get_or c.args.list.now l.chunk-index _ c.loop-chunk-test.true in
    sym (tests_stop (lies_in c.args.range) c.args.list.now l.chunk-index _ _ at
    (sym c.lies_in.ensures ∙ c.if-not-lies_in.true) l.invariant)

pub loop-chunk-preserved : goal.loop-chunk-preserved
loop-chunk-preserved c =
    let l = c.loop-chunk in
    let at = slice_get-get_or c.args.list.now l.chunk-index _ c.loop-chunk-test.true in
    tests_next (lies_in c.args.range) c.args.list.now l.chunk-index _ _ at (sym c.lies_in.ensures
    ∙ c.if-not-lies_in.false) l.invariant

pub returns : goal.returns
returns c =
    sym (tests_end (lies_in c.args.range) c.args.list.now c.loop-chunk.chunk-index _
    c.loop-chunk-test.false c.loop-chunk.invariant)
