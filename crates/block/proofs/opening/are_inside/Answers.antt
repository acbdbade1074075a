use Rattle.std.proofs.Common.{sym, ◌∙◌, arith}
use Rattle.std.specs.List.{list_all}
use Rattle.std.proofs.lemmas.List.{length-map}
use Rattle.index_reader.specs.Indexes.{Series, chunk_lists}
use Rattle.block.specs.Sound.{lies_in}
use Rattle.block.proofs.Steps.{tests_next, tests_stop, tests_end}
use Rattle.block.proofs.opening.are_inside.Goals as goal

pub returns-then-not-all_inside : goal.returns-then-not-all_inside
returns-then-not-all_inside c =
    let l = c.loop-at in
    sym (tests_stop (list_all (lies_in c.args.range)) (chunk_lists c.args.index.now.series) l.at _ _
    c.chunks_at.ensures (sym c.all_inside.ensures ∙ c.if-not-all_inside.true) l.invariant)

pub loop-at-preserved : goal.loop-at-preserved
loop-at-preserved c =
    let l = c.loop-at in
    tests_next (list_all (lies_in c.args.range)) (chunk_lists c.args.index.now.series) l.at _ _
    c.chunks_at.ensures (sym c.all_inside.ensures ∙ c.if-not-all_inside.false) l.invariant

pub returns : goal.returns
returns c =
    sym (tests_end (list_all (lies_in c.args.range)) (chunk_lists c.args.index.now.series)
    c.loop-at.at _ (omega (
      arith,
      length-map c.args.index.now.series (λ (s : Series). s.chunks),
    )) c.loop-at.invariant)
