use Rattle.std.proofs.Common.{Bool, ◌&&◌, sym, ap, ◌∙◌, take, arith}
use Rattle.std.specs.List.{AllByRecursion, list_all}
use Rattle.std.proofs.lemmas.Result.{err_from_is_err_and}
use Rattle.block.specs.Opening.{each, chunk_check, have_few}
use Rattle.block.specs.Shared.{lists_between}
use Rattle.block.specs.Sound.{IsReadChunk}
use Rattle.block.proofs.Steps.{each_next, each_stops, each_ends, facts_next, facts_end}
use Rattle.block.proofs.Steps.{all_next_test, take_whole}
use Rattle.block.proofs.Shared.{between_at, between_length}
use Rattle.block.proofs.checking.few_between.Goals as goal

pub returns-in_err-these : goal.returns-in_err-these
returns-in_err-these c =
    let l = c.loop-at in
    let lists = lists_between c.args.index.now.series c.args.from c.args.count in
    let p = err_from_is_err_and c.from_residual.result c.from_residual.ensures.1 in
    let at =
    between_at c.args.index.now.series c.args.from c.args.count l.at _ c.requires.within
    c.loop-at-test.true c.chunks_at.ensures in
    rw (p.1, p.2) (record {
      exact =
          each_stops (each (chunk_check c.args.chunks.now)) lists l.at _ c.in_err-these.field-0.0 _
          at c.in_err-these.ensures.exact l.invariant.so_far;
      few = tt;
      held = tt;
    })

pub loop-at-preserved : goal.loop-at-preserved
loop-at-preserved c =
    let l = c.loop-at in
    let file = c.args.chunks.now in
    let lists = lists_between c.args.index.now.series c.args.from c.args.count in
    let at =
    between_at c.args.index.now.series c.args.from c.args.count l.at _ c.requires.within
    c.loop-at-test.true c.chunks_at.ensures in
    record {
      so_far =
          each_next (each (chunk_check file)) lists l.at _ _ at
          c.in_ok-these.ensures.exact l.invariant.so_far;
      held =
          facts_next (AllByRecursion (IsReadChunk file)) lists l.at _ at l.invariant.held
          c.in_ok-these.ensures.held;
      few_is =
          ap (λ (b : Bool). b && c.in_ok-these.these) l.invariant.few_is
          ∙ ap (λ (b : Bool). list_all (have_few file) (take l.at lists) && b)
          c.in_ok-these.ensures.few
          ∙ sym (all_next_test (have_few file) lists l.at _ at);
    }

pub returns : goal.returns
returns c =
    let l = c.loop-at in
    let file = c.args.chunks.now in
    let lists = lists_between c.args.index.now.series c.args.from c.args.count in
    let long = between_length c.args.index.now.series c.args.from c.args.count c.requires.within in
    record {
      exact =
          each_ends (each (chunk_check file)) lists l.at _
          (omega (arith, long, c.loop-at-test.false)) l.invariant.so_far;
      few =
          l.invariant.few_is
          ∙ ap (list_all (have_few file))
          (take_whole lists l.at (omega (arith, long, c.loop-at-test.false)));
      held =
          facts_end (AllByRecursion (IsReadChunk file)) lists l.at
          (omega (arith, long, c.loop-at-test.false)) l.invariant.held;
    }
