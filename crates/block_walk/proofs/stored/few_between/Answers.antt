use Rattle.std.proofs.Common.{Bool, ◌&&◌, sym, ap, ◌∙◌, take, arith}
use Rattle.std.specs.List.{AllByRecursion, list_all}
use Rattle.std.proofs.lemmas.List.{length-map}
use Rattle.std.proofs.lemmas.Result.{err_from_is_err_and}
use Rattle.block_walk.specs.IndexFile.Series.{Series, chunk_lists}
use Rattle.block_walk.specs.BlockFiles.Reading.{each_check, chunk_check, have_few}
use Rattle.block_walk.specs.BlockFiles.Shared.{stretch}
use Rattle.block_walk.specs.BlockFiles.Sound.{IsHeld}
use Rattle.block_walk.proofs.BlockFiles.Steps.{each_next, each_stops, each_ends, facts_next}
use Rattle.block_walk.proofs.BlockFiles.Steps.{facts_end, all_next_test, take_whole}
use Rattle.block_walk.proofs.BlockFiles.Shared.{stretch_at, stretch_length}
use Rattle.block_walk.proofs.stored.few_between.Goals as goal

pub returns-in_err-these : goal.returns-in_err-these
returns-in_err-these c =
    let l = c.loop-at in
    let all = chunk_lists c.args.entries.now in
    let lists = stretch c.args.from c.args.count all in
    let many = length-map c.args.entries.now (λ (s : Series). s.chunks) in
    let p = err_from_is_err_and c.from_residual.result c.from_residual.ensures.1 in
    let at = stretch_at all c.args.from c.args.count l.at _
    (omega (arith, many, c.requires.within)) c.loop-at-test.true c.chunks_at.ensures in
    rw (p.1, p.2) (record {
      exact =
          each_stops (each_check (chunk_check c.args.chunks.now)) lists l.at _
          c.in_err-these.field-0.0 _ at c.in_err-these.ensures.exact l.invariant.so_far;
      few = tt;
      held = tt;
    })

pub loop-at-preserved : goal.loop-at-preserved
loop-at-preserved c =
    let l = c.loop-at in
    let file = c.args.chunks.now in
    let all = chunk_lists c.args.entries.now in
    let lists = stretch c.args.from c.args.count all in
    let many = length-map c.args.entries.now (λ (s : Series). s.chunks) in
    let at = stretch_at all c.args.from c.args.count l.at _
    (omega (arith, many, c.requires.within)) c.loop-at-test.true c.chunks_at.ensures in
    record {
      so_far =
          each_next (each_check (chunk_check file)) lists l.at _ _ at
          c.in_ok-these.ensures.exact l.invariant.so_far;
      held =
          facts_next (AllByRecursion (IsHeld file)) lists l.at _ at l.invariant.held
          c.in_ok-these.ensures.held;
      few_is =
          ap (λ (b : Bool). b && c.in_ok-these.these) l.invariant.few_is
          ∙ ap (λ (b : Bool). list_all (have_few file) (take l.at lists) && b)
          c.in_ok-these.ensures.few
          ∙ sym (all_next_test (have_few file) lists l.at _ at);
    }

pub returns : goal.returns
returns c =
    let l = c.loop-at in
    let file = c.args.chunks.now in
    let all = chunk_lists c.args.entries.now in
    let lists = stretch c.args.from c.args.count all in
    let many = length-map c.args.entries.now (λ (s : Series). s.chunks) in
    let long =
    stretch_length all c.args.from c.args.count (omega (arith, many, c.requires.within)) in
    record {
      exact =
          each_ends (each_check (chunk_check file)) lists l.at _
          (omega (arith, long, c.loop-at-test.false)) l.invariant.so_far;
      few =
          l.invariant.few_is
          ∙ ap (list_all (have_few file))
          (take_whole lists l.at (omega (arith, long, c.loop-at-test.false)));
      held =
          facts_end (AllByRecursion (IsHeld file)) lists l.at
          (omega (arith, long, c.loop-at-test.false)) l.invariant.held;
    }
