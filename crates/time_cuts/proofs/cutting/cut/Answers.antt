use Rattle.std.proofs.Common.{arith}
use Rattle.time_cuts.proofs.Sums.{parts_next, rest_next, parts_end, none_left}
use Rattle.time_cuts.proofs.cutting.cut.Goals as goal

pub loop-rest-preserved : goal.loop-rest-preserved
loop-rest-preserved c =
    let l = c.loop-rest in
    let n = c.fitting-count.result in
    record {
      goes_on =
          parts_next c.args.limits c.args.slots.now l.rest.now _ l.counts.items _ n
          l.invariant.goes_on c.if-count-eq0.false c.fitting-count.ensures.inside
          c.fitting-count.ensures.within c.split_at.ensures.back c.in_ok-push.ensures.items;
      end = rest_next c.args.slots.now l.rest.now _ n l.invariant.end c.split_at.ensures.back;
    }

pub returns-clause-parts : goal.returns-clause-parts
returns-clause-parts c =
    let l = c.loop-rest in
    parts_end c.args.limits c.args.slots.now l.rest.now l.counts.items l.invariant.goes_on
    (none_left l.rest.now c.loop-rest-test.ensures)
