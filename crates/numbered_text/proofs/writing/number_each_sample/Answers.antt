use Rattle.numbered_text.specs.Reading.{sample_at}
use Rattle.numbered_text.proofs.Writes.{begins, ends, goes_on}
use Rattle.numbered_text.proofs.writing.number_each_sample.Goals as goal

pub loop-counter-init : goal.loop-counter-init
loop-counter-init c = record {
  so_far = begins sample_at c.args.count c.args.time.now c.args.bytes.now c.args.out.now.items;
  dated = c.requires;
}

pub loop-counter-preserved : goal.loop-counter-preserved
loop-counter-preserved c =
    let l = c.loop-counter in
    record {
      so_far = goes_on sample_at c.args.count l.counter c.args.time.now l.time c.number_sample.new.time c.args.bytes.now
          l.rest.now c.in_ok-after.after.now c.args.out.now.items l.out.items
          c.number_sample.new.out.items c.loop-counter-test.true c.in_ok-after.ensures.ok
          l.invariant.so_far;
      dated = c.number_sample.ensures.dated;
    }

pub returns-clause-ok : goal.returns-clause-ok
returns-clause-ok c =
    let l = c.loop-counter in
    ends sample_at c.args.count l.counter c.args.time.now l.time c.args.bytes.now l.rest.now
    c.args.out.now.items l.out.items c.loop-counter-test.false l.invariant.so_far
