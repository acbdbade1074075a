use Rattle.name_table.proofs.Numbers.{begin_here, begin_on}
use Rattle.numbered_text.specs.Reading.{run_at}
use Rattle.numbered_text.proofs.Writes.{begins, ends, goes_on}
use Rattle.numbered_text.proofs.writing.number_each_run.Goals as goal

pub loop-counter-init : goal.loop-counter-init
loop-counter-init c = record {
  so_far = begins run_at c.args.count (c.args.names.now, c.args.time.now) c.args.bytes.now c.args.out.now.items;
  dated = c.requires;
  begins = begin_here c.args.names.now;
}

pub loop-counter-preserved : goal.loop-counter-preserved
loop-counter-preserved c =
    let l = c.loop-counter in
    record {
      so_far = goes_on run_at c.args.count l.counter (c.args.names.now, c.args.time.now) (l.names, l.time) (c.number_run.new.names, c.number_run.new.time) c.args.bytes.now
          l.rest.now c.in_ok-after.after.now c.args.out.now.items l.out.items
          c.number_run.new.out.items c.loop-counter-test.true c.in_ok-after.ensures.ok
          l.invariant.so_far;
      dated = c.number_run.ensures.dated;
      begins = begin_on c.args.names.now l.names c.number_run.new.names l.invariant.begins
          c.number_run.ensures.begins;
    }

pub returns-clause-ok : goal.returns-clause-ok
returns-clause-ok c =
    let l = c.loop-counter in
    ends run_at c.args.count l.counter (c.args.names.now, c.args.time.now) (l.names, l.time) c.args.bytes.now l.rest.now
    c.args.out.now.items l.out.items c.loop-counter-test.false l.invariant.so_far
