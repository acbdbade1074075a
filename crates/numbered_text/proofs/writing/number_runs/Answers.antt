use Rattle.std.proofs.lemmas.Result.{IfOk-weaker}
use Rattle.numbered_text.specs.Reading.{run_at}
use Rattle.numbered_text.proofs.Writes.{many}
use Rattle.numbered_text.proofs.writing.number_runs.Goals as goal

pub returns-clause-ok : goal.returns-clause-ok
returns-clause-ok c =
    IfOk-weaker c.number_each_run.result _ _
    (λ rest w. many run_at c.in_ok-count.count (c.args.names.now, c.args.time.now) (c.number_each_run.new.names, c.number_each_run.new.time) c.args.bytes.now
    c.in_ok-count.rest.now rest.now c.args.out.now.items c.put_uvarint.new.out.items
    c.number_each_run.new.out.items c.in_ok-count.ensures.small c.in_ok-count.ensures.found c.in_ok-put_uvarint.ensures.ok w)
    c.number_each_run.ensures.ok
