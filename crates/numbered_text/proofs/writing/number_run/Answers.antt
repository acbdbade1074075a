use Rattle.std.proofs.lemmas.Result.{IfOk-weaker}
use Rattle.numbered_text.proofs.Writes.{run_written}
use Rattle.numbered_text.proofs.writing.number_run.Goals as goal

pub returns-clause-ok : goal.returns-clause-ok
returns-clause-ok c =
    IfOk-weaker c.number_samples.result _ _
    (λ rest w. run_written c.args.names.now c.number_label.new.names c.args.time.now
    c.number_samples.new.time c.args.bytes.now c.in_ok-rest.rest.now rest.now
    c.args.out.now.items c.number_label.new.out.items c.number_samples.new.out.items
    c.in_ok-rest.ensures.ok w) c.number_samples.ensures.ok
