use Rattle.std.proofs.lemmas.Result.{IfOk-weaker}
use Rattle.numbered_text.specs.Reading.{sample_at}
use Rattle.numbered_text.proofs.Writes.{many}
use Rattle.numbered_text.proofs.writing.number_samples.Goals as goal

pub returns-clause-ok : goal.returns-clause-ok
returns-clause-ok c =
    IfOk-weaker c.number_each_sample.result _ _
    (λ rest w. many sample_at c.in_ok-count.count c.args.time.now c.number_each_sample.new.time c.args.bytes.now
    c.in_ok-count.rest.now rest.now c.args.out.now.items c.put_uvarint.new.out.items
    c.number_each_sample.new.out.items c.in_ok-count.ensures.small c.in_ok-count.ensures.found c.in_ok-put_uvarint.ensures.ok w)
    c.number_each_sample.ensures.ok
