use Rattle.std.proofs.lemmas.Result.{err_from_is_err_and}
use Rattle.numbered_text.specs.Reading.{sample_at}
use Rattle.numbered_text.proofs.Loops.{many_fails, many_given}
use Rattle.numbered_text.proofs.reading.push_samples.Goals as goal

pub returns-in_err-count : goal.returns-in_err-count
returns-in_err-count c =
    let p = err_from_is_err_and c.from_residual.result c.from_residual.ensures.1 in
    rw (p.1, p.2) (many_fails c.in_err-count.field-0.0 sample_at c.args.out.now.items c.args.time.now
    c.args.bytes.now c.in_err-count.ensures.exact)

pub returns : goal.returns
returns c =
    many_given (λ rest. ((c.push_each_sample.new.out.items, c.push_each_sample.new.time), rest.now)) c.push_each_sample.result sample_at c.args.out.now.items c.put_uvarint.new.out.items
    c.in_ok-count.count c.args.time.now c.args.bytes.now c.in_ok-count.rest.now c.in_ok-count.ensures.exact
    c.in_ok-put_uvarint.ensures.ok c.push_each_sample.ensures
