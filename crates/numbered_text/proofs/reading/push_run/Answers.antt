use Rattle.std.proofs.Common.{refl}
use Rattle.std.proofs.lemmas.Result.{err_from_is_err_and}
use Rattle.numbered_text.proofs.Loops.{run_fails, run_given}
use Rattle.numbered_text.proofs.reading.push_run.Goals as goal

pub returns-in_err-rest : goal.returns-in_err-rest
returns-in_err-rest c =
    let p = err_from_is_err_and c.from_residual.result c.from_residual.ensures.1 in
    rw (p.1, p.2) (run_fails c.in_err-rest.field-0.0 c.args.out.now.items c.args.names.now
    c.args.time.now c.args.bytes.now c.in_err-rest.ensures)

pub returns : goal.returns
returns c =
    run_given (λ rest. ((c.push_samples.new.out.items, c.push_samples.new.time), rest.now))
    (λ rest. (
      (c.push_samples.new.out.items, (c.push_name.new.names, c.push_samples.new.time)),
      rest.now,
    )) c.push_samples.result c.args.out.now.items c.push_name.new.out.items
    c.args.names.now c.push_name.new.names c.args.time.now c.args.bytes.now
    c.in_ok-rest.rest.now (λ x. refl) c.in_ok-rest.ensures c.push_samples.ensures
