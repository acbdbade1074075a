use Rattle.std.proofs.Common.{ℕ, List, refl, subst}
use Rattle.std.specs.Io.KnownBytes.{Appends}
use Rattle.std.proofs.lemmas.Result.{err_from_is_err_and}
use Rattle.store_command.specs.Judging.{by_writing}
use Rattle.store_command.proofs.Unwritten.{unused}
use Rattle.store_command.proofs.program.write_audit.Goals as goal

pub returns-in_err-report : goal.returns-in_err-report
returns-in_err-report g c =
    let p = err_from_is_err_and c.from_residual.result c.from_residual.ensures.1 in
    rw (p.1, p.2) (c.in_err-report.ensures.err, unused _ (g.W.Write.contents c.args.out.now))

pub returns-in_err-send : goal.returns-in_err-send
returns-in_err-send g c =
    let p = err_from_is_err_and c.from_residual-in_err-send.result c.from_residual-in_err-send.ensures.1 in
    rw (p.1, p.2) (by_writing c.in_ok-report.report c.in_ok-report.ensures.ok tt, tt)

pub returns : goal.returns
returns g c = record {
  report = c.in_ok-report.report;
  is = c.in_ok-report.ensures.ok;
  written = subst (λ (bytes : List ℕ). Appends (g.W.Write.contents c.args.out.now) (g.W.Write.contents c.send.new.out) bytes)
      c.as_bytes.ensures.value c.in_ok-send.ensures;
  right = refl;
}
