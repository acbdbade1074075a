use Rattle.std.proofs.Common.{ℕ, List, subst}
use Rattle.std.specs.Io.KnownBytes.{Appends}
use Rattle.std.proofs.lemmas.Result.{err_from_is_err_and}
use Rattle.explain.specs.Showing.{by_writing}
use Rattle.explain.proofs.Unwritten.{unused}
use Rattle.explain.proofs.program.write_answer.Goals as goal

pub returns-in_err-page : goal.returns-in_err-page
returns-in_err-page g c =
    let p = err_from_is_err_and c.from_residual.result c.from_residual.ensures.1 in
    rw (p.1, p.2) (c.in_err-page.ensures.err, unused _ (g.W.Write.contents c.args.out.now))

pub returns-in_err-send : goal.returns-in_err-send
returns-in_err-send g c =
    let p = err_from_is_err_and c.from_residual-in_err-send.result c.from_residual-in_err-send.ensures.1 in
    rw (p.1, p.2) (by_writing c.in_ok-page.page c.in_ok-page.ensures.ok tt, tt)

pub returns : goal.returns
returns g c = record {
  page = c.in_ok-page.page;
  is = c.in_ok-page.ensures.ok;
  written = subst (λ (bytes : List ℕ). Appends (g.W.Write.contents c.args.out.now) (g.W.Write.contents c.send.new.out) bytes)
      c.as_slice.ensures.value c.in_ok-send.ensures;
  claim = c.is_shown.ensures;
}
