use Rattle.std.proofs.Common.{◌≡◌, true, false, length}
use Rattle.auditor.specs.Auditing.{all_known}
use Rattle.auditor.specs.Looking.{cuts}
use Rattle.auditor.proofs.Judging.{not_cut}
use Rattle.auditor.proofs.answer.first_flaw.Goals as goal

pub returns-then-not-are_cut : goal.returns-then-not-are_cut
returns-then-not-are_cut c =
    let certificate = c.args.answer.now.cover.certificate.items in
    let known : all_known (length c.args.query.now.matchers) certificate ≡ true = cc in
    let cut : cuts certificate c.args.table.now ≡ false = cc in
    (known, not_cut c.args.table.now c.args.query.now c.series-series.ensures.part certificate cut)
