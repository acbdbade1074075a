use Rattle.std.proofs.Common.{◌≡◌, ◌<◌, true, not, List, length, sym, ◌∙◌, ap, arith}
use Rattle.std.specs.Prelude.{nat_lt}
use Rattle.std.specs.List.{list_all}
use Rattle.std.proofs.lemmas.Bool.Decides.{nat_tests}
use Rattle.matchers.specs.Views.{MatcherView, QueryView}
use Rattle.cover.specs.declared.certificate.Verdict.{Verdict}
use Rattle.cover.specs.Asking.{satisfies_at}
use Rattle.auditor.specs.Auditing.{names_known}
use Rattle.auditor.specs.Looking.{fits}
use Rattle.auditor.proofs.Splitting.{Entry}
use Rattle.auditor.proofs.Separating.{rejected_by}
use Rattle.auditor.proofs.looks.Looks.fits.Goals as goal

pub returns-in-Rejected-clause-fitting : goal.returns-in-Rejected-clause-fitting
returns-in-Rejected-clause-fitting c =
    let q : QueryView = c.args.self.now in
    let rows = c.args.series.now in
    let number = c.in-Rejected.number in
    let judges : List MatcherView = c.self.inside.judges.items in
    let known : nat_lt number (length q.matchers) ≡ true =
    sym (ap (names_known (length q.matchers)) c.in-Rejected.is) ∙ c.requires in
    let same : judges ≡ q.matchers = ap (λ (p : QueryView). p.matchers) c.self.view_is in
    let as_many : length judges ≡ length q.matchers = ap length same in
    let below : number < length judges = grind (arith, nat_tests) in
    c.rejects_each.ensures.rejected
    ∙ rejected_by judges number c.index_mut.result.now rows below c.index_mut.ensures.value
    ∙ ap (λ (ms : List MatcherView).
    list_all (λ (row : Entry). not (satisfies_at ms number row.1.0)) rows) same
    ∙ ap (λ (v : Verdict). fits q v rows) (sym c.in-Rejected.is)
