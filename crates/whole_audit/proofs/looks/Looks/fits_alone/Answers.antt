use Rattle.std.proofs.Common.{◌≡◌, ◌<◌, true, not, List, length, sym, ◌∙◌, ap, arith}
use Rattle.std.specs.Prelude.{nat_lt}
use Rattle.std.proofs.lemmas.Bool.Decides.{nat_tests}
use Rattle.matchers.specs.Views.{MatcherView, QueryView}
use Rattle.cover.specs.declared.certificate.Verdict.{Verdict}
use Rattle.cover.specs.Asking.{satisfies_at}
use Rattle.auditor.specs.Auditing.{names_known}
use Rattle.whole_audit.specs.Taking.{fits_alone}
use Rattle.whole_audit.proofs.Numbered.{satisfied_by}
use Rattle.whole_audit.proofs.looks.Looks.fits_alone.Goals as goal

pub returns-in-Rejected-clause-fitting : goal.returns-in-Rejected-clause-fitting
returns-in-Rejected-clause-fitting c =
    let q : QueryView = c.args.self.now in
    let labels = c.args.entry.now.1.0 in
    let number = c.in-Rejected.number in
    let judges : List MatcherView = c.self-in-Rejected.inside.judges.items in
    let known : nat_lt number (length q.matchers) ≡ true =
    sym (ap (names_known (length q.matchers)) c.in-Rejected.is) ∙ c.requires in
    let same : judges ≡ q.matchers = ap (λ (p : QueryView). p.matchers) c.self-in-Rejected.view_is in
    let as_many : length judges ≡ length q.matchers = ap length same in
    let below : number < length judges = grind (arith, nat_tests) in
    ap not (c.accepts.ensures.accepted
    ∙ satisfied_by judges number c.index_mut.result.now c.labels.result.now below c.index_mut.ensures.value
    ∙ ap (satisfies_at judges number) c.labels.ensures
    ∙ ap (λ (ms : List MatcherView). satisfies_at ms number labels) same)
    ∙ ap (λ (v : Verdict). fits_alone q v c.args.entry.now) (sym c.in-Rejected.is)
