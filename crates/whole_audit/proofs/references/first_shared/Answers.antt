use Rattle.std.proofs.Common.{◌≡◌, ◌+◌, sym, ◌∙◌, ap}
use Rattle.matchers.specs.Views.{QueryView}
use Rattle.auditor.specs.Looking.{rows_below, rows_from, share_verdict, first_shared, shared_at}
use Rattle.auditor.proofs.Separating.{shared_here, shared_later}
use Rattle.whole_audit.proofs.references.first_shared.Goals as goal
use Rattle.whole_audit.proofs.references.first_shared.Goals.{After-share_verdict}

span_is : (c : After-share_verdict) → c.split_at_bound-in-loop-at.result.0.now
    ≡ rows_below (c.index-later-at.result + 1) c.loop-at.rest.now
span_is c =
    c.split_at_bound-in-loop-at.ensures.below
    ∙ ap (λ n. rows_below (n + 1) c.loop-at.rest.now) (c.from-number.ensures
    ∙ c.number-in-loop-at.ensures)

shared_is : (c : After-share_verdict) → c.share_verdict.result
    ≡ share_verdict c.args.looks.now (rows_below (c.index-later-at.result + 1) c.loop-at.rest.now)
shared_is c =
    c.share_verdict.ensures.shared
    ∙ ap (λ (q : QueryView). share_verdict q c.split_at_bound-in-loop-at.result.0.now)
    c.loop-at.invariant.same
    ∙ ap (share_verdict c.args.looks.now) (span_is c)

pub returns-then-share_verdict-clause-shared : goal.returns-then-share_verdict-clause-shared
returns-then-share_verdict-clause-shared c =
    let first : c.split_at_bound.result.1.now
    ≡ rows_from c.in_ok-first.first.now c.args.series.now =
    c.split_at_bound.ensures.others
    ∙ ap (λ n. rows_from n c.args.series.now) (c.from.ensures ∙ c.number.ensures) in
    shared_here c.args.looks.now c.loop-at.at c.in_ok-first.later.now c.index-later-at.result
    c.loop-at.rest.now
    (first_shared c.args.looks.now 0 c.in_ok-first.later.now c.split_at_bound.result.1.now)
    c.loop-at-test.true c.index-later-at.is
    (sym (shared_is (goal.at.returns-then-share_verdict-clause-shared c).After-share_verdict)
    ∙ c.if-share_verdict.true) c.loop-at.invariant.left
    ∙ ap (first_shared c.args.looks.now 0 c.in_ok-first.later.now) first
    ∙ sym (ap (λ ss. shared_at c.args.looks.now ss c.args.series.now) c.in_ok-first.ensures.cases.0)

pub loop-at-preserved : goal.loop-at-preserved
loop-at-preserved c = record {
  same = c.share_verdict.ensures.same ∙ c.loop-at.invariant.same;
  rises = c.split_at_bound-in-loop-at-2.ensures.rises;
  left =
      let others : c.split_at_bound-in-loop-at-2.result.1.now
      ≡ rows_from c.index-later-at.result c.loop-at.rest.now =
      c.split_at_bound-in-loop-at-2.ensures.others
      ∙ ap (λ n. rows_from n c.loop-at.rest.now) (c.from-number.ensures
      ∙ c.number-in-loop-at.ensures) in
      ap (first_shared c.args.looks.now (c.loop-at.at + 1) _) others
      ∙ shared_later c.args.looks.now c.loop-at.at c.in_ok-first.later.now c.index-later-at.result
      c.loop-at.rest.now
      (first_shared c.args.looks.now 0 c.in_ok-first.later.now c.split_at_bound.result.1.now)
      c.loop-at-test.true c.index-later-at.is
      (sym (shared_is (goal.at.loop-at-preserved c).After-share_verdict)
      ∙ c.if-share_verdict.false) c.loop-at.invariant.left;
}
