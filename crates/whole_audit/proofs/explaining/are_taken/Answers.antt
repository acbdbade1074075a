use Rattle.std.proofs.Common.{◌≡◌, true, List, length, drop, ◌+◌, Some, sym, ◌∙◌, ap, subst}
use Rattle.matchers.specs.Views.{QueryView}
use Rattle.cover.specs.declared.certificate.Interval.{Interval}
use Rattle.auditor.specs.Auditing.{all_known}
use Rattle.whole_audit.specs.Explaining.{sampled}
use Rattle.whole_audit.specs.Taking.{after_taking, are_taken_from}
use Rattle.whole_audit.proofs.Taken.{known_after, taken_next, taken_past}
use Rattle.whole_audit.proofs.explaining.are_taken.Goals as goal
use Rattle.whole_audit.proofs.explaining.are_taken.Goals.{then-is_sampled+in-Some, else-is_sampled}

pub loop-entry-preserved : goal.loop-entry-preserved
loop-entry-preserved c =
    let query = c.args.looks.now in
    let rows = c.args.series.now in
    let i = c.loop-entry.entry-index in
    let row = c.entry-item.result in
    let rest = c.loop-entry.rest.now in
    let whole = are_taken_from query (Some c.args.certificate.now) (sampled rows) in
    elim c.if-is_sampled.branch [
      | then-is_sampled+in-Some w ↦
          let left = w.in-Some.left.now in
          let e : Some left ≡ after_taking query row rest =
          w.in-Some.ensures.left
          ∙ ap (λ (q : QueryView). after_taking q row rest) c.loop-entry.invariant.same in
          let is : c.if-is_sampled.rest.now ≡ left = ap (λ s. s.now) w.rest-is in record {
            same = w.looks-is ∙ w.after_taking.ensures.same ∙ c.loop-entry.invariant.same;
            known =
                subst (λ (is : List Interval). all_known (length query.matchers) is ≡ true) (sym is)
                (known_after query (length query.matchers) rest row left (sym e)
                c.loop-entry.invariant.known);
            left =
                ap (λ (is : List Interval). are_taken_from query (Some is)
                (sampled (drop (i + 1) rows))) is
                ∙ taken_next query rows i row rest left whole c.loop-entry-test.true c.entry-item.is
                (sym c.is_sampled.ensures ∙ w.if-is_sampled.true) e c.loop-entry.invariant.left;
          }
      | else-is_sampled w ↦
          let is : c.if-is_sampled.rest.now ≡ rest = ap (λ s. s.now) w.rest-is in record {
            same = w.looks-is ∙ c.loop-entry.invariant.same;
            known =
                subst (λ (is : List Interval). all_known (length query.matchers) is ≡ true) (sym is)
                c.loop-entry.invariant.known;
            left =
                ap (λ (is : List Interval). are_taken_from query (Some is)
                (sampled (drop (i + 1) rows))) is
                ∙ taken_past query rows i row rest whole c.loop-entry-test.true c.entry-item.is
                (sym c.is_sampled.ensures ∙ w.if-is_sampled.false) c.loop-entry.invariant.left;
          }
    ]
