use Rattle.std.proofs.Common.{◌≡◌, length, sym, ◌∙◌, ap, arith}
use Rattle.matchers.specs.Satisfies.{satisfies_all}
use Rattle.matchers.specs.Views.{QueryView}
use Rattle.whole_audit.specs.Counting.{asked_points}
use Rattle.whole_audit.proofs.Counted.{counted_then, counted_else}
use Rattle.whole_audit.proofs.showing.count_asked.Goals as goal
use Rattle.whole_audit.proofs.showing.count_asked.Goals.{then-satisfies_all, else-satisfies_all}

pub loop-entry-preserved : goal.loop-entry-preserved
loop-entry-preserved c =
    let query = c.args.looks.now in
    let rows = c.args.series.now in
    let i = c.loop-entry.entry-index in
    let row = c.entry-item.result in
    let whole = length (asked_points query rows) in
    let looks : c.satisfies_all.new.self ≡ query =
    c.satisfies_all.ensures.same ∙ c.loop-entry.invariant.same in
    let sat : c.satisfies_all.result ≡ satisfies_all query.matchers row.1.0 =
    c.satisfies_all.ensures.satisfied
    ∙ ap (λ (q : QueryView). satisfies_all q.matchers c.labels.result.now) c.loop-entry.invariant.same
    ∙ ap (satisfies_all query.matchers) c.labels.ensures in
    elim c.if-satisfies_all.branch [
      | then-satisfies_all w ↦ record {
        same = looks;
        left =
            counted_then query rows i row c.loop-entry.count w.count_in_range.result
            c.if-satisfies_all.count c.satisfies_all.new.self whole c.loop-entry-test.true
            c.entry-item.is (sym sat ∙ w.if-satisfies_all.true) looks w.count_in_range.ensures
            w.count-is c.loop-entry.invariant.left;
        small = omega arith;
      }
      | else-satisfies_all w ↦ record {
        same = looks;
        left =
            counted_else query rows i row c.loop-entry.count c.if-satisfies_all.count whole
            c.loop-entry-test.true c.entry-item.is (sym sat ∙ w.if-satisfies_all.false) w.count-is
            c.loop-entry.invariant.left;
        small = omega arith;
      }
    ]
