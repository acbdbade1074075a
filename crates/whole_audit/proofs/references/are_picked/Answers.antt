use Rattle.std.proofs.Common.{◌≡◌, ◌∙◌, ap, subst, arith}
use Rattle.std.proofs.lemmas.Grind.{common_steps}
use Rattle.std.specs.List.Sorted.{IsStrictlyIncreasing}
use Rattle.labels.specs.Parts.{Part, references}
use Rattle.labels.proofs.Lists.{rising-tail}
use Rattle.auditor.specs.Looking.{are_picked, rows_from}
use Rattle.auditor.proofs.Separating.{picked_step}
use Rattle.whole_audit.proofs.references.are_picked.Goals as goal

pub loop-number-preserved : goal.loop-number-preserved
loop-number-preserved c =
    let is = c.in-Some.ensures.cases.0 in
    let same : c.in-Some.first.now.0 ≡ c.number-item.result = grind (arith, common_steps) in
    let cut : c.split_at_bound.result.1.now
    ≡ rows_from c.number-item.result c.loop-number.rest.now =
    c.split_at_bound.ensures.others
    ∙ ap (λ n. rows_from n c.loop-number.rest.now) (c.from.ensures ∙ c.number.ensures) in
    record {
      rises =
          rising-tail c.in-Some.first.now.0 (references c.in-Some.later.now)
          (subst (λ (rows : Part). IsStrictlyIncreasing (references rows)) is
          c.split_at_bound.ensures.rises);
      left =
          picked_step c.args.numbers.now c.loop-number.number-index c.number-item.result
          c.loop-number.rest.now c.split_at_bound.result.1.now c.in-Some.later.now
          c.in-Some.first.now
          (are_picked c.args.numbers.now c.args.series.now) c.loop-number-test.true
          c.number-item.is cut is same c.loop-number.invariant.left;
    }
