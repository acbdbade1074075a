use Rattle.std.proofs.Common.{sym, ◌∙◌, ap, subst, take, drop}
use Rattle.std.specs.List.Sorted.{IsStrictlyIncreasing}
use Rattle.labels.specs.Parts.{Part, references}
use Rattle.auditor.proofs.Splitting.{take-below, drop-below, rises_from}
use Rattle.whole_audit.proofs.references.split_at_bound.Goals as goal

pub returns-clause-below : goal.returns-clause-below
returns-clause-below c =
    c.split_at.ensures.front
    ∙ ap (λ n. take n c.args.series.now) c.count_below.ensures
    ∙ take-below c.args.bound c.args.series.now c.requires

pub returns-clause-others : goal.returns-clause-others
returns-clause-others c =
    c.split_at.ensures.back
    ∙ ap (λ n. drop n c.args.series.now) c.count_below.ensures
    ∙ drop-below c.args.bound c.args.series.now c.requires

pub returns-clause-rises : goal.returns-clause-rises
returns-clause-rises c =
    subst (λ (rows : Part). IsStrictlyIncreasing (references rows))
    (sym (c.split_at.ensures.back
    ∙ ap (λ n. drop n c.args.series.now) c.count_below.ensures
    ∙ drop-below c.args.bound c.args.series.now c.requires))
    (rises_from c.args.bound c.args.series.now c.requires)
