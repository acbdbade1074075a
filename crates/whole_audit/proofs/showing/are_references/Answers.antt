use Rattle.std.proofs.Common.{sym, ◌∙◌}
use Rattle.whole_audit.proofs.Picked.{references_of_picked, picked_of_references}
use Rattle.whole_audit.proofs.showing.are_references.Goals as goal

pub returns : goal.returns
returns c =
    let part = c.args.series.now in
    let numbers = c.args.numbers.now in (
      λ h. references_of_picked part c.requires numbers (sym c.are_picked.ensures ∙ h),
      λ are. c.are_picked.ensures ∙ picked_of_references part c.requires numbers are,
    )
