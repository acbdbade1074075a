use Rattle.std.proofs.Common.{sym, ◌∙◌}
use Rattle.labels.specs.Parts.{labels_in, row_at}
use Rattle.block.specs.Views.{part_of}
use Rattle.head.proofs.LookUps.{same_or_not}
use Rattle.head.proofs.looking.has_labels.Goals as goal

pub returns-in-Some : goal.returns-in-Some
returns-in-Some c =
    same_or_not (labels_in (row_at c.args.reference (part_of c.args.view.now))) c.in-Some.found c.args.labels.now c.eq.result c.eq.ensures
    (sym c.in_ok-found.ensures ∙ c.in-Some.is)
