use Rattle.std.proofs.Common.{◌≡◌, ◌∙◌, ap}
use Rattle.std.specs.Prelude.{slice_index_or}
use Rattle.std.specs.Arc.{arc_value}
use Rattle.head.specs.Taking.{grown}
use Rattle.head.proofs.SlotLaws.{same_inside}
use Rattle.head.proofs.draft.grown_copy.Goals as goal

pub returns-clause-grown : goal.returns-clause-grown
returns-clause-grown c = λ d.
    let old : c.in_ok-series.series ≡ slice_index_or c.args.list.now c.args.place d =
    c.in_ok-series.ensures.same ∙ c.deref.ensures ∙ c.at.ensures ∙ same_inside c.args.list.now c.args.place (arc_value c.at.result.now) d c.requires in
    c.in_ok-push.ensures ∙ ap (grown c.args.sample) old
