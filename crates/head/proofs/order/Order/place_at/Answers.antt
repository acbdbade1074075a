use Rattle.std.proofs.Common.{◌∙◌, sym, ap}
use Rattle.labels.specs.Labels.{Labels, labels_cmp}
use Rattle.labels.specs.Laws.{labels_total}
use Rattle.pages.specs.Sorted.{entries_of, place_of}
use Rattle.head.proofs.Keyed.{found_got}
use Rattle.head.proofs.order.Order.place_at.Goals as goal

pub returns-in-Equal : goal.returns-in-Equal
returns-in-Equal c =
    found_got labels_total c.args.labels.now (entries_of c.self.inside.sets) c.args.self.now (place_of c.self.inside.sets c.args.spot) c.in_ok-placed.placed.now c.place.result
    c.self.invariant c.self.view_is c.in_ok-placed.ensures.some
    (ap (λ (l : Labels). labels_cmp l c.args.labels.now) (sym (c.labels.ensures)) ∙ sym c.cmp.ensures ∙ c.in-Equal.is)
    c.place.ensures
