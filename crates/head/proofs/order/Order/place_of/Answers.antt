use Rattle.labels.specs.Laws.{labels_total}
use Rattle.pages.specs.Sorted.{entries_of, place_of}
use Rattle.head.proofs.Keyed.{found_hit, found_none}
use Rattle.head.proofs.order.Order.place_of.Goals as goal

pub returns-in-Ok : goal.returns-in-Ok
returns-in-Ok c =
    found_hit labels_total c.args.labels.now (entries_of c.self.inside.sets) c.args.self.now (place_of c.self.inside.sets c.in-Ok.spot) c.at.result.now c.place.result
    c.self.invariant c.self.view_is c.in-Ok.ensures.found c.at.ensures c.place.ensures

pub returns-in-Err : goal.returns-in-Err
returns-in-Err c =
    found_none labels_total c.args.labels.now (entries_of c.self.inside.sets) c.args.self.now (place_of c.self.inside.sets c.in-Err.field-0) 0
    c.self.invariant c.self.view_is c.in-Err.ensures.absent
