use Rattle.std.proofs.Common.{◌≡◌, ℕ, List, OnOk, refl}
use Rattle.std.specs.FinMap.Entries.{put}
use Rattle.labels.specs.Labels.{Labels, labels_cmp}
use Rattle.labels.specs.Laws.{labels_total}
use Rattle.labels.proofs.OrderLaws.{labels_exact}
use Rattle.pages.specs.Sorted.{entries_of, place_of}
use Rattle.head.proofs.Keyed.{set_put, insert_put, put_sorted}
use Rattle.head.proofs.order.Order.insert.Goals as goal

set_as : (c : goal.After-set) (ys : List (Labels × ℕ)) → entries_of c.self.inside.sets ≡ ys → OnOk c.set.result (entries_of c.set.new.self ≡ put labels_cmp c.args.labels.now c.args.place ys)
set_as c ys is =
    set_put labels_total labels_exact c.args.labels.now c.args.place (entries_of c.self.inside.sets) ys (entries_of c.set.new.self) (place_of c.self.inside.sets c.in-Ok.spot) c.in_ok-placed.placed c.set.result
    c.self.invariant is c.in-Ok.ensures.found c.in_ok-placed.ensures c.set.ensures.ok

inserted_as : (c : goal.After-insert) (ys : List (Labels × ℕ)) → entries_of c.self.inside.sets ≡ ys → OnOk c.insert.result (entries_of c.insert.new.self ≡ put labels_cmp c.args.labels.now c.args.place ys)
inserted_as c ys is =
    insert_put labels_total c.args.labels.now c.args.place (entries_of c.self.inside.sets) ys (entries_of c.insert.new.self) (place_of c.self.inside.sets c.in-Err.spot) c.in_ok-placed.placed c.insert.result
    c.self.invariant is c.in-Err.ensures.absent c.in_ok-placed.ensures c.insert.ensures.ok

pub invariant_of-self : goal.invariant_of-self
invariant_of-self c =
    put_sorted labels_total entries_of c.args.labels.now c.args.place c.self.inside.sets c.set.new.self c.set.result c.self.invariant (set_as c _ refl) c.set.ensures.err

pub invariant_of-self-in-Err : goal.invariant_of-self-in-Err
invariant_of-self-in-Err c =
    put_sorted labels_total entries_of c.args.labels.now c.args.place c.self.inside.sets c.insert.new.self c.insert.result c.self.invariant (inserted_as c _ refl) c.insert.ensures.err

pub returns-in-Ok-clause-ok : goal.returns-in-Ok-clause-ok
returns-in-Ok-clause-ok c = set_as c c.args.self.now c.self.view_is

pub returns-in-Err-clause-ok : goal.returns-in-Err-clause-ok
returns-in-Err-clause-ok c = inserted_as c c.args.self.now c.self.view_is
