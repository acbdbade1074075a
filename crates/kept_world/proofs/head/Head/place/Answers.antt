use Rattle.std.proofs.Common.{◌≡◌, ◌<◌, length, sym, ◌∙◌, arith, Some, None}
use Rattle.kept_world.specs.States.{has_room}
use Rattle.kept_world.specs.Sound.{label_sets, place_in}
use Rattle.kept_world.proofs.Apart.{sets_many}
use Rattle.kept_world.proofs.Placing.{placed_at, placed_last, place_below, got}
use Rattle.kept_world.proofs.head.Head.place.Goals as goal

pub grow-requires : goal.grow-requires
grow-requires c =
    let found : place_in c.args.labels.now (label_sets c.args.self) ≡ Some c.in-Some.place = sym c.place_of.ensures ∙ c.in-Some.is in
    let below = place_below c.args.labels.now (label_sets c.args.self) c.in-Some.place found in
    let many = sets_many c.args.self in
    omega (arith, below, many)

pub returns-in_ok-grow-in-Some : goal.returns-in_ok-grow-in-Some
returns-in_ok-grow-in-Some c =
    let found : place_in c.args.labels.now (label_sets c.args.self) ≡ Some c.in-Some.place = sym c.place_of.ensures ∙ c.in-Some.is in
    let below = place_below c.args.labels.now (label_sets c.args.self) c.in-Some.place found in
    let many = sets_many c.args.self in
    let lt : c.in-Some.place < length c.args.self = omega (arith, below, many) in
    let w = got c.args.self c.in-Some.place lt in
    c.in_ok-grow-in-Some.ensures w.0 w.1
    ∙ sym (placed_at (has_room c.args.self) c.args.number (c.args.labels.now, c.args.sample) c.args.self c.in-Some.place w.0 found w.1)

pub returns-in_ok-begin-in-None : goal.returns-in_ok-begin-in-None
returns-in_ok-begin-in-None c =
    let none : place_in c.args.labels.now (label_sets c.args.self) ≡ None = sym c.in-None.ensures in
    c.in_ok-begin-in-None.ensures
    ∙ sym (placed_last (has_room c.args.self) c.args.number (c.args.labels.now, c.args.sample) c.args.self none)
