use Rattle.std.proofs.Common.{Some, [], sym, ◌∙◌, ap}
use Rattle.labels.proofs.Texts.{pair_total}
use Rattle.pages.specs.Sorted.{entries_of, place_of}
use Rattle.head.specs.Index.{Pair}
use Rattle.head.proofs.Keyed.{keys_split}
use Rattle.head.proofs.Following.{value_follows, value_found}
use Rattle.head.proofs.index.Index.value_after.Goals as goal

pub value_after-requires-clause-held : goal.value_after-requires-clause-held
value_after-requires-clause-held c =
    let lists = entries_of c.self.inside.lists in
    let pair : Pair = (c.args.name.now, c.args.before.now) in
    (value_follows c.args.name.now c.args.before.now lists c.args.self.now
    (place_of c.self.inside.lists c.in-Ok.spot) c.args.i c.self.invariant c.self.view_is
    (c.in-Ok.ensures.found (keys_split pair_total lists pair [] c.self.invariant))
    c.requires.before c.requires.later c.requires.within).0

pub returns-in-Ok : goal.returns-in-Ok
returns-in-Ok c =
    let lists = entries_of c.self.inside.lists in
    let pair : Pair = (c.args.name.now, c.args.before.now) in
    (value_follows c.args.name.now c.args.before.now lists c.args.self.now
    (place_of c.self.inside.lists c.in-Ok.spot) c.args.i c.self.invariant c.self.view_is
    (c.in-Ok.ensures.found (keys_split pair_total lists pair [] c.self.invariant))
    c.requires.before c.requires.later c.requires.within).1
    ∙ ap Some (sym c.value_after.ensures)

pub value_after-requires-in-Err-clause-held : goal.value_after-requires-in-Err-clause-held
value_after-requires-in-Err-clause-held c =
    let lists = entries_of c.self.inside.lists in
    let pair : Pair = (c.args.name.now, c.args.before.now) in
    value_found c.args.name.now c.args.before.now lists c.args.self.now
    (place_of c.self.inside.lists c.in-Err.spot) _ c.self.view_is
    (c.in-Err.ensures.absent (keys_split pair_total lists pair [] c.self.invariant))
    c.requires.before

pub returns-in-Err : goal.returns-in-Err
returns-in-Err c =
    let lists = entries_of c.self.inside.lists in
    let pair : Pair = (c.args.name.now, c.args.before.now) in
    value_found c.args.name.now c.args.before.now lists c.args.self.now
    (place_of c.self.inside.lists c.in-Err.spot) _ c.self.view_is
    (c.in-Err.ensures.absent (keys_split pair_total lists pair [] c.self.invariant))
    c.requires.before
