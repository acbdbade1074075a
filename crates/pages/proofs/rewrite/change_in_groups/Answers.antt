use Rattle.std.proofs.Common.{◌<◌, length, arith}
use Rattle.std.proofs.lemmas.Result.{on_ok_weaker, on_err_weaker}
use Rattle.std.proofs.lemmas.List.{length-map}
use Rattle.pages.specs.Pages.{branch_parts, groups_of}
use Rattle.pages.proofs.Pieces.{whole_same}
use Rattle.pages.proofs.Groups.{entry_group}
use Rattle.pages.proofs.GroupWrites.{groups_set, spot_changed}
use Rattle.pages.proofs.rewrite.change_in_groups.Goals as goal

pub returns-clause-ok : goal.returns-clause-ok
returns-clause-ok g c =
    let among : c.args.spot.group < length (groups_of g.E.Entry.item c.args.groups.now.items) = entry_group (groups_of g.E.Entry.item c.args.groups.now.items) c.args.spot c.requires.entry in
    let within : c.args.spot.group < length c.args.groups.now.items = omega (arith, length-map c.args.groups.now.items (branch_parts g.E.Entry.item)) in
    on_ok_weaker c.change_in_group.result
    (spot_changed (branch_parts g.E.Entry.item) c.args.groups.now.items c.args.spot c.index_mut.result.now within c.index_mut.ensures.value c.change_in_group.new.group (g.C.WholeChange.after c.args.change.now) c.requires.entry)
    c.change_in_group.ensures.ok

pub returns-clause-err : goal.returns-clause-err
returns-clause-err g c =
    let among : c.args.spot.group < length (groups_of g.E.Entry.item c.args.groups.now.items) = entry_group (groups_of g.E.Entry.item c.args.groups.now.items) c.args.spot c.requires.entry in
    let within : c.args.spot.group < length c.args.groups.now.items = omega (arith, length-map c.args.groups.now.items (branch_parts g.E.Entry.item)) in
    on_err_weaker c.change_in_group.result
    (whole_same (branch_parts g.E.Entry.item) c.args.groups.now.items c.args.spot.group c.index_mut.result.now c.change_in_group.new.group within c.index_mut.ensures.value)
    c.change_in_group.ensures.err

pub returns-clause-groups : goal.returns-clause-groups
returns-clause-groups g c =
    groups_set (branch_parts g.E.Entry.item) c.args.groups.now.items c.args.spot.group c.change_in_group.new.group c.requires.groups c.change_in_group.ensures.group
