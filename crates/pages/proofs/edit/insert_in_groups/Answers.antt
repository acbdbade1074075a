use Rattle.std.proofs.Common.{◌<◌, length}
use Rattle.std.proofs.lemmas.Result.{on_ok_weaker, on_err_weaker}
use Rattle.pages.specs.Pages.{branch_parts}
use Rattle.pages.proofs.Pieces.{whole_same}
use Rattle.pages.proofs.GroupWrites.{group_within, written, groups_set}
use Rattle.pages.proofs.edit.insert_in_groups.Goals as goal

pub returns-then-len-lt-FAN-clause-ok : goal.returns-then-len-lt-FAN-clause-ok
returns-then-len-lt-FAN-clause-ok g c =
    let within : c.args.spot.group < length c.args.groups.now.items = group_within (branch_parts g.E.Entry.item) c.args.groups.now c.args.spot c.is_empty.result c.is_empty.ensures c.if-is_empty.false c.requires.spot in
    on_ok_weaker c.insert_in_group.result
    (written (branch_parts g.E.Entry.item) c.args.groups.now.items c.args.spot c.index_mut.result.now within c.index_mut.ensures.value c.insert_in_group.new.group (g.E.Entry.item c.args.x) c.requires.groups c.requires.spot.spot_in)
    c.insert_in_group.ensures.ok

pub returns-then-len-lt-FAN-clause-err : goal.returns-then-len-lt-FAN-clause-err
returns-then-len-lt-FAN-clause-err g c =
    let within : c.args.spot.group < length c.args.groups.now.items = group_within (branch_parts g.E.Entry.item) c.args.groups.now c.args.spot c.is_empty.result c.is_empty.ensures c.if-is_empty.false c.requires.spot in
    on_err_weaker c.insert_in_group.result
    (whole_same (branch_parts g.E.Entry.item) c.args.groups.now.items c.args.spot.group c.index_mut.result.now c.insert_in_group.new.group within c.index_mut.ensures.value)
    c.insert_in_group.ensures.err

pub returns-then-len-lt-FAN-clause-groups : goal.returns-then-len-lt-FAN-clause-groups
returns-then-len-lt-FAN-clause-groups g c =
    groups_set (branch_parts g.E.Entry.item) c.args.groups.now.items c.args.spot.group c.insert_in_group.new.group c.requires.groups c.insert_in_group.ensures.group
